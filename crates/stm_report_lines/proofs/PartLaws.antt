-- The parts of lines: their faults are those that reading answers, what was read is spelled, and what is spelled is read.
use Rattle.std.proofs.Common.{◌≡◌, ℕ, ◌^◌, ◌<◌, ◌≤◌, ℤ, pos, List, [], Bool, true, cond, Option, Some, None, Ok}
use Rattle.std.proofs.Common.{refl, sym, ap, subst, ◌∙◌, arith, ltb, ltb-true, lt-ltb}
use Rattle.std.proofs.lemmas.Bool.Decides.{nat_tests}
use Rattle.serde_json.specs.Data.{Data, null, boolean, string}
use Rattle.serde_json.specs.Find.{as_str, as_integer, of_integer}
use Rattle.stm_history.specs.declared.revisions.TheConstants.{HIGHEST_NUMBER}
use Rattle.stm_json.specs.declared.cause.Cause.TheVariants.{Shape, Range}
use Rattle.stm_json.specs.Elements.{SpellsNumber, is_64_bit, in_64_bits, whole_number, number_up_to}
use Rattle.stm_json.specs.Outcome.{bad, ◌>>=◌}
use Rattle.stm_json.proofs.ElementLemmas.{is_64_bit-fits, whole_number-is, number_up_to-is, whole_number-reads, number_up_to-reads}
use Rattle.stm_json.proofs.OutcomeLemmas.{bind_ok}
use Rattle.stm_steps.specs.declared.fault.Fault.{Fault}
use Rattle.stm_meaning.specs.Faults.{fault_name}
use Rattle.stm_steps.specs.declared.value.Value.{Value}
use Rattle.stm_steps.specs.declared.value.Value.TheVariants.{Text, Number}
use Rattle.stm_json.specs.Faults.{first_of, wrong, AnyText, WordOf, NumberIn, By, faults_by}
use Rattle.stm_json.specs.Parts.{text_of}
use Rattle.stm_json.proofs.FaultLemmas.{fault_of, wrong_is, text_faulted, number_up_faulted}
use Rattle.stm_json.proofs.PartLemmas.{text_is, on_text-is, text_of-is, text_reads}
use Rattle.stm_events.specs.declared.refusal.EventRefusal.{EventRefusal}
use Rattle.stm_report_lines.specs.FirstFault.{flag_faults, value_faults, or_null, fault_names, refusal_names}
use Rattle.stm_report_lines.specs.Grammar.{Spells}
use Rattle.stm_report_lines.specs.LineData.{whole, word, value_data, text_or_null}
use Rattle.stm_events.specs.Names.{refusal_name}
use Rattle.stm_report_lines.specs.Parts.{or_shape, number_of, flag_of, fault_of as fault_part_of, cause_of, value_from, value_of, or_null_of}
use Rattle.stm_report_lines.specs.Words.{named, fault_words, refusal_words}
use Rattle.stm_report_lines.proofs.ReadLaws.{Laws, AnyFits, or_null_laws}
use Rattle.stm_report_lines.proofs.WordLaws.{name_reported, fault_named-is, fault_named-text, refusal_named-is, refusal_named-text}

-- ---- numbers

spelled_number : (d : Data) (n : ℕ) → Spells d (whole n) → SpellsNumber d (pos n) × (n < 2 ^ 63)
spelled_number d n h3 = grind (arith, nat_tests, ltb-true)

spells_number : (d : Data) (n : ℕ) → SpellsNumber d (pos n) → n < 2 ^ 63 → Spells d (whole n)
spells_number d n s small = (pos n, s, refl, lt-ltb n (2 ^ 63) small)

pub number_means : (d : Data) (n : ℕ) → number_of d ≡ Ok n → Spells d (whole n)
number_means d n h = grind (arith, nat_tests, number_up_to-is, spells_number)

pub number_reads : (d : Data) (n : ℕ) → Spells d (whole n) → number_of d ≡ Ok n
number_reads d n m =
    let s = spelled_number d n m in
    number_up_to-reads HIGHEST_NUMBER d n (omega arith) s.0 (omega (arith, s.1))

-- a number that is 0 or 1

pub count_reported : (p : List ℕ) (d : Data) → first_of (faults_by (NumberIn 0 1) p d) ≡ fault_of p (number_up_to 1 d)
count_reported p d = number_up_faulted p 1 d (omega arith)

pub count_means : (d : Data) (n : ℕ) → number_up_to 1 d ≡ Ok n → Spells d (whole n) × (n ≤ 1)
count_means d n h = grind (arith, nat_tests, number_up_to-is, spells_number)

pub count_reads : (d : Data) (n : ℕ) → Spells d (whole n) → n ≤ 1 → number_up_to 1 d ≡ Ok n
count_reads d n m few = number_up_to-reads 1 d n (omega arith) (spelled_number d n m).0 few

-- a number is no text
pub number_no_text : (d : Data) (n : ℕ) → Spells d (whole n) → as_str d ≡ None
number_no_text d n (z, (m, e, f), is, fits) = rw e refl

-- ---- flags and names

pub flag_reported : (p : List ℕ) (d : Data) → first_of (faults_by (By flag_faults) p d) ≡ fault_of p (flag_of d)
unfolding flag_of
flag_reported p d = grind (arith, nat_tests, wrong_is)

pub flag_means : (d : Data) (b : Bool) → flag_of d ≡ Ok b → Spells d (boolean b)
unfolding flag_of
flag_means (boolean c) b h = ap boolean cc
flag_means null b h = cc
flag_means _ b h = cc

pub flag_reads : (d : Data) (b : Bool) → Spells d (boolean b) → flag_of d ≡ Ok b
unfolding flag_of
flag_reads d b is = rw is refl

there_is : {A : Type 0} (o : Option A) (x : A) → or_shape o ≡ Ok x → o ≡ Some x
there_is o x h = grind (arith, nat_tests)

pub fault_reported : (p : List ℕ) (d : Data) → first_of (faults_by (WordOf fault_names) p d) ≡ fault_of p (fault_part_of d)
unfolding fault_part_of
fault_reported p d = name_reported p fault_words (as_str d)

pub fault_means : (d : Data) (f : Fault) → fault_part_of d ≡ Ok f → Spells d (word (fault_name f))
unfolding fault_part_of
fault_means d f h = grind (arith, nat_tests, on_text-is, fault_named-is, there_is)

pub fault_reads : (d : Data) (f : Fault) → Spells d (word (fault_name f)) → fault_part_of d ≡ Ok f
unfolding fault_part_of
fault_reads d f is = ap fault_part_of is ∙ ap (λ (o : Option Fault). or_shape o) (fault_named-text f)

pub cause_reported : (p : List ℕ) (d : Data) → first_of (faults_by (WordOf refusal_names) p d) ≡ fault_of p (cause_of d)
unfolding cause_of
cause_reported p d = name_reported p refusal_words (as_str d)

pub cause_means : (d : Data) (c : EventRefusal) → cause_of d ≡ Ok c → Spells d (word (refusal_name c))
unfolding cause_of
cause_means d c h =
    let t = on_text-is (λ (w : List ℕ). or_shape (named refusal_words w)) d c h in
    t.1 ∙ ap string (refusal_named-is t.0 c (there_is (named refusal_words t.0) c t.2))

pub cause_reads : (d : Data) (c : EventRefusal) → Spells d (word (refusal_name c)) → cause_of d ≡ Ok c
unfolding cause_of
cause_reads d c is = ap cause_of is ∙ ap (λ (o : Option EventRefusal). or_shape o) (refusal_named-text c)

-- ---- values

of_integer-is : (z : ℤ) → as_integer (of_integer z) ≡ Some z
of_integer-is z = grind (arith, nat_tests)

value_means_at : (d : Data) (o : Option (List ℕ)) (v : Value) → as_str d ≡ o → value_from d o ≡ Ok v → Spells d (value_data v)
value_means_at d (Some s) v e h =
    let is : Text s ≡ v = cc h in
    subst (λ (x : Value). Spells d (value_data x)) is (text_is d s e)
value_means_at d None v e h =
    let q = bind_ok (whole_number d) _ v h in
    let is : Number q.0 ≡ v = cc q.2 in
    let w = whole_number-is d q.0 q.1 in
    subst (λ (x : Value). Spells d (value_data x)) is (q.0, w.0, of_integer-is q.0, w.1)

value_means : (d : Data) (v : Value) → value_of d ≡ Ok v → Spells d (value_data v)
unfolding value_of
value_means d v h = value_means_at d (as_str d) v refl h

integer_reads : (d : Data) (z : ℤ) → as_str d ≡ None → whole_number d ≡ Ok z → value_of d ≡ Ok (Number z)
unfolding value_of
integer_reads d z none e = rw none (rw e refl)

value_reads : (d : Data) (v : Value) → Spells d (value_data v) → value_of d ≡ Ok v
unfolding value_of
value_reads d (Text s) is = rw is refl
value_reads d (Number z) (y, (m, e, f), is, fits) =
    let found : Some z ≡ Some y = sym (of_integer-is z) ∙ is in
    let same : y ≡ z = cc in
    let none : as_str d ≡ None = rw e refl in
    let spelled : SpellsNumber d z = subst (λ (x : ℤ). SpellsNumber d x) same (m, e, f) in
    let small = is_64_bit-fits z (subst (λ (x : ℤ). is_64_bit x ≡ true) same fits) in
    integer_reads d z none (whole_number-reads d z spelled small)

unsigned_tested : (p : List ℕ) (b : Bool) (m : ℕ) → ltb m (2 ^ 63) ≡ b
    → first_of (cond b [] (wrong p Range)) ≡ fault_of p (in_64_bits (cond b (Some (pos m)) None) true >>= λ y. Ok (Number y))
unsigned_tested p b m e = grind (arith, nat_tests, wrong_is)

value_reported : (p : List ℕ) (d : Data) → first_of (value_faults p d) ≡ fault_of p (value_of d)
unfolding value_of whole_number
value_reported p d = grind (arith, nat_tests, unsigned_tested, wrong_is)

pub value_laws : Laws Value value_of value_data AnyFits value_faults
value_laws = record { reported = value_reported; means = λ d v h. (value_means d v h, tt); reads = λ d v s fits. value_reads d v s }

-- ---- null for what is absent

text_laws : Laws (List ℕ) text_of string AnyFits (faults_by AnyText)
text_laws = record { reported = text_faulted; means = λ d s h. (text_of-is d s h, tt); reads = λ d s is fits. text_reads d s is }

no_null : text_of null ≡ bad Shape
unfolding text_of
no_null = refl

pub text_or_null_laws : Laws (Option (List ℕ)) (λ d. or_null_of text_of d) text_or_null AnyFits (or_null (faults_by AnyText))
text_or_null_laws = or_null_laws text_of string (faults_by AnyText) text_laws text_or_null refl (λ s. refl) no_null
