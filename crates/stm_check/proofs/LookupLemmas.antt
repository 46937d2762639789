-- Answers that are looked up one after another.
use Rattle.std.proofs.Common.{◌≡◌, ℕ, zero, suc, ◌+◌, ◌<◌, Bool, true, false, cond, List, [], ◌∷◌, ◌++◌, length, drop, get_or, Option, Some, None}
use Rattle.std.proofs.Common.{option_map, refl, sym, ◌∙◌, ap, subst, arith}
use Rattle.std.proofs.lemmas.Slice.Eq.{bytes_eq-Decides}
use Rattle.std.specs.Prelude.{bytes_eq, is_some}
use Rattle.std.specs.Option.{option_or}
use Rattle.stm_history.specs.declared.key_state.ReadAnswer.{ReadAnswer}
use Rattle.stm_history.specs.History.{History}
use Rattle.stm_compile.specs.Answers.{answer_in, look_up, said}
use Rattle.stm_events.specs.declared.reply.CommittedRead.{CommittedRead}
use Rattle.stm_check.specs.Replays.{IsTrulyReported, AreTrulyReported}
use Rattle.stm_check.proofs.Fronts.{left_at}

-- an answer is looked for in a front, and then after it
found_in : (b : Bool) (a : ReadAnswer) (front back : Option ReadAnswer) →
    cond b (Some a) (option_or front back) ≡ option_or (cond b (Some a) front) back
found_in true a front back = refl
found_in false a front back = refl

pub answer_in-append : (key : List ℕ) (front back : List ReadAnswer) →
    answer_in key (front ++ back) ≡ option_or (answer_in key front) (answer_in key back)
answer_in-append key [] back = refl
answer_in-append key (a ∷ front) back =
    ap (λ (o : Option ReadAnswer). cond (bytes_eq a.key key) (Some a) o) (answer_in-append key front back)
    ∙ found_in (bytes_eq a.key key) a (answer_in key front) (answer_in key back)

-- where an answer of its key stands already, one more is never found
or_none : (o : Option ReadAnswer) → option_or o None ≡ o
or_none None = refl
or_none (Some a) = refl

or_found : (o other : Option ReadAnswer) → is_some o ≡ true → option_or o other ≡ o
or_found (Some a) other is = refl
or_found None other is = absurd (cc)

-- look-ups that find the same know the same
pub same_look_up : (one other : List ReadAnswer) → ((key : List ℕ) → answer_in key one ≡ answer_in key other) → look_up one ≡ look_up other
same_look_up one other same = λ k key. option_map said (same key k)

pub none_found : (o : Option ReadAnswer) → is_some o ≡ false → o ≡ None
none_found None is = refl
none_found (Some a) is = absurd (cc)

-- ---- one more answer

-- one of a new key is added
pub added : (key : List ℕ) (reads so_far : List ReadAnswer) (a : ReadAnswer) → answer_in key reads ≡ answer_in key so_far →
    answer_in key (reads ++ a ∷ []) ≡ answer_in key (so_far ++ a ∷ [])
added key reads so_far a same =
    answer_in-append key reads (a ∷ []) ∙ ap (λ (o : Option ReadAnswer). option_or o (answer_in key (a ∷ []))) same
    ∙ sym (answer_in-append key so_far (a ∷ []))

-- one whose key has an answer is left out
left_out_by : (b : Bool) (key : List ℕ) (so_far : List ReadAnswer) (a : ReadAnswer) → bytes_eq a.key key ≡ b →
    is_some (answer_in a.key so_far) ≡ true →
    option_or (answer_in key so_far) (cond b (Some a) None) ≡ answer_in key so_far
left_out_by false key so_far a is known = or_none (answer_in key so_far)
left_out_by true key so_far a is known =
    or_found (answer_in key so_far) (Some a) (subst (λ (k : List ℕ). is_some (answer_in k so_far) ≡ true) ((bytes_eq-Decides a.key key).0 is) known)

pub left_out : (key : List ℕ) (so_far : List ReadAnswer) (a : ReadAnswer) → is_some (answer_in a.key so_far) ≡ true →
    answer_in key so_far ≡ answer_in key (so_far ++ a ∷ [])
left_out key so_far a known =
    sym (answer_in-append key so_far (a ∷ []) ∙ left_out_by (bytes_eq a.key key) key so_far a refl known)

-- ---- true answers, one after another

-- what is true of the answers that are left is true of all
pub record LeavesTruth (h : History) (answers left : List CommittedRead) : Type 0 where
  pub whole : AreTrulyReported h left → AreTrulyReported h answers
  pub part : AreTrulyReported h answers → AreTrulyReported h left

pub leaves_less : (h : History) (answers : List CommittedRead) (i : ℕ) (a : CommittedRead) → i < length answers → a ≡ get_or answers i a →
    LeavesTruth h answers (drop i answers) → IsTrulyReported h a → LeavesTruth h answers (drop (i + 1) answers)
leaves_less h answers i a within is so_far truth =
    let left : drop i answers ≡ a ∷ drop (i + 1) answers = left_at answers i a within is in
    record {
      whole = λ rest. so_far.whole (subst (AreTrulyReported h) (sym left) (truth, rest));
      part = λ all. (subst (AreTrulyReported h) left (so_far.part all)).1;
    }

-- the answer at a place is true where all are
pub true_at : (h : History) (answers : List CommittedRead) (i : ℕ) (a : CommittedRead) → i < length answers → a ≡ get_or answers i a →
    LeavesTruth h answers (drop i answers) → AreTrulyReported h answers → IsTrulyReported h a
true_at h answers i a within is so_far all = (subst (AreTrulyReported h) (left_at answers i a within is) (so_far.part all)).0

pub truth_at : (h : History) (answers : List CommittedRead) (i : ℕ) (a : CommittedRead) → i < length answers → a ≡ get_or answers i a →
    AreTrulyReported h answers → IsTrulyReported h a
truth_at h [] i a within is truth = absurd (omega (arith, within))
truth_at h (x ∷ answers) zero a within is truth = subst (IsTrulyReported h) (sym is) truth.0
truth_at h (x ∷ answers) (suc i) a within is truth = truth_at h answers i a (omega (arith, within)) is truth.1
