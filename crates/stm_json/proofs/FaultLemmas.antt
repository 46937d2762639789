-- The first of some faults beside the fault that reading answers at the same place.
use Rattle.std.proofs.Common.{◌≡◌, ℕ, suc, ◌^◌, ◌<◌, ℤ, pos, negsuc, List, [], ◌∷◌, ◌++◌, Bool, true, false, cond, Option, Some, None, Result, Ok, Err, refl}
use Rattle.std.proofs.Common.{MatchResult, sym, ap, ◌∙◌, append_assoc, arith, leb, ltb, leb-true, lt-ltb, le-leb, option_and_then, ◌&&◌}
use Rattle.std.proofs.lemmas.List.{append-nil}
use Rattle.serde_json.specs.Data.{unsigned, negative, float, Data, null, number, array, Items, no_items, item}
use Rattle.serde_json.specs.Find.{as_str, as_array, as_number, as_integer}
use Rattle.stm_history.specs.declared.revisions.TheConstants.{HIGHEST_NUMBER}
use Rattle.stm_json.specs.declared.cause.Cause.{Cause}
use Rattle.stm_json.specs.declared.cause.Cause.TheVariants.{Shape, Range}
use Rattle.stm_json.specs.declared.read_error.BadInput.{BadInput}
use Rattle.stm_json.specs.declared.read_error.ReadError.{ReadError}
use Rattle.stm_json.specs.declared.read_error.ReadError.TheVariants as error
use Rattle.stm_json.specs.Outcome.{Outcome, bad, ◌>>=◌, within, step}
use Rattle.stm_json.specs.Elements.{whole_number, in_64_bits, in_range, from_least, number_up_to, number_in}
use Rattle.stm_json.specs.Returns.{Returns}
use Rattle.stm_json.specs.Faults.{Faults, first_of, IsFirstFault, wrong, at, Table, AnyText, any_number, text_faults, number_faults, faults_by, worded_faults}
use Rattle.stm_json.specs.Faults.{each_faults, list_faults}
use Rattle.stm_json.specs.Parts.{on_text, text_of, each_from, list_of}

abbrev pub fault_at : List ℕ → Cause → Option BadInput
fault_at p cause = Some (record { place = p; cause = cause })

-- the fault that reading answers, if it does, of what stands at a place
abbrev pub fault_of : {A : Type 0} → List ℕ → Outcome A → Option BadInput
fault_of p (Ok x) = None
fault_of p (Err f) = fault_at (p ++ f.place) f.cause

pub wrong_is : {A : Type 0} (p : List ℕ) (cause : Cause) (reading : Outcome A) → reading ≡ bad cause → first_of (wrong p cause) ≡ fault_of p reading
wrong_is p cause reading e = rw e (ap (λ (q : List ℕ). fault_at q cause) (sym (append-nil p)))

-- the function reports the first fault, where that is the one which reading answers
pub reported_faults : {X A : Type 0} (see : X → A) (first : Option BadInput) (r : Result X ReadError) (reading : Outcome A) → first ≡ fault_of [] reading
    → Returns see r reading → MatchResult r (λ x. first ≡ None) (IsFirstFault first)
reported_faults see first (Ok x) reading is h = is ∙ ap (fault_of []) h
reported_faults see first (Err error.OutOfMemory) reading is h = tt
reported_faults see first (Err (error.Bad f)) reading is h = is ∙ ap (fault_of []) h

-- ---- one part after the other

-- a part, and then the rest
pub part_then : {A B : Type 0} (p : List ℕ) (i : ℕ) (reading : Outcome A) (f : A → Outcome B) (front rest : Faults)
    → first_of front ≡ fault_of (at p i) reading → ((x : A) → first_of rest ≡ fault_of p (f x)) → first_of (front ++ rest) ≡ fault_of p (within i reading >>= f)
part_then p i (Ok x) f [] rest h k = k x
part_then p i (Ok x) f (g ∷ front) rest h k = cc
part_then p i (Err e) f [] rest h k = cc
part_then p i (Err e) f (g ∷ front) rest h k = h ∙ ap (λ (q : List ℕ). fault_at q e.cause) (append_assoc p (step i) e.place)

-- a part alone
pub inside_of : {A : Type 0} (p : List ℕ) (i : ℕ) (reading : Outcome A) (front : Faults) → first_of front ≡ fault_of (at p i) reading
    → first_of (front ++ []) ≡ fault_of p (within i reading)
inside_of p i (Ok x) [] h = refl
inside_of p i (Ok x) (g ∷ front) h = cc
inside_of p i (Err e) [] h = cc
inside_of p i (Err e) (g ∷ front) h = h ∙ ap (λ (q : List ℕ). fault_at q e.cause) (append_assoc p (step i) e.place)

-- something made of what was read
pub made : {A B : Type 0} (p : List ℕ) (reading : Outcome A) (make : A → B) (faults : Faults) → first_of faults ≡ fault_of p reading
    → first_of faults ≡ fault_of p (reading >>= λ x. Ok (make x))
made p (Ok x) make faults h = h
made p (Err e) make faults h = h

-- ---- texts

text_reported : (p : List ℕ) (o : Option (List ℕ)) → first_of (text_faults p o) ≡ fault_of p (on_text (λ s. Ok s) o)
text_reported p (Some s) = refl
text_reported p None = wrong_is {A = List ℕ} p Shape (bad Shape) refl

pub text_faulted : (p : List ℕ) (d : Data) → first_of (faults_by AnyText p d) ≡ fault_of p (text_of d)
unfolding text_of
text_faulted p d = text_reported p (as_str d)

-- ---- numbers

-- a number from 0 on: whether it is of 64 bits, at most the most, and at least the least
tested : (p : List ℕ) (n : ℕ) (small up from : Bool) (high : ℤ → Outcome ℕ) (least : ℕ → Outcome ℕ) → (up ≡ true → small ≡ true)
    → high (pos n) ≡ cond up (Ok n) (bad Range) → least n ≡ cond from (Ok n) (bad Range)
    → first_of (cond (from && up) [] (wrong p Range)) ≡ fault_of p ((cond small (Ok (pos n)) (bad Range) >>= high) >>= least)
tested p n true true true high least h e f = rw (e, f) refl
tested p n true true false high least h e f = rw (e, f) (wrong_is {A = ℕ} p Range (bad Range) refl)
tested p n true false true high least h e f = rw e (wrong_is {A = ℕ} p Range (bad Range) refl)
tested p n true false false high least h e f = rw e (wrong_is {A = ℕ} p Range (bad Range) refl)
tested p n false true from high least h e f = absurd (let x : false ≡ true = h refl in cc)
tested p n false false true high least h e f = wrong_is {A = ℕ} p Range (bad Range) refl
tested p n false false false high least h e f = wrong_is {A = ℕ} p Range (bad Range) refl

small_is : (m : ℕ) (b : Bool) → ltb m (2 ^ 63) ≡ b → in_64_bits (cond b (Some (pos m)) None) true ≡ cond b (Ok (pos m)) (bad Range)
small_is m true e = rw e refl
small_is m false e = refl

nonnegative : (p : List ℕ) (least most m : ℕ) (whole : Outcome ℤ) → most < 2 ^ 63 → whole ≡ cond (ltb m (2 ^ 63)) (Ok (pos m)) (bad Range)
    → first_of (cond (leb least m && leb m most) [] (wrong p Range)) ≡ fault_of p ((whole >>= in_range most) >>= from_least least)
nonnegative p least most m whole small is =
    rw is (tested p m (ltb m (2 ^ 63)) (leb m most) (leb least m) (in_range most) (from_least least)
    (λ (e : leb m most ≡ true). lt-ltb m (2 ^ 63) (omega (arith, leb-true m most e))) refl refl)

below_zero : (p : List ℕ) (least most m : ℕ) (b : Bool)
    → first_of (wrong p Range) ≡ fault_of p ((cond b (Ok (negsuc m)) (bad Range) >>= in_range most) >>= from_least least)
below_zero p least most m true = wrong_is {A = ℕ} p Range (bad Range) refl
below_zero p least most m false = wrong_is {A = ℕ} p Range (bad Range) refl

pub number_faulted : (p : List ℕ) (least most : ℕ) (d : Data) → most < 2 ^ 63
    → first_of (number_faults p least most (option_and_then as_integer (as_number d))) ≡ fault_of p (number_in least most d)
unfolding number_in number_up_to whole_number
number_faulted p least most (number (unsigned m)) small =
    nonnegative p least most m (in_64_bits (cond (ltb m (2 ^ 63)) (Some (pos m)) None) true) small (small_is m (ltb m (2 ^ 63)) refl)
number_faulted p least most (number (negative (pos m))) small = nonnegative p least most m (cond (ltb m (2 ^ 63)) (Ok (pos m)) (bad Range)) small refl
number_faulted p least most (number (negative (negsuc m))) small = below_zero p least most m (ltb m (2 ^ 63))
number_faulted p least most (number (float x)) small = wrong_is {A = ℕ} p Shape (bad Shape) refl
number_faulted p least most _ small = wrong_is {A = ℕ} p Shape (bad Shape) refl

from_zero : (reading : Outcome ℕ) → (reading >>= from_least 0) ≡ reading
from_zero (Ok n) =
    let least : leb 0 n ≡ true = le-leb 0 n (omega arith) in
    rw least refl
from_zero (Err f) = refl

-- the same of a number from 0 on
pub number_up_faulted : (p : List ℕ) (most : ℕ) (d : Data) → most < 2 ^ 63
    → first_of (number_faults p 0 most (option_and_then as_integer (as_number d))) ≡ fault_of p (number_up_to most d)
unfolding number_in
number_up_faulted p most d small = number_faulted p 0 most d small ∙ ap (λ (reading : Outcome ℕ). fault_of p reading) (from_zero (number_up_to most d))

pub number_reported : (p : List ℕ) (d : Data) → first_of (faults_by any_number p d) ≡ fault_of p (number_up_to HIGHEST_NUMBER d)
number_reported p d = number_up_faulted p HIGHEST_NUMBER d (omega arith)

-- ---- lists

pub each_faulted : {A : Type 0} (table : Table) (read : Data → Outcome A)
    → ((p : List ℕ) (d : Data) → first_of (worded_faults table p d) ≡ fault_of p (read d))
    → (p : List ℕ) (index : ℕ) (ds : Items) → first_of (each_faults table p index ds) ≡ fault_of p (each_from read index ds)
unfolding each_from
each_faulted table read reported p index no_items = refl
each_faulted {A} table read reported p index (item d ds) =
    part_then p index (read d) _ (worded_faults table (at p index) d) (each_faults table p (suc index) ds) (reported (at p index) d)
    (λ (x : A). made p (each_from read (suc index) ds) (λ (xs : List A). x ∷ xs) (each_faults table p (suc index) ds)
    (each_faulted table read reported p (suc index) ds))

pub list_faulted : {A : Type 0} (table : Table) (read : Data → Outcome A)
    → ((p : List ℕ) (d : Data) → first_of (worded_faults table p d) ≡ fault_of p (read d))
    → (p : List ℕ) (d : Data) → first_of (list_faults table p d) ≡ fault_of p (list_of read (as_array d))
list_faulted table read reported p (array ds) = each_faulted table read reported p 0 ds
list_faulted {A} table read reported p null = wrong_is {A = List A} p Shape (bad Shape) refl
list_faulted {A} table read reported p _ = wrong_is {A = List A} p Shape (bad Shape) refl
