-- The marks of data beside what is read of them: the first fault of the marks is the reader's, and without a fault the
-- search goes on after the marks with the nodes that the reader leaves.
use Rattle.std.proofs.Common.{◌≡◌, ℕ, zero, suc, ◌^◌, ◌<◌, ◌≤◌, ℤ, pos, negsuc, List, [], ◌∷◌, ◌++◌, Bool, true, false, cond, Option, Some, None, Ok, Err}
use Rattle.std.proofs.Common.{refl, sym, ap, ◌∙◌, append_assoc, arith, leb, ltb, leb-true, le-leb, lt-ltb, option_and_then}
use Rattle.std.proofs.lemmas.List.{append-nil}
use Rattle.serde_json.specs.Data.{Num, unsigned, negative, float, Data, null, boolean, number, string, array, object}
use Rattle.serde_json.specs.Find.{as_number, as_integer}
use Rattle.stm_json.specs.declared.cause.Cause.{Cause}
use Rattle.stm_json.specs.declared.cause.Cause.TheVariants.{Shape, Range, TooDeep, TooManyNodes}
use Rattle.stm_json.specs.declared.read_error.BadInput.{BadInput}
use Rattle.stm_json.specs.Outcome.{Outcome, bad, ◌>>=◌, within, step}
use Rattle.stm_json.specs.Elements.{is_64_bit, in_64_bits, in_range, whole_number, number_up_to}
use Rattle.stm_program_json.specs.Reading.{Read}
use Rattle.stm_json.specs.Faults.{at}
use Rattle.stm_program_json.specs.FirstFault.{Mark, Node, wrong, fault_at, first_of_marks, range_marks, number_marks, whole_marks}
use Rattle.stm_program.specs.declared.limits.TheConstants.{MAX_DEPTH}

-- the reader's fault, or the first one after it
abbrev pub after : {A : Type 0} → List ℕ → Read A → List Mark → Option BadInput
after p (Ok x) rest = first_of_marks x.1 rest
after p (Err f) rest = Some (record { place = p ++ f.place; cause = f.cause })

-- the same for a number, which takes no room
abbrev pub after_number : {A : Type 0} → List ℕ → ℕ → Outcome A → List Mark → Option BadInput
after_number p room (Ok x) rest = first_of_marks room rest
after_number p room (Err f) rest = Some (record { place = p ++ f.place; cause = f.cause })

here : (p : List ℕ) (cause : Cause) → fault_at p cause ≡ fault_at (p ++ []) cause
here p cause = ap (λ (q : List ℕ). fault_at q cause) (sym (append-nil p))

pub wrong_is : (p : List ℕ) (cause : Cause) (room : ℕ) (rest : List Mark) → first_of_marks room (wrong p cause ++ rest) ≡ fault_at (p ++ []) cause
wrong_is p cause zero rest = here p cause
wrong_is p cause (suc room) rest = here p cause

-- ---- nodes

pub too_deep : (k room : ℕ) (p : List ℕ) (ms rest : List Mark) → k ≡ 33 → first_of_marks room ((Node k p ∷ ms) ++ rest) ≡ fault_at (p ++ []) TooDeep
too_deep k zero p ms rest e = rw e (here p TooDeep)
too_deep k (suc room) p ms rest e = rw e (here p TooDeep)

pub too_many : (k : ℕ) (p : List ℕ) (ms rest : List Mark) → k ≤ MAX_DEPTH → first_of_marks 0 ((Node k p ∷ ms) ++ rest) ≡ fault_at (p ++ []) TooManyNodes
too_many k p ms rest h =
    let e = le-leb k MAX_DEPTH h in
    rw e (here p TooManyNodes)

pub one_node : (k room : ℕ) (p : List ℕ) (ms : List Mark) → k ≤ MAX_DEPTH → first_of_marks (suc room) (Node k p ∷ ms) ≡ first_of_marks room ms
one_node k room p ms h =
    let e = le-leb k MAX_DEPTH h in
    rw e refl

-- ---- numbers

abbrev whole_of : Option ℤ → Outcome ℤ
whole_of (Some z) = cond (is_64_bit z) (Ok z) (bad Range)
whole_of None = bad Shape

small : (m : ℕ) (b : Bool) → ltb m (2 ^ 63) ≡ b → in_64_bits (cond b (Some (pos m)) None) true ≡ cond b (Ok (pos m)) (bad Range)
small m true e = rw e refl
small m false e = refl

whole_as : (d : Data) → whole_number d ≡ whole_of (option_and_then as_integer (as_number d))
unfolding whole_number
whole_as null = refl
whole_as (boolean b) = refl
whole_as (number (unsigned m)) = small m (ltb m (2 ^ 63)) refl
whole_as (number (negative z)) = refl
whole_as (number (float x)) = refl
whole_as (string s) = refl
whole_as (array ds) = refl
whole_as (object ms) = refl

tested : (p : List ℕ) (room : ℕ) (b : Bool) (z : ℤ) (rest : List Mark)
    → first_of_marks room (cond b [] (wrong p Range) ++ rest) ≡ after_number p room (cond b (Ok z) (bad Range)) rest
tested p room true z rest = refl
tested p room false z rest = wrong_is p Range room rest

whole_of_marked : (p : List ℕ) (room : ℕ) (o : Option ℤ) (rest : List Mark)
    → first_of_marks room (whole_marks p o ++ rest) ≡ after_number p room (whole_of o) rest
whole_of_marked p room (Some z) rest = tested p room (is_64_bit z) z rest
whole_of_marked p room None rest = wrong_is p Shape room rest

pub whole_marked : (p : List ℕ) (room : ℕ) (n : Num) (rest : List Mark)
    → first_of_marks room (whole_marks p (as_integer n) ++ rest) ≡ after_number p room (whole_number (number n)) rest
whole_marked p room n rest = whole_of_marked p room (as_integer n) rest ∙ ap (λ (o : Outcome ℤ). after_number p room o rest) (sym (whole_as (number n)))

pos_marked : (p : List ℕ) (room n : ℕ) (b c : Bool) (f : ℤ → Outcome ℕ) (rest : List Mark) → (c ≡ true → b ≡ true) → f (pos n) ≡ cond c (Ok n) (bad Range)
    → first_of_marks room (cond c [] (wrong p Range) ++ rest) ≡ after_number p room (cond b (Ok (pos n)) (bad Range) >>= f) rest
pos_marked p room n true true f rest h e = rw e refl
pos_marked p room n true false f rest h e = rw e (wrong_is p Range room rest)
pos_marked p room n false true f rest h e = absurd (let x : false ≡ true = h refl in cc)
pos_marked p room n false false f rest h e = wrong_is p Range room rest

neg_marked : (p : List ℕ) (room n : ℕ) (b : Bool) (f : ℤ → Outcome ℕ) (rest : List Mark) → f (negsuc n) ≡ bad Range
    → first_of_marks room (wrong p Range ++ rest) ≡ after_number p room (cond b (Ok (negsuc n)) (bad Range) >>= f) rest
neg_marked p room n true f rest e = rw e (wrong_is p Range room rest)
neg_marked p room n false f rest e = wrong_is p Range room rest

range_marked : (p : List ℕ) (limit room : ℕ) (o : Option ℤ) (rest : List Mark) → limit < 2 ^ 63
    → first_of_marks room (range_marks p limit o ++ rest) ≡ after_number p room (whole_of o >>= in_range limit) rest
range_marked p limit room (Some (pos n)) rest h =
    pos_marked p room n (ltb n (2 ^ 63)) (leb n limit) (in_range limit) rest
    (λ (e : leb n limit ≡ true). lt-ltb n (2 ^ 63) (omega (arith, leb-true n limit e))) refl
range_marked p limit room (Some (negsuc n)) rest h = neg_marked p room n (is_64_bit (negsuc n)) (in_range limit) rest refl
range_marked p limit room None rest h = wrong_is p Shape room rest

pub number_marked : (p : List ℕ) (limit room : ℕ) (d : Data) (rest : List Mark) → limit < 2 ^ 63
    → first_of_marks room (number_marks p limit d ++ rest) ≡ after_number p room (number_up_to limit d) rest
unfolding number_up_to
number_marked p limit room d rest h =
    range_marked p limit room (option_and_then as_integer (as_number d)) rest h
    ∙ ap (λ (o : Outcome ℤ). after_number p room (o >>= in_range limit) rest) (sym (whole_as d))

-- ---- one part after the other

deeper : (p : List ℕ) (i : ℕ) (f : BadInput) → fault_at ((p ++ step i) ++ f.place) f.cause ≡ fault_at (p ++ (step i ++ f.place)) f.cause
deeper p i f = ap (λ (q : List ℕ). fault_at q f.cause) (append_assoc p (step i) f.place)

-- a part that takes room, and then the rest
pub part_then : {A B : Type 0} (p : List ℕ) (i : ℕ) (reading : Read A) (f : A × ℕ → Read B) (first : Option BadInput) (next rest : List Mark)
    → first ≡ after (at p i) reading next → ((x : A × ℕ) → reading ≡ Ok x → first_of_marks x.1 next ≡ after p (f x) rest)
    → first ≡ after p (within i reading >>= f) rest
part_then p i (Ok x) f first next rest h k = h ∙ k x refl
part_then p i (Err g) f first next rest h k = h ∙ deeper p i g

-- a number, and then the rest
pub number_then : {A B : Type 0} (p : List ℕ) (i room : ℕ) (reading : Outcome A) (f : A → Read B) (first : Option BadInput) (next rest : List Mark)
    → first ≡ after_number (at p i) room reading next → ((x : A) → reading ≡ Ok x → first_of_marks room next ≡ after p (f x) rest)
    → first ≡ after p (within i reading >>= f) rest
number_then p i room (Ok x) f first next rest h k = h ∙ k x refl
number_then p i room (Err g) f first next rest h k = h ∙ deeper p i g

-- the same, where the rest takes no room
pub alone_then : {A B : Type 0} (p : List ℕ) (i room : ℕ) (reading : Outcome A) (f : A → Outcome B) (first : Option BadInput) (next rest : List Mark)
    → first ≡ after_number (at p i) room reading next → ((x : A) → reading ≡ Ok x → first_of_marks room next ≡ after_number p room (f x) rest)
    → first ≡ after_number p room (within i reading >>= f) rest
alone_then p i room (Ok x) f first next rest h k = h ∙ k x refl
alone_then p i room (Err g) f first next rest h k = h ∙ deeper p i g

pub within_alone : {A : Type 0} (p : List ℕ) (i room : ℕ) (reading : Outcome A) (first : Option BadInput) (rest : List Mark)
    → first ≡ after_number (at p i) room reading rest → first ≡ after_number p room (within i reading) rest
within_alone p i room (Ok x) first rest h = h
within_alone p i room (Err g) first rest h = h ∙ deeper p i g

pub behind : (room : ℕ) (ms ns rest : List Mark) → first_of_marks room ((ms ++ ns) ++ rest) ≡ first_of_marks room (ms ++ (ns ++ rest))
behind room ms ns rest = ap (first_of_marks room) (append_assoc ms ns rest)

-- a tree made of what was read
pub made : {A B : Type 0} (p : List ℕ) (reading : Read A) (make : A → B) (rest : List Mark)
    → after p reading rest ≡ after p (reading >>= λ x. Ok (make x.0, x.1)) rest
made p (Ok x) make rest = refl
made p (Err f) make rest = refl
