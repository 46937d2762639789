-- The places of the answers of an attempt, as an answer is added.
use Rattle.std.proofs.Common.{◌≡◌, ℕ, ◌<◌, Bool, true, false, cond, List, [], ◌∷◌, ◌++◌, length, Option, None, Some, refl, sym, ◌∙◌, ap, arith}
use Rattle.std.proofs.Common.{length-append, IfSome, All, String, map, ◌≤◌, drop, take}
use Rattle.std.specs.Prelude.{bytes_eq, slice_get, string_bytes, fold, min}
use Rattle.std.specs.Map.{update, lookup}
use Rattle.std.specs.List.{AllByRecursion, AllZip, IsDistinct, find}
use Rattle.std.proofs.lemmas.List.{get_or_append_left, drop_all, drop-append-le, take-append-drop}
use Rattle.std.proofs.lemmas.List.Elements.{recursion_from_All, All-from_recursion}
use Rattle.std.proofs.lemmas.Option.{slice_get-get_or, none-some, same_Some}
use Rattle.std.proofs.Math.Seq.{get_or-append_seam}
use Rattle.std.proofs.lemmas.Bool.Decides.{nat_tests}
use Rattle.stm_history.specs.declared.key_state.ReadAnswer.{ReadAnswer}
use Rattle.stm_program.proofs.WriteLemmas.{bytes_eq-self, bytes_eq-same}
use Rattle.stm_outcome.specs.Numbers.{ReadFits}
use Rattle.stm_compile.specs.Answers.{answer_in}
use Rattle.stm_compile.specs.Places.{answer_at, AreAnswerPlaces, AreRead}

-- ---- the answer for a key, with one more at the end

passed : (b c : Bool) (x a : ReadAnswer) (more rest : Option ReadAnswer) → (b ≡ true → c ≡ true → ⊥) → more ≡ cond c (Some a) rest →
    cond b (Some x) more ≡ cond c (Some a) (cond b (Some x) rest)
passed b c x a more rest apart e = grind (arith, nat_tests)

none_first : (b : Bool) (x : ReadAnswer) (rest : Option ReadAnswer) → cond b (Some x) rest ≡ None → (b ≡ false) × (rest ≡ None)
none_first b x rest e = grind (arith, nat_tests)

pub answer_in-more : (answers : List ReadAnswer) (a : ReadAnswer) (key : List ℕ) → answer_in a.key answers ≡ None →
    answer_in key (answers ++ a ∷ []) ≡ cond (bytes_eq a.key key) (Some a) (answer_in key answers)
answer_in-more [] a key new = refl
answer_in-more (x ∷ answers) a key new =
    let parts = none_first (bytes_eq x.key a.key) x (answer_in a.key answers) new in
    passed (bytes_eq x.key key) (bytes_eq a.key key) x a (answer_in key (answers ++ a ∷ [])) (answer_in key answers)
    (λ p q.
    let same : x.key ≡ a.key = bytes_eq-same x.key key p ∙ sym (bytes_eq-same a.key key q) in
    let both : bytes_eq x.key a.key ≡ true = ap (λ k. bytes_eq x.key k) (sym same) ∙ bytes_eq-self x.key in
    let other : bytes_eq x.key a.key ≡ false = parts.0 in
    absurd (cc))
    (answer_in-more answers a key parts.1)

-- ---- keys that differ

others_and_one : (key : List ℕ) (answers : List ReadAnswer) (a : ReadAnswer) →
    AllByRecursion (λ k. bytes_eq key k ≡ false) (map (λ (x : ReadAnswer). x.key) answers) → bytes_eq key a.key ≡ false →
    AllByRecursion (λ k. bytes_eq key k ≡ false) (map (λ (x : ReadAnswer). x.key) (answers ++ a ∷ []))
others_and_one key [] a others other = (other, tt)
others_and_one key (x ∷ answers) a others other = (others.0, others_and_one key answers a others.1 other)

-- with an answer of a new key
distinct_added : (answers : List ReadAnswer) (a : ReadAnswer) → IsDistinct bytes_eq (map (λ (x : ReadAnswer). x.key) answers) →
    answer_in a.key answers ≡ None → IsDistinct bytes_eq (map (λ (x : ReadAnswer). x.key) (answers ++ a ∷ []))
unfolding IsDistinct
distinct_added [] a distinct new = (tt, tt)
distinct_added (x ∷ answers) a distinct new =
    let parts = none_first (bytes_eq x.key a.key) x (answer_in a.key answers) new in
    (others_and_one x.key answers a distinct.0 parts.0, distinct_added answers a distinct.1 parts.1)

-- ---- places

-- no answers, and no places
none_read : (places : List ℕ → Option ℕ) → ((key : List ℕ) → places key ≡ None) → AreAnswerPlaces [] places
none_read places none = grind (arith, nat_tests, none-some)

pub nothing_found : {A : Type 0} (es : List (String A × ℕ)) (key : List ℕ) → es ≡ [] → lookup (λ k. bytes_eq key (string_bytes k)) es ≡ None
nothing_found es key none = grind (arith, nat_tests)

-- a set of which nothing was read
pub none_kept : (n : ℕ) (answers : List ReadAnswer) (places : List ℕ → Option ℕ) → answers ≡ [] → ((key : List ℕ) → places key ≡ None) →
    All ReadFits answers × AreRead n answers places
unfolding IsDistinct
none_kept n answers places none absent = grind (arith, nat_tests, All-from_recursion, drop_all, none_read)

-- the added answer stands at the end
last_place : (answers : List ReadAnswer) (a : ReadAnswer) → slice_get (answers ++ a ∷ []) (length answers) ≡ Some a
last_place answers a =
    slice_get-get_or (answers ++ a ∷ []) (length answers) a (omega (arith, length-append answers (a ∷ [])))
    ∙ ap (λ v. Some v) (get_or-append_seam answers a [] a)

earlier_place : (answers : List ReadAnswer) (a : ReadAnswer) (i : ℕ) → i < length answers → slice_get (answers ++ a ∷ []) i ≡ slice_get answers i
earlier_place answers a i below =
    slice_get-get_or (answers ++ a ∷ []) i a (omega (arith, length-append answers (a ∷ [])))
    ∙ ap (λ v. Some v) (get_or_append_left answers (a ∷ []) a i below)
    ∙ sym (slice_get-get_or answers i a below)

earlier_answer : (answers : List ReadAnswer) (a : ReadAnswer) (place : Option ℕ) → ((i : ℕ) → place ≡ Some i → i < length answers) →
    answer_at (answers ++ a ∷ []) place ≡ answer_at answers place
earlier_answer answers a place within = grind (arith, nat_tests, earlier_place)

answer_after : (b : Bool) (answers : List ReadAnswer) (a : ReadAnswer) (place : Option ℕ) → ((i : ℕ) → place ≡ Some i → i < length answers) →
    answer_at (answers ++ a ∷ []) (cond b (Some (length answers)) place) ≡ cond b (Some a) (answer_at answers place)
answer_after b answers a place within = grind (arith, nat_tests, last_place, earlier_answer)

-- the place of the added answer is that of its key, and the other keys keep theirs
pub place_added : (answers : List ReadAnswer) (a : ReadAnswer) (places after : List ℕ → Option ℕ) → AreAnswerPlaces answers places →
    answer_in a.key answers ≡ None → ((key : List ℕ) → after key ≡ update bytes_eq places a.key (Some (length answers)) key) →
    AreAnswerPlaces (answers ++ a ∷ []) after
place_added answers a places after kept new reported = grind (arith, nat_tests, answer_after, answer_in-more, same_Some, length-append)

-- ---- answers that are searched, and those after them

-- the first of two that is there
abbrev pub or_else : Option ReadAnswer → Option ReadAnswer → Option ReadAnswer
or_else None other = other
or_else (Some a) other = Some a

answer_in-append : (key : List ℕ) (xs ys : List ReadAnswer) → answer_in key (xs ++ ys) ≡ or_else (answer_in key xs) (answer_in key ys)
answer_in-append key [] ys = refl
answer_in-append key (x ∷ xs) ys = grind (arith, nat_tests, answer_in-append key xs ys)

-- the answer for a key in a list that is cut in two: the first part is looked at first
pub answer_of_both : (key : List ℕ) (n : ℕ) (answers : List ReadAnswer) (found : Option ReadAnswer) → answer_in key (take n answers) ≡ found →
    answer_in key answers ≡ or_else found (answer_in key (drop n answers))
answer_of_both key n answers found in_first =
    ap (answer_in key) (sym (take-append-drop n answers)) ∙ answer_in-append key (take n answers) (drop n answers)
    ∙ ap (λ o. or_else o (answer_in key (drop n answers))) in_first

none_second : (first second : Option ReadAnswer) → or_else first second ≡ None → second ≡ None
none_second first second none = grind (arith, nat_tests)

-- a key that has no answer has none after the first n
new_after : (key : List ℕ) (n : ℕ) (answers : List ReadAnswer) → answer_in key answers ≡ None → answer_in key (drop n answers) ≡ None
new_after key n answers new =
    none_second (answer_in key (take n answers)) (answer_in key (drop n answers)) (sym (answer_of_both key n answers _ refl) ∙ new)

-- what a search finds is the answer for the key
pub first_is_answer : (key : List ℕ) (answers : List ReadAnswer) → find (λ (a : ReadAnswer). bytes_eq a.key key) answers ≡ answer_in key answers
first_is_answer key [] = refl
first_is_answer key (a ∷ answers) = ap (cond (bytes_eq a.key key) (Some a)) (first_is_answer key answers)

-- one answer more, of those that are searched
pub read_searched : (n : ℕ) (answers : List ReadAnswer) (a : ReadAnswer) (places : List ℕ → Option ℕ) → AreRead n answers places →
    length answers < n → answer_in a.key answers ≡ None → AreRead n (answers ++ a ∷ []) places
read_searched n answers a places read few new = grind (arith, nat_tests, drop_all, length-append, distinct_added)

-- one answer more after them, whose place is given
pub read_indexed : (n : ℕ) (answers : List ReadAnswer) (a : ReadAnswer) (places after : List ℕ → Option ℕ) → AreRead n answers places →
    n ≤ length answers → answer_in a.key answers ≡ None →
    ((key : List ℕ) → after key ≡ update bytes_eq places a.key (Some (length (drop n answers))) key) → AreRead n (answers ++ a ∷ []) after
read_indexed n answers a places after read many new reported = grind (arith, nat_tests, drop-append-le, place_added, new_after, distinct_added)

-- ---- an answer that is found fits where all do

chosen_fits : (b : Bool) (a : ReadAnswer) (rest : Option ReadAnswer) → ReadFits a → IfSome rest ReadFits → IfSome (cond b (Some a) rest) ReadFits
chosen_fits b a rest first others = grind (arith, nat_tests)

found_fits : (key : List ℕ) (answers : List ReadAnswer) → AllByRecursion ReadFits answers → IfSome (answer_in key answers) ReadFits
found_fits key [] all = tt
found_fits key (a ∷ answers) all = chosen_fits (bytes_eq a.key key) a (answer_in key answers) all.0 (found_fits key answers all.1)

pub answer_fits : (key : List ℕ) (answers : List ReadAnswer) → All ReadFits answers → IfSome (answer_in key answers) ReadFits
answer_fits key answers all = found_fits key answers (recursion_from_All ReadFits answers all)

-- ---- the least revision that answers carry

fold_is_below : (n first : ℕ) (answers : List ReadAnswer) → n ≡ fold (λ least (b : ReadAnswer). min least b.revision) first answers → n ≤ first
fold_is_below n first [] e = omega (arith, e)
fold_is_below n first (a ∷ answers) e = omega (arith, fold_is_below n (min first a.revision) answers e)

-- what is least after all of them
pub least_is_below : (n first i : ℕ) (answers : List ReadAnswer) → fold (λ least (b : ReadAnswer). min least b.revision) n (drop i answers)
    ≡ fold (λ least (b : ReadAnswer). min least b.revision) first answers → length answers ≤ i → n ≤ first
least_is_below n first i answers kept all = grind (arith, nat_tests, fold_is_below, drop_all)

-- ---- a copy of the index

pub places_copied : (n : ℕ) (answers : List ReadAnswer) (places copy : List ℕ → Option ℕ) → AreRead n answers places →
    ((key : List ℕ) → copy key ≡ places key) → AreRead n answers copy
places_copied n answers places copy read same = grind (arith, nat_tests)

-- copies of texts and numbers are found like their originals
pub copy_finds : {A : Type 0} (es fs : List (String A × ℕ)) (key : List ℕ) →
    AllZip (λ p q. (string_bytes q.0 ≡ string_bytes p.0) × (q.1 ≡ p.1)) es fs →
    lookup (λ k. bytes_eq key (string_bytes k)) fs ≡ lookup (λ k. bytes_eq key (string_bytes k)) es
copy_finds [] [] key same = refl
copy_finds [] (f ∷ fs) key same = absurd same
copy_finds (e ∷ es) [] key same = absurd same
copy_finds (e ∷ es) (f ∷ fs) key same = grind (arith, nat_tests, copy_finds es fs key same.1)
