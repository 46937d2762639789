-- The steps by which a list is taken from the prefetched answers, by what the code has at hand.
use Rattle.std.proofs.Common.{◌≡◌, ◌≤◌, ◌-◌, ℕ, false, List, [], ◌∷◌, ◌++◌, length, map, take, drop, get_or, String, sym, ◌∙◌, ap, subst, arith}
use Rattle.std.specs.Prelude.{Option, None, Some, option_map, string_bytes}
use Rattle.std.proofs.lemmas.List.{take_rest}
use Rattle.std.proofs.lemmas.Slice.Eq.{bytes_eq-Decides}
use Rattle.std.proofs.lemmas.Bool.Decides.{nat_tests}
use Rattle.stm_history.specs.declared.key_state.ReadAnswer.{ReadAnswer}
use Rattle.stm_program.specs.Syntax.{ProgramTree}
use Rattle.stm_program.specs.Limits.{has_repeat, Fits}
use Rattle.stm_program.proofs.ListLemmas.{list_parts, list_of_program}
use Rattle.stm_compile.specs.Answers.{answer_in}
use Rattle.stm_attempt.specs.Known.{HaveDistinctKeys}
use Rattle.stm_attempt.specs.Entering.{answers_of_all}
use Rattle.stm_attempt.proofs.Unread.{found_key}
use Rattle.stm_attempt.proofs.EnteringLemmas.{take_none, take_some, take_all, key_is_new, once-have_distinct}

-- the bytes of the first key, and those of the others
first_and_rest : {A : Type 0} (keys : List (String A)) (first : String A) → 1 ≤ length keys → first ≡ get_or keys 0 first
    → map string_bytes keys ≡ string_bytes first ∷ map string_bytes (take (length keys - 1) (drop 1 keys))
first_and_rest [] first some is = absurd (omega arith)
first_and_rest (key ∷ keys) first some is =
    let rest : map string_bytes keys ≡ map string_bytes (take (length (key ∷ keys) - 1) (drop 1 (key ∷ keys))) =
    ap (map string_bytes) (sym (take_rest (key ∷ keys) 1)) in
    λ i. string_bytes (sym is i) ∷ rest i

-- the key's answer is of the key
of_the_key : (key : List ℕ) (prefetched : List ReadAnswer) (a copy : ReadAnswer) → Some a ≡ answer_in key prefetched → copy ≡ a → copy.key ≡ key
of_the_key key prefetched a copy found copied =
    ap (λ (x : ReadAnswer). x.key) copied ∙ (bytes_eq-Decides a.key key).0 (found_key key prefetched a (sym found))

pub take_stops : {A : Type 0} (keys : List (String A)) (first : String A) (key : List ℕ) (taken prefetched : List ReadAnswer) → 1 ≤ length keys
    → first ≡ get_or keys 0 first → key ≡ string_bytes first → None ≡ answer_in key prefetched
    → None ≡ option_map (λ more. taken ++ more) (answers_of_all (map string_bytes keys) prefetched)
take_stops keys first key taken prefetched some is bytes none = grind (arith, nat_tests, first_and_rest, take_none)

-- what is taken next is of a key that has no answer yet
pub take_is_new : {A : Type 0} (keys : List (String A)) (first : String A) (key : List ℕ) (taken prefetched : List ReadAnswer) (a copy : ReadAnswer)
    → 1 ≤ length keys → first ≡ get_or keys 0 first → key ≡ string_bytes first → Some a ≡ answer_in key prefetched → copy ≡ a
    → has_repeat (map (λ (x : ReadAnswer). x.key) taken ++ map string_bytes keys) ≡ false → answer_in copy.key taken ≡ None
take_is_new keys first key taken prefetched a copy some is bytes found copied once =
    let rest : List (List ℕ) = map string_bytes (take (length keys - 1) (drop 1 keys)) in
    ap (λ (k : List ℕ). answer_in k taken) (of_the_key key prefetched a copy found copied ∙ bytes)
    ∙ key_is_new taken (string_bytes first) rest
    (subst (λ (l : List (List ℕ)). has_repeat (map (λ (x : ReadAnswer). x.key) taken ++ l) ≡ false) (first_and_rest keys first some is) once)

keys_pushed : (taken : List ReadAnswer) (a : ReadAnswer) (key : List ℕ) (rest : List (List ℕ)) → a.key ≡ key
    → map (λ (x : ReadAnswer). x.key) (taken ++ a ∷ []) ++ rest ≡ map (λ (x : ReadAnswer). x.key) taken ++ key ∷ rest
keys_pushed [] a key rest is = ap (λ (k : List ℕ). k ∷ rest) is
keys_pushed (x ∷ taken) a key rest is = ap (λ (l : List (List ℕ)). x.key ∷ l) (keys_pushed taken a key rest is)

-- and those after it are of other keys
pub take_once : {A : Type 0} (keys : List (String A)) (first : String A) (key : List ℕ) (taken more prefetched : List ReadAnswer) (a copy : ReadAnswer)
    → 1 ≤ length keys → first ≡ get_or keys 0 first → key ≡ string_bytes first → Some a ≡ answer_in key prefetched → copy ≡ a → more ≡ taken ++ copy ∷ []
    → has_repeat (map (λ (x : ReadAnswer). x.key) taken ++ map string_bytes keys) ≡ false
    → has_repeat (map (λ (x : ReadAnswer). x.key) more ++ map string_bytes (take (length keys - 1) (drop 1 keys))) ≡ false
take_once keys first key taken more prefetched a copy some is bytes found copied pushed once =
    let rest : List (List ℕ) = map string_bytes (take (length keys - 1) (drop 1 keys)) in
    ap (λ (l : List ReadAnswer). has_repeat (map (λ (x : ReadAnswer). x.key) l ++ rest)) pushed
    ∙ ap has_repeat (keys_pushed taken copy (string_bytes first) rest (of_the_key key prefetched a copy found copied ∙ bytes))
    ∙ subst (λ (l : List (List ℕ)). has_repeat (map (λ (x : ReadAnswer). x.key) taken ++ l) ≡ false) (first_and_rest keys first some is) once

pub take_goes_on : {A : Type 0} (keys : List (String A)) (first : String A) (key : List ℕ) (taken more prefetched : List ReadAnswer) (a copy : ReadAnswer)
    (found : Option (List ReadAnswer)) → 1 ≤ length keys → first ≡ get_or keys 0 first → key ≡ string_bytes first → Some a ≡ answer_in key prefetched
    → copy ≡ a → more ≡ taken ++ copy ∷ []
    → found ≡ option_map (λ later. more ++ later) (answers_of_all (map string_bytes (take (length keys - 1) (drop 1 keys))) prefetched)
    → found ≡ option_map (λ later. taken ++ later) (answers_of_all (map string_bytes keys) prefetched)
take_goes_on keys first key taken more prefetched a copy found some is bytes has copied pushed reported =
    let rest : List (List ℕ) = map string_bytes (take (length keys - 1) (drop 1 keys)) in
    let found_as : answer_in (string_bytes first) prefetched ≡ Some copy =
    ap (λ (k : List ℕ). answer_in k prefetched) (sym bytes) ∙ sym has ∙ ap (λ (x : ReadAnswer). (let o : Option ReadAnswer = Some x in o)) (sym copied) in
    reported
    ∙ ap (λ (l : List ReadAnswer). option_map (λ later. l ++ later) (answers_of_all rest prefetched)) pushed
    ∙ sym (take_some taken (string_bytes first) rest prefetched copy found_as)
    ∙ sym (ap (λ (l : List (List ℕ)). option_map (λ later. taken ++ later) (answers_of_all l prefetched)) (first_and_rest keys first some is))

-- ---- a program's list

pub starts_taking : (program : ProgramTree) (taken prefetched : List ReadAnswer) (keys : List (List ℕ)) (found : Option (List ReadAnswer)) → taken ≡ []
    → keys ≡ program.prefetch → found ≡ option_map (λ more. taken ++ more) (answers_of_all keys prefetched) → found ≡ answers_of_all program.prefetch prefetched
starts_taking program taken prefetched keys found none same reported = grind (arith, nat_tests, take_all)

-- the answers to a program's list are of keys that differ
pub listed_are_distinct : (program : ProgramTree) (answers : List ReadAnswer) → Fits program → program.prefetch ≡ map (λ (a : ReadAnswer). a.key) answers
    → HaveDistinctKeys answers
listed_are_distinct program answers fits same = grind (arith, nat_tests, once-have_distinct, list_parts, list_of_program)
