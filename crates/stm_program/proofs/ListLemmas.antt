-- The list of a program: its limits, its copies, and when two programs are the same.
use Rattle.std.proofs.Common.{◌≡◌, ℕ, ◌≤◌, ◌-◌, Bool, true, false, List, [], ◌∷◌, ◌++◌, length, map, take, drop, get_or, String, refl, sym, ap}
use Rattle.std.proofs.Common.{◌∙◌, ◌↔◌, IsTrue, arith}
use Rattle.std.specs.Prelude.{◌||◌, bytes_eq, string_bytes}
use Rattle.std.specs.List.{AllZip, IsDistinct, AllByRecursion, list_any}
use Rattle.std.proofs.lemmas.List.{take_rest}
use Rattle.std.proofs.lemmas.Bool.{le-ltb, ltb-false, Decides.nat_tests}
use Rattle.stm_program.specs.declared.limits.TheConstants.{MAX_PREFETCH}
use Rattle.stm_program.specs.Syntax.{Block, ProgramTree}
use Rattle.stm_program.specs.Limits.{is_no_key, has_repeat, ListFits, fits_with}
use Rattle.stm_program.proofs.WriteLemmas.{bytes_eq-flip, bytes_eq-same}

-- ---- the limits

-- what a list within the limits has none of
pub record ListParts (keys : List (List ℕ)) : Type 0 where
  pub few : length keys ≤ MAX_PREFETCH
  pub named : list_any is_no_key keys ≡ false
  pub once : has_repeat keys ≡ false

pub list_parts : (keys : List (List ℕ)) → ListFits keys → ListParts keys
list_parts keys fits = grind (arith, nat_tests, ltb-false)

pub list_whole : (keys : List (List ℕ)) → ListParts keys → ListFits keys
list_whole keys parts = grind (arith, nat_tests, le-ltb)

-- the statements of a program fit, whatever its list is
pub statements_fit : (keys : List (List ℕ)) (rest : Type 0) → fits_with keys rest → rest
statements_fit keys rest h = grind (arith, nat_tests)

-- a program with a list that fits
pub fits_behind : (keys : List (List ℕ)) (rest : Type 0) → ListFits keys → rest → fits_with keys rest
fits_behind keys rest list h = grind (arith, nat_tests)

-- the empty list fits
pub list_of_program : (keys : List (List ℕ)) (rest : Type 0) → fits_with keys rest → ListFits keys
list_of_program keys rest h = grind (arith, nat_tests)

-- ---- distinct keys

neither : (b c : Bool) → (b || c) ≡ false → (b ≡ false) × (c ≡ false)
neither b c h = grind (arith, nat_tests)

apart : (key : List ℕ) (later : List (List ℕ)) → list_any (bytes_eq key) later ≡ false → AllByRecursion (λ other. bytes_eq key other ≡ false) later
apart key [] none = tt
apart key (other ∷ later) none =
    let parts = neither (bytes_eq key other) (list_any (bytes_eq key) later) none in (parts.0, apart key later parts.1)

pub once-distinct : (keys : List (List ℕ)) → has_repeat keys ≡ false → IsDistinct bytes_eq keys
unfolding IsDistinct
once-distinct [] once = tt
once-distinct (key ∷ later) once =
    let parts = neither (list_any (bytes_eq key) later) (has_repeat later) once in (apart key later parts.0, once-distinct later parts.1)

-- a key more, which is none of those before it
neither_of : (b c : Bool) → b ≡ false → c ≡ false → (b || c) ≡ false
neither_of b c first second = ap (λ x. x || c) first ∙ second

none-push : (key new : List ℕ) (later : List (List ℕ)) → list_any (bytes_eq key) later ≡ false → bytes_eq key new ≡ false
    → list_any (bytes_eq key) (later ++ new ∷ []) ≡ false
none-push key new [] none other = neither_of (bytes_eq key new) false other refl
none-push key new (x ∷ later) none other =
    let parts = neither (bytes_eq key x) (list_any (bytes_eq key) later) none in
    neither_of (bytes_eq key x) (list_any (bytes_eq key) (later ++ new ∷ [])) parts.0 (none-push key new later parts.1 other)

pub once-push : (key : List ℕ) (keys : List (List ℕ)) → list_any (bytes_eq key) keys ≡ false → has_repeat keys ≡ false → has_repeat (keys ++ key ∷ []) ≡ false
once-push key [] new once = refl
once-push key (k ∷ later) new once =
    let none = neither (bytes_eq key k) (list_any (bytes_eq key) later) new in
    let parts = neither (list_any (bytes_eq k) later) (has_repeat later) once in
    neither_of (list_any (bytes_eq k) (later ++ key ∷ [])) (has_repeat (later ++ key ∷ []))
    (none-push k key later parts.0 (bytes_eq-flip k key ∙ none.0)) (once-push key later none.1 parts.1)

pub named-push : (key : List ℕ) (keys : List (List ℕ)) → is_no_key key ≡ false → list_any is_no_key keys ≡ false → list_any is_no_key (keys ++ key ∷ []) ≡ false
named-push key [] new named = neither_of (is_no_key key) false new refl
named-push key (k ∷ later) new named =
    let parts = neither (is_no_key k) (list_any is_no_key later) named in
    neither_of (is_no_key k) (list_any is_no_key (later ++ key ∷ [])) parts.0 (named-push key later new parts.1)

-- ---- copies, and equal programs

abbrev pub tree_held : {A : Type 0} → List (String A) → Block → ProgramTree
tree_held keys statements = record { statements = statements; prefetch = map string_bytes keys }

pub keys_copied : {A : Type 0} (es fs : List (String A)) → AllZip (λ e f. string_bytes f ≡ string_bytes e) es fs → map string_bytes fs ≡ map string_bytes es
keys_copied [] [] p = refl
keys_copied [] (f ∷ fs) p = absurd p
keys_copied (e ∷ es) [] p = absurd p
keys_copied (e ∷ es) (f ∷ fs) p = λ i. p.0 i ∷ keys_copied es fs p.1 i

-- a copy of a program
pub program_copied : {A : Type 0} (keys copies : List (String A)) (statements others : Block)
    → AllZip (λ e f. string_bytes f ≡ string_bytes e) keys copies → others ≡ statements
    → tree_held copies others ≡ tree_held keys statements
program_copied keys copies statements others lists same = λ i. record { statements = same i; prefetch = keys_copied keys copies lists i }

-- the same program, whose statements stand elsewhere
pub program_shared : {A : Type 0} (keys : List (String A)) (statements others : Block) → others ≡ statements →
    tree_held keys others ≡ tree_held keys statements
program_shared keys statements others same = ap (tree_held keys) same

-- two lists of which the first keys are the same are the same where the others are
pub same_keys : {A : Type 0} (ls rs : List (String A)) (f g : String A) (first other : List ℕ) (same : Bool) → 1 ≤ length ls → 1 ≤ length rs
    → f ≡ get_or ls 0 f → g ≡ get_or rs 0 g → first ≡ string_bytes f → other ≡ string_bytes g → bytes_eq first other ≡ true
    → IsTrue same ↔ (map string_bytes (take (length ls - 1) (drop 1 ls)) ≡ map string_bytes (take (length rs - 1) (drop 1 rs)))
    → IsTrue same ↔ (map string_bytes ls ≡ map string_bytes rs)
same_keys [] rs f g first other same some others is is_other bytes other_bytes equal rest = absurd (omega arith)
same_keys (l ∷ ls) [] f g first other same some others is is_other bytes other_bytes equal rest = absurd (omega arith)
same_keys (l ∷ ls) (r ∷ rs) f g first other same some others is is_other bytes other_bytes equal rest =
    let one : string_bytes l ≡ string_bytes r =
    ap string_bytes (sym is) ∙ sym bytes ∙ bytes_eq-same first other equal ∙ other_bytes ∙ ap string_bytes is_other in
    let left : map string_bytes (take (length (l ∷ ls) - 1) (drop 1 (l ∷ ls))) ≡ map string_bytes ls = ap (map string_bytes) (take_rest (l ∷ ls) 1) in
    let right : map string_bytes (take (length (r ∷ rs) - 1) (drop 1 (r ∷ rs))) ≡ map string_bytes rs = ap (map string_bytes) (take_rest (r ∷ rs) 1) in (
      λ holds. let tails : map string_bytes ls ≡ map string_bytes rs = sym left ∙ rest.0 holds ∙ right in λ i. one i ∷ tails i,
      λ e. rest.1 (left ∙ ap (drop 1) e ∙ sym right),
    )
