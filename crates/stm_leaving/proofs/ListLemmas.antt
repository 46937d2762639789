-- Statements of a source, from the end of a list to its beginning.
use Rattle.std.proofs.Common.{◌≡◌, ℕ, zero, suc, ◌+◌, ◌-◌, ◌<◌, Bool, true, List, [], ◌∷◌, length, get_or, drop, refl, sym, ap, ◌∙◌, arith}
use Rattle.std.specs.Prelude.{nat_lt, if◌then◌else◌}
use Rattle.std.proofs.lemmas.List.{at_drop_more}
use Rattle.std.proofs.Math.Seq.{drop-length}
use Rattle.std.proofs.lemmas.Bool.Decides.{nat_tests}
use Rattle.std.proofs.lemmas.Bool.{and_parts}
use Rattle.stm_program.specs.Syntax.{Condition, Block, If, For, End, Then}
use Rattle.stm_leaving.specs.Source.{Source, Sources, Plain, Choice, Items, Count, Return, Break, Continue, Nil, Next}
use Rattle.stm_leaving.specs.Leaving.{goes_on, keeps_to, keeps_to_one}
use Rattle.stm_leaving.specs.PartsView.{sources_of}
use Rattle.stm_leaving.specs.CopiesView.{copies_of}
use Rattle.stm_leaving.specs.declared.follow.Follow.{Follow}
use Rattle.stm_leaving.specs.Closed.{nothing, with_next, copy_follow, is_abort, behind, closed, closed_one, closed_copies, items_behind, first_abort, around, behind_last}

-- ---- weights

-- ---- what is around a statement

around_zero : (i : ℕ) (k : Follow) → around 0 (suc i) k ≡ nothing
around_zero i k = grind (arith, nat_tests)

next_first : (x : Bool) (f : ℕ) (k : Follow) → (if x then nothing else around (if x then 0 else suc f) 0 k) ≡ around (if x then 0 else suc f) 1 k
next_first x f k = grind (arith, nat_tests, around_zero)

next_more : (x : Bool) (y : Source) (f i : ℕ) (k : Follow) → behind y (around f i k) ≡ around f (i + 1) k
    → behind y (around (if x then 0 else suc f) (suc i) k) ≡ around (if x then 0 else suc f) (suc (i + 1)) k
next_more x y f i k h = grind (arith, nat_tests, around_zero)

around_next : (xs : List Source) (i : ℕ) (d : Source) (k : Follow) → i < length xs
    → behind (get_or xs i d) (around (first_abort xs) i k) ≡ around (first_abort xs) (i + 1) k
around_next [] i d k less = absurd (omega arith)
around_next (x ∷ xs) zero d k less = next_first (is_abort x) (first_abort xs) k
around_next (x ∷ xs) (suc i) d k less = grind (arith, nat_tests, next_more, around_next xs i d k (omega arith))

-- ---- the loops

closed_before : (xs : List Source) (i : ℕ) (d : Source) (k : Follow) → i < length xs
    → closed (sources_of (drop i xs)) (around (first_abort xs) i k)
    ≡ closed_one (get_or xs i d) (with_next (around (first_abort xs) i k) (closed (sources_of (drop (i + 1) xs)) (around (first_abort xs) (i + 1) k)))
unfolding closed
closed_before xs i d k less =
    let a = around (first_abort xs) i k in
    let one : closed (sources_of (drop i xs)) a ≡ closed_one (get_or xs i d) (with_next a (closed (sources_of (drop (i + 1) xs)) (behind (get_or xs i d) a))) =
    at_drop_more (λ (ys : List Source). closed (sources_of ys) a) xs i d less in
    one ∙ ap (λ (f : Follow). closed_one (get_or xs i d) (with_next a (closed (sources_of (drop (i + 1) xs)) f))) (around_next xs i d k less)

-- behind the last statement
pub closed_end : (xs : List Source) (k : Follow) (next : Block) → next ≡ behind_last (nat_lt (first_abort xs) (length xs)) k.next
    → next ≡ closed (sources_of (drop (length xs) xs)) (around (first_abort xs) (length xs) k)
unfolding closed
closed_end xs k next is = grind (arith, nat_tests, drop-length)

-- what is next decides nothing but what is next
next_apart : (x : Bool) (k : Follow) (a b : Block) → with_next (if x then nothing else with_next k a) b ≡ with_next (if x then nothing else k) b
next_apart x k a b = grind (arith, nat_tests)

-- one statement more
pub closed_more : (xs : List Source) (done place : ℕ) (q : Source) (k : Follow) (b old new : Block) → done < length xs → place ≡ length xs - 1 - done
    → q ≡ get_or xs place q
    → old ≡ closed (sources_of (drop (length xs - done) xs)) (around (first_abort xs) (length xs - done) (with_next k b))
    → new ≡ closed_one q (with_next (around (first_abort xs) place k) old)
    → new ≡ closed (sources_of (drop (length xs - (done + 1)) xs)) (around (first_abort xs) (length xs - (done + 1)) (with_next k b))
closed_more xs done place q j b old new less at it so_far is =
    let k = with_next j b in
    let here : length xs - (done + 1) ≡ place = omega arith in
    let there : length xs - done ≡ place + 1 = omega arith in
    let known : old ≡ closed (sources_of (drop (place + 1) xs)) (around (first_abort xs) (place + 1) k) =
    so_far ∙ ap (λ (n : ℕ). closed (sources_of (drop n xs)) (around (first_abort xs) n k)) there in
    let own : closed_one q (with_next (around (first_abort xs) place j) old) ≡ closed_one q (with_next (around (first_abort xs) place k) old) =
    ap (closed_one q) (sym (next_apart (nat_lt (first_abort xs) place) j b old)) in
    is ∙ own ∙ ap (λ (s : Source). closed_one s (with_next (around (first_abort xs) place k) old)) it
    ∙ ap (λ (c : Block). closed_one (get_or xs place q) (with_next (around (first_abort xs) place k) c)) known ∙ sym (closed_before xs place q k (omega arith))
    ∙ ap (λ (n : ℕ). closed (sources_of (drop n xs)) (around (first_abort xs) n k)) (sym here)

-- a list that goes on uses nothing but what is next
test_kept : (x : Bool) (c : Condition) (a b f g : Block) (k k' : Follow) → x ≡ true → k.next ≡ k'.next
    → (if x then Then (If c a b) k.next else Then (If c f g) End) ≡ Then (If c a b) k'.next
test_kept x c a b f g k k' h e = grind (arith, nat_tests)

one_kept : (q : Source) (k k' : Follow) → keeps_to_one goes_on q ≡ true → k.next ≡ k'.next → closed_one q k ≡ closed_one q k'
unfolding closed keeps_to
one_kept (Plain p) k k' h e = ap (Then p) e
one_kept (Choice c a b) k k' h e = grind (arith, nat_tests, test_kept)
one_kept (Items cs) k k' h e = ap (items_behind cs) e
one_kept (Count v n limit body) k k' h e = ap (Then (For v n limit (closed body nothing))) e
one_kept Return k k' h e = cc
one_kept Break k k' h e = cc
one_kept Continue k k' h e = cc

behind_kept : (x : Bool) (k k' : Follow) → k.next ≡ k'.next → (if x then nothing else k).next ≡ (if x then nothing else k').next
behind_kept x k k' e = grind (arith, nat_tests)

pub list_kept : (p : Sources) (k k' : Follow) → keeps_to goes_on p ≡ true → k.next ≡ k'.next → closed p k ≡ closed p k'
unfolding closed keeps_to
list_kept Nil k k' h e = e
list_kept (Next q rest) k k' h e =
    let both = and_parts (keeps_to_one goes_on q) (keeps_to goes_on rest) h in
    one_kept q (with_next k (closed rest (behind q k))) (with_next k' (closed rest (behind q k'))) both.0
    (list_kept rest (behind q k) (behind q k') both.1 (behind_kept (is_abort q) k k' e))

copies_before : (cs : List Sources) (i : ℕ) (d : Sources) (after : Block) → i < length cs
    → closed_copies (copies_of (drop i cs)) after ≡ closed (get_or cs i d) (copy_follow (closed_copies (copies_of (drop (i + 1) cs)) after) after)
unfolding closed
copies_before cs i d after less = at_drop_more (λ (ds : List Sources). closed_copies (copies_of ds) after) cs i d less

-- behind the last copy
pub copies_end : (cs : List Sources) (after : Block) → after ≡ closed_copies (copies_of (drop (length cs) cs)) after
unfolding closed
copies_end cs after = rw (drop-length cs) refl

-- one copy more
pub copies_more : (cs : List Sources) (done place : ℕ) (p : Sources) (after old new : Block) → done < length cs → place ≡ length cs - 1 - done
    → p ≡ get_or cs place p → old ≡ closed_copies (copies_of (drop (length cs - done) cs)) after → new ≡ closed p (copy_follow old after)
    → new ≡ closed_copies (copies_of (drop (length cs - (done + 1)) cs)) after
copies_more cs done place p after old new less at it so_far is =
    let here : length cs - (done + 1) ≡ place = omega arith in
    let there : length cs - done ≡ place + 1 = omega arith in
    let known : old ≡ closed_copies (copies_of (drop (place + 1) cs)) after =
    so_far ∙ ap (λ (n : ℕ). closed_copies (copies_of (drop n cs)) after) there in
    is ∙ ap (λ (d : Sources). closed d (copy_follow old after)) it ∙ ap (λ (b : Block). closed (get_or cs place p) (copy_follow b after)) known
    ∙ sym (copies_before cs place p after (omega arith)) ∙ ap (λ (n : ℕ). closed_copies (copies_of (drop n cs)) after) (sym here)
