-- Look-ups of a definition, copied one after the other: fewer nodes stand behind the `else`s of those that are left.
use Rattle.std.proofs.Common.{◌≡◌, ◌≤◌, ◌<◌, ℕ, zero, suc, ◌+◌, ◌-◌, List, [], ◌∷◌, length, get_or, take, drop, refl, ap, sym, ◌∙◌, arith}
use Rattle.std.proofs.lemmas.List.{take_rest}
use Rattle.stm_program.specs.Syntax.{Expression}
use Rattle.stm_terms.specs.declared.kinds.Valued.{Valued}
use Rattle.stm_terms.specs.declared.look_ups.LookUp.{LookUp}
use Rattle.stm_terms.specs.Uses.{Copied, other_nodes, others_nodes, look_ups_in, walked}

-- those behind the first so many, and the others
pub split_nodes : (n : ℕ) (ls : List LookUp) → others_nodes (take n ls) + others_nodes (drop n ls) ≡ others_nodes ls
split_nodes zero ls = omega arith
split_nodes (suc n) [] = omega arith
split_nodes (suc n) (l ∷ ls) = omega (arith, split_nodes n ls)

-- those behind the first one, and the others
pub first_nodes : (ls : List LookUp) (l : LookUp) → 1 ≤ length ls → l ≡ get_or ls 0 l
    → other_nodes l.other + others_nodes (take (length ls - 1) (drop 1 ls)) ≡ others_nodes ls
first_nodes [] l some is = absurd (omega arith)
first_nodes (x ∷ xs) l some is =
    omega (arith, ap (λ (y : LookUp). other_nodes y.other) is, ap others_nodes (take_rest (x ∷ xs) 1))

-- that one, and those of the value that its `else` gives
pub own_nodes : (ls : List LookUp) (l : LookUp) (n : ℕ) (own : List LookUp) → 1 ≤ length ls → l ≡ get_or ls 0 l
    → own ≡ take n (take (length ls - 1) (drop 1 ls)) → other_nodes l.other + others_nodes own ≤ others_nodes ls
own_nodes ls l n own some is own_is =
    omega (arith, first_nodes ls l some is, split_nodes n (take (length ls - 1) (drop 1 ls)), ap others_nodes own_is)

-- those that are left
pub left_nodes : (ls : List LookUp) (l : LookUp) (n : ℕ) (others : List LookUp) → 1 ≤ length ls → l ≡ get_or ls 0 l
    → others ≡ drop n (take (length ls - 1) (drop 1 ls)) → others_nodes others ≤ others_nodes ls
left_nodes ls l n others some is others_is =
    omega (arith, first_nodes ls l some is, split_nodes n (take (length ls - 1) (drop 1 ls)), ap others_nodes others_is)

pub within_none : (most at : ℕ) (arguments : List Valued) (own : List LookUp) (e : Expression) → most ≡ 0 → look_ups_in most at arguments own e ≡ []
unfolding look_ups_in
within_none most at arguments own e none = rw none refl

pub within_some : (most at : ℕ) (arguments : List Valued) (own : List LookUp) (e : Expression) → 0 < most
    → look_ups_in most at arguments own e ≡ (walked (look_ups_in (most - 1) at arguments) at arguments e ([], own)).0
unfolding look_ups_in
within_some most at arguments own e some =
    let k : most ≡ suc (most - 1) = omega arith in
    ap (λ (n : ℕ). look_ups_in n at arguments own e) k

pub within_copied : (most at : ℕ) (arguments : List Valued) (own : List LookUp) (e : Expression) (none all rest : List LookUp) → 0 < most → none ≡ []
    → (all, rest) ≡ walked (look_ups_in (most - 1) at arguments) at arguments e (none, own) → all ≡ look_ups_in most at arguments own e
within_copied most at arguments own e none all rest some empty is =
    ap (λ (x : Copied). x.0) is
    ∙ ap (λ (ls : List LookUp). (walked (look_ups_in (most - 1) at arguments) at arguments e (ls, own)).0) empty
    ∙ sym (within_some most at arguments own e some)
