use Rattle.std.proofs.Common.{◌≡◌, ◌+◌, ◌-◌, ℕ, List, subst, arith}
use Rattle.std.specs.Prelude.{string_bytes}
use Rattle.std.specs.Map.{keys_of}
use Rattle.stm_keys.specs.Chains.{StandFirst, names_of}
use Rattle.stm_keys.proofs.Present.{distinct_texts}
use Rattle.stm_keys.proofs.Order.{stands_at, swapped, goes_out, is_out, same_found}
use Rattle.stm_keys.proofs.chains.take_out.Goals as goal

pub returns-then-index-present-clause-looked : goal.returns-then-index-present-clause-looked
returns-then-index-present-clause-looked c =
    same_found c.args.chains.now c.swap_indices.new.self c.swap_indices.ensures.reordered.0 c.swap_indices.ensures.unique

pub returns-then-index-present-clause-first : goal.returns-then-index-present-clause-first
returns-then-index-present-clause-first c = λ key is_present at first.
    let names : List (List ℕ) = names_of c.args.chains.now in
    let last : ℕ = c.args.present.now - 1 in
    let whole : c.args.present.now ≡ last + 1 = omega (arith, c.if-index-present.true) in
    let moved = swapped c.args.chains.now c.swap_indices.new.self c.args.index last c.requires.within
    (omega (arith, c.requires.bound, c.if-index-present.true)) c.swap_indices.ensures.entries in
    goes_out is_present c.args.index last key names (names_of c.swap_indices.new.self)
    (stands_at names c.args.index key (distinct_texts string_bytes (keys_of c.args.chains.now.entries) c.len-count.ensures.unique) at)
    moved.0 moved.1 (omega (arith, c.if-index-present.true))
    (subst (λ n. StandFirst is_present n names) whole first)

pub returns-else-index-present-clause-first : goal.returns-else-index-present-clause-first
returns-else-index-present-clause-first c = λ key is_present at first.
    let names : List (List ℕ) = names_of c.args.chains.now in
    is_out is_present c.args.index c.args.present.now key names
    (stands_at names c.args.index key (distinct_texts string_bytes (keys_of c.args.chains.now.entries) c.len-count.ensures.unique) at)
    (omega (arith, c.if-index-present.false)) first
