use Rattle.std.proofs.Common.{◌<◌, ℕ, List, sym, subst, arith}
use Rattle.std.specs.Prelude.{string_bytes}
use Rattle.std.specs.Map.{keys_of}
use Rattle.stm_keys.specs.Chains.{names_of}
use Rattle.stm_keys.proofs.Present.{distinct_texts}
use Rattle.stm_keys.proofs.Order.{stands_at, names_long, swapped, comes_in, is_in, same_found}
use Rattle.stm_keys.proofs.chains.bring_in.Goals as goal

pub returns-then-index-present-clause-looked : goal.returns-then-index-present-clause-looked
returns-then-index-present-clause-looked c =
    same_found c.args.chains.now c.swap_indices.new.self c.swap_indices.ensures.reordered.0 c.swap_indices.ensures.unique

pub returns-then-index-present-clause-first : goal.returns-then-index-present-clause-first
returns-then-index-present-clause-first c = λ key is_present at first.
    let names : List (List ℕ) = names_of c.args.chains.now in
    let moved = swapped c.args.chains.now c.swap_indices.new.self c.args.index c.args.present.now c.requires.within
    (omega (arith, c.requires.within, c.if-index-present.true)) c.swap_indices.ensures.entries in
    comes_in is_present c.args.index c.args.present.now key names (names_of c.swap_indices.new.self)
    (stands_at names c.args.index key (distinct_texts string_bytes (keys_of c.args.chains.now.entries) c.len-count.ensures.unique) at)
    moved.0 moved.1 c.if-index-present.true (subst (λ n. c.args.index < n) (sym (names_long c.args.chains.now)) c.requires.within) first

pub returns-else-index-present-clause-first : goal.returns-else-index-present-clause-first
returns-else-index-present-clause-first c = λ key is_present at first.
    let names : List (List ℕ) = names_of c.args.chains.now in
    is_in is_present c.args.index c.args.present.now key names
    (stands_at names c.args.index key (distinct_texts string_bytes (keys_of c.args.chains.now.entries) c.len-count.ensures.unique) at)
    (omega (arith, c.if-index-present.false)) first
