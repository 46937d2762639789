use Rattle.std.proofs.Common.{◌∙◌, sym, ap, subst, IfSome, ℕ, Option, length, reverse}
use Rattle.std.specs.List.Sorted.{IsNonDecreasing}
use Rattle.stm_keys.specs.Chains.{Chain, versions_in, newest_below, found_below, state_from, number_of, IsKeptNumber}
use Rattle.stm_keys.proofs.Versions.{if_read}
use Rattle.stm_keys.proofs.chains.find_state.Goals as goal

pub newest_below-requires : goal.newest_below-requires
newest_below-requires c =
    subst (λ (o : Option Chain). IsNonDecreasing (reverse (versions_in o).numbers)) (sym c.in-Some.ensures.value) (c.requires.rising c.args.key.now)

pub state_from-requires-clause-within : goal.state_from-requires-clause-within
state_from-requires-clause-within c =
    if_read number_of (IsKeptNumber c.args.below (length c.args.revisions.now.items)) c.newest_below.result
    (subst (λ (o : Option ℕ). IfSome o (IsKeptNumber c.args.below (length c.args.revisions.now.items))) (sym c.newest_below.ensures)
    (subst (λ (o : Option Chain). IfSome (newest_below c.args.bound (versions_in o).numbers) (IsKeptNumber c.args.below (length c.args.revisions.now.items)))
    (sym c.in-Some.ensures.value) (c.requires.within c.args.key.now c.args.bound)))

pub returns-in-Some : goal.returns-in-Some
returns-in-Some c =
    c.state_from.ensures
    ∙ ap (state_from c.args.below c.args.revisions.now.items c.args.key.now c.in-Some.chain.now.versions.before) c.newest_below.ensures
    ∙ ap (λ o. found_below c.args.below c.args.revisions.now.items c.args.key.now c.args.bound (versions_in o)) c.in-Some.ensures.value
