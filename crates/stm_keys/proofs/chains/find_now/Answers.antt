use Rattle.std.proofs.Common.{◌∙◌, sym, ap, subst, IfSome, ℕ, Option, length}
use Rattle.std.specs.Prelude.{slice_get}
use Rattle.stm_keys.specs.Chains.{Chain, versions_in, found_now, state_from, number_of, IsKeptNumber}
use Rattle.stm_keys.proofs.Versions.{if_read}
use Rattle.stm_keys.proofs.chains.find_now.Goals as goal

pub state_from-requires-clause-within : goal.state_from-requires-clause-within
state_from-requires-clause-within c =
    if_read number_of (IsKeptNumber c.args.below (length c.args.revisions.now.items)) c.newest.result
    (subst (λ (o : Option ℕ). IfSome o (IsKeptNumber c.args.below (length c.args.revisions.now.items))) (sym c.newest.ensures)
    (subst (λ (o : Option Chain). IfSome (slice_get (versions_in o).numbers 0) (IsKeptNumber c.args.below (length c.args.revisions.now.items)))
    (sym c.in-Some.ensures.chain) (c.requires.newest c.args.key.now)))

pub returns-in-Some : goal.returns-in-Some
returns-in-Some c =
    c.state_from.ensures
    ∙ ap (state_from c.args.below c.args.revisions.now.items c.args.key.now c.in-Some.chain.now.versions.before) c.newest.ensures
    ∙ ap (λ o. found_now c.args.below c.args.revisions.now.items c.args.key.now (versions_in o)) c.in-Some.ensures.chain
