use Rattle.std.proofs.Common.{◌∙◌, sym, ap, subst, IfSome, ℕ, Option, length}
use Rattle.std.specs.Prelude.{slice_get}
use Rattle.stm_keys.specs.Chains.{Chain, versions_in, event_from, newest_event, number_of, IsKeptNumber}
use Rattle.stm_keys.proofs.Versions.{if_read}
use Rattle.stm_keys.proofs.chains.find_newest.Goals as goal

pub event_from-requires-clause-within : goal.event_from-requires-clause-within
event_from-requires-clause-within c =
    if_read number_of (IsKeptNumber c.args.below (length c.args.revisions.now.items)) c.newest.result
    (subst (λ (o : Option ℕ). IfSome o (IsKeptNumber c.args.below (length c.args.revisions.now.items))) (sym c.newest.ensures)
    (subst (λ (o : Option Chain). IfSome (slice_get (versions_in o).numbers 0) (IsKeptNumber c.args.below (length c.args.revisions.now.items)))
    (sym c.in-Some.ensures.chain) (c.requires.newest c.args.key.now)))

pub returns-in-Some : goal.returns-in-Some
returns-in-Some c =
    c.event_from.ensures
    ∙ ap (event_from c.args.below c.args.revisions.now.items c.args.key.now) c.newest.ensures
    ∙ ap (λ o. newest_event c.args.below c.args.revisions.now.items c.args.key.now (versions_in o)) c.in-Some.ensures.chain
