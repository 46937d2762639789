use Rattle.std.proofs.Common.{sym, subst, ◌∙◌}
use Rattle.std.specs.List.{AllByRecursion}
use Rattle.stm_keys.specs.Runs.{SumsUp}
use Rattle.stm_keys.proofs.OpeningLaws.{can_open_sorted}
use Rattle.stm_keys.proofs.OpenedChains.{nothing_recorded, opened_history}
use Rattle.stm_keys.proofs.Order.{names_long}
use Rattle.stm_keys.proofs.keys.Keys.restored.Goals as goal

pub opened_chains-requires : goal.opened_chains-requires
opened_chains-requires c = can_open_sorted c.args.number c.args.states.now c.requires.states

pub invariant_of-result : goal.invariant_of-result
invariant_of-result c =
    let kept = nothing_recorded c.in_ok-chains.chains c.args.number c.args.states.now c.requires.states c.in_ok-chains.ensures.versions c.len-present.result
    c.new.result.items c.new.ensures.items c.in_ok-chains.ensures.names (c.len-present.ensures.len ∙ sym (names_long c.in_ok-chains.chains)) c.requires.revision.0
    c.requires.revision.1 in (
      kept.0,
      kept.1,
      kept.2,
      subst (AllByRecursion (SumsUp c.args.number c.new.result.items)) (sym c.new-2.ensures) tt,
    )

pub returns-clause-history : goal.returns-clause-history
returns-clause-history c =
    opened_history c.in_ok-chains.chains c.args.number c.args.states.now c.requires.states c.in_ok-chains.ensures.versions c.new.result.items c.new.ensures.items
