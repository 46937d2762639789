use Rattle.std.proofs.Common.{◌≡◌, ◌∙◌, sym, ap, subst, false, List}
use Rattle.stm_history.specs.History.{key_now}
use Rattle.stm_outcome.specs.declared.txn.Op.{Op}
use Rattle.stm_outcome.specs.Checks.{has_clash}
use Rattle.stm_outcome.specs.Compares.{first_failed}
use Rattle.stm_txn.specs.Standing.{terms_of}
use Rattle.stm_txn.specs.Store.{StoreView}
use Rattle.stm_outcome.proofs.Applying.{chosen_apart}
use Rattle.stm_txn.proofs.Transacting.{came}
use Rattle.stm_txn.proofs.store.Store.run_chosen.Goals as goal

pub run-requires : goal.run-requires
run-requires c =
    subst (λ (ops : List Op). has_clash ops ≡ false) (sym c.choose.ensures)
    (chosen_apart (terms_of c.args.self.now.standing).limit c.args.txn.now c.find_failed-failed.result c.requires)

pub returns-clause-step : goal.returns-clause-step
returns-clause-step c =
    came c.args.self.now.standing c.run.new.self.standing c.args.txn.now c.find_failed-failed.result c.choose.result.now c.run.result c.requires
    (sym (c.find_failed-failed.ensures ∙ ap (first_failed (key_now c.self.inside.keys.history) 0) c.as_slice.ensures
    ∙ ap (λ (s : StoreView). first_failed (key_now s.standing.history) 0 c.args.txn.now.compares) c.self.view_is))
    (sym c.choose.ensures) c.run.ensures.ok c.run.ensures.refused c.run.ensures.floor c.run.ensures.limit c.run.ensures.live
    c.run.ensures.moment c.run.ensures.watchers
