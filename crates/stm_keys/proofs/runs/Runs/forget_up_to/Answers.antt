use Rattle.std.proofs.Common.{sym, subst}
use Rattle.std.specs.List.{AllByRecursion}
use Rattle.stm_keys.specs.Runs.{SumsUp}
use Rattle.stm_keys.proofs.Ranges.{each_rest}
use Rattle.stm_keys.proofs.runs.Runs.forget_up_to.Goals as goal

pub runs-preserved-in-runs : goal.runs-preserved-in-runs
runs-preserved-in-runs c = λ below recorded all.
    subst (AllByRecursion (SumsUp below recorded)) (sym c.pop_front-run.ensures.rest)
    (each_rest (SumsUp below recorded) c.self.inside.runs.items
    (subst (AllByRecursion (SumsUp below recorded)) (sym c.self.view_is) (c.runs.invariant below recorded all)))
