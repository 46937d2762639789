use Rattle.std.proofs.Common.{◌≡◌, ◌∙◌, sym, ap, subst, List, ℕ}
use Rattle.std.specs.Prelude.{None, Some, Option}
use Rattle.std.proofs.lemmas.Result.{err_from_is_err_and}
use Rattle.stm_json.specs.Outcome.{Outcome}
use Rattle.stm_texts.specs.declared.scenario.Scenario.{Scenario}
use Rattle.stm_texts.specs.Reading.{scenario_in}
use Rattle.stm_world.specs.World.{World}
use Rattle.stm_lasting.specs.Kept.{taken}
use Rattle.stm_lasting.proofs.replay.take_record.Goals as goal

pub returns-clause-taken : goal.returns-clause-taken
returns-clause-taken c =
    ap (λ (text : List ℕ). taken c.args.world.now (scenario_in text)) (sym c.record_at.ensures)
    ∙ ap (λ (read : Outcome Scenario). taken c.args.world.now read) c.in_ok-scenario.ensures.read
    ∙ ap (λ (w : World). Some w) (sym c.in_ok-run_again.ensures)

pub returns-in_err-scenario-clause-none : goal.returns-in_err-scenario-clause-none
returns-in_err-scenario-clause-none c =
    let p = err_from_is_err_and c.from_residual.result c.from_residual.ensures.1 in
    rw (p.1, p.2) (λ at is.
    subst (λ (text : List ℕ). taken c.args.world.now (scenario_in text) ≡ None) c.record_at.ensures (c.in_err-scenario.ensures.none at is c.args.world.now))
