use Rattle.std.proofs.Common.{ℕ, List, Option, sym, subst}
use Rattle.stm_schedules.specs.declared.moves.Move.{Move}
use Rattle.stm_schedules.specs.declared.outcome.Outcome.{Outcome}
use Rattle.stm_schedules.specs.Places.{Place}
use Rattle.stm_explore.specs.Explored.{IsCollected, AreAllOutcomes, AreOutcomesUpTo}
use Rattle.stm_explore.specs.Witnesses.{AreOrdered, AreWitnesses}
use Rattle.stm_explore.proofs.finding.gather_outcomes.Goals as goal

pub returns-in-None-clause-outcomes : goal.returns-in-None-clause-outcomes
returns-in-None-clause-outcomes g c =
    let p : Place = record { world = c.args.world.now; others = c.args.others.now } in
    subst (λ (outcomes : List Outcome). AreAllOutcomes p c.args.ends.now outcomes) (sym c.of.ensures)
    (subst (λ (stopped : Option ℕ). IsCollected p c.args.ends.now c.collect_all.new.found.items stopped) c.in-None.is
    c.in_ok-stopped.ensures.collected)

pub returns-in-None-clause-witnessed : goal.returns-in-None-clause-witnessed
returns-in-None-clause-witnessed g c =
    let p : Place = record { world = c.args.world.now; others = c.args.others.now } in (
      subst (λ (outcomes : List Outcome). AreWitnesses p c.args.ends.now outcomes c.of-in-None.result) (sym c.of.ensures)
          (subst (λ (schedules : List (List Move)). AreWitnesses p c.args.ends.now c.collect_all.new.found.items schedules) (sym c.of-in-None.ensures)
          c.in_ok-stopped.ensures.witnessed),
      subst AreOrdered (sym c.of-in-None.ensures) c.in_ok-stopped.ensures.ordered,
    )

pub returns-in-Some-clause-outcomes : goal.returns-in-Some-clause-outcomes
returns-in-Some-clause-outcomes g c =
    let p : Place = record { world = c.args.world.now; others = c.args.others.now } in
    subst (λ (outcomes : List Outcome). AreOutcomesUpTo c.in-Some.gone_through p c.args.ends.now outcomes) (sym c.of-in-Some.ensures)
    (subst (λ (stopped : Option ℕ). IsCollected p c.args.ends.now c.collect_all.new.found.items stopped) c.in-Some.is
    c.in_ok-stopped.ensures.collected)

pub returns-in-Some-clause-witnessed : goal.returns-in-Some-clause-witnessed
returns-in-Some-clause-witnessed g c =
    let p : Place = record { world = c.args.world.now; others = c.args.others.now } in (
      subst (λ (outcomes : List Outcome). AreWitnesses p c.args.ends.now outcomes c.of-in-Some-2.result) (sym c.of-in-Some.ensures)
          (subst (λ (schedules : List (List Move)). AreWitnesses p c.args.ends.now c.collect_all.new.found.items schedules) (sym c.of-in-Some-2.ensures)
          c.in_ok-stopped.ensures.witnessed),
      subst AreOrdered (sym c.of-in-Some-2.ensures) c.in_ok-stopped.ensures.ordered,
    )
