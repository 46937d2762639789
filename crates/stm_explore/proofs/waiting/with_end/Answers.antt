use Rattle.std.proofs.Common.{◌≡◌, List, Some, sym, subst}
use Rattle.stm_schedules.specs.declared.moves.Move.{Move}
use Rattle.stm_schedules.specs.Schedules.{place_after}
use Rattle.stm_schedules.specs.Outcomes.{ends_after}
use Rattle.stm_visited.specs.declared.visited.Visited.{Visited}
use Rattle.stm_visited.specs.Answers.{IsVisited, OpenIsSpent}
use Rattle.stm_explore.specs.Asked.{end_for}
use Rattle.stm_schedules.specs.Places.{Place}
use Rattle.stm_explore.specs.declared.exploring.Explored.TheVariants.{Broken}
use Rattle.stm_explore.specs.Waiting.{waiting_steps, IsExploredPatiently}
use Rattle.stm_explore.proofs.WaitingPlaces.{start_of, always_patient, open_patient, broken_patient}
use Rattle.stm_explore.proofs.waiting.with_end.Goals as goal

pub returns-in-Always-clause-explored : goal.returns-in-Always-clause-explored
returns-in-Always-clause-explored c =
    always_patient c.args.waiting.now.waits.now c.args.waiting.now.when c.args.rule.now c.args.waiting.now.gathered.others.now c.args.start.now c.args.ends.now c.in-Always.longest
    (subst (λ (it : Visited Move). IsVisited (waiting_steps c.args.waiting.now.waits.now c.args.waiting.now.when c.args.rule.now c.args.waiting.now.gathered.others.now) (start_of c.args.start.now c.args.ends.now) it) c.in-Always.is c.requires)

pub returns-in_ok-moves-in-Broken-clause-explored : goal.returns-in_ok-moves-in-Broken-clause-explored
returns-in_ok-moves-in-Broken-clause-explored c =
    let p : Place = record { world = c.args.start.now; others = c.args.waiting.now.gathered.others.now } in
    subst (λ (ms : List Move). IsExploredPatiently c.args.waiting.now.waits.now c.args.waiting.now.when c.args.rule.now p c.args.ends.now (Broken ms c.in_ok-end-in-Broken.end))
    (sym c.in_ok-moves-in-Broken.ensures)
    (broken_patient c.args.waiting.now.waits.now c.args.waiting.now.when c.args.rule.now c.args.waiting.now.gathered.others.now c.args.start.now c.args.ends.now c.in-Broken.moves c.in_ok-end-in-Broken.end
    (subst (λ (it : Visited Move). IsVisited (waiting_steps c.args.waiting.now.waits.now c.args.waiting.now.when c.args.rule.now c.args.waiting.now.gathered.others.now) (start_of c.args.start.now c.args.ends.now) it) c.in-Broken.is c.requires)
    (subst (λ ms. end_for c.args.waiting.now.when c.args.rule.now
    (place_after ms p).world.standing.history (ends_after ms p c.args.ends.now)
    ≡ Some c.in_ok-end-in-Broken.end) c.as_slice.ensures c.in_ok-end-in-Broken.ensures))

pub returns-in-Open-clause-explored : goal.returns-in-Open-clause-explored
returns-in-Open-clause-explored c =
    open_patient c.args.waiting.now.waits.now c.args.waiting.now.when c.args.rule.now c.args.waiting.now.gathered.others.now c.args.start.now c.args.ends.now c.in-Open.kept
    (subst (λ (it : Visited Move). IsVisited (waiting_steps c.args.waiting.now.waits.now c.args.waiting.now.when c.args.rule.now c.args.waiting.now.gathered.others.now) (start_of c.args.start.now c.args.ends.now) it) c.in-Open.is c.requires)

pub returns-in-Open-clause-same : goal.returns-in-Open-clause-same
returns-in-Open-clause-same c = λ left spent. subst (λ (it : Visited Move). OpenIsSpent left it) c.in-Open.is spent
