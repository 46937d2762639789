use Rattle.stm_workers.proofs.SeatLemmas.{all_drawn, all_ended}
use Rattle.stm_workers.proofs.worker.Collected.into_pieces.Goals as goal

pub returns-clause-drawn : goal.returns-clause-drawn
returns-clause-drawn g c =
    let collected = c.args.self in
    let coordinator = collected.coordinator in
    all_drawn _ _ coordinator.seat _ coordinator.seated.1 coordinator.drawn coordinator.even collected.all_parts collected.some_past c.left-passes.ensures.known

pub returns-clause-each_once : goal.returns-clause-each_once
returns-clause-each_once g c =
    let collected = c.args.self in
    let coordinator = collected.coordinator in
    all_ended _ _ coordinator.seat coordinator.drawn
    (all_drawn _ _ coordinator.seat _ coordinator.seated.1 coordinator.drawn coordinator.even collected.all_parts collected.some_past c.left-passes.ensures.known)
