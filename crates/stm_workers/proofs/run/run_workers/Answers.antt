use Rattle.std.proofs.Common.{◌≡◌, ◌∙◌, ◌+◌, length, count_by}
use Rattle.stm_job.specs.Draw.{size_of}
use Rattle.stm_job.specs.Ends.{is_committed}
use Rattle.stm_workers.specs.Commits.{commits_in}
use Rattle.stm_workers.specs.Drawn.{HasDrawnAll}
use Rattle.stm_workers.specs.Runs.{HaveTheirRuns}
use Rattle.stm_workers.proofs.RunLemmas.{broke_off_early, given_up, ran_to, ran_on, fault_found, seat_handed, at_ok}
use Rattle.stm_workers.proofs.run.run_workers.Goals as goal

-- no table could be made: the hall is as it was
pub returns-in_default-clause-fault : goal.returns-in_default-clause-fault
returns-in_default-clause-fault g c = broke_off_early c.args.hall _ c.args.jobs.now _ _ c.broken_off.ensures.1 c.broken_off.ensures.0

-- each end stands
pub returns-in-Ok-gather-clause-ok : goal.returns-in-Ok-gather-clause-ok
returns-in-Ok-gather-clause-ok g c =
    let run = c.run_on-placed in
    let reported = c.in-Ok-gather.ensures in
    let gathered = c.in-Ok-gather.gathered in
    let placed = c.in-Ok-placed.placed in
    ran_on c.args.hall run.result.1 gathered.hall c.args.jobs.now placed.ends.items gathered.ends.items placed.lost.items gathered.lost.items
    gathered.committed reported.hall reported.ends.0 reported.ends.1
    (ran_to c.args.hall run.result.1 c.args.jobs.now placed.ends.items placed.lost.items c.start_of-start.result gathered.committed
    c.start_of-start.ensures run.ensures.gone_on run.ensures.kept run.ensures.takes
    (at_ok (λ p. (length p.ends.items ≡ length c.args.jobs.now) × (length p.lost.items ≡ length c.args.jobs.now)) run.result.0 placed c.in-Ok-placed.is
    run.ensures.places)
    (at_ok (λ p. commits_in run.result.1.entries ≡ commits_in c.args.hall.entries + count_by is_committed p.ends.items) run.result.0 placed
    c.in-Ok-placed.is run.ensures.commits) reported.committed reported.stand
    (at_ok (λ p. HaveTheirRuns c.args.hall c.args.jobs.now p.ends.items p.lost.items) run.result.0 placed c.in-Ok-placed.is run.ensures.ran))

-- and each job was drawn once
pub returns-in-Ok-gather-clause-drawn : goal.returns-in-Ok-gather-clause-drawn
returns-in-Ok-gather-clause-drawn g c =
    let run = c.run_on-placed in
    let placed = c.in-Ok-placed.placed in
    seat_handed _ placed.seat c.in-Ok-gather.gathered.seat c.in-Ok-gather.ensures.seat
    (at_ok (λ p. HasDrawnAll (size_of (length c.args.jobs.now) (c.args.workers + 1)) p.seat) run.result.0 placed c.in-Ok-placed.is run.ensures.drawn)

-- one does not stand, or there is no memory to find out
pub returns-in-Ok-placed-clause-fault : goal.returns-in-Ok-placed-clause-fault
returns-in-Ok-placed-clause-fault g c =
    let run = c.run_on-placed in
    let reported = c.in-Err-gather.ensures in
    let fault = c.in-Err-gather.fault in
    fault_found c.args.hall run.result.1 fault.hall c.args.jobs.now fault.ends.items c.start_of-start.result fault.cause c.start_of-start.ensures
    run.ensures.gone_on run.ensures.kept run.ensures.takes reported.broken reported.cause

-- the threads were given up
pub returns-clause-fault : goal.returns-clause-fault
returns-clause-fault g c =
    given_up c.args.hall c.run_on-placed.result.1 _ c.args.jobs.now c.in-Err.fault _ _ c.run_on-placed.ensures.gone_on c.run_on-placed.ensures.kept
    c.run_on-placed.ensures.takes c.broken_off-in-Err.ensures.1 (c.broken_off-in-Err.ensures.0 ∙ c.cause.ensures)
