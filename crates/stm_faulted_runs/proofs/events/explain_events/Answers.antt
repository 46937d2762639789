use Rattle.std.proofs.Common.{◌+◌, List, subst, arith}
use Rattle.std.proofs.lemmas.List.{drop_all}
use Rattle.std.specs.Prelude.{string_bytes}
use Rattle.stm_events.specs.declared.event.WorldEvent.{WorldEvent}
use Rattle.stm_world.specs.World.{replies_to}
use Rattle.stm_faulted_runs.specs.Lines.{faults_from, faults_reported}
use Rattle.stm_faulted_runs.specs.ReportedFaults.{reported_as}
use Rattle.stm_faulted_runs.specs.Origins.{origin_in}
use Rattle.stm_faulted_runs.proofs.LineLemmas.{HasSaid, said_step, said_all}
use Rattle.stm_faulted_runs.proofs.events.explain_events.Goals as goal

pub loop-index-preserved : goal.loop-index-preserved
loop-index-preserved c =
    let events = c.args.events.now in
    said_step (origin_in c.args.explained.now) (faults_from c.args.world.now events) (string_bytes c.args.out.now) (string_bytes c.loop-index.out)
    (string_bytes c.push_reported.new.out) events c.loop-index.index c.index-events-index.result c.loop-index.world c.take.new.world
    (reported_as c.in_ok-reported.reported) c.loop-index-test.true c.index-events-index.is c.in_ok-reported.ensures.next c.in_ok-reported.ensures.reported c.loop-index.invariant
    c.in_ok-push_reported.ensures

pub returns : goal.returns
returns c =
    let origin = origin_in c.args.explained.now in
    let events = c.args.events.now in
    let all = faults_from c.args.world.now events in
    let old = string_bytes c.args.out.now in
    let out = string_bytes c.loop-index.out in
    said_all origin all old out
    (subst (λ (es : List WorldEvent). HasSaid origin all old out (faults_reported (c.loop-index.index + 1) (replies_to es c.loop-index.world)))
    (drop_all c.loop-index.index events (omega arith)) c.loop-index.invariant)
