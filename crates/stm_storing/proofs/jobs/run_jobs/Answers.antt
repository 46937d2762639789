use Rattle.std.proofs.Common.{List, map, string_bytes, subst, ap, ◌∙◌}
use Rattle.std.proofs.lemmas.Result.{IfOk-weaker}
use Rattle.stm_txn.specs.Standing.{kept}
use Rattle.stm_events.specs.declared.event.WorldEvent.{WorldEvent}
use Rattle.stm_world.specs.World.{world_after}
use Rattle.stm_storing.specs.Jobs.{event_of, HasRunOver}
use Rattle.stm_storing.proofs.jobs.run_jobs.Goals as goal

pub returns-clause-ran : goal.returns-clause-ran
returns-clause-ran g c =
    IfOk-weaker c.done_of.result _ _
    (λ done ran.
    subst
    (λ (calls : List WorldEvent). HasRunOver c.args.with_ends calls c.args.asked.now.sorted.jobs c.args.world.now done.ends (string_bytes done.written.lines)
    (kept (world_after done.written.scenario.events c.args.world.now).standing))
    (c.deref-2.ensures.value ∙ c.in_ok-calls.ensures ∙ ap (map event_of) c.as_slice.ensures) ran)
    c.done_of.ensures.ran
