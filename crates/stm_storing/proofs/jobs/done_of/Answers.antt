use Rattle.std.proofs.Common.{List, ap, sym, subst, string_bytes, ◌∙◌}
use Rattle.stm_history.specs.History.{now}
use Rattle.stm_txn.specs.Standing.{Standing, kept}
use Rattle.stm_world.specs.World.{World, world_after}
use Rattle.stm_journal.specs.JournalState.{made_over}
use Rattle.stm_job.specs.declared.job_end.JobEnd.{JobEnd}
use Rattle.stm_workers.specs.Gathered.{RanTo}
use Rattle.stm_storing.specs.Jobs.{AreAlikeSince, HasRunOver}
use Rattle.stm_storing.proofs.jobs.done_of.Goals as goal

-- there is a number of attempts for each end
pub written_of-written-requires : goal.written_of-written-requires
written_of-written-requires c = c.requires.ran.attempted ∙ sym c.requires.ran.places

pub returns-in-Ok-clause-ran : goal.returns-in-Ok-clause-ran
returns-in-Ok-clause-ran c =
    let written = c.in-Ok.written in
    let gathered = c.args.ran.gathered in
    let left : Standing = kept (world_after written.scenario.events c.args.world.now).standing in
    subst (λ (ends : List JobEnd). HasRunOver c.args.with_ends c.args.calls.now c.args.asked.now.sorted.jobs c.args.world.now ends (string_bytes written.lines) left)
    (sym c.ends_of-ends.ensures)
    (record {
      lost = gathered.lost.items;
      committed = gathered.committed;
      after = gathered.hall;
      ran =
          subst
          (λ (w : World). RanTo (made_over (kept w.standing)) c.args.asked.now.sorted.jobs gathered.ends.items gathered.lost.items gathered.committed gathered.hall)
          c.requires.begun c.requires.ran;
      shows = c.in-Ok.ensures.shows;
      alike =
          subst (λ (w : World). AreAlikeSince (now (kept w.standing).history) gathered.hall.standing left) c.requires.begun c.in-Ok.ensures.alike;
      leases = sym (ap (λ (w : World). w.standing.live) c.requires.begun) ∙ c.in-Ok.ensures.leases;
    })
