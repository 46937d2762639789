use Rattle.std.proofs.Common.{Result, sym, ap, subst}
use Rattle.stm_journal.specs.JournalState.{JournalState}
use Rattle.stm_events.specs.declared.event.WorldEvent.{WorldEvent}
use Rattle.stm_events.specs.declared.event.WorldEvent.TheVariants.{Start, Step}
use Rattle.stm_events.specs.declared.reply.Reply.{Reply}
use Rattle.stm_events.specs.declared.refusal.Denied.{Denied}
use Rattle.stm_world.specs.World.{World}
use Rattle.stm_retry.specs.WorldOf.{world_of}
use Rattle.stm_retry.specs.Returns.{IsStep}
use Rattle.stm_retry.specs.Kept.{compact_kept, KeptReturns}
use Rattle.stm_retry.proofs.WorldLemmas.{start_reports, step_reports}
use Rattle.stm_retry.proofs.kept_world.KeptWorld.step.Goals as goal

pub returns-in-Start : goal.returns-in-Start
returns-in-Start c =
    let old : World = c.args.self.now in
    let new : World = c.start-outcome.new.self in
    subst (λ (e : WorldEvent). KeptReturns e c.to_reply.result old new) (sym c.in-Start.is)
    (subst (λ (r : Result Reply Denied). KeptReturns (Start c.in-Start.program c.in-Start.level c.in-Start.limit) r old new) (sym c.to_reply.ensures)
    (start_reports c.in-Start.program c.in-Start.level c.in-Start.limit c.start-outcome.result old new c.start-outcome.ensures))

pub returns-in-Step : goal.returns-in-Step
returns-in-Step c =
    let old : World = c.args.self.now in
    let new : World = c.step_runner-outcome.new.self in
    subst (λ (e : WorldEvent). KeptReturns e c.to_reply-in-Step.result old new) (sym c.in-Step.is)
    (subst (λ (r : Result Reply Denied). KeptReturns (Step c.in-Step.runner) r old new) (sym c.to_reply-in-Step.ensures)
    (step_reports c.in-Step.runner c.step_runner-outcome.result old new c.step_runner-outcome.ensures))

pub returns-in-Compact : goal.returns-in-Compact
returns-in-Compact c =
    let left : JournalState → World = λ j. world_of j c.self-in-Compact.inside.runners.items in
    let new : World = left c.compact.new.journal in
    subst (λ (e : WorldEvent). KeptReturns e c.compact.result c.args.self.now new) (sym c.in-Compact.is)
    (subst (λ (w : World). IsStep (compact_kept c.in-Compact.revision w) c.compact.result new) c.self-in-Compact.view_is
    (record { reply_is = sym c.compact.ensures.reported; next_is = ap left (sym c.compact.ensures.store) }))
