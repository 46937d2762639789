use Rattle.std.proofs.Common.{◌≡◌, List, Some, Result, sym, ◌∙◌, ap, subst}
use Rattle.std.specs.declared.alloc.AllocError.{AllocError}
use Rattle.stm_journal.specs.JournalState.{JournalState}
use Rattle.stm_events.specs.declared.reply.Reply.{Reply}
use Rattle.stm_events.specs.declared.refusal.Denied.{Denied}
use Rattle.stm_world.specs.World.{World, Runner, Slot, Over, runner_at, with_slot, step_runner}
use Rattle.stm_retry.specs.declared.step_outcome.StepOutcome.{StepOutcome}
use Rattle.stm_retry.specs.StepReturns.{Returns}
use Rattle.stm_retry.specs.WorldOf.{world_of}
use Rattle.stm_retry.specs.RunnerReturns.{slot_left}
use Rattle.stm_retry.proofs.StepLemmas.{outcome_reports}
use Rattle.stm_retry.proofs.kept_world.KeptWorld.step_runner.Goals as goal

pub returns : goal.returns
returns c =
    let id = c.args.id in
    let j : JournalState = c.self.inside.journal in
    let places : List Slot = c.self.inside.runners.items in
    let w : World = world_of j places in
    let r : Runner = c.in-Some.runner.runner in
    let q : Runner = c.step-reported.new.self.runner in
    let after : JournalState = c.step-reported.new.journal in
    let slots : List Slot = c.put_slot.new.slots.items in
    let reported : Result StepOutcome AllocError = c.step-reported.result in
    let new : World = world_of after slots in
    let found : runner_at id places ≡ Some r = sym c.in-Some.ensures.found in
    let put : slots ≡ with_slot id (slot_left reported q) (with_slot id Over places) =
    c.put_slot.ensures
    ∙ ap (λ (s : Slot). with_slot id s c.take_runner.new.slots.items) c.slot_after-slot.ensures
    ∙ ap (λ (l : List Slot). with_slot id (slot_left reported q) l) c.in-Some.ensures.taken in
    let reports = outcome_reports id j after places slots r q reported (runner_at id places) found found c.step-reported.ensures put in
    subst (λ (v : World). Returns c.reply_of.result v new (step_runner id (runner_at id v.runners) v)) c.self.view_is
    (subst (λ (o : Result (Result Reply Denied) AllocError). Returns o w new (step_runner id (runner_at id w.runners) w)) (sym c.reply_of.ensures) reports)
