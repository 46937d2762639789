use Rattle.std.proofs.Common.{◌+◌, ◌<◌, List, ◌++◌, length, drop, sym, ◌∙◌, ap, arith, Result}
use Rattle.stm_events.specs.declared.event.WorldEvent.{WorldEvent}
use Rattle.stm_events.specs.declared.reply.Reply.{Reply}
use Rattle.stm_events.specs.declared.refusal.Denied.{Denied}
use Rattle.stm_world.specs.World.{World, step, replies_to}
use Rattle.stm_retry.specs.Returns.{IsStep}
use Rattle.stm_retry.proofs.WorldLemmas.{replies_step, rest_step}
use Rattle.stm_report.proofs.run_history.run_with_history.Goals as goal

pub loop-event-preserved : goal.loop-event-preserved
loop-event-preserved c =
    let events : List WorldEvent = c.args.events.now in
    let i = c.loop-event.event-index in
    let e : WorldEvent = c.event-item.result in
    let w : World = c.loop-event.world in
    let next : World = c.take_event.new.world in
    let reply : Result Reply Denied = c.in_ok-take_event.field-0 in
    let within : i < length events = omega arith in
    let s : IsStep (step e w) reply next = record { reply_is = sym c.in_ok-take_event.ensures.reply; next_is = sym c.in_ok-take_event.ensures.world } in
    record {
      reported = ap (λ (l : List (Result Reply Denied)). l ++ replies_to (drop (i + 1) events) next) c.in_ok-push.ensures.items
          ∙ replies_step events i e w next reply c.loop-event.replies.items within c.event-item.is s ∙ c.loop-event.invariant.reported;
      rest = rest_step events i e w next reply within c.event-item.is s ∙ c.loop-event.invariant.rest;
      whole = c.in_ok-take_event.ensures.whole;
    }
