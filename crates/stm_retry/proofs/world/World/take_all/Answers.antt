use Rattle.std.proofs.Common.{◌≡◌, ◌+◌, ◌<◌, List, ◌++◌, length, drop, sym, ◌∙◌, ap, arith, length-drop, Result, false, true, subst}
use Rattle.stm_outcome.specs.declared.advance.Expired.{Expired}
use Rattle.stm_events.specs.declared.event.WorldEvent.{WorldEvent}
use Rattle.stm_events.specs.declared.reply.Reply.{Reply}
use Rattle.stm_events.specs.declared.refusal.Denied.{Denied}
use Rattle.stm_world.specs.World.{World, step, replies_to}
use Rattle.stm_retry.specs.Returns.{IsStep, IsRunStop, ran_out}
use Rattle.stm_retry.proofs.WorldLemmas.{taken, stops_at, replies_step, rest_step, reached_step}
use Rattle.stm_retry.proofs.world.World.take_all.Goals as goal

pub loop-event-preserved : goal.loop-event-preserved
loop-event-preserved c =
    let events : List WorldEvent = c.args.events.now in
    let i = c.loop-event.event-index in
    let e : WorldEvent = c.event-item.result in
    let w : World = c.loop-event.self in
    let next : World = c.step-reply.new.self in
    let reply : Result Reply Denied = c.step-reply.result in
    let within : i < length events = omega arith in
    let want : ran_out reply ≡ false = sym c.is_out_of_memory.ensures ∙ c.if-is_out_of_memory.false in
    let s : IsStep (step e w) reply next = taken e reply w next want c.step-reply.ensures.reported in
    record {
      counted = omega arith;
      room = omega (arith, length-drop i events, length-drop (i + 1) events);
      reported = ap (λ (l : List (Result Reply Denied)). l ++ replies_to (drop (i + 1) events) next) c.push_reserved.ensures.items
          ∙ replies_step events i e w next reply c.loop-event.replies.items within c.event-item.is s ∙ c.loop-event.invariant.reported;
      rest = rest_step events i e w next reply within c.event-item.is s ∙ c.loop-event.invariant.rest;
      reached = reached_step events i e w next c.args.self.now reply within c.event-item.is s c.loop-event.invariant.reached;
    }

pub returns-then-is_out_of_memory-clause-stopped : goal.returns-then-is_out_of_memory-clause-stopped
returns-then-is_out_of_memory-clause-stopped c =
    let events : List WorldEvent = c.args.events.now in
    let i = c.loop-event.event-index in
    let reply : Result Reply Denied = c.step-reply.result in
    let within : i < length events = omega arith in
    let want : ran_out reply ≡ true = sym c.is_out_of_memory.ensures ∙ c.if-is_out_of_memory.true in
    let counted : c.loop-event.done ≡ i = c.loop-event.invariant.counted in
    subst (λ n. IsRunStop events n c.expired_of.result c.args.self.now c.step-reply.new.self) (sym counted)
    (subst (λ (es : List Expired). IsRunStop events i es c.args.self.now c.step-reply.new.self) (sym c.expired_of.ensures)
    (stops_at events i c.event-item.result c.loop-event.self c.step-reply.new.self c.args.self.now reply within c.event-item.is
    c.loop-event.invariant.reached want c.step-reply.ensures.reported))
