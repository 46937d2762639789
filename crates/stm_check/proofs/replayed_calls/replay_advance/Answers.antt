use Rattle.std.proofs.Common.{◌∙◌, List, Ok, Err, refl, sym, ap}
use Rattle.stm_outcome.specs.declared.advance.Expired.{Expired}
use Rattle.stm_events.specs.declared.reply.Reply.TheVariants.{Advanced}
use Rattle.stm_events.specs.Replies.{event_refusal}
use Rattle.stm_events.specs.Called.{Advance, Called, come_up}
use Rattle.stm_check.proofs.CallLemmas.{taken, tested, cut_short}
use Rattle.stm_check.proofs.replayed_calls.replay_advance.Goals as goal

pub returns-in-Ok : goal.returns-in-Ok
returns-in-Ok c =
    let next = c.advance.new.self.standing in
    let is_tested = taken c.is_reply.result c.args.store.now.standing next (Advance c.args.moment) (Ok (Advanced c.args.moment c.of-expired.result)) c.args.reply.now
    (record { asks = λ x same. same; leaves = refl; few = tt })
    (ap (come_up c.args.moment) c.in-Ok.ensures.ok
    ∙ ap (λ (es : List Expired). let d : Called = record { reply = Ok (Advanced c.args.moment es); next = next } in d) (sym c.of-expired.ensures))
    c.is_reply.ensures in
    record { right = is_tested.0; next = is_tested.1 }

pub returns-in-Err : goal.returns-in-Err
returns-in-Err c =
    let s = c.args.store.now.standing in
    let next = c.advance.new.self.standing in
    let d = c.in-Err.refused in
    let is_tested = tested c.is_cut_short.result s next (Advance c.args.moment) (Err (record { cause = event_refusal d.cause; expired = d.expired })) c.args.reply.now
    (record { asks = λ x same. same; leaves = refl; few = tt })
    (λ other. ap (come_up c.args.moment) (cut_short s next c.args.moment d.expired d.cause c.in-Err.ensures.refused other)) c.is_cut_short.ensures.memory
    c.is_cut_short.ensures.replied in
    record { right = is_tested.0; next = is_tested.1 }
