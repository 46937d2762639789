use Rattle.std.proofs.Common.{◌≡◌, [], drop, arith}
use Rattle.std.proofs.lemmas.List.{drop_all}
use Rattle.std.proofs.lemmas.Result.{err_from_is_err_and}
use Rattle.serde_json.specs.View.{items_view}
use Rattle.stm_texts.specs.Reading.{events_from}
use Rattle.stm_texts.proofs.EventLemmas.{goes_on, ends, is_done}
use Rattle.stm_texts.proofs.events.events.Goals as goal

pub returns-in_err-event : goal.returns-in_err-event
returns-in_err-event c =
    let p = err_from_is_err_and c.from_residual.result c.from_residual.ensures.1 in
    rw (p.1, p.2) (ends c.in_err-event.field-0.0 c.args.first c.loop-before.events.items c.args.values.now c.loop-before.before c.index-values-before.result
    (events_from c.args.first 0 (items_view c.args.values.now)) c.loop-before-test.true c.index-values-before.is c.in_err-event.ensures c.loop-before.invariant)

pub loop-before-preserved : goal.loop-before-preserved
loop-before-preserved c =
    rw c.in_ok-push.ensures.items (goes_on c.args.first c.loop-before.events.items c.args.values.now c.loop-before.before
    c.index-values-before.result c.in_ok-event.event
    (events_from c.args.first 0 (items_view c.args.values.now)) c.loop-before-test.true c.index-values-before.is c.in_ok-event.ensures c.loop-before.invariant)

pub returns : goal.returns
returns c =
    let none : drop c.loop-before.before c.args.values.now ≡ [] = drop_all c.loop-before.before c.args.values.now (omega arith) in
    is_done c.args.first c.loop-before.events.items c.args.values.now c.loop-before.before
    (events_from c.args.first 0 (items_view c.args.values.now)) none c.loop-before.invariant
