use Rattle.std.proofs.Common.{ap, ◌∙◌}
use Rattle.stm_txn.specs.Standing.{Standing}
use Rattle.stm_retry.proofs.WatchCalls.{poll_taken, poll_refusal_reports}
use Rattle.stm_retry.proofs.watch_calls.poll.Goals as goal

pub returns-in-Ok : goal.returns-in-Ok
returns-in-Ok c =
    poll_taken c.args.journal.now c.poll.new.self c.args.watcher c.args.most c.in-Ok.batch c.in-Ok.ensures.step c.in-Ok.ensures.same

pub returns-in-Err : goal.returns-in-Err
returns-in-Err c =
    poll_refusal_reports c.args.journal.now c.poll.new.self c.args.watcher c.args.most c.floor.result c.refuse_poll.result c.in-Err.cause
    c.in-Err.ensures.step c.refuse_poll.ensures.lost c.refuse_poll.ensures.other
    (c.floor.ensures.floor ∙ ap (λ (x : Standing). x.floor) (c.store.ensures ∙ c.in-Err.ensures.refused)) c.in-Err.ensures.refused c.in-Err.ensures.same
