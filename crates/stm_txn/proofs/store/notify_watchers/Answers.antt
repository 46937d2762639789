use Rattle.std.proofs.Common.{◌≤◌, subst, sym}
use Rattle.stm_txn.proofs.Touching.{reported_of_it}
use Rattle.stm_txn.proofs.store.notify_watchers.Goals as goal

pub touched-requires : goal.touched-requires
touched-requires c = subst (λ n. c.args.watchers.now.floor ≤ n) (sym c.revision.ensures.value) c.requires

pub returns-clause-stand : goal.returns-clause-stand
returns-clause-stand c =
    reported_of_it c.args.keys.now.history c.revision.result c.last_events.result.now c.args.watchers.now c.touched.new.self c.touched.ensures.stand
    c.revision.ensures.value c.last_events.ensures
