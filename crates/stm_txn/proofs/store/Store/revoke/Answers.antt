use Rattle.std.proofs.Common.{sym, ap}
use Rattle.stm_txn.specs.Standing.{Standing}
use Rattle.stm_txn.proofs.Ending.{ended_is, removed_log}
use Rattle.stm_txn.proofs.store.Store.revoke.Goals as goal

pub returns-clause-log : goal.returns-clause-log
returns-clause-log c = λ log stands.
    let s : Standing = c.args.self.now.standing in
    let next : Standing = c.end_lease.new.self.standing in
    removed_log s.live next.live c.args.id log (sym (ap (λ (x : Standing). x.live) (ended_is s next c.args.id c.in_ok-end_lease.ensures.ok))) stands
