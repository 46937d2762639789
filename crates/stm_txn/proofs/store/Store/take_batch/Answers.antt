use Rattle.std.proofs.Common.{◌≡◌, OnErr, subst, sym}
use Rattle.stm_watch.specs.Places.{watchings}
use Rattle.stm_txn.specs.Standing.{Standing, with_watchers, poll_refused}
use Rattle.stm_txn.specs.Store.{StoreView}
use Rattle.stm_txn.specs.WatchReported.{poll_reported}
use Rattle.stm_txn.proofs.Watches.{refused_leaves}
use Rattle.stm_txn.proofs.store.Store.take_batch.Goals as goal

pub returns-clause-refused : goal.returns-clause-refused
returns-clause-refused c =
    let s : Standing = record {
      history = c.self.inside.keys.history;
      floor = c.self.inside.keys.floor;
      limit = c.self.inside.limit;
      live = c.self.inside.leases.live;
      moment = c.self.inside.moment;
      watchers = watchings c.self.inside.watchers;
    } in
    subst (λ r. OnErr r (with_watchers s (watchings c.poll-polled.new.self) ≡ poll_refused c.args.self.now.standing c.args.id)) (sym c.reported_poll.ensures)
    (subst (λ (v : StoreView). OnErr (poll_reported c.poll-polled.result) (with_watchers s (watchings c.poll-polled.new.self) ≡ poll_refused v.standing c.args.id))
    c.self.view_is (refused_leaves s c.args.id (watchings c.poll-polled.new.self) c.poll-polled.result c.poll-polled.ensures.refused))
