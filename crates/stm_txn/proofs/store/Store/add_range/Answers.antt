use Rattle.std.proofs.Common.{ℕ, subst, sym}
use Rattle.stm_watch.specs.declared.watched.Watched.TheVariants.{Range}
use Rattle.stm_watch.specs.Places.{watchings}
use Rattle.stm_watch.specs.Calls.{watch, WatchReturns}
use Rattle.stm_txn.specs.Standing.{Standing, Returns, watched, with_watchers}
use Rattle.stm_txn.specs.Store.{StoreView}
use Rattle.stm_txn.proofs.Watches.{watch_reports}
use Rattle.stm_txn.proofs.store.Store.add_range.Goals as goal

pub returns-clause-step : goal.returns-clause-step
returns-clause-step c =
    let s : Standing = record {
      history = c.self.inside.keys.history;
      floor = c.self.inside.keys.floor;
      limit = c.self.inside.limit;
      live = c.self.inside.leases.live;
      moment = c.self.inside.moment;
      watchers = watchings c.self.inside.watchers;
    } in
    subst (λ (v : StoreView). Returns (watched v.standing (Range c.args.first.now c.args.end.now) c.args.from) c.reported_watch.result (with_watchers s (watchings c.watch_range-watched.new.self)))
    c.self.view_is
    (subst (λ r. Returns (watched s (Range c.args.first.now c.args.end.now) c.args.from) r (with_watchers s (watchings c.watch_range-watched.new.self))) (sym c.reported_watch.ensures)
    (watch_reports s (Range c.args.first.now c.args.end.now) c.args.from c.watch_range-watched.result (watchings c.watch_range-watched.new.self)
    (subst (λ (n : ℕ). WatchReturns (watch s.history n (Range c.args.first.now c.args.end.now) c.args.from s.watchers) c.watch_range-watched.result (watchings c.watch_range-watched.new.self))
    c.self.invariant.3 c.watch_range-watched.ensures.answer)))
