-- What the store reports of its watchers' answers.
use Rattle.std.proofs.Common.{◌≡◌, ℕ, List, Option, Result, OnErr, arith}
use Rattle.std.proofs.lemmas.Bool.Decides.{nat_tests}
use Rattle.stm_watch.specs.declared.watched.Watched.{Watched}
use Rattle.stm_watch.specs.declared.watchers.Batch.{Batch}
use Rattle.stm_watch.specs.declared.refusal.WatchRefusal.{WatchRefusal}
use Rattle.stm_watch.specs.declared.refusal.PollRefusal.{PollRefusal}
use Rattle.stm_watch.specs.Watching.{Watching}
use Rattle.stm_watch.specs.Calls.{watch, WatchReturns, after_refused}
use Rattle.stm_txn.specs.Standing.{Standing, Returns, with_watchers, watched, poll_refused}
use Rattle.stm_txn.specs.WatchReported.{watch_reported, poll_reported}

-- a watch
pub watch_reports : (s : Standing) (keys : Watched) (from : ℕ) (r : Result ℕ WatchRefusal) (next : List (Option Watching)) →
    WatchReturns (watch s.history s.floor keys from s.watchers) r next → Returns (watched s keys from) (watch_reported r) (with_watchers s next)
watch_reports s keys from r next reports = grind (arith, nat_tests)

-- a poll that was refused
pub refused_leaves : (s : Standing) (id : ℕ) (next : List (Option Watching)) (r : Result Batch PollRefusal) → OnErr r (next ≡ after_refused id s.watchers)
    → OnErr (poll_reported r) (with_watchers s next ≡ poll_refused s id)
refused_leaves s id next r left = grind (arith, nat_tests)
