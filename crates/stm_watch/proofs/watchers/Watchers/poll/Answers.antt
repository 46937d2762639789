use Rattle.std.proofs.Common.{◌≡◌, ◌∙◌, ℕ, false, List, Option, None, Ok, Err, IfSome, IsSome, ap, slice_index_or, slice_set, subst, sym}
use Rattle.stm_history.specs.History.{History}
use Rattle.stm_watch.specs.declared.watched.Watcher.{Watcher}
use Rattle.stm_watch.specs.declared.refusal.PollRefusal.TheVariants.{NoWatcher, Compacted}
use Rattle.stm_watch.specs.Places.{WatchersView, is_lost, watchings}
use Rattle.stm_watch.specs.Calls.{StandAll, StandFor, poll, watcher_at, is_one_lost, after_refused, view_refused}
use Rattle.stm_watch.specs.Slots.{IsFollowed, IsPlaceOf}
use Rattle.stm_watch.proofs.Placed.{none_polled, none_lost, refused_same, seen_same, refused_cancels, seen_cancelled, lost_is, found_lost, lost_polled}
use Rattle.stm_watch.proofs.Placed.{is_followed, found_polled, polled_stand, place_refused, on_any}
use Rattle.stm_watch.proofs.Standing.{seen_at, stand_set, watchings_set}
use Rattle.stm_watch.proofs.watchers.Watchers.poll.Goals as goal

-- nobody is there

pub returns-in_default-clause-answer : goal.returns-in_default-clause-answer
returns-in_default-clause-answer c =
    let h : History = c.args.keys.now.history in
    let floor : ℕ = c.self.inside.floor in
    let table : List (Option Watcher) = c.self.inside.table in
    let none : watcher_at c.args.id table ≡ None = subst (IsPlaceOf c.args.id table) c.in_default.is c.find.ensures in
    subst (λ (v : WatchersView). poll h c.args.id c.args.most (watchings v) ≡ Err NoWatcher) c.self.view_is (none_polled h floor c.args.id c.args.most table none)

pub returns-in_default-clause-err : goal.returns-in_default-clause-err
returns-in_default-clause-err c =
    let h : History = c.args.keys.now.history in
    let floor : ℕ = c.self.inside.floor in
    let table : List (Option Watcher) = c.self.inside.table in
    let none : watcher_at c.args.id table ≡ None = subst (IsPlaceOf c.args.id table) c.in_default.is c.find.ensures in
    sym (refused_same c.args.id c.args.self.now
    (subst (λ (v : WatchersView). is_one_lost (watcher_at c.args.id (watchings v)) ≡ false) c.self.view_is (none_lost h floor c.args.id c.args.most table none)))

pub returns-in_default-clause-refused : goal.returns-in_default-clause-refused
returns-in_default-clause-refused c =
    let h : History = c.args.keys.now.history in
    let floor : ℕ = c.self.inside.floor in
    let table : List (Option Watcher) = c.self.inside.table in
    let none : watcher_at c.args.id table ≡ None = subst (IsPlaceOf c.args.id table) c.in_default.is c.find.ensures in
    sym (seen_same c.args.id (watchings c.args.self.now)
    (subst (λ (v : WatchersView). is_one_lost (watcher_at c.args.id (watchings v)) ≡ false) c.self.view_is (none_lost h floor c.args.id c.args.most table none)))

pub is_lost-requires : goal.is_lost-requires
is_lost-requires c = subst (λ (v : WatchersView). IsSome (slice_index_or v.places c.in-Some.place None)) c.self.view_is c.in-Some.ensures.2

-- a lost watcher

pub returns-then-is_lost-clause-answer : goal.returns-then-is_lost-clause-answer
returns-then-is_lost-clause-answer c =
    let h : History = c.args.keys.now.history in
    let floor : ℕ = c.self.inside.floor in
    let table : List (Option Watcher) = c.self.inside.table in
    let place : ℕ = c.in-Some.place in
    let found = lost_is floor (slice_index_or table place None) c.is_lost.result
    (subst (λ (v : WatchersView). IfSome (slice_index_or v.places place None) (λ (w : Watcher). c.is_lost.result ≡ is_lost v.floor w.first)) (sym c.self.view_is)
    c.is_lost.ensures) c.in-Some.ensures.2 in
    subst (λ (v : WatchersView). poll h c.args.id c.args.most (watchings v) ≡ Err Compacted) c.self.view_is
    (lost_polled h floor c.args.id c.args.most table place found.0 c.in-Some.ensures.0 c.in-Some.ensures.1 found.1 (found.2 ∙ c.if-is_lost.true))

pub returns-then-is_lost-clause-stand : goal.returns-then-is_lost-clause-stand
returns-then-is_lost-clause-stand c =
    let h : History = c.args.keys.now.history in
    subst (StandAll h c.self.inside.floor) (sym c.remove.ensures)
    (stand_set h c.self.inside.floor c.self.inside.table c.in-Some.place None (subst (StandFor h) (sym c.self.view_is) c.requires.stand) tt)

pub returns-then-is_lost-clause-err : goal.returns-then-is_lost-clause-err
returns-then-is_lost-clause-err c =
    let h : History = c.args.keys.now.history in
    let floor : ℕ = c.self.inside.floor in
    let table : List (Option Watcher) = c.self.inside.table in
    let place : ℕ = c.in-Some.place in
    let found = lost_is floor (slice_index_or table place None) c.is_lost.result
    (subst (λ (v : WatchersView). IfSome (slice_index_or v.places place None) (λ (w : Watcher). c.is_lost.result ≡ is_lost v.floor w.first)) (sym c.self.view_is)
    c.is_lost.ensures) c.in-Some.ensures.2 in
    let was : WatchersView = record { floor = floor; places = table } in
    let new : WatchersView = record { floor = floor; places = c.remove.new.self } in
    subst (λ (v : WatchersView). new ≡ view_refused c.args.id v) c.self.view_is
    (ap (λ (ws : List (Option Watcher)). let v : WatchersView = record { floor = floor; places = ws } in v)
    (c.remove.ensures ∙ ap (λ (k : ℕ). slice_set table k None) c.in-Some.ensures.1)
    ∙ sym (refused_cancels c.args.id was
    (found_lost h floor c.args.id c.args.most table place found.0 c.in-Some.ensures.0 c.in-Some.ensures.1 found.1 ∙ found.2 ∙ c.if-is_lost.true)))

pub returns-then-is_lost-clause-refused : goal.returns-then-is_lost-clause-refused
returns-then-is_lost-clause-refused c =
    let h : History = c.args.keys.now.history in
    let floor : ℕ = c.self.inside.floor in
    let table : List (Option Watcher) = c.self.inside.table in
    let place : ℕ = c.in-Some.place in
    let found = lost_is floor (slice_index_or table place None) c.is_lost.result
    (subst (λ (v : WatchersView). IfSome (slice_index_or v.places place None) (λ (w : Watcher). c.is_lost.result ≡ is_lost v.floor w.first)) (sym c.self.view_is)
    c.is_lost.ensures) c.in-Some.ensures.2 in
    subst (λ (v : WatchersView). seen_at floor c.remove.new.self ≡ after_refused c.args.id (watchings v)) c.self.view_is
    (ap (seen_at floor) c.remove.ensures
    ∙ watchings_set floor table place None
    ∙ ap (λ (k : ℕ). slice_set (seen_at floor table) k None) c.in-Some.ensures.1
    ∙ sym (seen_cancelled c.args.id (seen_at floor table)
    (found_lost h floor c.args.id c.args.most table place found.0 c.in-Some.ensures.0 c.in-Some.ensures.1 found.1 ∙ found.2 ∙ c.if-is_lost.true)))

-- one that is not lost

pub poll-requires-clause-stands : goal.poll-requires-clause-stands
poll-requires-clause-stands c =
    let h : History = c.args.keys.now.history in
    let floor : ℕ = c.self.inside.floor in
    let table : List (Option Watcher) = c.self.inside.table in
    let place : ℕ = c.in-Some.place in
    let found = lost_is floor (slice_index_or table place None) c.is_lost.result
    (subst (λ (v : WatchersView). IfSome (slice_index_or v.places place None) (λ (w : Watcher). c.is_lost.result ≡ is_lost v.floor w.first)) (sym c.self.view_is)
    c.is_lost.ensures) c.in-Some.ensures.2 in
    subst (λ o. IfSome o (IsFollowed h)) (sym found.1)
    (is_followed h floor c.args.id c.args.most table place found.0 c.in-Some.ensures.0 c.in-Some.ensures.1 found.1 (found.2 ∙ c.if-is_lost.false)
    (subst (StandFor h) (sym c.self.view_is) c.requires.stand))

pub returns-in_err-batch-clause-stand : goal.returns-in_err-batch-clause-stand
returns-in_err-batch-clause-stand c =
    let h : History = c.args.keys.now.history in
    let floor : ℕ = c.self.inside.floor in
    let table : List (Option Watcher) = c.self.inside.table in
    let place : ℕ = c.in-Some.place in
    let found = lost_is floor (slice_index_or table place None) c.is_lost.result
    (subst (λ (v : WatchersView). IfSome (slice_index_or v.places place None) (λ (w : Watcher). c.is_lost.result ≡ is_lost v.floor w.first)) (sym c.self.view_is)
    c.is_lost.ensures) c.in-Some.ensures.2 in
    subst (StandAll h floor) (sym (place_refused h place c.args.most table c.poll.new.self c.poll.result c.poll.ensures c.in-Some.ensures.2 _ c.in_err-batch.was))
    (subst (StandFor h) (sym c.self.view_is) c.requires.stand)

pub returns-in_err-batch-clause-err : goal.returns-in_err-batch-clause-err
returns-in_err-batch-clause-err c =
    let h : History = c.args.keys.now.history in
    let floor : ℕ = c.self.inside.floor in
    let table : List (Option Watcher) = c.self.inside.table in
    let place : ℕ = c.in-Some.place in
    let found = lost_is floor (slice_index_or table place None) c.is_lost.result
    (subst (λ (v : WatchersView). IfSome (slice_index_or v.places place None) (λ (w : Watcher). c.is_lost.result ≡ is_lost v.floor w.first)) (sym c.self.view_is)
    c.is_lost.ensures) c.in-Some.ensures.2 in
    let was : WatchersView = record { floor = floor; places = table } in
    let new : WatchersView = record { floor = floor; places = c.poll.new.self } in
    on_any c.from_residual.result
    (subst (λ (v : WatchersView). new ≡ view_refused c.args.id v) c.self.view_is
    (ap (λ (ws : List (Option Watcher)). let v : WatchersView = record { floor = floor; places = ws } in v)
    (place_refused h place c.args.most table c.poll.new.self c.poll.result c.poll.ensures c.in-Some.ensures.2 _ c.in_err-batch.was)
    ∙ sym (refused_same c.args.id was
    (found_lost h floor c.args.id c.args.most table place found.0 c.in-Some.ensures.0 c.in-Some.ensures.1 found.1 ∙ found.2 ∙ c.if-is_lost.false))))

pub returns-in_err-batch-clause-refused : goal.returns-in_err-batch-clause-refused
returns-in_err-batch-clause-refused c =
    let h : History = c.args.keys.now.history in
    let floor : ℕ = c.self.inside.floor in
    let table : List (Option Watcher) = c.self.inside.table in
    let place : ℕ = c.in-Some.place in
    let found = lost_is floor (slice_index_or table place None) c.is_lost.result
    (subst (λ (v : WatchersView). IfSome (slice_index_or v.places place None) (λ (w : Watcher). c.is_lost.result ≡ is_lost v.floor w.first)) (sym c.self.view_is)
    c.is_lost.ensures) c.in-Some.ensures.2 in
    on_any c.from_residual.result
    (subst (λ (v : WatchersView). seen_at floor c.poll.new.self ≡ after_refused c.args.id (watchings v)) c.self.view_is
    (ap (seen_at floor) (place_refused h place c.args.most table c.poll.new.self c.poll.result c.poll.ensures c.in-Some.ensures.2 _ c.in_err-batch.was)
    ∙ sym (seen_same c.args.id (seen_at floor table)
    (found_lost h floor c.args.id c.args.most table place found.0 c.in-Some.ensures.0 c.in-Some.ensures.1 found.1 ∙ found.2 ∙ c.if-is_lost.false))))

pub returns-clause-answer : goal.returns-clause-answer
returns-clause-answer c =
    let h : History = c.args.keys.now.history in
    let floor : ℕ = c.self.inside.floor in
    let table : List (Option Watcher) = c.self.inside.table in
    let place : ℕ = c.in-Some.place in
    let found = lost_is floor (slice_index_or table place None) c.is_lost.result
    (subst (λ (v : WatchersView). IfSome (slice_index_or v.places place None) (λ (w : Watcher). c.is_lost.result ≡ is_lost v.floor w.first)) (sym c.self.view_is)
    c.is_lost.ensures) c.in-Some.ensures.2 in
    subst (λ (v : WatchersView). poll h c.args.id c.args.most (watchings v)
    ≡ Ok (record { answer = c.in_ok-batch.batch; next = seen_at floor c.poll.new.self })) c.self.view_is
    (found_polled h floor c.args.id c.args.most table place found.0 c.in-Some.ensures.0 c.in-Some.ensures.1 found.1 (found.2 ∙ c.if-is_lost.false)
    (subst (StandFor h) (sym c.self.view_is) c.requires.stand) c.poll.new.self c.poll.result c.poll.ensures c.in_ok-batch.batch c.in_ok-batch.was)

pub returns-clause-stand : goal.returns-clause-stand
returns-clause-stand c =
    let h : History = c.args.keys.now.history in
    let floor : ℕ = c.self.inside.floor in
    let table : List (Option Watcher) = c.self.inside.table in
    let place : ℕ = c.in-Some.place in
    let found = lost_is floor (slice_index_or table place None) c.is_lost.result
    (subst (λ (v : WatchersView). IfSome (slice_index_or v.places place None) (λ (w : Watcher). c.is_lost.result ≡ is_lost v.floor w.first)) (sym c.self.view_is)
    c.is_lost.ensures) c.in-Some.ensures.2 in
    polled_stand h floor c.args.id c.args.most table place found.0 c.in-Some.ensures.0 c.in-Some.ensures.1 found.1 (found.2 ∙ c.if-is_lost.false)
    (subst (StandFor h) (sym c.self.view_is) c.requires.stand) c.poll.new.self c.poll.result c.poll.ensures c.in_ok-batch.batch c.in_ok-batch.was
