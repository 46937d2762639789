-- Watchers that are notified of the last revision stand for the history with it.
use Rattle.std.proofs.Common.{◌≡◌, ◌∙◌, ℕ, ◌+◌, List, map, sym, ap, subst, arith}
use Rattle.stm_history.specs.declared.change.Change.{Change}
use Rattle.stm_history.specs.History.{History, now, add_revision}
use Rattle.stm_keys.specs.declared.event.Event.{Event}
use Rattle.stm_keys.specs.Events.{change_of_event, events_of}
use Rattle.stm_watch.specs.Places.{WatchersView}
use Rattle.stm_watch.specs.Calls.{StandFor}
use Rattle.stm_txn.proofs.Moving.{last_changes}

pub reported_of_it : (next : History) (revision : ℕ) (events : List Event) (before after : WatchersView) →
    ((h : History) → StandFor h before → revision ≡ now h + 1 → StandFor (add_revision h (map change_of_event events)) after) →
    revision ≡ now next → events ≡ events_of next (now next) →
    (h : History) (changes : List Change) → next ≡ add_revision h changes → StandFor h before → StandFor next after
reported_of_it next revision events before after stand counter last h changes is before_it =
    let shown : map change_of_event events ≡ changes =
    ap (map change_of_event) last ∙ ap (λ (x : History). map change_of_event (events_of x (now x))) is ∙ last_changes h changes in
    let numbered : revision ≡ now h + 1 = counter ∙ ap now is ∙ omega arith in
    subst (λ (x : History). StandFor x after) (sym is)
    (subst (λ (cs : List Change). StandFor (add_revision h cs) after) shown (stand h before_it numbered))
