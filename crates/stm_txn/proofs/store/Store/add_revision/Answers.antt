use Rattle.std.proofs.Common.{◌≡◌, ◌≤◌, ◌∙◌, sym, ap, subst, ℕ, List, map, arith}
use Rattle.stm_history.specs.declared.change.Change.{Change}
use Rattle.stm_history.specs.History.{History, now, add_revision, key_now, change_of, HasDistinctKeys}
use Rattle.stm_keys.specs.Events.{change_of_event, events_of}
use Rattle.stm_leases.specs.Leases.{Leases, lease_of}
use Rattle.stm_watch.specs.Calls.{StandFor}
use Rattle.stm_txn.specs.ChangesHeld.{changes_held}
use Rattle.stm_txn.specs.Leasing.{attaching, attached_after, attached_of, AttachedToLive}
use Rattle.stm_outcome.specs.Numbers.{LeasesFit}
use Rattle.stm_txn.specs.Store.{StoreView}
use Rattle.stm_txn.proofs.Bounding.{attached_fit}
use Rattle.stm_txn.proofs.Ending.{still_stored}
use Rattle.stm_txn.proofs.Moving.{last_changes}
use Rattle.stm_txn.proofs.store.Store.add_revision.Goals as goal

pub notify_watchers-requires : goal.notify_watchers-requires
notify_watchers-requires c =
    let more : now c.apply.new.keys.history ≡ now (add_revision c.self.inside.keys.history (changes_held c.args.changes)) = ap now c.in-Ok.ensures.ok in
    omega (arith, c.self.invariant.3, c.self.invariant.4, more)

pub move_keys-requires-clause-distinct : goal.move_keys-requires-clause-distinct
move_keys-requires-clause-distinct c =
    let h : History = c.self.inside.keys.history in
    let cs : List Change = changes_held c.args.changes in
    let shown : map change_of_event c.last_events.result.now ≡ cs =
    ap (map change_of_event) c.last_events.ensures ∙ ap (λ (x : History). map change_of_event (events_of x (now x))) c.in-Ok.ensures.ok
    ∙ last_changes h cs in
    subst HasDistinctKeys (sym shown) c.requires.revision.1

pub move_keys-requires-clause-attaches : goal.move_keys-requires-clause-attaches
move_keys-requires-clause-attaches c =
    let h : History = c.self.inside.keys.history in
    let cs : List Change = changes_held c.args.changes in
    let shown : map change_of_event c.last_events.result.now ≡ cs =
    ap (map change_of_event) c.last_events.ensures ∙ ap (λ (x : History). map change_of_event (events_of x (now x))) c.in-Ok.ensures.ok
    ∙ last_changes h cs in
    c.in_ok-attaches.ensures ∙ ap attached_of c.as_slice.ensures ∙ ap attached_of (sym shown)

pub invariant_of-self-2 : goal.invariant_of-self-2
invariant_of-self-2 c =
    let h : History = c.self.inside.keys.history in
    let cs : List Change = changes_held c.args.changes in
    let shown : map change_of_event c.last_events.result.now ≡ cs =
    ap (map change_of_event) c.last_events.ensures ∙ ap (λ (x : History). map change_of_event (events_of x (now x))) c.in-Ok.ensures.ok
    ∙ last_changes h cs in
    subst (λ (next : History). ((key : List ℕ) → lease_of c.move_keys.new.leases key ≡ attaching (key_now next key)) × LeasesFit next
    × StandFor next c.notify_watchers.new.watchers × (c.notify_watchers.new.watchers.floor ≡ c.apply.new.keys.floor) × (c.apply.new.keys.floor ≤ now next))
    (sym c.in-Ok.ensures.ok) (
      λ key.
          still_stored h cs key (lease_of c.reserve_attach.new.self key) (lease_of c.move_keys.new.leases key)
          (ap (λ (s : Leases). lease_of s key) c.in_ok-reserve_attach.ensures.ok ∙ c.self.invariant.0 key)
          (c.move_keys.ensures.keys key
          ∙ ap (λ (l : List Change). attached_after (change_of key l) (lease_of c.reserve_attach.new.self key)) shown),
      (
        c.self.invariant.1.0,
        (
          attached_fit c.self.inside.leases.live cs c.ids_are_in_range.ensures
              (subst (λ (s : StoreView). AttachedToLive s.standing.live (attached_of cs)) (sym c.self.view_is) c.requires.live),
          c.self.invariant.1.1,
        ),
      ),
      subst (λ (x : History). StandFor x c.notify_watchers.new.watchers) c.in-Ok.ensures.ok
          (c.notify_watchers.ensures.stand h cs c.in-Ok.ensures.ok c.self.invariant.2),
      c.notify_watchers.ensures.floor
          ∙ c.self.invariant.3
          ∙ sym c.in-Ok.ensures.kept.1,
      omega (arith, c.self.invariant.4, c.in-Ok.ensures.kept.1),
    )
