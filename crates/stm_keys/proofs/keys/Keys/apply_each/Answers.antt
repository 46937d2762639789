use Rattle.std.proofs.Common.{◌≡◌, ℕ, ◌+◌, ◌≤◌, ◌∙◌, sym, ap, subst, arith, length, map, reverse, is_some, Bool, List, Option}
use Rattle.std.specs.List.{AllByRecursion}
use Rattle.std.proofs.lemmas.List.{length-map, length_push}
use Rattle.indexmap.specs.IndexMap.{get_by_text}
use Rattle.stm_history.specs.declared.change.Change.{Change}
use Rattle.stm_history.specs.declared.key_state.KeyState.{KeyState}
use Rattle.stm_history.specs.Opening.{Opening}
use Rattle.stm_history.specs.History.{History, now, key_now, key_after, add_revision}
use Rattle.stm_keys.specs.declared.event.Event.{Event}
use Rattle.stm_keys.specs.Events.{change_of_event, event_of, event_about, AreApart}
use Rattle.stm_keys.specs.Keys.{Contents, IsKept, changes_of}
use Rattle.stm_keys.specs.Chains.{Chain, Versions, versions_in, StandFirst, names_of, opening_of}
use Rattle.stm_keys.specs.Runs.{SumsUp}
use Rattle.stm_keys.proofs.Recorded.{events_apart}
use Rattle.stm_keys.proofs.Fields.{pushed}
use Rattle.stm_keys.proofs.Ranges.{summed_with}
use Rattle.stm_keys.proofs.Order.{names_long}
use Rattle.stm_keys.proofs.Walked.{unchanged_key, view_kept, on_any, kept_with_room, first_after, no_version_absent, opening_kept, before_with}
use Rattle.stm_keys.proofs.keys.Keys.apply_each.Goals as goal

pub add_recorded-requires-clause-apart : goal.add_recorded-requires-clause-apart
add_recorded-requires-clause-apart c =
    subst AreApart (sym c.in_ok-events.ensures)
    (events_apart (now c.args.self.now.history + 1) (key_now c.args.self.now.history) c.args.changes.items c.requires.revision.1)

pub add_recorded-requires-clause-bound : goal.add_recorded-requires-clause-bound
add_recorded-requires-clause-bound c = omega (arith, c.self.invariant.1.within, names_long c.self.inside.chains)

-- a refused growth leaves the revisions, and at most keys without a version
pub returns-in_err-add_recorded-clause-err : goal.returns-in_err-add_recorded-clause-err
returns-in_err-add_recorded-clause-err c =
    let opening : Opening = opening_of c.self.inside.below c.self.inside.chains in
    let recorded : List (List Event) = reverse c.self.inside.revisions.items in
    on_any c.from_residual-in_err-add_recorded.result
    (view_kept opening (opening_of c.self.inside.below c.add_recorded.new.chains) c.self.inside.opened c.self.inside.floor
    c.self.inside.revisions.items c.add_recorded.new.revisions.items (names_of c.self.inside.chains)
    (names_of c.add_recorded.new.chains) c.args.self.now
    (opening_kept c.self.inside.chains c.add_recorded.new.chains c.self.inside.below
    (λ key. ap (λ (v : Versions). v.before) (c.in_err-add_recorded.ensures.same key)))
    c.in_err-add_recorded.ensures.err
    (c.in_err-add_recorded.ensures.kept.listed (λ key. key_after opening key (changes_of recorded))
    (λ key none. unchanged_key opening recorded (get_by_text c.self.inside.chains) key c.self.invariant.0 none))
    c.self.view_is)

pub invariant_of-self : goal.invariant_of-self
invariant_of-self c =
    let opening : Opening = opening_of c.self.inside.below c.self.inside.chains in
    let xs : List (List Event) = c.self.inside.revisions.items in
    let next : List ℕ → Option Chain = get_by_text c.add_recorded.new.chains in
    let names : List (List ℕ) = names_of c.add_recorded.new.chains in
    let present : List ℕ → Bool = λ key. is_some (key_after opening key (changes_of (reverse xs))) in
    subst (λ (o : Opening). IsKept o (reverse c.add_recorded.new.revisions.items) next
    × StandFirst (λ key. is_some (key_after o key (changes_of (reverse c.add_recorded.new.revisions.items)))) c.add_recorded.new.present names
    × (c.self.inside.floor ≤ c.self.inside.below + length c.add_recorded.new.revisions.items)
    × AllByRecursion (SumsUp c.self.inside.below c.add_recorded.new.revisions.items) c.self.inside.runs)
    (sym (opening_kept c.self.inside.chains c.add_recorded.new.chains c.self.inside.below
    (λ key. ap (λ (v : Versions). v.before) (c.in_err-add_recorded.ensures.same key))))
    (subst (λ (l : List (List Event)). IsKept opening (reverse l) next
    × StandFirst (λ key. is_some (key_after opening key (changes_of (reverse l)))) c.add_recorded.new.present names
    × (c.self.inside.floor ≤ c.self.inside.below + length l)
    × AllByRecursion (SumsUp c.self.inside.below l) c.self.inside.runs)
    (sym c.in_err-add_recorded.ensures.err) (
      kept_with_room opening (reverse xs) (get_by_text c.self.inside.chains) next c.self.invariant.0 c.in_err-add_recorded.ensures.same,
      subst (λ n. StandFirst present n names) (sym c.in_err-add_recorded.ensures.count)
          (c.in_err-add_recorded.ensures.kept.first present c.self.inside.present
          (λ key none. no_version_absent opening (reverse xs) (get_by_text c.self.inside.chains) key c.self.invariant.0 none) c.self.invariant.1),
      c.self.invariant.2,
      c.self.invariant.3,
    ))

pub invariant_of-self-2 : goal.invariant_of-self-2
invariant_of-self-2 c =
    let opening : Opening = opening_of c.self.inside.below c.self.inside.chains in
    let xs : List (List Event) = c.self.inside.revisions.items in
    let ys : List (List Event) = c.add_recorded.new.revisions.items in
    let state : List ℕ → Option KeyState = key_now c.args.self.now.history in
    let before : c.revision-before.result ≡ opening.number + length (changes_of (reverse xs)) =
    c.revision-before.ensures.value ∙ sym (ap (λ (v : Contents). now v.history) c.self.view_is) in
    let count : length (changes_of (reverse xs)) ≡ length (reverse xs) = length-map (reverse xs) (map change_of_event) in
    let next : List ℕ → Option Chain = get_by_text c.add_recorded.new.chains in
    let added = pushed opening (c.revision-before.result + 1) xs ys (get_by_text c.self.inside.chains) next
    state c.args.changes.items c.in_ok-events.events c.self.invariant.0
    (omega (arith, before, count))
    (omega (arith, c.revision-before.ensures.bounded, c.if-before-eq-HIGHEST_REVISION.false))
    c.requires.revision
    (λ key. sym (ap (λ (v : Contents). key_now v.history key) c.self.view_is))
    (c.in_ok-events.ensures ∙ ap (λ n. map (event_of (n + 1) state) c.args.changes.items) (sym c.revision-before.ensures.value))
    c.in_ok-add_recorded.ensures.reported
    c.in_ok-add_recorded.ensures.recorded in
    let present : List ℕ → Bool = λ key. is_some (key_after opening key (changes_of (reverse xs))) in
    subst (λ (o : Opening). IsKept o (reverse ys) next
    × StandFirst (λ key. is_some (key_after o key (changes_of (reverse ys)))) c.add_recorded.new.present (names_of c.add_recorded.new.chains)
    × (c.self.inside.floor ≤ c.self.inside.below + length ys)
    × AllByRecursion (SumsUp c.self.inside.below ys) c.self.inside.runs)
    (sym (opening_kept c.self.inside.chains c.add_recorded.new.chains c.self.inside.below
    (λ key. ap (λ (v : Versions). v.before) (c.in_ok-add_recorded.ensures.reported key)
    ∙ before_with (is_some (event_about key c.in_ok-events.events)) (c.revision-before.result + 1) (versions_in (get_by_text c.self.inside.chains key))))) (
      added.0,
      first_after opening xs ys (get_by_text c.self.inside.chains) next c.in_ok-events.events c.add_recorded.new.present
          (names_of c.add_recorded.new.chains) c.self.invariant.0 added.0 c.in_ok-add_recorded.ensures.recorded
          (c.in_ok-add_recorded.ensures.first present
          (λ key none. no_version_absent opening (reverse xs) (get_by_text c.self.inside.chains) key c.self.invariant.0 none) c.self.invariant.1),
      (let long : length ys ≡ length xs + 1 = ap (λ (l : List (List Event)). length l) c.in_ok-add_recorded.ensures.recorded
          ∙ length_push xs c.in_ok-events.events in
          omega (arith, c.self.invariant.2, long)),
      summed_with c.self.inside.below xs ys c.in_ok-events.events c.self.inside.runs c.in_ok-add_recorded.ensures.recorded c.self.invariant.3,
    )

pub returns-clause-ok : goal.returns-clause-ok
returns-clause-ok c =
    let opening : Opening = opening_of c.self.inside.below c.self.inside.chains in
    let xs : List (List Event) = c.self.inside.revisions.items in
    let state : List ℕ → Option KeyState = key_now c.args.self.now.history in
    let before : c.revision-before.result ≡ opening.number + length (changes_of (reverse xs)) =
    c.revision-before.ensures.value ∙ sym (ap (λ (v : Contents). now v.history) c.self.view_is) in
    let count : length (changes_of (reverse xs)) ≡ length (reverse xs) = length-map (reverse xs) (map change_of_event) in
    let added = pushed opening (c.revision-before.result + 1) xs c.add_recorded.new.revisions.items (get_by_text c.self.inside.chains)
    (get_by_text c.add_recorded.new.chains) state c.args.changes.items c.in_ok-events.events c.self.invariant.0
    (omega (arith, before, count))
    (omega (arith, c.revision-before.ensures.bounded, c.if-before-eq-HIGHEST_REVISION.false))
    c.requires.revision
    (λ key. sym (ap (λ (v : Contents). key_now v.history key) c.self.view_is))
    (c.in_ok-events.ensures ∙ ap (λ n. map (event_of (n + 1) state) c.args.changes.items) (sym c.revision-before.ensures.value))
    c.in_ok-add_recorded.ensures.reported
    c.in_ok-add_recorded.ensures.recorded in
    ap (λ (o : Opening). let h : History = record { opening = o; revisions = changes_of (reverse c.add_recorded.new.revisions.items) } in h)
    (opening_kept c.self.inside.chains c.add_recorded.new.chains c.self.inside.below
    (λ key. ap (λ (v : Versions). v.before) (c.in_ok-add_recorded.ensures.reported key)
    ∙ before_with (is_some (event_about key c.in_ok-events.events)) (c.revision-before.result + 1) (versions_in (get_by_text c.self.inside.chains key))))
    ∙ ap (λ (l : List (List Change)). let h : History = record { opening = opening; revisions = l } in h) added.1
    ∙ ap (λ (v : Contents). add_revision v.history c.args.changes.items) c.self.view_is
