-- An event adds revisions to the history of a world, or raises the floor of its store.
use Rattle.std.proofs.Common.{◌≡◌, ℕ, ◌+◌, ◌-◌, ◌≤◌, ◌<◌, Bool, true, false, List, [], ◌∷◌, map, Option, Some, None, refl, sym, ◌∙◌, ap, subst, arith, length-append}
use Rattle.std.specs.List.{list_any}
use Rattle.std.proofs.lemmas.Bool.{or_parts, Decides.nat_tests}
use Rattle.stm_history.specs.declared.change.Change.{Change}
use Rattle.stm_history.specs.Opening.{Opening}
use Rattle.stm_history.specs.History.{History, now, add_revision, revisions_up_to}
use Rattle.stm_history.specs.Cut.{cut}
use Rattle.stm_history.proofs.HistoryLaws.{all_up_to}
use Rattle.stm_history.proofs.CutLaws.{cut_at_the_opening, cut_keeps_now}
use Rattle.stm_keys.specs.declared.event.Event.{Event}
use Rattle.stm_keys.specs.Events.{change_of_event, events_of}
use Rattle.stm_watch.specs.declared.watched.Watched.TheVariants.{Key, Range}
use Rattle.stm_outcome.specs.declared.refusal.Refusal.{Refusal}
use Rattle.stm_txn.specs.Standing.{Standing, kept, with_floor, floor_step}
use Rattle.stm_entries.specs.Laws.{AddsTo}
use Rattle.stm_entries.specs.Replayed.{Replayed, without_moment}
use Rattle.stm_entries.proofs.Adding.{replay_only_adds}
use Rattle.stm_events.specs.declared.event.WorldEvent.{WorldEvent}
use Rattle.stm_events.specs.declared.event.WorldEvent.TheVariants as event
use Rattle.stm_events.specs.Called.{Call, Txn, Grant, Keep, Revoke, Advance, Watch, Poll, Cancel, Compact, called}
use Rattle.stm_events.proofs.StoreKeeps.{StoreKeeps, store_keeps}
use Rattle.stm_events.specs.Replies.{store_after_call}
use Rattle.stm_world.specs.Appended.{HasAppended}
use Rattle.stm_world.specs.Sound.{IsSound}
use Rattle.stm_world.specs.Task.{Task}
use Rattle.stm_world.specs.World.{World, Runner, runner_at, start_runner, fetch, commit, step_live, step_runner, make_call, step, world_after}
use Rattle.stm_world.proofs.Appending.{events_append}
use Rattle.stm_world.proofs.Sound.{step_is_sound}
use Rattle.stm_report.specs.RunHistory.{is_compaction, history_up_to, IsBehind, IsWhole}
use Rattle.stm_report.proofs.RunRevisions.{changes_numbered, next_up_to, cut_leaves, up_to_stays}
use Rattle.stm_report.proofs.RunMade.{CanBeMade, can_be_made}

-- ---- the floor

abbrev SameFloor : Standing → Standing → Type 0
SameFloor a b = b.floor ≡ a.floor

abbrev is_quiet : Call → Bool
is_quiet (Compact revision) = false
is_quiet other = true

floors_stay : StoreKeeps (λ c. is_quiet c ≡ true) SameFloor
floors_stay = record {
  same = λ s. refl;
  joined = λ a b c first second. second ∙ first;
  changed = λ s changes. refl;
  leased = λ s live. refl;
  moved = λ s moment of. refl;
  watching = λ s keys from of. refl;
  polled = λ s id most w of found lost. refl;
  lost = λ s id most of. refl;
  cancelled = λ s id of. refl;
  raised = λ s revision of above reached. absurd (cc);
}

call_floor : (c : Call) (w : World) → is_quiet c ≡ true → SameFloor w.standing (make_call c w).next.standing
call_floor c w quiet =
    let kept : SameFloor w.standing (called w.standing c).next = store_keeps (λ c. is_quiet c ≡ true) SameFloor floors_stay w.standing c quiet in
    grind (arith, nat_tests)

start_floor : (task : Task) (w : World) → SameFloor w.standing (start_runner task w).next.standing
unfolding start_runner
start_floor task w = grind (arith, nat_tests)

live_floor : (id : ℕ) (r : Runner) (w : World) → SameFloor w.standing (step_live id r w).next.standing
unfolding step_live fetch commit
live_floor id r w = grind (arith, nat_tests)

runner_floor : (id : ℕ) (o : Option Runner) (w : World) → SameFloor w.standing (step_runner id o w).next.standing
runner_floor id None w = refl
runner_floor id (Some r) w = live_floor id r w

-- an event that is no compaction leaves the floor
event_floor : (e : WorldEvent) (w : World) → is_compaction e ≡ false → SameFloor w.standing (step e w).next.standing
event_floor (event.Start program level limit) w none = start_floor (record { program = program; level = level; limit = limit }) w
event_floor (event.Step runner) w none = runner_floor runner (runner_at runner w.runners) w
event_floor (event.Txn txn) w none = call_floor (Txn txn) w refl
event_floor (event.Grant id ttl) w none = call_floor (Grant id ttl) w refl
event_floor (event.Keep id) w none = call_floor (Keep id) w refl
event_floor (event.Revoke id) w none = call_floor (Revoke id) w refl
event_floor (event.Advance moment) w none = call_floor (Advance moment) w refl
event_floor (event.WatchKey key from) w none = call_floor (Watch (Key key) from) w refl
event_floor (event.WatchRange first end from) w none = call_floor (Watch (Range first end) from) w refl
event_floor (event.Poll watcher most) w none = call_floor (Poll watcher most) w refl
event_floor (event.Cancel watcher) w none = call_floor (Cancel watcher) w refl
event_floor (event.Compact revision) w none = absurd (cc)

pub floors : (events : List WorldEvent) (w : World) → list_any is_compaction events ≡ false → SameFloor w.standing (world_after events w).standing
floors [] w none = refl
floors (e ∷ es) w none =
    let parts = or_parts (is_compaction e) (list_any is_compaction es) none in
    floors es (step e w).next parts.1 ∙ event_floor e w parts.0

-- a compaction leaves the history
compact_by : (s : Standing) (revision : ℕ) (o : Option Refusal) → (store_after_call s (floor_step o (with_floor s revision))).history ≡ s.history
compact_by s revision None = refl
compact_by s revision (Some cause) = refl

compact_history : (e : WorldEvent) (w : World) → is_compaction e ≡ true → (step e w).next.standing.history ≡ w.standing.history
compact_history e w is = grind (arith, nat_tests, compact_by)

-- ---- the whole history

event_adds : (e : WorldEvent) (w : World) → IsSound w → AddsTo w.standing.history (step e w).next.standing.history
event_adds e w sound =
    let appended : HasAppended w (step e w).next = events_append (e ∷ []) w sound in
    subst (λ (r : Replayed). AddsTo w.standing.history r.history) appended.replays (replay_only_adds appended.more (without_moment w.standing))

floor_within : (e : WorldEvent) (w : World) (b : Bool) → is_compaction e ≡ b → IsSound w → (step e w).next.standing.floor ≤ now w.standing.history
floor_within e w true is sound =
    subst (λ (h : History). (step e w).next.standing.floor ≤ now h) (compact_history e w is) (step_is_sound e w sound).kept.reached
floor_within e w false is sound = subst (λ (n : ℕ). n ≤ now w.standing.history) (sym (event_floor e w is)) sound.kept.reached

abbrev history_of : Opening → List (List Change) → History
history_of opening revisions = record { opening = opening; revisions = revisions }

still_part : (before after : History) → AddsTo before after → before ≡ history_up_to (now before) after
still_part before after adds =
    ap (history_of before.opening) (sym (up_to_stays adds.added before.revisions before.opening (now before) (omega arith)
    ∙ all_up_to before.opening (now before) before.revisions (omega arith)))
    ∙ ap (λ (l : List (List Change)). history_of before.opening (revisions_up_to before.opening (now before) l)) (sym adds.revisions)
    ∙ ap (λ (o : Opening). history_of o (revisions_up_to o (now before) after.revisions)) (sym adds.opening)

now_grows : (before after : History) → AddsTo before after → now before ≤ now after
now_grows before after adds = grind (arith, nat_tests, length-append)

-- keys that had the whole history are behind after an event
pub behind_after : (e : WorldEvent) (w : World) (h : History) → IsWhole h w → IsBehind h (step e w).next
behind_after e w h is =
    subst (λ (g : History). IsBehind g (step e w).next) (sym is.whole)
    (let adds = event_adds e w is.sound in
    let within = floor_within e w (is_compaction e) refl is.sound in
    record {
      sound = step_is_sound e w is.sound;
      reached = now_grows w.standing.history (step e w).next.standing.history adds;
      part = still_part w.standing.history (step e w).next.standing.history adds;
      kept = omega (arith, within);
    })

-- keys that have the last revision have the whole history
pub whole_at_last : (h : History) (w : World) → IsBehind h w → now w.standing.history ≤ now h → IsWhole h w
whole_at_last h w b last = record {
  sound = b.sound;
  whole = b.part ∙ ap (history_of w.standing.history.opening) (all_up_to w.standing.history.opening (now h) w.standing.history.revisions last);
}

-- the changes of the next revision
abbrev pub next_changes : History → World → List Change
next_changes h w = changes_numbered w.standing.history.opening (now h + 1) w.standing.history.revisions

opened_within : (h : History) (w : World) → IsBehind h w → w.standing.history.opening.number ≤ now h
opened_within h w b = let same : h.opening.number ≡ w.standing.history.opening.number = ap (λ (g : History). g.opening.number) b.part in omega (arith, same)

-- they can be added
pub next_can_be_made : (h : History) (w : World) → IsBehind h w → now h < now w.standing.history → CanBeMade h (next_changes h w)
next_can_be_made h w b lacks =
    subst (λ (g : History). CanBeMade g (next_changes h w)) (sym b.part) (can_be_made w (now h) b.sound (opened_within h w b) lacks)

pub behind_next : (h : History) (w : World) → IsBehind h w → now h < now w.standing.history → IsBehind (add_revision h (next_changes h w)) w
behind_next h w b lacks =
    let k = b.kept in
    let more : now (add_revision h (next_changes h w)) ≡ now h + 1 = omega arith in
    record {
      sound = b.sound;
      reached = omega (arith, lacks);
      part = ap (λ (o : Opening). history_of o (next_changes h w ∷ h.revisions)) (ap (λ (g : History). g.opening) b.part)
          ∙ ap (λ (l : List (List Change)). history_of w.standing.history.opening (next_changes h w ∷ l)) (ap (λ (g : History). g.revisions) b.part)
          ∙ ap (history_of w.standing.history.opening)
          (sym (next_up_to w.standing.history.opening (now h) w.standing.history.revisions (opened_within h w b) lacks))
          ∙ ap (λ (n : ℕ). history_up_to n w.standing.history) (sym more);
      kept = omega (arith, k);
    }

-- what the store has kept shows them
pub next_is_kept : (h : History) (w : World) → IsBehind h w → now h < now w.standing.history →
    map change_of_event (events_of (kept w.standing).history (now h + 1)) ≡ next_changes h w
next_is_kept h w b lacks =
    let k = b.kept in
    cut_leaves (w.standing.floor - 1) w.standing.history (now h + 1) (omega (arith, k)) (omega (arith, k, lacks))

-- a store that was never compacted has kept all
pub all_kept : (s : Standing) → s.floor ≡ 0 → (kept s).history ≡ s.history
all_kept s is = ap (λ (n : ℕ). cut (n - 1) s.history) is ∙ cut_at_the_opening s.history 0 (omega arith)

-- it has the last revision too
pub kept_now : (w : World) (h : History) (n : ℕ) (s : Standing) → IsSound w → n ≡ now h → h ≡ s.history → s ≡ kept w.standing → n ≡ now w.standing.history
kept_now w h n s sound is of by =
    is ∙ ap now (of ∙ ap (λ (t : Standing). t.history) by) ∙ cut_keeps_now w.standing.history (w.standing.floor - 1) (let k = sound.kept.reached in omega (arith, k))

-- what was taken from the store
pub taken_next : (h : History) (w : World) (cs : List Change) (es : List Event) (g : History) (s : Standing) (n : ℕ) → IsBehind h w →
    now h < now w.standing.history → cs ≡ map change_of_event es → es ≡ events_of g n → n ≡ now h + 1 → g ≡ s.history → s ≡ kept w.standing →
    cs ≡ next_changes h w
taken_next h w cs es g s n b lacks are events number of by =
    are ∙ ap (map change_of_event) (events ∙ ap (events_of g) number
    ∙ ap (λ (x : History). events_of x (now h + 1)) (of ∙ ap (λ (t : Standing). t.history) by))
    ∙ next_is_kept h w b lacks
