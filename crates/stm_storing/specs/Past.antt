-- What a store had in the past, and what has happened in it, as lines.
--
-- etcd's API reference, "Range": `revision` of a `RangeRequest`; "Watch": `start_revision` of a `WatchCreateRequest`.
use Rattle.std.specs.Prelude.{◌≡◌, ◌⊎◌, ◌<◌, ◌≤◌, ℕ, ◌+◌, ◌-◌, Bool, true, if◌then◌else◌, List, [], map, Option, None, Some, IsSome, slice_get}
use Rattle.std.specs.BTreeMap.{is_at}
use Rattle.std.specs.Cmp.Lexicographic.{slice_cmp}
use Rattle.std.specs.List.{concat, flat_map, range_with_len}
use Rattle.std.specs.List.Sorted.{IsStrictlySortedBy}
use Rattle.std.specs.Map.{keys_of, lookup}
use Rattle.std.specs.Ordering.{nat_cmp}
use Rattle.stm_history.specs.declared.key_state.KeyState.{KeyState}
use Rattle.stm_history.specs.History.{History, now, key_at}
use Rattle.stm_keys.specs.declared.event.Event.{Event}
use Rattle.stm_keys.specs.Events.{events_of, event_about, key_of_event}
use Rattle.stm_watch.specs.declared.watched.Watched.{Watched}
use Rattle.stm_watch.specs.Keys.{is_watched}
use Rattle.stm_events.specs.declared.line.ReportLine.TheVariants.{Key}
use Rattle.stm_report_lines.specs.LineData.{event_data, line_data}
use Rattle.stm_report_lines.specs.Text.{line_text}

-- whether an event is asked for: each one, where no keys are named
abbrev pub is_wanted : Option Watched → Event → Bool
is_wanted None e = true
is_wanted (Some watched) e = is_watched watched (key_of_event e)

-- the line of an event, if it is asked for
abbrev pub event_text : Option Watched → Event → List ℕ
event_text wanted e = if is_wanted wanted e then line_text (event_data e) else []

-- those of a revision
abbrev pub revision_text : Option Watched → History → ℕ → List ℕ
revision_text wanted h r = flat_map (event_text wanted) (events_of h r)

-- those from a revision on
abbrev pub text_since : Option Watched → History → ℕ → List ℕ
text_since wanted h from = flat_map (revision_text wanted h) (range_with_len from ((now h + 1) - from))

-- ---- the keys that were present at a revision

-- the state of a key among these
abbrev pub state_in : List (List ℕ × KeyState) → List ℕ → Option KeyState
state_in past key = lookup (is_at (slice_cmp nat_cmp key)) past

abbrev pub HasKey : History → ℕ → List (List ℕ × KeyState) → List ℕ → Type 0
HasKey h r past key = state_in past key ≡ key_at h key r

-- these are some of the keys that were present at a revision, each with its state then
abbrev pub IsPart : History → ℕ → List (List ℕ × KeyState) → Type 0
IsPart h r past = (key : List ℕ) → (state_in past key ≡ None) ⊎ HasKey h r past key

-- Each of these keys that was present was added with its state then, and what was there stays.
pub record Adds (h : History) (r : ℕ) (keys : List ℕ → Type 0) (old new : List (List ℕ × KeyState)) : Type 0 where
  pub ordered : IsStrictlySortedBy (slice_cmp nat_cmp) (keys_of old) → IsStrictlySortedBy (slice_cmp nat_cmp) (keys_of new)
  pub part : IsPart h r old → IsPart h r new
  pub stays : (key : List ℕ) → HasKey h r old key → HasKey h r new key
  pub has : IsPart h r old → (key : List ℕ) → keys key → HasKey h r new key

-- an event of a revision above this one, and up to that one, is about the key
abbrev pub IsChangedIn : History → ℕ → ℕ → List ℕ → Type 0
IsChangedIn h r last key = (n : ℕ) × (r < n) × (n ≤ last) × IsSome (event_about key (events_of h n))

-- a key of one of the first `bound` of these
abbrev pub StandsBelow : {X : Type 0} → (X → List ℕ) → List X → ℕ → List ℕ → Type 0
StandsBelow {X} key_of xs bound q = (j : ℕ) × (x : X) × (j < bound) × (slice_get xs j ≡ Some x) × (q ≡ key_of x)

-- exactly the keys that were present at a revision, ascending by bytes, each with its state then
pub record IsPast (h : History) (r : ℕ) (past : List (List ℕ × KeyState)) : Type 0 where
  pub ascending : IsStrictlySortedBy (slice_cmp nat_cmp) (keys_of past)
  pub each : (key : List ℕ) → HasKey h r past key

-- the line of a key in a state
abbrev pub state_text : List ℕ × KeyState → List ℕ
state_text entry = line_text (line_data (Key entry.0 entry.1))

-- the lines of the keys that were present at a revision
abbrev pub IsTextAt : History → ℕ → List ℕ → Type 0
IsTextAt h r text = (past : List (List ℕ × KeyState)) × IsPast h r past × (text ≡ concat (map state_text past))
