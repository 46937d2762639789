-- Reading events one after the other, as a loop does.
use Rattle.std.proofs.Common.{◌≡◌, ℕ, ◌+◌, ◌<◌, List, [], ◌∷◌, ◌++◌, length, drop, get_or, Ok, arith}
use Rattle.std.proofs.lemmas.List.{append-nil}
use Rattle.std.proofs.lemmas.Bool.Decides.{nat_tests}
use Rattle.serde_json.specs.View.{view, items_view}
use Rattle.serde_json.specs.declared.value.Value.{Value}
use Rattle.stm_json.proofs.ListLemmas.{with_front, regroup, one_more}
use Rattle.stm_events.specs.declared.event.WorldEvent.{WorldEvent}
use Rattle.stm_json.specs.declared.read_error.ReadError.{ReadError}
use Rattle.stm_json.specs.Outcome.{Outcome, within}
use Rattle.stm_json.specs.Returns.{ReturnsFault}
use Rattle.stm_texts.specs.Reading.{event_after, events_from}

pub goes_on : (first : ℕ) (front : List WorldEvent) (vs : List Value) (i : ℕ) (v : Value) (e : WorldEvent) (total : Outcome (List WorldEvent))
    → i < length vs → v ≡ get_or vs i v → within (first + i) (event_after i (view v)) ≡ Ok e
    → with_front front (events_from first i (items_view (drop i vs))) ≡ total
    → with_front (front ++ e ∷ []) (events_from first (i + 1) (items_view (drop (i + 1) vs))) ≡ total
unfolding events_from
goes_on first front vs i v e total lt at is so_far = grind (arith, nat_tests, with_front, one_more, regroup)

pub ends : (e : ReadError) (first : ℕ) (front : List WorldEvent) (vs : List Value) (i : ℕ) (v : Value) (total : Outcome (List WorldEvent))
    → i < length vs → v ≡ get_or vs i v → ReturnsFault e (within (first + i) (event_after i (view v)))
    → with_front front (events_from first i (items_view (drop i vs))) ≡ total → ReturnsFault e total
unfolding events_from
ends e first front vs i v total lt at is so_far = grind (arith, nat_tests, with_front, one_more)

pub is_done : (first : ℕ) (front : List WorldEvent) (vs : List Value) (i : ℕ) (total : Outcome (List WorldEvent))
    → drop i vs ≡ [] → with_front front (events_from first i (items_view (drop i vs))) ≡ total → total ≡ Ok front
unfolding events_from
is_done first front vs i total h so_far = grind (arith, nat_tests, with_front, append-nil)
