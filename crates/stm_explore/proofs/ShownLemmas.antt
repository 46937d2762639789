-- Keys with the values that they have.
use Rattle.std.proofs.Common.{◌≡◌, ◌∙◌, ◌-◌, ◌≤◌, List, ℕ, map, Option, ap, arith}
use Rattle.stm_history.specs.declared.key_state.KeyState.{KeyState}
use Rattle.stm_history.specs.History.{History, now, key_now, value_of}
use Rattle.stm_txn.specs.PresentKeys.{keys_present}
use Rattle.stm_txn.specs.Standing.{Standing, kept}
use Rattle.stm_compaction.proofs.Alike.{IsAlike, cut_is_alike}
use Rattle.stm_compaction.proofs.Present.{present_in_cut}
use Rattle.stm_schedules.specs.Outcomes.{state_shown}
use Rattle.stm_schedules.specs.declared.outcome.KeyValue.{KeyValue}

-- a key with the value that it has
abbrev pub shown_of : History → List ℕ → KeyValue
shown_of h key = record { key = key; value = value_of (key_now h key) }

-- the keys that a state has, with their values
abbrev shown_in : (List ℕ → Option KeyState) → List (List ℕ) → List KeyValue
shown_in state keys = map (λ key. (let kv : KeyValue = record { key = key; value = value_of (state key) } in kv)) keys

-- what a store that stands for a history shows is what that shows
pub kept_shows : (s : Standing) → s.floor ≤ now s.history → state_shown (kept s).history ≡ state_shown s.history
kept_shows s reached =
    let g : History = (kept s).history in
    let alike : IsAlike s.floor g s.history = cut_is_alike s.floor s.history reached in
    ap (λ (state : List ℕ → Option KeyState). shown_in state (keys_present g)) alike.keys_now
    ∙ ap (shown_in (key_now s.history)) (present_in_cut s.history (s.floor - 1) (omega (arith, reached)))
