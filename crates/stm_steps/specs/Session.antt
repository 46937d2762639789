-- The state of a run in progress, and what each of its steps adds.
use Rattle.std.specs.Prelude.{ℕ, ◌+◌, bytes_eq, if◌then◌else◌, List, [], ◌∷◌, ◌++◌, replicate, slice_set, slice_index_or, pos}
use Rattle.std.specs.List.{list_any}
use Rattle.stm_history.specs.declared.change.Change.{Change}
use Rattle.stm_steps.specs.declared.value.Value.{Value}
use Rattle.stm_steps.specs.declared.value.Value.TheVariants.{Number}
use Rattle.stm_steps.specs.declared.variables.TheConstants.{VARIABLE_COUNT}
use Rattle.stm_steps.specs.declared.trace_item.TraceItem.{TraceItem}

-- the sixteen variables, the turns of all loops so far, what was emitted, what each `get` and `rev` gave, each write, and the
-- keys that were looked up in the order of their first look-up
pub record Session : Type 0 where
  pub variables : List Value
  pub turns : ℕ
  pub output : List Value
  pub trace : List TraceItem
  pub writes : List Change
  pub reads : List (List ℕ)

-- each variable starts as the number 0
unfoldable pub fresh : Session
fresh = record { variables = replicate VARIABLE_COUNT (Number (pos 0)); turns = 0; output = []; trace = []; writes = []; reads = [] }

abbrev pub variable_in : Session → ℕ → Value
variable_in s v = slice_index_or s.variables v (Number (pos 0))

abbrev pub with_variable : ℕ → Value → Session → Session
with_variable v x s = record s { variables = slice_set s.variables v x }

abbrev pub with_turn : Session → Session
with_turn s = record s { turns = s.turns + 1 }

abbrev pub with_output : Value → Session → Session
with_output x s = record s { output = s.output ++ x ∷ [] }

abbrev pub with_write : Change → Session → Session
with_write w s = record s { writes = s.writes ++ w ∷ [] }

abbrev pub with_item : TraceItem → Session → Session
with_item item s = record s { trace = s.trace ++ item ∷ [] }

-- these keys, and this one at the end if it is new
abbrev pub with_key : List ℕ → List (List ℕ) → List (List ℕ)
with_key key keys = if list_any (bytes_eq key) keys then keys else keys ++ key ∷ []

abbrev pub with_read : List ℕ → Session → Session
with_read key s = record s { reads = with_key key s.reads }
