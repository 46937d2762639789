-- What the steps of a run come to, where its keys are not empty and the look-up knows them. The run of a concrete program is computed by
-- these, one after another, with the steps themselves left closed.
use Rattle.std.specs.Prelude.{◌≡◌, ℕ, ◌<◌, true, List, [], ◌∷◌, ◌++◌, length, ℤ, pos, Ok, if◌then◌else◌}
use Rattle.std.specs.Option.{option_map_or}
use Rattle.std.specs.Fmt.{signed_decimal}
use Rattle.stm_history.specs.declared.change.Change.{Change}
use Rattle.stm_history.specs.declared.change.Change.TheVariants.{Put, Del}
use Rattle.stm_steps.specs.declared.value.Value.TheVariants.{Text, Number}
use Rattle.stm_steps.specs.declared.trace_item.TraceItem.{TraceItem}
use Rattle.stm_steps.specs.declared.trace_item.TraceItem.TheVariants.{Get, Rev}
use Rattle.stm_steps.specs.Answer.{Lookup}
use Rattle.stm_steps.specs.Values.{key_in, put_of, del_of, text_of, num_of, is_in_range}
use Rattle.stm_history.specs.History.{value_written}
use Rattle.stm_meaning.specs.Writes.{last_write, is_written}
use Rattle.stm_steps.specs.Session.{Session, with_key}
use Rattle.stm_steps.specs.Outcome.{Gives}
use Rattle.stm_steps.specs.Meaning.{get_key, rev_key}
use Rattle.stm_meaning.specs.Laws.{KnowsEachKey}

-- what a look-up has of a key: "" and 0 where it knows nothing
abbrev pub value_in : Lookup → List ℕ → List ℕ
value_in look key = option_map_or (λ a. a.value) (look key) []

abbrev pub mod_rev_in : Lookup → List ℕ → ℕ
mod_rev_in look key = option_map_or (λ a. a.mod_rev) (look key) 0

-- the value of a key after writes: that of its last write, and what it was before where there is none
abbrev pub value_after : List Change → (List ℕ → List ℕ) → List ℕ → List ℕ
value_after writes before key = option_map_or value_written (last_write key writes) (before key)

-- what a `get` and a `rev` leave in the trace and among the reads
unfoldable pub trace_after_get : Lookup → List ℕ → Session → List TraceItem
trace_after_get look key s = s.trace ++ Get key (value_after s.writes (value_in look) key) ∷ []

unfoldable pub reads_after_get : List ℕ → Session → List (List ℕ)
reads_after_get key s = if is_written key s.writes then s.reads else with_key key s.reads

unfoldable pub trace_after_rev : Lookup → List ℕ → Session → List TraceItem
trace_after_rev look key s = s.trace ++ Rev key (mod_rev_in look key) ∷ []

unfoldable pub reads_after_rev : List ℕ → Session → List (List ℕ)
reads_after_rev key s = with_key key s.reads

-- ---- laws

-- a `get` gives the key's value after the run's writes
abbrev pub GetGives : Type 0
GetGives = (look : Lookup) → KnowsEachKey look → (key : List ℕ) (s : Session) →
    get_key look key s ≡ Gives (Text (value_after s.writes (value_in look) key))
    (record s { trace = trace_after_get look key s; reads = reads_after_get key s })

-- a `rev` gives the look-up's modification revision
abbrev pub RevGives : Type 0
RevGives = (look : Lookup) → KnowsEachKey look → (key : List ℕ) (s : Session) →
    rev_key look key s ≡ Gives (Number (pos (mod_rev_in look key))) (record s { trace = trace_after_rev look key s; reads = reads_after_rev key s })

-- a text that is not empty is a key: a put and a deletion of it are writes
abbrev pub TextsAreKeys : Type 0
TextsAreKeys = (key value : List ℕ) (lease : ℕ) → 0 < length key →
    (key_in (Text key) ≡ Ok key) × (put_of (Text key) (Text value) lease ≡ Ok (Put key value lease)) × (del_of (Text key) ≡ Ok (Del key))

-- a number in range is read back from its text
abbrev pub NumbersAreReadBack : Type 0
NumbersAreReadBack = (z : ℤ) → is_in_range z ≡ true →
    (text_of (Number z) ≡ Ok (Text (signed_decimal z))) × (num_of (Text (signed_decimal z)) ≡ Ok (Number z))
