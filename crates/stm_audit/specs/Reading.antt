-- Reading a trace: what bytes spell, or the first fault. A value is looked at before its elements, and these from the first to the last.
use Rattle.std.specs.Prelude.{ℕ, List, [], length, Option, Some, None, Ok, is_some, option_and_then, if◌then◌else◌, nat_lt, codes}
use Rattle.serde_json.specs.Data.{Data, Items, no_items, item}
use Rattle.serde_json.specs.Find.{as_array, as_null}
use Rattle.stm_history.specs.declared.revisions.TheConstants.{HIGHEST_NUMBER, HIGHEST_REVISION}
use Rattle.stm_json.specs.declared.cause.Cause.TheVariants.{NotJson, Shape, TooLong}
use Rattle.stm_json.specs.declared.limits.TheConstants.{MOST_BYTES}
use Rattle.stm_json.specs.Bytes.{data_of}
use Rattle.stm_json.specs.Elements.{worded, one_of, two_of, three_of, four_of, number_up_to, number_in}
use Rattle.stm_json.specs.Outcome.{Outcome, bad, ◌>>=◌, within}
use Rattle.stm_json.specs.Parts.{same, each_from, list_of, text_of}
use Rattle.stm_history.specs.declared.key_state.KeyState.{KeyState}
use Rattle.stm_history.specs.Opening.{States}
use Rattle.stm_history.specs.declared.change.Change.{Change}
use Rattle.stm_history.specs.declared.change.Change.TheVariants.{Put, Del}
use Rattle.stm_events.specs.declared.reply.CommittedRead.{CommittedRead}
use Rattle.stm_outcome.specs.Terms.{most_operations}
use Rattle.stm_txn.specs.declared.restored.Checkpoint.{Checkpoint}
use Rattle.stm_texts.specs.Reading.{level_of, begins}
use Rattle.stm_audit.specs.declared.commit.Commit.{Commit}
use Rattle.stm_audit.specs.declared.trace.Trace.{Trace}

-- the elements of an array of three, and of one of four

abbrev pub triple : Data → Option (Data × Data × Data)
triple d = option_and_then three_of (as_array d)

abbrev pub quad : Data → Option (Data × Data × Data × Data)
quad d = option_and_then four_of (as_array d)

-- a list whose elements are read so
abbrev pub listed : {A : Type 0} → (Data → Outcome A) → Data → Outcome (List A)
listed read d = list_of read (as_array d)

-- ---- reads

-- null stands for the value of an absent key
unfoldable pub text_or_null : Data → Outcome (Option (List ℕ))
text_or_null d = if is_some (as_null d) then Ok None else text_of d >>= λ s. Ok (Some s)

abbrev pub read_by : Option (Data × Data × Data × Data) → Outcome CommittedRead
read_by None = bad Shape
read_by (Some p) =
    within 0 (text_of p.0) >>= λ key. within 1 (text_or_null p.1) >>= λ value. within 2 (number_up_to HIGHEST_NUMBER p.2) >>= λ mod_rev.
    within 3 (number_up_to HIGHEST_NUMBER p.3) >>= λ of_rev. Ok (record { key = key; value = value; mod_rev = mod_rev; of_rev = of_rev })

unfoldable pub read_of : Data → Outcome CommittedRead
read_of d = read_by (quad d)

-- ---- writes: a trace has no leases

abbrev pub put_of : Option (Data × Data) → Outcome Change
put_of None = bad Shape
put_of (Some p) = within 1 (text_of p.0) >>= λ key. within 2 (text_of p.1) >>= λ value. Ok (Put key value 0)

abbrev pub del_of : Option Data → Outcome Change
del_of None = bad Shape
del_of (Some d) = within 1 (text_of d) >>= λ key. Ok (Del key)

abbrev pub write_worded : Option (List ℕ × Items) → Outcome Change
write_worded None = bad Shape
write_worded (Some p) =
    if same p.0 (codes "put") then put_of (two_of p.1)
    else (if same p.0 (codes "del") then del_of (one_of p.1)
    else bad Shape)

unfoldable pub write_of : Data → Outcome Change
write_of d = write_worded (worded d)

-- ---- commits

abbrev pub commit_by : Option (Data × Data × Data × Data) → Outcome Commit
commit_by None = bad Shape
commit_by (Some p) =
    within 0 (level_of p.0) >>= λ level. within 1 (number_in 1 HIGHEST_REVISION p.1) >>= λ revision. within 2 (listed read_of p.2) >>= λ reads.
    within 3 (listed write_of p.3) >>= λ writes. Ok (record { level = level; revision = revision; reads = reads; writes = writes })

unfoldable pub commit_of : Data → Outcome Commit
commit_of d = commit_by (quad d)

-- ---- what a trace begins with

-- A key with this value and modification revision, as though one put had made it, on no lease: an audit looks at nothing else of it.
abbrev pub stood : List ℕ → ℕ → KeyState
stood value revision = record { value = value; create_rev = revision; mod_rev = revision; version = 1; lease = 0 }

abbrev pub key_by : Option (Data × Data × Data) → Outcome (List ℕ × KeyState)
key_by None = bad Shape
key_by (Some p) =
    within 0 (text_of p.0) >>= λ key. within 1 (text_of p.1) >>= λ value. within 2 (number_in 1 HIGHEST_REVISION p.2) >>= λ revision. Ok
    (key, stood value revision)

unfoldable pub key_of : Data → Outcome (List ℕ × KeyState)
key_of d = key_by (triple d)

-- a store with these keys at a revision
abbrev pub began : ℕ → States → Checkpoint
began revision states = record { revision = revision; states = states; leases = []; operations = most_operations }

abbrev pub beginning_by : Option (Data × Data) → Outcome Checkpoint
beginning_by None = bad Shape
beginning_by (Some p) =
    within 1 (number_in 1 HIGHEST_REVISION p.0) >>= λ revision. within 2 (listed key_of p.1) >>= λ states. Ok (began revision states)

-- by what follows the word begin
abbrev pub beginning_of : Items → Outcome Checkpoint
beginning_of ds = beginning_by (two_of ds)

-- ---- traces

-- with what it begins with as the first element, and without
abbrev pub trace_after : Option Items → Items → Items → Outcome Trace
trace_after (Some parts) all rest =
    within 0 (beginning_of parts) >>= λ opening. each_from commit_of 1 rest >>= λ ts. Ok (record { opening = Some opening; commits = ts })
trace_after None all rest = each_from commit_of 0 all >>= λ ts. Ok (record { opening = None; commits = ts })

abbrev pub trace_list : Option Items → Outcome Trace
trace_list None = bad Shape
trace_list (Some no_items) = Ok (record { opening = None; commits = [] })
trace_list (Some (item d ds)) = trace_after (begins (worded d)) (item d ds) ds

unfoldable pub trace_of : Data → Outcome Trace
trace_of d = trace_list (as_array d)

abbrev pub trace_read : Option Data → Outcome Trace
trace_read None = bad NotJson
trace_read (Some d) = trace_of d

-- the trace that bytes spell: their number comes first, and then whether they are JSON
unfoldable pub trace_in : List ℕ → Outcome Trace
trace_in bytes = if nat_lt MOST_BYTES (length bytes) then bad TooLong else trace_read (data_of bytes)
