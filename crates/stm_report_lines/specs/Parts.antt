-- Reading the parts of a report's lines: what data spell, or the first fault.
use Rattle.std.specs.Prelude.{ℕ, List, Bool, false, Option, Some, None, Ok, is_some, option_and_then, if◌then◌else◌, ◌==◌, codes}
use Rattle.serde_json.specs.Data.{Data, Items}
use Rattle.serde_json.specs.Events.{items_len}
use Rattle.serde_json.specs.Find.{at, as_null, as_bool, as_str, as_array}
use Rattle.stm_history.specs.declared.key_state.KeyState.{KeyState}
use Rattle.stm_history.specs.declared.revisions.TheConstants.{HIGHEST_NUMBER}
use Rattle.stm_json.specs.declared.cause.Cause.TheVariants.{Shape}
use Rattle.stm_json.specs.Elements.{number_up_to, whole_number}
use Rattle.stm_json.specs.Outcome.{Outcome, bad, ◌>>=◌, within}
use Rattle.stm_steps.specs.declared.fault.Fault.{Fault}
use Rattle.stm_steps.specs.declared.value.Value.{Value}
use Rattle.stm_steps.specs.declared.value.Value.TheVariants.{Text, Number}
use Rattle.stm_steps.specs.declared.trace_item.TraceItem.{TraceItem}
use Rattle.stm_steps.specs.declared.trace_item.TraceItem.TheVariants as trace
use Rattle.stm_outcome.specs.declared.advance.Expired.{Expired}
use Rattle.stm_json.specs.Parts.{on_text, text_of, list_of, same}
use Rattle.stm_keys.specs.declared.event.Event.{Event}
use Rattle.stm_keys.specs.declared.event.Event.TheVariants as event
use Rattle.stm_events.specs.declared.refusal.EventRefusal.{EventRefusal}
use Rattle.stm_events.specs.declared.reply.CommittedRead.{CommittedRead}
use Rattle.stm_events.specs.declared.reply.KeyRead.{KeyRead}
use Rattle.stm_events.specs.declared.reply.OpReply.{OpReply}
use Rattle.stm_events.specs.declared.reply.OpReply.TheVariants as op
use Rattle.stm_report_lines.specs.Words.{named, fault_words, refusal_words}

-- what there is, or Shape
abbrev pub or_shape : {A : Type 0} → Option A → Outcome A
or_shape (Some x) = Ok x
or_shape None = bad Shape

-- what is read of the element of an array at an index
unfoldable pub part_at : {A : Type 0} → ℕ → (Data → Outcome A) → Data → Outcome A
part_at index read d = or_shape (at index d) >>= λ e. within index (read e)

-- the text at an index of an array, if there is one
abbrev pub word_at : ℕ → Data → Option (List ℕ)
word_at index d = option_and_then as_str (at index d)

abbrev pub are_so_many : ℕ → Option Items → Bool
are_so_many n None = false
are_so_many n (Some ds) = items_len ds == n

-- data are an array of so many elements, or Shape
abbrev pub exactly : ℕ → Data → Outcome (Unit {0})
exactly n d = if are_so_many n (as_array d) then Ok tt else bad Shape

-- a list whose elements are read so
abbrev pub listed : {A : Type 0} → (Data → Outcome A) → Data → Outcome (List A)
listed read d = list_of read (as_array d)

-- a whole number from 0 to 9223372036854775807
abbrev pub number_of : Data → Outcome ℕ
number_of d = number_up_to HIGHEST_NUMBER d

unfoldable pub flag_of : Data → Outcome Bool
flag_of d = or_shape (as_bool d)

unfoldable pub fault_of : Data → Outcome Fault
fault_of d = on_text (λ w. or_shape (named fault_words w)) (as_str d)

unfoldable pub cause_of : Data → Outcome EventRefusal
cause_of d = on_text (λ w. or_shape (named refusal_words w)) (as_str d)

-- a text, or else a whole number of 64 bits with a sign
abbrev pub value_from : Data → Option (List ℕ) → Outcome Value
value_from d (Some s) = Ok (Text s)
value_from d None = whole_number d >>= λ z. Ok (Number z)

unfoldable pub value_of : Data → Outcome Value
value_of d = value_from d (as_str d)

-- ---- what a key had

abbrev pub state_with : List ℕ → ℕ → ℕ → ℕ → ℕ → KeyState
state_with value create_rev mod_rev version lease =
    record { value = value; create_rev = create_rev; mod_rev = mod_rev; version = version; lease = lease }

-- an array of its own
abbrev pub state_parts : Data → Outcome KeyState
state_parts d =
    exactly 5 d >>= λ u. part_at 0 text_of d >>= λ value. part_at 1 number_of d >>= λ create_rev. part_at 2 number_of d >>= λ mod_rev.
    part_at 3 number_of d >>= λ version. part_at 4 number_of d >>= λ lease. Ok (state_with value create_rev mod_rev version lease)

unfoldable pub state_of : Data → Outcome KeyState
state_of d = state_parts d

-- a key and what it had, after a word
abbrev pub keyed_of : Data → Outcome (List ℕ × KeyState)
keyed_of d =
    exactly 7 d >>= λ u. part_at 1 text_of d >>= λ key. part_at 2 text_of d >>= λ value. part_at 3 number_of d >>= λ create_rev.
    part_at 4 number_of d >>= λ mod_rev. part_at 5 number_of d >>= λ version. part_at 6 number_of d >>= λ lease.
    Ok (key, state_with value create_rev mod_rev version lease)

-- null stands for an absent key
abbrev pub or_null_of : {A : Type 0} → (Data → Outcome A) → Data → Outcome (Option A)
or_null_of read d = if is_some (as_null d) then Ok None else read d >>= λ x. Ok (Some x)

-- ---- what stands in lists: arrays, or arrays that begin with a word

abbrev pub trace_get_of : Data → Outcome TraceItem
trace_get_of d = exactly 3 d >>= λ u. part_at 1 text_of d >>= λ key. part_at 2 text_of d >>= λ value. Ok (trace.Get key value)

abbrev pub trace_rev_of : Data → Outcome TraceItem
trace_rev_of d = exactly 3 d >>= λ u. part_at 1 text_of d >>= λ key. part_at 2 number_of d >>= λ mod_rev. Ok (trace.Rev key mod_rev)

abbrev pub trace_worded : List ℕ → Data → Outcome TraceItem
trace_worded w d =
    if same w (codes "get") then trace_get_of d
    else (if same w (codes "rev") then trace_rev_of d
    else bad Shape)

unfoldable pub trace_of : Data → Outcome TraceItem
trace_of d = or_shape (word_at 0 d) >>= λ w. trace_worded w d

abbrev pub answer_with : List ℕ → Option (List ℕ) → ℕ → ℕ → CommittedRead
answer_with key value mod_rev of_rev = record { key = key; value = value; mod_rev = mod_rev; of_rev = of_rev }

abbrev pub answer_parts : Data → Outcome CommittedRead
answer_parts d =
    exactly 4 d >>= λ u. part_at 0 text_of d >>= λ key. part_at 1 (or_null_of text_of) d >>= λ value. part_at 2 number_of d >>= λ mod_rev.
    part_at 3 number_of d >>= λ of_rev. Ok (answer_with key value mod_rev of_rev)

unfoldable pub answer_of : Data → Outcome CommittedRead
answer_of d = answer_parts d

abbrev pub op_get_of : Data → Outcome OpReply
op_get_of d = exactly 3 d >>= λ u. part_at 1 number_of d >>= λ revision. part_at 2 (or_null_of state_of) d >>= λ kv. Ok (op.Get revision kv)

abbrev pub op_put_of : Data → Outcome OpReply
op_put_of d = exactly 1 d >>= λ u. Ok op.Put

-- a delete deletes one key at most
abbrev pub op_del_of : Data → Outcome OpReply
op_del_of d = exactly 2 d >>= λ u. part_at 1 (number_up_to 1) d >>= λ deleted. Ok (op.Del deleted)

abbrev pub op_worded : List ℕ → Data → Outcome OpReply
op_worded w d =
    if same w (codes "get") then op_get_of d
    else (if same w (codes "put") then op_put_of d
    else (if same w (codes "del") then op_del_of d
    else bad Shape))

unfoldable pub op_of : Data → Outcome OpReply
op_of d = or_shape (word_at 0 d) >>= λ w. op_worded w d

abbrev pub key_read_with : List ℕ → ℕ → KeyRead
key_read_with key mod_rev = record { key = key; mod_rev = mod_rev }

abbrev pub key_read_parts : Data → Outcome KeyRead
key_read_parts d = exactly 2 d >>= λ u. part_at 0 text_of d >>= λ key. part_at 1 number_of d >>= λ mod_rev. Ok (key_read_with key mod_rev)

unfoldable pub key_read_of : Data → Outcome KeyRead
key_read_of d = key_read_parts d

abbrev pub expired_with : ℕ → ℕ → Expired
expired_with id revision = record { id = id; revision = revision }

abbrev pub expired_parts : Data → Outcome Expired
expired_parts d = exactly 2 d >>= λ u. part_at 0 number_of d >>= λ id. part_at 1 number_of d >>= λ revision. Ok (expired_with id revision)

unfoldable pub expired_of : Data → Outcome Expired
expired_of d = expired_parts d

abbrev pub watched_put_of : Data → Outcome Event
watched_put_of d = keyed_of d >>= λ p. Ok (event.Put p.0 p.1)

abbrev pub watched_delete_of : Data → Outcome Event
watched_delete_of d = exactly 3 d >>= λ u. part_at 1 text_of d >>= λ key. part_at 2 number_of d >>= λ revision. Ok (event.Delete key revision)

abbrev pub watched_worded : List ℕ → Data → Outcome Event
watched_worded w d =
    if same w (codes "PUT") then watched_put_of d
    else (if same w (codes "DELETE") then watched_delete_of d
    else bad Shape)

unfoldable pub watched_of : Data → Outcome Event
watched_of d = or_shape (word_at 0 d) >>= λ w. watched_worded w d
