-- Worked examples of what programs read and write, computed by the definition.
use Rattle.std.proofs.Common.{◌≡◌, refl, ℕ, List, [], ◌∷◌}
use Rattle.std.specs.Prelude.{pos, negsuc, codes, None}
use Rattle.std.specs.Fmt.{digits}
use Rattle.stm_program.specs.Syntax.{Expression, Statement, Block, Text, Number, Get, Rev, TextOf, Equal, Not, Put, Del, If, Emit, Then}
use Rattle.stm_history.specs.declared.change.Change.{Change}
use Rattle.stm_history.specs.declared.change.Change.TheVariants.{Put as PutWrite, Del as DelWrite}
use Rattle.stm_program.specs.Writes.{last_write, latest_writes}
use Rattle.stm_steps.specs.declared.value.Value.TheVariants.{Text as TextValue, Number as NumberValue}
use Rattle.stm_steps.specs.declared.trace_item.TraceItem.TheVariants.{Get as GetItem}
use Rattle.stm_steps.specs.declared.state.StateEntry.{StateEntry}
use Rattle.stm_steps.specs.declared.run.End.TheVariants.{Faulted}
use Rattle.stm_steps.specs.declared.run.Answered.{Answered}
use Rattle.stm_steps.specs.declared.run.Answered.TheVariants.{Ended, Wants}
use Rattle.stm_steps.specs.declared.fault.Fault.TheVariants.{Kind, EmptyKey}
use Rattle.stm_steps.specs.Values.{key_in, text_of, equal, put_of, del_of}
use Rattle.stm_meaning.specs.Writes.{effect}
use Rattle.stm_steps.specs.Session.{fresh}
use Rattle.stm_steps.specs.States.{state_answers, is_present}
use Rattle.stm_steps.specs.Meaning.{get_key, rev_key, evaluate, holds, run_block, run_over}
use Rattle.stm_meaning.specs.Laws.{trace_of}
use Rattle.stm_meaning.proofs.ExampleRuns.{end_of, output_of, one}

-- "a" has the value "5" since revision 7, and no other key is present
abbrev only_a : List StateEntry
only_a = record { key = codes "a"; value = codes "5"; mod_rev = 7 } ∷ []

abbrev run_on_a : Block → Answered
run_on_a program = run_over (state_answers only_a) program

abbrev writes_of : Answered → List Change
writes_of (Ended r) = r.writes
writes_of (Wants k t) = []

abbrev reads_of : Answered → List (List ℕ)
reads_of (Ended r) = r.reads
reads_of (Wants k t) = []

abbrev a : Expression
a = Text (codes "a")

abbrev b : Expression
b = Text (codes "b")

abbrev put_a : Statement
put_a = Put a (Text (codes "9")) 0

-- ---- get

get_of_a_present_key : output_of (run_on_a (one (Emit (Get a)))) ≡ TextValue (codes "5") ∷ []
unfolding run_over run_block evaluate key_in get_key last_write fresh
get_of_a_present_key = refl

get_of_an_absent_key : output_of (run_on_a (one (Emit (Get b)))) ≡ TextValue [] ∷ []
unfolding run_over run_block evaluate key_in get_key last_write fresh
get_of_an_absent_key = refl

get_of_a_put_key : output_of (run_on_a (Then put_a (one (Emit (Get a))))) ≡ TextValue (codes "9") ∷ []
unfolding run_over run_block evaluate key_in put_of get_key last_write fresh
get_of_a_put_key = refl

get_of_a_deleted_key : output_of (run_on_a (Then (Del a) (one (Emit (Get a))))) ≡ TextValue [] ∷ []
unfolding run_over run_block evaluate key_in del_of get_key last_write fresh
get_of_a_deleted_key = refl

-- a key that the run wrote is not looked up, and its `get` stands in the trace
put_key_is_not_read : reads_of (run_on_a (Then put_a (one (Emit (Get a))))) ≡ []
unfolding run_over run_block evaluate key_in put_of get_key last_write fresh
put_key_is_not_read = refl

get_of_a_put_key_is_seen : trace_of (run_on_a (Then put_a (one (Emit (Get a))))) ≡ GetItem (codes "a") (codes "9") ∷ []
unfolding run_over run_block evaluate key_in put_of get_key last_write fresh
get_of_a_put_key_is_seen = refl

get_of_an_empty_key : end_of (run_on_a (one (Emit (Get (Text []))))) ≡ Faulted EmptyKey
unfolding run_over run_block evaluate key_in fresh
get_of_an_empty_key = refl

get_of_an_unknown_key :
    run_over (λ key. None) (Then put_a (Then (Emit (Get a)) (one (Emit (Get b))))) ≡ Wants (codes "b") (GetItem (codes "a") (codes "9") ∷ [])
unfolding run_over run_block evaluate key_in put_of get_key last_write fresh
get_of_an_unknown_key = refl

-- ---- rev

rev_of_a_put_key : output_of (run_on_a (Then put_a (one (Emit (Rev a))))) ≡ NumberValue (pos 7) ∷ []
unfolding run_over run_block evaluate key_in put_of rev_key fresh
rev_of_a_put_key = refl

rev_of_an_absent_key : output_of (run_on_a (one (Emit (Rev b)))) ≡ NumberValue (pos 0) ∷ []
unfolding run_over run_block evaluate key_in rev_key fresh
rev_of_an_absent_key = refl

keys_are_read_once : reads_of (run_on_a (Then (Emit (Rev b)) (Then (Emit (Get a)) (one (Emit (Get b)))))) ≡ codes "b" ∷ codes "a" ∷ []
unfolding run_over run_block evaluate key_in get_key rev_key last_write fresh
keys_are_read_once = refl

-- ---- del

del_is_a_write : writes_of (run_on_a (one (Del b))) ≡ DelWrite (codes "b") ∷ []
unfolding run_over run_block evaluate del_of fresh
del_is_a_write = refl

del_of_an_empty_key : end_of (run_on_a (one (Del (Text [])))) ≡ Faulted EmptyKey
unfolding run_over run_block evaluate del_of fresh
del_of_an_empty_key = refl

del_of_a_number : end_of (run_on_a (one (Del (Number (pos 1))))) ≡ Faulted Kind
unfolding run_over run_block evaluate del_of fresh
del_of_a_number = refl

-- ---- not, text_of

not_equal : output_of (run_on_a (one (If (Not (Equal (Number (pos 1)) (Number (pos 1)))) (one (Emit (Number (pos 1)))) (one (Emit (Number (pos 0))))))) ≡
    NumberValue (pos 0) ∷ []
unfolding run_over run_block evaluate holds equal fresh
not_equal = refl

text_of_a_number : output_of (run_on_a (Then (Emit (TextOf (Number (negsuc 6)))) (one (Emit (TextOf (Number (pos 10))))))) ≡
    TextValue (codes "-7") ∷ TextValue (codes "10") ∷ []
unfolding run_over run_block evaluate text_of digits fresh
text_of_a_number = refl

text_of_a_text : end_of (run_on_a (one (Emit (TextOf a)))) ≡ Faulted Kind
unfolding run_over run_block evaluate text_of fresh
text_of_a_text = refl

-- ---- the effect of writes

-- "a" is put, "b" is deleted, "a" is put again, "c" is put and deleted
abbrev writes : List Change
writes =
    PutWrite (codes "a") (codes "1") 0 ∷ DelWrite (codes "b") ∷ PutWrite (codes "a") (codes "2") 0
    ∷ PutWrite (codes "c") (codes "3") 0 ∷ DelWrite (codes "c") ∷ []

effect_on_a : effect (is_present only_a) writes ≡ PutWrite (codes "a") (codes "2") 0 ∷ []
unfolding effect latest_writes last_write
effect_on_a = refl

deletions_of_present_keys_stay : effect (is_present only_a) (DelWrite (codes "b") ∷ DelWrite (codes "a") ∷ []) ≡ DelWrite (codes "a") ∷ []
unfolding effect latest_writes last_write
deletions_of_present_keys_stay = refl
