-- Worked examples of the meaning, computed by the definition.
use Rattle.std.proofs.Common.{◌≡◌, refl, ℕ, [], ◌∷◌}
use Rattle.std.specs.Prelude.{pos, negsuc, codes, Some}
use Rattle.stm_program.specs.Syntax.{Condition, Block, Text, Number, Variable, Arithmetic, Cat, NumOf, Equal, Less, And, Or, Set, Put, If, For, Emit}
use Rattle.stm_program.specs.Syntax.{Abort, End, Then}
use Rattle.stm_program.specs.declared.operator.Operator.TheVariants.{Add, Div, Rem}
use Rattle.stm_steps.specs.declared.value.Value.TheVariants.{Number as NumberValue}
use Rattle.stm_steps.specs.declared.run.End.TheVariants.{Done, Aborted, Faulted}
use Rattle.stm_steps.specs.declared.run.Answered.{Answered}
use Rattle.stm_steps.specs.declared.fault.Fault.TheVariants.{Kind, Overflow, ZeroDivisor, NotANumber, LoopTooLong, TurnLimit, TextTooLong, EmptyKey}
use Rattle.stm_steps.specs.Values.{text_in, computed, arithmetic, concatenated, written_number, num_of, equal, less, put_of, turns_of}
use Rattle.stm_steps.specs.Session.{fresh}
use Rattle.stm_steps.specs.Outcome.{begin_turn}
use Rattle.stm_steps.specs.Answer.{Lookup}
use Rattle.stm_steps.specs.Meaning.{evaluate, holds, repeat, run_block, run_over}
use Rattle.stm_meaning.proofs.ExampleRuns.{end_of, output_of, one}

abbrev empty_state : Lookup
empty_state k = Some (record { value = []; mod_rev = 0 })

num_of_no_number : end_of (run_over empty_state (one (Emit (NumOf (Text (codes "x")))))) ≡ Faulted NotANumber
unfolding run_over run_block evaluate num_of written_number fresh
num_of_no_number = refl

sum_out_of_range : end_of (run_over empty_state (one (Emit (Arithmetic Add (Number (pos 9223372036854775807)) (Number (pos 1)))))) ≡ Faulted Overflow
unfolding run_over run_block evaluate arithmetic computed fresh
sum_out_of_range = refl

zero_divisor : end_of (run_over empty_state (one (Emit (Arithmetic Div (Number (pos 1)) (Number (pos 0)))))) ≡ Faulted ZeroDivisor
unfolding run_over run_block evaluate arithmetic computed fresh
zero_divisor = refl

quotient_towards_zero : output_of (run_over empty_state (one (Emit (Arithmetic Div (Number (negsuc 6)) (Number (pos 2)))))) ≡ NumberValue (negsuc 2) ∷ []
unfolding run_over run_block evaluate arithmetic computed fresh
quotient_towards_zero = refl

rest_with_the_left_sign : output_of (run_over empty_state (one (Emit (Arithmetic Rem (Number (negsuc 6)) (Number (pos 2)))))) ≡ NumberValue (negsuc 0) ∷ []
unfolding run_over run_block evaluate arithmetic computed fresh
rest_with_the_left_sign = refl

rest_out_of_range : end_of (run_over empty_state (one (Emit (Arithmetic Rem (Number (negsuc 9223372036854775807)) (Number (negsuc 0)))))) ≡ Faulted Overflow
unfolding run_over run_block evaluate arithmetic computed fresh
rest_out_of_range = refl

count_above_the_limit : end_of (run_over empty_state (one (For 0 (Number (pos 5)) 4 End))) ≡ Faulted LoopTooLong
unfolding run_over run_block evaluate turns_of fresh
count_above_the_limit = refl

count_at_the_limit : end_of (run_over empty_state (one (For 0 (Number (pos 5)) 5 End))) ≡ Done
unfolding run_over run_block evaluate turns_of fresh repeat begin_turn
count_at_the_limit = refl

too_many_turns : end_of (run_over empty_state (one (For 0 (Number (pos 100)) 1000 (one (For 1 (Number (pos 100)) 1000 End))))) ≡ Faulted TurnLimit
unfolding run_over run_block evaluate turns_of fresh repeat begin_turn
too_many_turns = refl

most_turns : end_of (run_over empty_state (one (For 0 (Number (pos 100)) 1000 (one (For 1 (Number (pos 99)) 1000 End))))) ≡ Done
unfolding run_over run_block evaluate turns_of fresh repeat begin_turn
most_turns = refl

sum_of_a_text : end_of (run_over empty_state (one (Emit (Arithmetic Add (Text (codes "1")) (Number (pos 2)))))) ≡ Faulted Kind
unfolding run_over run_block evaluate arithmetic computed fresh
sum_of_a_text = refl

put_of_an_empty_key : end_of (run_over empty_state (one (Put (Text []) (Text (codes "v")) 0))) ≡ Faulted EmptyKey
unfolding run_over run_block evaluate put_of fresh
put_of_an_empty_key = refl

abort_with_a_text : end_of (run_over empty_state (Then (Put (Text (codes "a")) (Text (codes "1")) 0) (one (Abort (Text (codes "no")))))) ≡ Aborted (codes "no")
unfolding run_over run_block evaluate put_of text_in fresh
abort_with_a_text = refl

grow : ℕ → Block
grow n = Then (Set 0 (Text (codes "x"))) (one (For 1 (Number (pos n)) 17 (one (Set 0 (Cat (Variable 0) (Variable 0))))))

text_too_long : end_of (run_over empty_state (grow 17)) ≡ Faulted TextTooLong
unfolding run_over run_block evaluate concatenated turns_of begin_turn repeat fresh grow
text_too_long = refl

longest_text : end_of (run_over empty_state (grow 16)) ≡ Done
unfolding run_over run_block evaluate concatenated turns_of begin_turn repeat fresh grow
longest_text = refl

-- `1 < "a"` is a fault wherever it is looked at
abbrev choice : Condition → Answered
choice c = run_over empty_state (one (If c (one (Emit (Number (pos 1)))) (one (Emit (Number (pos 0))))))

and_looks_no_further : output_of (choice (And (Equal (Number (pos 1)) (Number (pos 2))) (Less (Number (pos 1)) (Text (codes "a"))))) ≡ NumberValue (pos 0) ∷ []
unfolding run_over run_block evaluate holds equal less fresh
and_looks_no_further = refl

or_looks_further : end_of (choice (Or (Equal (Number (pos 1)) (Number (pos 2))) (Less (Number (pos 1)) (Text (codes "a"))))) ≡ Faulted Kind
unfolding run_over run_block evaluate holds equal less fresh
or_looks_further = refl
