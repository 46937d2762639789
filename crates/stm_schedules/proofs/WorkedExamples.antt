-- Worked examples of schedules, computed by the definitions.
use Rattle.std.proofs.Common.{◌≡◌, refl, ℕ, List, [], ◌∷◌, Some, true, false, codes, pos, length}
use Rattle.stm_program.specs.Syntax.{ProgramTree, of_statements, Text, Number, Get, Rev, Less, Put as PutStatement, Del, If, Abort, End as EndBlock, Then}
use Rattle.stm_program.specs.Writes.{last_write, latest_writes}
use Rattle.stm_program.specs.declared.level.Level.{Level}
use Rattle.stm_program.specs.declared.level.Level.TheVariants.{SerializableSnapshot, Serializable, ReadCommitted}
use Rattle.stm_steps.specs.Session.{fresh}
use Rattle.stm_steps.specs.Steps.{get_key, rev_key}
use Rattle.stm_steps.specs.Values.{key_in, text_in, less, put_of, del_of}
use Rattle.stm_steps.specs.declared.run.End.TheVariants.{Aborted as AbortedEnd}
use Rattle.stm_meaning.specs.Meaning.{evaluate, holds, run_block, run_over}
use Rattle.stm_attempt.specs.Settled.{settle}
use Rattle.stm_outcome.specs.declared.txn.Op.TheVariants.{Put}
use Rattle.stm_txn.specs.Standing.{at_revision}
use Rattle.stm_events.specs.declared.event.WorldEvent.{WorldEvent}
use Rattle.stm_events.specs.declared.event.WorldEvent.TheVariants.{Start, Step, Txn, Grant}
use Rattle.stm_world.specs.World.{start_runner, fetch, commit, step_live}
use Rattle.stm_schedules.specs.declared.moves.Move.TheVariants.{Step as StepOf}
use Rattle.stm_schedules.specs.declared.outcome.Outcome.{Outcome}
use Rattle.stm_schedules.specs.declared.outcome.RunnerEnd.{RunnerEnd}
use Rattle.stm_schedules.specs.declared.outcome.RunnerEnd.TheVariants.{Committed, GaveUp}
use Rattle.stm_schedules.specs.Places.{moves}
use Rattle.stm_schedules.specs.Schedules.{place_after}
use Rattle.stm_schedules.specs.Keeping.{end_alone, keeps, first_bad, goes_on}
use Rattle.stm_schedules.specs.Scenarios.{up_to_last_start, after_last_start, begun, with_schedule}
use Rattle.stm_schedules.specs.Outcomes.{ends_begun, outcomes_at, outcomes_up_to}

abbrev puts : List ℕ → List ℕ → WorldEvent
puts key value = Txn (record { compares = []; success = Put key value 0 ∷ []; failure = [] })

-- ---- a scenario without a start is the others' alone

no_start : (up_to_last_start (puts (codes "x") (codes "1") ∷ Grant 1 5 ∷ []) ≡ [])
    × (after_last_start (puts (codes "x") (codes "1") ∷ Grant 1 5 ∷ []) ≡ puts (codes "x") (codes "1") ∷ Grant 1 5 ∷ [])
no_start = (refl, refl)

-- ---- a key is put at revision 10 by one runner and deleted by another, and a rule wants it below: the first step breaks it

abbrev put_a : ProgramTree
put_a = of_statements (Then (PutStatement (Text (codes "a")) (Text (codes "1")) 0) EndBlock)

abbrev delete_a : ProgramTree
delete_a = of_statements (Then (Del (Text (codes "a"))) EndBlock)

abbrev put_and_delete : List WorldEvent
put_and_delete = Start put_a ReadCommitted 1 ∷ Start delete_a ReadCommitted 1 ∷ []

abbrev below_ten : ProgramTree
below_ten = of_statements (Then (If (Less (Rev (Text (codes "a"))) (Number (pos 10))) EndBlock (Then (Abort (Text (codes "put last"))) EndBlock)) EndBlock)

both_can_step : moves (begun (at_revision 9) put_and_delete) ≡ StepOf 1 ∷ StepOf 2 ∷ []
unfolding start_runner
both_can_step = refl

first_step_breaks : first_bad (keeps below_ten) 2 (begun (at_revision 9) put_and_delete) ≡ Some (StepOf 1 ∷ [])
unfolding start_runner fetch commit step_live settle run_over run_block evaluate holds key_in text_in less put_of del_of get_key rev_key last_write latest_writes fresh
first_step_breaks = refl

its_end : end_alone below_ten (place_after (StepOf 1 ∷ []) (begun (at_revision 9) put_and_delete)).world ≡ Some (AbortedEnd (codes "put last"))
unfolding start_runner fetch commit step_live settle run_over run_block evaluate holds key_in text_in less put_of del_of get_key rev_key last_write latest_writes fresh
its_end = refl

its_scenario : with_schedule put_and_delete (StepOf 1 ∷ []) ≡ Start put_a ReadCommitted 1 ∷ Start delete_a ReadCommitted 1 ∷ Step 1 ∷ []
its_scenario = refl

-- ---- somebody covers a day meanwhile: the last put stays, and at serializable snapshot the run may end by giving up

abbrev cover : ProgramTree
cover = of_statements (Then (PutStatement (Text (codes "monday")) (Get (Text (codes "next"))) 0) EndBlock)

abbrev covered : Level → List WorldEvent
covered level = puts (codes "next") (codes "ann") ∷ Start cover level 1 ∷ puts (codes "monday") (codes "bob") ∷ []

abbrev monday : List ℕ → RunnerEnd → Outcome
monday value end = record {
  state = record { key = codes "monday"; value = value } ∷ record { key = codes "next"; value = codes "ann" } ∷ [];
  ends = end ∷ [];
}

-- step, step, other; step, other, step; other, step, step
serializable_covers : outcomes_at 3 (begun (at_revision 1) (covered Serializable)) (ends_begun (at_revision 1) (covered Serializable))
    ≡ monday (codes "bob") (Committed []) ∷ monday (codes "ann") (Committed []) ∷ monday (codes "ann") (Committed []) ∷ []
unfolding start_runner fetch commit step_live settle run_over run_block evaluate key_in text_in put_of get_key last_write latest_writes fresh
serializable_covers = refl

snapshot_gives_up : outcomes_up_to 3 (begun (at_revision 1) (covered SerializableSnapshot)) (ends_begun (at_revision 1) (covered SerializableSnapshot))
    ≡ monday (codes "bob") (Committed []) ∷ monday (codes "bob") (GaveUp (codes "monday")) ∷ monday (codes "ann") (Committed []) ∷ []
unfolding start_runner fetch commit step_live settle run_over run_block evaluate key_in text_in put_of get_key last_write latest_writes fresh
snapshot_gives_up = refl

-- each of them has three moves
three_moves : (goes_on 3 (begun (at_revision 1) (covered Serializable)) ≡ true) × (goes_on 4 (begun (at_revision 1) (covered Serializable)) ≡ false)
unfolding start_runner fetch commit step_live settle run_over run_block evaluate key_in text_in put_of get_key last_write latest_writes fresh
three_moves = (refl, refl)

-- ---- two runners that each read x and put a key of their own: of the six schedules two begin with the fetch of the second one and then that
-- of the first one, which stand for those that begin the other way round

abbrev copy_to : List ℕ → ProgramTree
copy_to key = of_statements (Then (PutStatement (Text key) (Get (Text (codes "x"))) 0) EndBlock)

abbrev two_copies : List WorldEvent
two_copies = Start (copy_to (codes "a")) ReadCommitted 1 ∷ Start (copy_to (codes "b")) ReadCommitted 1 ∷ []

six_schedules : length (outcomes_at 4 (begun (at_revision 1) two_copies) (ends_begun (at_revision 1) two_copies)) ≡ 6
unfolding start_runner fetch commit step_live settle run_over run_block evaluate key_in text_in put_of get_key last_write latest_writes fresh
six_schedules = refl
