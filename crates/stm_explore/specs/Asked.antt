-- When a rule is asked: at each place, or at the last ones alone, where it sees how the runners ended, as keys that are laid over the state.
use Rattle.std.specs.Prelude.{ℕ, suc, Bool, true, bytes_eq, List, [], ◌∷◌, ◌++◌, Option, None, Some, codes, decimal}
use Rattle.std.specs.Fmt.{signed_decimal}
use Rattle.std.specs.List.{find}
use Rattle.stm_history.specs.History.{History}
use Rattle.stm_program.specs.Syntax.{ProgramTree}
use Rattle.stm_steps.specs.declared.run.End.{End}
use Rattle.stm_steps.specs.declared.value.Value.{Value}
use Rattle.stm_steps.specs.declared.value.Value.TheVariants.{Text, Number}
use Rattle.stm_meaning.specs.Answer.{Answer, Lookup}
use Rattle.stm_meaning.specs.Faults.{fault_name}
use Rattle.stm_meaning.specs.Meaning.{run_over}
use Rattle.stm_compile.specs.Answers.{state_now}
use Rattle.stm_events.specs.Names.{refusal_name}
use Rattle.stm_schedules.specs.declared.moves.Move.{Move}
use Rattle.stm_schedules.specs.declared.outcome.KeyValue.{KeyValue}
use Rattle.stm_schedules.specs.declared.outcome.RunnerEnd.{RunnerEnd}
use Rattle.stm_schedules.specs.declared.outcome.RunnerEnd.TheVariants.{Committed, GaveUp, Aborted, Faulted, Ended}
use Rattle.stm_schedules.specs.Keeping.{end_of, is_done}
use Rattle.stm_schedules.specs.Outcomes.{Ends}
use Rattle.stm_explore.specs.declared.asking.When.{When}
use Rattle.stm_explore.specs.declared.asking.When.TheVariants.{Each, Last}

-- ---- how runs ended, as texts

abbrev pub end_word : Option RunnerEnd → List ℕ
end_word None = []
end_word (Some (Committed output)) = codes "committed"
end_word (Some (GaveUp key)) = codes "gaveup"
end_word (Some (Aborted text)) = codes "aborted"
end_word (Some (Faulted fault)) = codes "faulted"
end_word (Some (Ended cause)) = codes "ended"

-- its text or cause
abbrev pub end_reason : Option RunnerEnd → List ℕ
end_reason None = []
end_reason (Some (Committed output)) = []
end_reason (Some (GaveUp key)) = key
end_reason (Some (Aborted text)) = text
end_reason (Some (Faulted fault)) = fault_name fault
end_reason (Some (Ended cause)) = refusal_name cause

abbrev pub value_text : Value → List ℕ
value_text (Text text) = text
value_text (Number z) = signed_decimal z

-- what it emitted
abbrev pub outputs_of : Option RunnerEnd → List Value
outputs_of (Some (Committed output)) = output
outputs_of other = []

-- ---- the keys that are laid over a state

-- that of an output of the runner with this number, by its place
abbrev pub output_key : ℕ → ℕ → List ℕ
output_key n place = codes "#out/" ++ decimal n ++ codes "/" ++ decimal place

-- the outputs of the runner with this number, of which the first has this place
abbrev pub outputs_from : ℕ → ℕ → List Value → List KeyValue
outputs_from n place [] = []
outputs_from n place (v ∷ values) = record { key = output_key n place; value = value_text v } ∷ outputs_from n (suc place) values

-- where it has none, the first is empty
abbrev pub laid_outputs : ℕ → List Value → List KeyValue
laid_outputs n [] = record { key = output_key n 0; value = [] } ∷ []
laid_outputs n (v ∷ values) = outputs_from n 0 (v ∷ values)

-- of the runner with this number
abbrev pub laid_of : ℕ → Option RunnerEnd → List KeyValue
laid_of n end =
    record { key = codes "#end/" ++ decimal n; value = end_word end } ∷ record { key = codes "#why/" ++ decimal n; value = end_reason end }
    ∷ laid_outputs n (outputs_of end)

-- of runners from this number on
abbrev pub laid_from : ℕ → Ends → List KeyValue
laid_from n [] = []
laid_from n (end ∷ ends) = laid_of n end ++ laid_from (suc n) ends

abbrev pub laid : Ends → List KeyValue
laid ends = laid_from 1 ends

-- what is known of a key, where this is laid over it
abbrev pub laid_or : Option KeyValue → Option Answer → Option Answer
laid_or None known = known
laid_or (Some kv) known = Some (record { value = kv.value; mod_rev = 0 })

-- a look-up with these keys laid over it
abbrev pub laid_over : List KeyValue → Lookup → Lookup
laid_over kvs look key = laid_or (find (λ (kv : KeyValue). bytes_eq kv.key key) kvs) (look key)

-- ---- what is asked

-- what a rule sees
abbrev pub seen_by : When → History → Ends → Lookup
seen_by Each h ends = state_now h
seen_by Last h ends = laid_over (laid ends) (state_now h)

-- the end of its program
abbrev pub end_for : When → ProgramTree → History → Ends → Option End
end_for when rule h ends = end_of (run_over (seen_by when h ends) rule.statements)

-- whether it is kept, where these moves can be made
abbrev pub asks : When → ProgramTree → List Move → History → Ends → Bool
asks Each rule moves h ends = is_done (end_for Each rule h ends)
asks Last rule [] h ends = is_done (end_for Last rule h ends)
asks Last rule (m ∷ moves) h ends = true
