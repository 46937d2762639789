-- What is printed of a search, as JSON data and as text.
--
-- The words are those of docs/FORMATS.md, "The command line".
use Rattle.std.specs.Prelude.{ℕ, List, [], ◌∷◌, ◌++◌, fold, codes}
use Rattle.std.specs.BTreeSet.{insert_key}
use Rattle.std.specs.List.{concat}
use Rattle.std.specs.Ordering.{nat_cmp}
use Rattle.std.specs.Cmp.Lexicographic.{slice_cmp}
use Rattle.serde_json.specs.Data.{Data, string}
use Rattle.stm_report_lines.specs.LineData.{list, whole, value_data}
use Rattle.stm_steps.specs.declared.run.End.{End}
use Rattle.stm_steps.specs.declared.run.End.TheVariants.{Done, Aborted as ByAbort, Faulted as ByFault}
use Rattle.stm_meaning.specs.Faults.{fault_name}
use Rattle.stm_events.specs.Names.{refusal_name}
use Rattle.stm_report_lines.specs.Text.{line_text}
use Rattle.stm_schedules.specs.declared.outcome.KeyValue.{KeyValue}
use Rattle.stm_schedules.specs.declared.outcome.Outcome.{Outcome}
use Rattle.stm_schedules.specs.declared.outcome.RunnerEnd.{RunnerEnd}
use Rattle.stm_schedules.specs.declared.outcome.RunnerEnd.TheVariants.{Committed, GaveUp, Aborted, Faulted, Ended}
use Rattle.stm_texts.specs.Writing.{written_list}

-- a word and a number
abbrev pub count_line : List ℕ → ℕ → Data
count_line word n = list (string word ∷ whole n ∷ [])

-- ---- whether a rule is kept

-- an end of a program at which its rule is not kept
abbrev pub end_data : End → Data
end_data Done = list (string (codes "done") ∷ [])
end_data (ByAbort text) = list (string (codes "aborted") ∷ string text ∷ [])
end_data (ByFault fault) = list (string (codes "faulted") ∷ string (fault_name fault) ∷ [])

-- ---- what whole schedules come to

abbrev pub key_value_data : KeyValue → Data
key_value_data kv = list (string kv.key ∷ string kv.value ∷ [])

abbrev pub runner_end_data : RunnerEnd → Data
runner_end_data (Committed output) = list (string (codes "committed") ∷ written_list value_data output ∷ [])
runner_end_data (GaveUp key) = list (string (codes "gaveup") ∷ string key ∷ [])
runner_end_data (Aborted text) = list (string (codes "aborted") ∷ string text ∷ [])
runner_end_data (Faulted fault) = list (string (codes "faulted") ∷ string (fault_name fault) ∷ [])
runner_end_data (Ended cause) = list (string (codes "ended") ∷ string (refusal_name cause) ∷ [])

-- the present keys with their values, and how each runner ended
abbrev pub outcome_line : Outcome → Data
outcome_line o =
    list (string (codes "outcome") ∷ written_list key_value_data o.state ∷ written_list runner_end_data o.ends ∷ [])

abbrev pub outcome_text : Outcome → List ℕ
outcome_text o = line_text (outcome_line o)

-- these texts, each once, ascending by bytes
abbrev pub each_once : List (List ℕ) → List (List ℕ)
each_once texts = fold (insert_key (slice_cmp nat_cmp)) [] texts

-- these texts, and behind them a line of a word and a number
abbrev pub counted_text : List (List ℕ) → List ℕ → ℕ → List ℕ
counted_text texts word n = concat texts ++ line_text (count_line word n)
