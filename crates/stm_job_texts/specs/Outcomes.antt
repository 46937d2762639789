-- What runs of jobs come to, each outcome once, and how often it came.
--
-- The words are those of docs/FORMATS.md, "The command line"; an outcome is written as that of a whole schedule is, followed by how often it came.
use Rattle.std.specs.Prelude.{◌≡◌, ℕ, List, [], ◌∷◌, ◌++◌, map}
use Rattle.std.specs.Prelude.{Option, None, Some, slice_get, codes, decimal}
use Rattle.std.specs.List.{concat}
use Rattle.serde_json.specs.Data.{Data, string}
use Rattle.serde_json.specs.Written.{compact_text}
use Rattle.stm_steps.specs.declared.state.StateEntry.{StateEntry}
use Rattle.stm_steps.specs.declared.value.Value.{Value}
use Rattle.stm_meaning.specs.Faults.{fault_name}
use Rattle.stm_meaning.specs.States.{IsAscending}
use Rattle.stm_entries.specs.declared.entry.Entry.{Entry}
use Rattle.stm_entries.specs.declared.entry.Entry.TheVariants.{Program, Foreign, Grant, Renew, Revoke, Expire}
use Rattle.stm_journal.specs.JournalState.{JournalState}
use Rattle.stm_hall.specs.StateOf.{IsStateOf}
use Rattle.stm_report_lines.specs.LineData.{list, value_data}
use Rattle.stm_report_lines.specs.Text.{line_text}
use Rattle.stm_job.specs.declared.job_end.JobEnd.{JobEnd}
use Rattle.stm_job.specs.declared.job_end.JobEnd.TheVariants.{Committed, Aborted, Faulted, Refused, GaveUp}
use Rattle.stm_job_texts.specs.Tallies.{Tally}
use Rattle.stm_job_texts.specs.Lines.{count_line, job_refusal_name}

-- ---- what a run comes to

abbrev pub pair_data : List ℕ → List ℕ → Data
pair_data key value = list (string key ∷ string value ∷ [])

-- the keys that are present, with their values
abbrev pub pairs : List StateEntry → List Data
pairs entries = map (λ (e : StateEntry). pair_data e.key e.value) entries

-- what a program emitted, if the entry is one of a commit
abbrev pub output_of : Entry → List Value
output_of (Program program level answers output trace revision) = output
output_of (Foreign txn) = []
output_of (Grant id ttl moment) = []
output_of (Renew id moment) = []
output_of (Revoke id) = []
output_of (Expire id) = []

abbrev pub output_in : Option Entry → List Value
output_in None = []
output_in (Some entry) = output_of entry

-- how a job ended: a commit shows what its program emitted, by the entry that it names
abbrev pub end_data : List Entry → JobEnd → Data
end_data entries (Committed index revision) = list (string (codes "committed") ∷ list (map value_data (output_in (slice_get entries index))) ∷ [])
end_data entries (Aborted text reads) = list (string (codes "aborted") ∷ string text ∷ [])
end_data entries (Faulted fault reads) = list (string (codes "faulted") ∷ string (fault_name fault) ∷ [])
end_data entries (Refused refusal) = list (string (codes "ended") ∷ string (job_refusal_name refusal) ∷ [])
end_data entries (GaveUp key) = list (string (codes "gaveup") ∷ string key ∷ [])

-- the beginning of the line of an outcome: the array's word, the keys that are present, and how each job ended
abbrev pub front_text : List StateEntry → List Entry → List JobEnd → List ℕ
front_text state entries ends =
    ((codes "[\"outcome\"," ++ compact_text (list (pairs state))) ++ codes ",") ++ compact_text (list (map (end_data entries) ends))

-- the text is that of these ends, and of the state that the hall has come to
abbrev pub IsFrontOf : List JobEnd → JournalState → List ℕ → Type 0
IsFrontOf ends after text =
    (state : List StateEntry) × IsStateOf after.standing.history state × IsAscending state × (text ≡ front_text state after.entries ends)

-- ---- how often each came

-- the beginning of an outcome's line is followed by how often the outcome came
abbrev pub times_line : List ℕ × ℕ → List ℕ
times_line counted = ((counted.0 ++ codes ",") ++ decimal counted.1) ++ codes "]\n"

-- a line for each, and after them how many runs were made
abbrev pub tally_text : Tally → ℕ → List ℕ
tally_text tally runs = concat (map times_line tally) ++ line_text (count_line (codes "runs") runs)
