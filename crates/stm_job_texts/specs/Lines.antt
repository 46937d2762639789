-- What is printed of a run of jobs, as JSON data and as text.
--
-- The words are those of docs/FORMATS.md, "The command line".
use Rattle.std.specs.Prelude.{◌≡◌, ℕ, ◌-◌, ◌^◌, suc, min, sum, Bool, true, false, List, [], ◌∷◌, ◌++◌, map, slice_index, codes}
use Rattle.serde_json.specs.Data.{Data, string}
use Rattle.stm_history.specs.History.{History, now}
use Rattle.stm_steps.specs.declared.state.StateEntry.{StateEntry}
use Rattle.stm_meaning.specs.Faults.{fault_name}
use Rattle.stm_outcome.specs.Names.{refusal_name}
use Rattle.stm_job.specs.Ends.{attempts_of, failed_keys}
use Rattle.stm_job.specs.declared.job_end.JobEnd.{JobEnd}
use Rattle.stm_job.specs.declared.job_end.JobEnd.TheVariants.{Committed, Aborted, Faulted, Refused, GaveUp}
use Rattle.stm_job.specs.declared.job_end.JobRefusal.{JobRefusal}
use Rattle.stm_job.specs.declared.job_end.JobRefusal.TheVariants.{Store, Behind, Unvouched}
use Rattle.stm_meaning.specs.States.{IsAscending}
use Rattle.stm_report_lines.specs.LineData.{list, whole}
use Rattle.stm_report_lines.specs.Text.{line_text, lines_text}
use Rattle.stm_hall.specs.StateOf.{IsStateOf}
use Rattle.stm_job_texts.specs.Tallies.{Tally, Counts}

abbrev pub count_line : List ℕ → ℕ → Data
count_line word count = list (string word ∷ whole count ∷ [])

abbrev pub value_line : List ℕ → List ℕ → Data
value_line key value = list (string (codes "value") ∷ string key ∷ string value ∷ [])

abbrev pub value_lines : List StateEntry → List Data
value_lines entries = map (λ (e : StateEntry). value_line e.key e.value) entries

-- ---- the ends of jobs

-- why a call of a job was refused, by its name
abbrev pub job_refusal_name : JobRefusal → List ℕ
job_refusal_name (Store refusal) = refusal_name refusal.cause
job_refusal_name (Behind seen now) = codes "Behind"
job_refusal_name (Unvouched key) = codes "Unvouched"

-- the line of a job: its number, how it ended, what more is reported of that, and how many attempts of it were made
abbrev pub job_line : ℕ → List ℕ → Data → ℕ → Data
job_line job word reported attempts = list (string (codes "job") ∷ whole job ∷ string word ∷ reported ∷ whole attempts ∷ [])

-- a commit shows the revision after it, an abort its text, a fault and a refusal their names, and a job that gave up the key of its last conflict
abbrev pub end_of_job : ℕ → JobEnd → ℕ → Data
end_of_job job (Committed index revision) attempts = job_line job (codes "committed") (whole revision) attempts
end_of_job job (Aborted text reads) attempts = job_line job (codes "aborted") (string text) attempts
end_of_job job (Faulted fault reads) attempts = job_line job (codes "faulted") (string (fault_name fault)) attempts
end_of_job job (Refused refusal) attempts = job_line job (codes "ended") (string (job_refusal_name refusal)) attempts
end_of_job job (GaveUp key) attempts = job_line job (codes "gaveup") (string key) attempts

-- a line for each job, numbered from n, each with its number of these attempts
abbrev pub lines_of_ends : List ℕ → ℕ → List JobEnd → List Data
lines_of_ends attempts n [] = []
lines_of_ends attempts n (end ∷ ends) = end_of_job n end (slice_index attempts n) ∷ lines_of_ends attempts (suc n) ends

-- how many attempts were made in all, as far as a number of 64 bits goes
abbrev pub attempts_in_all : List ℕ → ℕ
attempts_in_all attempts = min (sum attempts) (2 ^ 64 - 1)

-- how often commits failed over a key
abbrev pub conflicts_line : List ℕ × ℕ → Data
conflicts_line counted = list (string (codes "conflicts") ∷ string counted.0 ∷ whole counted.1 ∷ [])

-- where the ends are shown, that number, how often commits failed over each key, and the lines of the ends, to which jobs came after commits that failed over
-- these keys
abbrev pub AreEndsShown : Bool → List JobEnd → List (List (List ℕ)) → List Data → Type 0
AreEndsShown false ends lost lines = lines ≡ []
AreEndsShown true ends lost lines =
    (tally : Tally) × Counts (failed_keys ends lost) tally
    × (lines ≡ count_line (codes "attempts") (attempts_in_all (map attempts_of lost)) ∷ map conflicts_line tally ++ lines_of_ends (map attempts_of lost) 0 ends)

-- ---- the whole

-- how many jobs there are and how many committed, these lines of their ends, the value of each key that is present, ascending by bytes, and the
-- revision
abbrev pub text_of : ℕ → ℕ → List Data → List StateEntry → ℕ → List ℕ
text_of jobs committed reported entries revision =
    line_text (count_line (codes "jobs") jobs)
    ++ line_text (count_line (codes "committed") committed)
    ++ lines_text reported
    ++ lines_text (value_lines entries)
    ++ line_text (count_line (codes "end") revision)

-- the text is that of this number of jobs, of the number of them that committed, of their ends and of the keys over which commits failed before, where these
-- are shown, and of the state that the history has come to
abbrev pub AreLinesOf : Bool → List JobEnd → List (List (List ℕ)) → ℕ → ℕ → History → List ℕ → Type 0
AreLinesOf shown ends lost jobs committed h text =
    (entries : List StateEntry) × IsStateOf h entries × IsAscending entries
    × (lines : List Data) × AreEndsShown shown ends lost lines × (text ≡ text_of jobs committed lines entries (now h))
