-- What a script writes is read as its report, which a check says yes to.
use Rattle.std.proofs.Common.{◌≡◌, ℕ, ◌+◌, ◌≤◌, List, length, Option, Some, Ok, Err, IfSome, IsUtf8, sym, ap, subst, ◌∙◌, arith}
use Rattle.std.specs.Prelude.{Result}
use Rattle.stm_json.specs.declared.limits.TheConstants.{MOST_BYTES}
use Rattle.stm_json.specs.declared.read_error.BadInput.{BadInput}
use Rattle.stm_json.specs.Outcome.{Outcome}
use Rattle.stm_events.specs.declared.reply.Reply.{Reply}
use Rattle.stm_events.specs.declared.refusal.Denied.{Denied}
use Rattle.stm_world.specs.World.{World, opened, world_after, replies_to}
use Rattle.stm_texts.specs.declared.scenario.Scenario.{Scenario}
use Rattle.stm_texts.specs.declared.events.TheConstants.{MOST_EVENTS}
use Rattle.stm_texts.specs.Reading.{scenario_in}
use Rattle.stm_texts.specs.Opens.{setup_of}
use Rattle.stm_txn.specs.Standing.{Setup}
use Rattle.stm_events.specs.declared.line.Report.{Report}
use Rattle.stm_report_lines.specs.Reading.{report_in}
use Rattle.stm_report_lines.proofs.ReportLaws.{report_means}
use Rattle.stm_check.specs.declared.checking.Checked.{Checked}
use Rattle.stm_check.specs.declared.checking.Checked.TheVariants.{Yes}
use Rattle.stm_check.specs.declared.sources.CheckFault.TheVariants.{OutOfMemory, BadScenario, BadReport, Device}
use Rattle.stm_check.specs.Judged.{IsJudged}
use Rattle.stm_check.specs.StoreLines.{end_lines}
use Rattle.stm_check.proofs.Once.{judged_once}
use Rattle.stm_compile.proofs.AgreeLemmas.{commit_is_the_run_now}
use Rattle.stm_compile.proofs.ConflictLemmas.{failed_compares_conflict}
use Rattle.stm_world.proofs.Headlines.{headline}
use Rattle.stm_report.specs.Report.{event_lines, report_of}
use Rattle.stm_report.specs.Script.{IsRunReport}
use Rattle.stm_report.proofs.FormatRowLemmas.{one_reply}
use Rattle.stm_report.specs.FormatScript.{IsRunText}
use Rattle.stm_report_laws.specs.ReadBack.{IsReadable, AreReadable}
use Rattle.stm_report_laws.specs.Laws.{IsReadAsRight, ScriptsAreReadAsRight, NeverNoToAScript, YesToAScript}
use Rattle.stm_report_laws.proofs.Checks.{checks_say_yes}
use Rattle.stm_report_laws.proofs.ReadBack.{reports_are_read_back}
use Rattle.stm_report_laws.proofs.SmallRuns.{all_append}
use Rattle.stm_report_laws.proofs.SmallWorlds.{RunFits, run_fits_from, opened_fits}
use Rattle.stm_report_laws.proofs.SmallEvents.{AsksFew, scenario_asks_few}
use Rattle.stm_report_laws.proofs.SmallLines.{events_readable, end_readable}

-- ---- the report of a run of a scenario that was read

lines_readable : (s : Scenario) → AsksFew s → AreReadable (report_of (world_after s.events (opened (setup_of s.opening))) (replies_to s.events (opened (setup_of s.opening)))).lines
lines_readable s asks =
    let start : Setup = setup_of s.opening in
    let w : World = world_after s.events (opened start) in
    let replies : List (Result Reply Denied) = replies_to s.events (opened start) in
    let count : length s.events ≤ MOST_EVENTS = asks.count in
    let each : length replies ≡ length s.events = one_reply s.events (opened start) in
    let run : RunFits (0 + length s.events) replies w = run_fits_from 0 s.events (opened start) (opened_fits start asks.opens) (omega (arith, count)) asks.events in
    all_append IsReadable (event_lines 1 replies) (end_lines w.standing (length w.entries)) (events_readable 1 replies (omega (arith, count, each)) run.replies)
    (end_readable w.standing (length w.entries) run.world.small (omega (arith, count, run.world.entries)))

-- ---- it is read

run_is_read : (s : Scenario) (text : List ℕ) → AsksFew s → IsRunReport s text → length text ≤ MOST_BYTES → IsReadAsRight s text
unfolding IsRunText
run_is_read s text asks (written, utf8) short =
    let start : Setup = setup_of s.opening in
    let r : Report = report_of (world_after s.events (opened start)) (replies_to s.events (opened start)) in
    record {
      report = r;
      reads = ap report_in written
          ∙ reports_are_read_back r (lines_readable s asks) (subst IsUtf8 written utf8) (subst (λ (t : List ℕ). length t ≤ MOST_BYTES) written short);
      yes = checks_say_yes s (replies_to s.events (opened start)) (world_after s.events (opened start))
          (headline (record { run_now = commit_is_the_run_now; conflicts = failed_compares_conflict }) start s.events);
    }

pub scripts_are_read_as_right : ScriptsAreReadAsRight
scripts_are_read_as_right bytes text (s, reads, written) short = (s, reads, run_is_read s text (scenario_asks_few bytes s reads) written short)

-- ---- what is read is not too long

abbrev read_or : {A : Type 0} → Outcome A → A → A
read_or (Ok x) other = x
read_or (Err fault) other = other

one_read : {A : Type 0} (o : Outcome A) (a b : A) → o ≡ Ok a → o ≡ Ok b → a ≡ b
one_read o a b first second = ap (λ x. read_or x a) (sym first ∙ second)

pub never_no_to_a_script : NeverNoToAScript
never_no_to_a_script bytes text s r (other, reads_other, written) reads reads_report =
    let same : other ≡ s = one_read (scenario_in bytes) other s reads_other reads in
    let own : IsRunReport s text = subst (λ (x : Scenario). IsRunReport x text) same written in
    let right : IsReadAsRight s text = run_is_read s text (scenario_asks_few bytes s reads) own (report_means text r reads_report).0 in
    subst (λ (x : Report). IsJudged s x Yes) (one_read (report_in text) right.report r right.reads reads_report) right.yes

-- ---- two sources

pub at_known : (known : Option (List ℕ)) (all : List ℕ) (P : List ℕ → Type 0) → known ≡ Some all → IfSome known P → P all
at_known known all P is holds = subst (λ (k : Option (List ℕ)). IfSome k P) is holds

abbrev is_read : {A : Type 0} → Outcome A → Type 0
is_read (Ok x) = Unit {0}
is_read (Err fault) = ⊥

not_read : {A : Type 0} (o : Outcome A) (a : A) (fault : BadInput) → o ≡ Ok a → o ≡ Err fault → ⊥
not_read o a fault good bad = subst is_read (sym good ∙ bad) tt

pub yes_to_a_script : YesToAScript
yes_to_a_script d scenario text (Ok checked) of_scenario of_text written short (none, s, r, reads, reads_report, judged) settled =
    let own : scenario_in scenario ≡ Ok s = at_known d.scenario scenario (λ (all : List ℕ). scenario_in all ≡ Ok s) of_scenario reads in
    let given : report_in text ≡ Ok r = at_known d.report text (λ (all : List ℕ). report_in all ≡ Ok r) of_text reads_report in
    ap (λ (c : Checked). Ok c) (judged_once s r checked Yes judged (never_no_to_a_script scenario text s r written own given))
yes_to_a_script d scenario text (Err OutOfMemory) of_scenario of_text written short judges settled = absurd settled
yes_to_a_script d scenario text (Err (BadScenario fault)) of_scenario of_text (s, reads, run) short (none, bad) settled =
    absurd (not_read (scenario_in scenario) s fault reads (at_known d.scenario scenario (λ (all : List ℕ). scenario_in all ≡ Err fault) of_scenario bad))
yes_to_a_script d scenario text (Err (BadReport fault)) of_scenario of_text written short (none, s, reads, bad) settled =
    let right = (scripts_are_read_as_right scenario text written short).2 in
    absurd (not_read (report_in text) right.report fault right.reads (at_known d.report text (λ (all : List ℕ). report_in all ≡ Err fault) of_text bad))
yes_to_a_script d scenario text (Err Device) of_scenario of_text written short judges settled = absurd settled
