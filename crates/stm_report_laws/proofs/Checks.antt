-- A check says yes to the report of a right run, and so to what a script writes.
use Rattle.std.proofs.Common.{◌≡◌, ℕ, ◌++◌, List, [], length, sym, ◌∙◌, ap, subst}
use Rattle.std.specs.Prelude.{Result}
use Rattle.stm_compile.proofs.AgreeLemmas.{commit_is_the_run_now}
use Rattle.stm_compile.proofs.ConflictLemmas.{failed_compares_conflict}
use Rattle.stm_events.specs.declared.event.WorldEvent.{WorldEvent}
use Rattle.stm_events.specs.declared.reply.Reply.{Reply}
use Rattle.stm_events.specs.declared.refusal.Denied.{Denied}
use Rattle.stm_world.specs.Log.{IsLogOf, store, entries_reported}
use Rattle.stm_world.specs.World.{World, opened, world_after, replies_to}
use Rattle.stm_world.specs.Headline.{Holds}
use Rattle.stm_world.proofs.Headlines.{headline}
use Rattle.stm_world.proofs.Logs.{one_log}
use Rattle.stm_world.proofs.OneReply.{one_right_reply}
use Rattle.stm_world.proofs.RunnerSteps.{CommitLaws}
use Rattle.stm_events.specs.declared.line.ReportLine.{ReportLine}
use Rattle.stm_check.specs.StoreLines.{end_lines}
use Rattle.stm_check.specs.Wrong.{AreRight, entries_along}
use Rattle.stm_texts.specs.declared.scenario.Scenario.{Scenario}
use Rattle.stm_texts.specs.Opens.{setup_of}
use Rattle.stm_report.specs.Report.{report_of, event_lines}
use Rattle.stm_report.specs.Script.{IsRunReport}
use Rattle.stm_report.specs.FormatScript.{IsRunText}
use Rattle.stm_report_laws.specs.Laws.{ChecksSayYes, EntriesAreReported, IsOfRightReport, ScriptsPassChecks}
use Rattle.stm_report_laws.proofs.LinesRight.{point_at, all_right, all_entries}
use Rattle.stm_txn.specs.Standing.{Setup}

laws : CommitLaws
laws = record { run_now = commit_is_the_run_now; conflicts = failed_compares_conflict }

-- a run of which the headline holds is the world's own run
record IsOwnRun (start : Setup) (events : List WorldEvent) (replies : List (Result Reply Denied)) (w : World) : Type 0 where
  replies_are : replies ≡ replies_to events (opened start)
  store_is : (world_after events (opened start)).standing ≡ w.standing
  entries_are : (world_after events (opened start)).entries ≡ w.entries

own_run : (start : Setup) (events : List WorldEvent) (replies : List (Result Reply Denied)) (w : World) → (holds : Holds start events replies w) →
    IsOwnRun start events replies w
own_run start events replies w holds =
    let run : Holds start events (replies_to events (opened start)) (world_after events (opened start)) = headline laws start events in
    let same : replies ≡ replies_to events (opened start) =
    (one_right_reply (headline laws)).replies start events replies holds.log holds.is_log holds.right in
    let log : run.log ≡ holds.log =
    one_log events (replies_to events (opened start)) run.log holds.log run.is_log
    (subst (λ (rs : List (Result Reply Denied)). IsLogOf events rs holds.log) same holds.is_log) in
    record {
      replies_are = same;
      store_is = run.standing ∙ ap (store start) log ∙ sym holds.standing;
      entries_are = run.entries ∙ ap (entries_reported start) log ∙ sym holds.entries;
    }

-- so it has the report of the world's own run
one_run : (start : Setup) (events : List WorldEvent) (replies : List (Result Reply Denied)) (w : World) → Holds start events replies w →
    event_lines 1 (replies_to events (opened start))
    ++ end_lines (world_after events (opened start)).standing (length (world_after events (opened start)).entries)
    ≡ event_lines 1 replies ++ end_lines w.standing (length w.entries)
one_run start events replies w holds =
    let own : IsOwnRun start events replies w = own_run start events replies w holds in
    ap (λ (rs : List (Result Reply Denied)). event_lines 1 rs
    ++ end_lines (world_after events (opened start)).standing (length (world_after events (opened start)).entries)) (sym own.replies_are)
    ∙ (λ i. event_lines 1 replies ++ end_lines (own.store_is i) (length (own.entries_are i)))

pub checks_say_yes : ChecksSayYes
checks_say_yes s replies w holds =
    let start : Setup = setup_of s.opening in
    subst (λ (lines : List ReportLine). AreRight 1 (point_at start [] []) s.events lines) (one_run start s.events replies w holds)
    (all_right start s.events laws)

-- and its entries are those that a check reads off the report
pub entries_are_reported : EntriesAreReported
entries_are_reported s replies w holds =
    let start : Setup = setup_of s.opening in
    ap (entries_along (point_at start [] []) s.events) (sym (one_run start s.events replies w holds)) ∙ all_entries start s.events laws
    ∙ (own_run start s.events replies w holds).entries_are

run_is_checked : (s : Scenario) (text : List ℕ) → IsRunReport s text → IsOfRightReport s text
unfolding IsRunText
run_is_checked s text written =
    let start : Setup = setup_of s.opening in
    record {
      report = report_of (world_after s.events (opened start)) (replies_to s.events (opened start));
      written = written.0;
      yes = checks_say_yes s (replies_to s.events (opened start)) (world_after s.events (opened start)) (headline laws start s.events);
    }

pub scripts_pass_checks : ScriptsPassChecks
scripts_pass_checks bytes text (s, reads, written) = (s, reads, run_is_checked s text written)
