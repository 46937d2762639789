-- A row and an object for each event.
use Rattle.std.proofs.Common.{◌≡◌, ℕ, suc, List, [], ◌∷◌, length, map, Result, refl, ap, ◌∙◌, arith}
use Rattle.std.proofs.lemmas.Bool.Decides.{nat_tests}
use Rattle.stm_history.specs.History.{History}
use Rattle.stm_events.specs.declared.event.WorldEvent.{WorldEvent}
use Rattle.stm_events.specs.declared.reply.Reply.{Reply}
use Rattle.stm_events.specs.declared.refusal.Denied.{Denied}
use Rattle.stm_world.specs.World.{replies_to}
use Rattle.stm_reasons.specs.Counters.{counter_after}
use Rattle.stm_formats.specs.declared.format_keys.Cuts.{Cuts}
use Rattle.stm_formats.specs.declared.format_label.RunnerLabel.{RunnerLabel}
use Rattle.stm_formats.specs.FormatRows.{rows_of, AreNumbered}
use Rattle.stm_report.specs.Forms.{object_line}
use Rattle.stm_report.specs.Report.{event_lines}
use Rattle.stm_report.proofs.FormatRowLemmas.{one_reply}
use Rattle.stm_report_laws.specs.FormatLaws.{OneRowAnEvent, OneObjectAnEvent}

one_row : (cuts : Cuts) (labels : List RunnerLabel) (h : History) (before n : ℕ) (events : List WorldEvent) (replies : List (Result Reply Denied)) → length replies ≡ length events
    → length (rows_of cuts labels h before n events replies) ≡ length events
one_row cuts labels h before n [] replies same = refl
one_row cuts labels h before n (e ∷ es) [] same = absurd (omega (arith, same))
one_row cuts labels h before n (e ∷ es) (r ∷ rs) same = ap suc (one_row cuts labels h (counter_after before r) (suc n) es rs (omega (arith, same)))

numbered : (cuts : Cuts) (labels : List RunnerLabel) (h : History) (before n : ℕ) (events : List WorldEvent) (replies : List (Result Reply Denied)) →
    AreNumbered n (rows_of cuts labels h before n events replies)
numbered cuts labels h before n [] replies = tt
numbered cuts labels h before n (e ∷ es) [] = tt
numbered cuts labels h before n (e ∷ es) (r ∷ rs) = (refl, numbered cuts labels h (counter_after before r) (suc n) es rs)

one_object : (n : ℕ) (replies : List (Result Reply Denied)) → length (map object_line (event_lines n replies)) ≡ length replies
one_object n [] = refl
one_object n (r ∷ rs) = ap suc (one_object (suc n) rs)

pub one_row_an_event : OneRowAnEvent
one_row_an_event cuts labels h before events w = grind (arith, nat_tests, one_row, one_reply, numbered)

pub one_object_an_event : OneObjectAnEvent
one_object_an_event events w = one_object 1 (replies_to events w) ∙ one_reply events w
