-- Lines of a report that no checkpoint has.
use Rattle.std.proofs.Common.{◌≡◌, ℕ, List, ◌∷◌, Result, refl}
use Rattle.std.specs.Prelude.{None}
use Rattle.stm_events.specs.declared.line.ReportLine.{ReportLine}
use Rattle.stm_events.specs.declared.line.ReportLine.TheVariants.{Event}
use Rattle.stm_events.specs.declared.refusal.Denied.{Denied}
use Rattle.stm_events.specs.declared.reply.Reply.{Reply}
use Rattle.stm_lasting.specs.declared.checkpoint_text.Stage.{Stage}
use Rattle.stm_lasting.specs.declared.checkpoint_text.Stage.TheVariants.{Keys, Leases, Ended}
use Rattle.stm_lasting.specs.Stages.{left_in}

-- the reply to an event is out of place, whatever has come
pub no_event : (stage : Stage) (number : ℕ) (reply : Result Reply Denied) (lines : List ReportLine) → left_in stage (Event number reply ∷ lines) ≡ None
no_event Keys number reply lines = refl
no_event Leases number reply lines = refl
no_event Ended number reply lines = refl
