-- Why commits failed, and on what commits went through that no longer was so, as notes.
use Rattle.std.specs.Prelude.{ℕ, nat_eq, if◌then◌else◌, List, [], ◌∷◌, map, Option, Some, None, codes, decimal}
use Rattle.stm_reasons.specs.declared.reason.Cause.{Cause}
use Rattle.stm_reasons.specs.declared.reason.Deed.{Deed}
use Rattle.stm_reasons.specs.declared.reason.Deed.TheVariants.{Put, Deleted, Ended}
use Rattle.stm_reasons.specs.declared.reason.Ending.{Ending}
use Rattle.stm_reasons.specs.declared.reason.Ending.TheVariants.{Conflict, GaveUp, Stale}
use Rattle.stm_reasons.specs.declared.reason.Reason.{Reason}
use Rattle.stm_formats.specs.declared.format_label.RunnerLabel.{RunnerLabel}
use Rattle.stm_formats.specs.FormatShown.{plain}
use Rattle.stm_formats.specs.FormatPieces.{joined}
use Rattle.stm_formats.specs.FormatLabels.{runner_words}

-- what the runner did
abbrev pub ending_words : Ending → List ℕ
ending_words Conflict = codes " conflicts at event "
ending_words GaveUp = codes " gives up at event "
ending_words Stale = codes " commits at event "

-- what it had seen of the key
abbrev pub was_words : ℕ → List ℕ
was_words seen = if nat_eq seen 0 then codes " was absent" else joined (codes " was @" ∷ decimal seen ∷ [])

-- when
abbrev pub read_words : Option ℕ → List ℕ
read_words None = codes " when it last saw it"
read_words (Some event) = joined (codes " when it read it at event " ∷ decimal event ∷ [])

-- what has changed the key since then
abbrev pub deed_words : Deed → List ℕ
deed_words Put = codes " put it"
deed_words Deleted = codes " deleted it"
deed_words (Ended lease) = joined (codes " deleted it, as lease " ∷ decimal lease ∷ codes " ended" ∷ [])

abbrev pub cause_words : Option Cause → List ℕ
cause_words None = []
cause_words (Some cause) = joined (codes ", and event " ∷ decimal cause.event ∷ deed_words cause.deed ∷ [])

-- what follows
abbrev pub moral : Ending → List ℕ
moral Stale = codes ": a comparing level would have refused it"
moral other = []

abbrev pub reason_note : List RunnerLabel → Reason → List ℕ
reason_note labels reason =
    joined (runner_words labels reason.runner ∷ ending_words reason.ending ∷ decimal reason.event ∷ codes ": " ∷ plain reason.key
    ∷ was_words reason.seen ∷ read_words reason.read ∷ cause_words reason.cause ∷ moral reason.ending ∷ [])

abbrev pub reason_notes : List RunnerLabel → List Reason → List (List ℕ)
reason_notes labels reasons = map (reason_note labels) reasons
