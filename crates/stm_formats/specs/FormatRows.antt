-- The rows of a report: one for each event.
use Rattle.std.specs.Prelude.{◌≡◌, ℕ, suc, List, [], ◌∷◌, Result, Ok, Err}
use Rattle.stm_history.specs.History.{History}
use Rattle.stm_events.specs.declared.event.WorldEvent.{WorldEvent}
use Rattle.stm_events.specs.declared.event.WorldEvent.TheVariants as event
use Rattle.stm_events.specs.declared.reply.Reply.{Reply}
use Rattle.stm_events.specs.declared.reply.Reply.TheVariants as reply
use Rattle.stm_events.specs.declared.refusal.Denied.{Denied}
use Rattle.stm_formats.specs.declared.format_label.RunnerLabel.{RunnerLabel}
use Rattle.stm_formats.specs.declared.format_keys.Cuts.{Cuts}
use Rattle.stm_formats.specs.declared.format_row.Lane.{Lane}
use Rattle.stm_formats.specs.declared.format_row.Lane.TheVariants.{Store, Runner}
use Rattle.stm_formats.specs.declared.format_row.Mark.{Mark}
use Rattle.stm_formats.specs.declared.format_row.Mark.TheVariants.{Committed, Failed, Plain}
use Rattle.stm_formats.specs.declared.format_row.Row.{Row}
use Rattle.stm_reasons.specs.Counters.{counter_after}
use Rattle.stm_formats.specs.FormatWords.{words_of}

-- the column of an event that was taken: its runner's
abbrev pub reply_lane : Reply → Lane
reply_lane (reply.Started runner) = Runner runner
reply_lane (reply.Prefetched runner revision reads) = Runner runner
reply_lane (reply.Fetched runner key mod_rev of_rev revision) = Runner runner
reply_lane (reply.Committed runner revision attempts output trace answers) = Runner runner
reply_lane (reply.Conflict runner key seen now) = Runner runner
reply_lane (reply.GaveUp runner attempts key seen now) = Runner runner
reply_lane (reply.Aborted runner text) = Runner runner
reply_lane (reply.Faulted runner fault) = Runner runner
reply_lane (reply.Ended runner cause) = Runner runner
reply_lane other = Store

-- that of a refused one: the runner that was to make the step
abbrev pub refused_lane : WorldEvent → Lane
refused_lane (event.Step runner) = Runner runner
refused_lane other = Store

abbrev pub lane_of : WorldEvent → Result Reply Denied → Lane
lane_of event (Ok reply) = reply_lane reply
lane_of event (Err denied) = refused_lane event

abbrev pub mark_of : Result Reply Denied → Mark
mark_of (Ok (reply.Committed runner revision attempts output trace answers)) = Committed
mark_of (Ok (reply.Conflict runner key seen now)) = Failed
mark_of (Ok (reply.GaveUp runner attempts key seen now)) = Failed
mark_of (Ok (reply.Aborted runner text)) = Failed
mark_of (Ok (reply.Faulted runner fault)) = Failed
mark_of (Ok (reply.Ended runner cause)) = Failed
mark_of (Ok (reply.Lost watcher floor)) = Failed
mark_of (Ok other) = Plain
mark_of (Err denied) = Failed

-- the row of an event before which the store was at a revision, with its reply
abbrev pub row_of : Cuts → List RunnerLabel → History → ℕ → ℕ → WorldEvent → Result Reply Denied → Row
row_of cuts labels h before n event reply =
    record { number = n; lane = lane_of event reply; mark = mark_of reply; words = words_of cuts labels h before event reply }

-- a row for each event, numbered from n, where the store was at a revision before them and has this history since
abbrev pub rows_of : Cuts → List RunnerLabel → History → ℕ → ℕ → List WorldEvent → List (Result Reply Denied) → List Row
rows_of cuts labels h before n [] replies = []
rows_of cuts labels h before n (event ∷ events) [] = []
rows_of cuts labels h before n (event ∷ events) (reply ∷ replies) =
    row_of cuts labels h before n event reply ∷ rows_of cuts labels h (counter_after before reply) (suc n) events replies

-- the rows are numbered from n
abbrev pub AreNumbered : ℕ → List Row → Type 0
AreNumbered n [] = Unit {0}
AreNumbered n (row ∷ rows) = (row.number ≡ n) × AreNumbered (suc n) rows
