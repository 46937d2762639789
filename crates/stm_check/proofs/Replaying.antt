-- The store after lines is the replay of the entries that they report.
use Rattle.std.proofs.Common.{◌≡◌, ◌+◌, List, [], ◌∷◌, ◌++◌, length, length-append, refl, sym, ap, ◌∙◌, arith}
use Rattle.stm_entries.specs.declared.entry.Entry.{Entry}
use Rattle.stm_entries.specs.Replayed.{Replayed, without_moment}
use Rattle.stm_entries.specs.Replay.{replay}
use Rattle.stm_entries.proofs.Replaying.{replay_goes_on}
use Rattle.stm_events.specs.declared.event.WorldEvent.{WorldEvent}
use Rattle.stm_events.specs.declared.line.ReportLine.{ReportLine}
use Rattle.stm_events.specs.declared.line.ReportLine.TheVariants as line
use Rattle.stm_check.specs.Point.{Point, entries_of_line, after_line}
use Rattle.stm_check.specs.Wrong.{point_after, entries_along}
use Rattle.stm_check.specs.Laws.{IsReplayOf}

-- one line
pub line_is_the_replay : (p : Point) (event : WorldEvent) (l : ReportLine) → IsReplayOf p (entries_of_line p event l) (after_line p event l)
line_is_the_replay p event (line.Event n replied) = record { store = refl; count = refl }
line_is_the_replay p event _ = record { store = refl; count = omega arith }

pub store_is_the_replay : (p : Point) (events : List WorldEvent) (lines : List ReportLine) →
    IsReplayOf p (entries_along p events lines) (point_after p events lines)
store_is_the_replay p [] lines = record { store = refl; count = omega arith }
store_is_the_replay p (event ∷ events) [] = record { store = refl; count = omega arith }
store_is_the_replay p (event ∷ events) (l ∷ lines) =
    let next : Point = after_line p event l in
    let reported : List Entry = entries_of_line p event l in
    let later : List Entry = entries_along next events lines in
    let first : IsReplayOf p reported next = line_is_the_replay p event l in
    let rest : IsReplayOf next later (point_after next events lines) = store_is_the_replay next events lines in
    record {
      store = rest.store ∙ ap (λ (r : Replayed). replay later r) first.store ∙ sym (replay_goes_on reported later (without_moment p.standing));
      count = omega (arith, rest.count, first.count, length-append reported later);
    }
