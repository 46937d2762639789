-- The entries that right lines report are legal, each at its point.
use Rattle.std.proofs.Common.{◌≡◌, ℕ, ◌≤◌, ◌+◌, suc, List, [], ◌∷◌, length, drop, Option, Some, None, Ok, refl, sym, subst, arith}
use Rattle.std.proofs.Math.Nat.{min-le_right}
use Rattle.std.specs.Prelude.{Result}
use Rattle.stm_outcome.specs.Terms.{most_operations}
use Rattle.stm_txn.specs.Standing.{Standing, Setup}
use Rattle.stm_entries.specs.declared.entry.Entry.{Entry}
use Rattle.stm_entries.specs.Replayed.{Replayed, without_moment}
use Rattle.stm_entries.specs.Legal.{AreLegal}
use Rattle.stm_entries.proofs.Replaying.{all_legal}
use Rattle.stm_events.specs.declared.line.ReportLine.{ReportLine}
use Rattle.stm_events.specs.declared.line.ReportLine.TheVariants as line
use Rattle.stm_events.specs.declared.event.WorldEvent.{WorldEvent}
use Rattle.stm_events.specs.declared.refusal.Denied.{Denied}
use Rattle.stm_events.specs.declared.reply.Reply.{Reply}
use Rattle.stm_events.specs.declared.reply.Reply.TheVariants.{Committed}
use Rattle.stm_events.specs.Called.{Watch, Poll, Cancel, Asked, Starts, Steps, Calls, asked}
use Rattle.stm_events.proofs.CallEnters.{few_are_replayed, call_enters}
use Rattle.stm_texts.specs.Opens.{setup_of}
use Rattle.stm_check.specs.declared.runner.Runner.{Runner}
use Rattle.stm_check.specs.Runners.{running}
use Rattle.stm_check.specs.Point.{Point, step_entries, entries_asked, left_asked, entries_of_line, after_line, beginning}
use Rattle.stm_check.specs.StoreLines.{final_lines}
use Rattle.stm_check.specs.Replays.{StepReplays, AskedReplays}
use Rattle.stm_check.specs.Judged.{AreRightEvents}
use Rattle.stm_check.specs.Laws.{YesIsTheReplay, IsReplayOf}
use Rattle.stm_check.specs.Wrong.{IsReplayed, AreRight, opens_at, point_after, entries_along}
use Rattle.stm_check.proofs.CallLemmas.{right_entries}
use Rattle.stm_check.proofs.Replaying.{line_is_the_replay, store_is_the_replay}

-- ---- the reply to an event

step_legal : (s : Standing) (o : Option Runner) (replied : Result Reply Denied) → StepReplays s o replied →
    AreLegal (step_entries s.history o replied) (without_moment s)
step_legal s (Some r) (Ok (Committed id revision attempts output trace answers)) right = (right.commit, tt)
step_legal s None (Ok (Committed id revision attempts output trace answers)) right = tt
step_legal s o _ right = tt

reply_legal : (s : Standing) (runners : List Runner) (a : Asked) (replied : Result Reply Denied) → s.limit ≤ most_operations →
    AskedReplays s runners a replied → AreLegal (entries_asked s runners a replied) (without_moment s)
reply_legal s runners (Starts program level limit) replied few right = tt
reply_legal s runners (Steps id) replied few right = step_legal s (running id runners) replied right
reply_legal s runners (Calls c) replied few right =
    subst (λ (es : List Entry). AreLegal es (without_moment s)) (sym (right_entries s c replied right)) (call_enters s c (few_are_replayed s c few)).legal

-- ---- all lines

-- the limit of the store stays
limit_left : (s : Standing) (a : Asked) → s.limit ≤ most_operations → (left_asked a s).limit ≡ s.limit
limit_left s (Calls (Watch keys from)) few = refl
limit_left s (Calls (Poll watcher most)) few = refl
limit_left s (Calls (Cancel watcher)) few = refl
limit_left s (Calls c) few = (call_enters s c (few_are_replayed s c few)).limit
limit_left s _ few = refl

limit_after : (p : Point) (e : WorldEvent) (l : ReportLine) → p.standing.limit ≤ most_operations → (after_line p e l).standing.limit ≡ p.standing.limit
limit_after p e (line.Event n replied) few = limit_left p.standing (asked e) few
limit_after p e _ few = refl

-- the entries that a right line reports
line_legal : (p : Point) (e : WorldEvent) (l : ReportLine) → p.standing.limit ≤ most_operations → IsReplayed p e l →
    AreLegal (entries_of_line p e l) (without_moment p.standing)
line_legal p e (line.Event n replied) few right = reply_legal p.standing p.runners (asked e) replied few right
line_legal p e _ few right = tt

lines_legal : (n : ℕ) (p : Point) (events : List WorldEvent) (lines : List ReportLine) → p.standing.limit ≤ most_operations →
    AreRight n p events lines → AreLegal (entries_along p events lines) (without_moment p.standing)
lines_legal n p [] lines few right = tt
lines_legal n p (e ∷ events) [] few right = absurd right
lines_legal n p (e ∷ events) (l ∷ lines) few right =
    all_legal (entries_of_line p e l) (entries_along (after_line p e l) events lines) (without_moment p.standing) (line_legal p e l few right.0.1)
    (subst (λ (r : Replayed). AreLegal (entries_along (after_line p e l) events lines) r) (line_is_the_replay p e l).store
    (lines_legal (suc n) (after_line p e l) events lines (subst (λ m. m ≤ most_operations) (sym (limit_after p e l few)) few) right.1))

events_right : (n : ℕ) (p : Point) (events : List WorldEvent) (lines : List ReportLine) → AreRight n p events lines → AreRightEvents n p events lines
events_right n p [] lines right = tt
events_right n p (e ∷ events) [] right = right
events_right n p (e ∷ events) (l ∷ lines) right = (right.0, events_right (suc n) (after_line p e l) events lines right.1)

ends_are : (n : ℕ) (p : Point) (events : List WorldEvent) (lines : List ReportLine) → AreRight n p events lines →
    drop (length events) lines ≡ final_lines (point_after p events lines)
ends_are n p [] lines right = right
ends_are n p (e ∷ events) [] right = absurd right
ends_are n p (e ∷ events) (l ∷ lines) right = ends_are (suc n) (after_line p e l) events lines right.1

none_before : (n m : ℕ) → n ≡ 0 + m → n ≡ m
none_before n m is = omega (arith, is)

opens_low : (start : Setup) → (beginning start).standing.limit ≤ most_operations
opens_low start = min-le_right start.limit most_operations

pub yes_is_the_replay : YesIsTheReplay
yes_is_the_replay s r right =
    let p : Point = opens_at s in
    let replays : IsReplayOf p (entries_along p s.events r.lines) (point_after p s.events r.lines) = store_is_the_replay p s.events r.lines in
    record {
      last = point_after p s.events r.lines;
      entries = entries_along p s.events r.lines;
      are_reported = refl;
      are_legal = lines_legal 1 p s.events r.lines (opens_low (setup_of s.opening)) right;
      store = replays.store;
      count = none_before (point_after p s.events r.lines).entries (length (entries_along p s.events r.lines)) replays.count;
      events_are_right = events_right 1 p s.events r.lines right;
      ends = ends_are 1 p s.events r.lines right;
    }
