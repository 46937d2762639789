-- The run with a number is that of the runner with the next number.
use Rattle.std.proofs.Common.{◌≡◌, ◌≢◌, ◌∙◌, ℕ, zero, suc, ◌+◌, ◌<◌, List, [], ◌∷◌, ◌++◌, length, map, Bool, true, false, true≢false, cond}
use Rattle.std.proofs.Common.{Option, Some, None, Ok, Err, nat_eq, refl, sym, ap, subst, append_assoc, append-nil, arith}
use Rattle.std.specs.Prelude.{Result, slice_get}
use Rattle.std.proofs.lemmas.Bool.{eq-eqb, eqb-true}
use Rattle.std.proofs.lemmas.List.{reverse-append, length-append}
use Rattle.std.proofs.lemmas.Option.{same_Some, slice_get_within}
use Rattle.stm_events.specs.declared.event.WorldEvent.{WorldEvent}
use Rattle.stm_events.specs.declared.event.WorldEvent.TheVariants.{Start}
use Rattle.stm_events.specs.declared.reply.Reply.{Reply}
use Rattle.stm_events.specs.declared.reply.Reply.TheVariants as variant
use Rattle.stm_events.specs.declared.refusal.Denied.{Denied}
use Rattle.stm_world.specs.Task.{Task}
use Rattle.stm_world.specs.Log.{Line, is_id, is_start, runner_started, started, begun, task_in}
use Rattle.stm_world.specs.Right.{Situation, IsRight, AreRight, StepIsRight}
use Rattle.stm_world.proofs.Lines.{by_event}
use Rattle.stm_faulted_runs.specs.Places.{Started, started_by, started_in}
use Rattle.stm_faulted_runs.specs.Laws.{events_of, IsBegun, RunsAreBegun}
use Rattle.stm_txn.specs.Standing.{Setup}

-- ---- replies that name no new runner

none_named : (o : Option ℕ) → ((id : ℕ) → is_id id o ≡ false) → o ≡ None
none_named None none = refl
none_named (Some n) none = absurd (true≢false (sym (eq-eqb n n refl) ∙ none n))

step_silent : (at : Situation) (reported : Result Reply Denied) → StepIsRight at reported → runner_started reported ≡ None
step_silent at (Err refusal) right = refl
step_silent at (Ok (variant.Started id)) right = absurd right
step_silent at _ right = refl

abbrev starts : WorldEvent → Bool
starts (Start program level limit) = true
starts other = false

silent : (start : Setup) (log : List Line) (event : WorldEvent) (reported : Result Reply Denied) → IsRight start log event reported → starts event ≡ false → runner_started reported ≡ None
silent start log event reported right other =
    by_event start log (λ (e : WorldEvent) (r : Result Reply Denied). starts e ≡ false → runner_started r ≡ None)
    (λ e r nothing not. none_named (runner_started r) (λ id. (nothing.untouched id).not_started)) (λ task not. absurd (true≢false not))
    (λ id task r runs right not. step_silent _ r right) event reported right other

-- ---- line by line

-- as many runners were started as there are runs, and each is one of these
record Counts (log : List Line) (runs : List Started) : Type 0 where
  count : started log ≡ length runs
  are : (number : ℕ) (run : Started) → slice_get runs number ≡ Some run → IsBegun (number + 1) log run

quiet : (event : WorldEvent) (reported : Result Reply Denied) (older : List Line) (runs : List Started) → runner_started reported ≡ None → Counts older runs →
    Counts (record { event = event; reply = reported } ∷ older) (runs ++ [])
quiet event reported older runs none c =
    let log : List Line = record { event = event; reply = reported } ∷ older in
    subst (λ (rs : List Started). Counts log rs) (sym (append-nil runs)) (record {
      count = ap (λ (o : Option ℕ). cond (is_start o) (started older + 1) (started older)) none ∙ c.count;
      are = λ number run at.
          let b : IsBegun (number + 1) older run = c.are number run at in record {
            task = b.task;
            was = ap (λ (o : Option ℕ). cond (is_id (number + 1) o) (task_in event) (begun (number + 1) older)) none ∙ b.was;
            same = b.same;
          };
    })

at_end : (runs : List Started) (run : Started) → slice_get (runs ++ run ∷ []) (length runs) ≡ Some run
at_end [] run = refl
at_end (first ∷ runs) run = at_end runs run

before_end : (runs : List Started) (run : Started) (number : ℕ) → number < length runs → slice_get (runs ++ run ∷ []) number ≡ slice_get runs number
before_end [] run number below = absurd (omega arith)
before_end (first ∷ runs) run zero below = refl
before_end (first ∷ runs) run (suc number) below = before_end runs run number (omega arith)

not_same : (a b : ℕ) → nat_eq a b ≡ false → a ≢ b
not_same a b is same = true≢false (sym (eq-eqb a b same) ∙ is)

not_zero : (limit : ℕ) → limit ≢ 0 → (is : Bool) → nat_eq limit 0 ≡ is → nat_eq limit 0 ≡ false
not_zero limit some true is = absurd (some (eqb-true limit 0 is))
not_zero limit some false is = is

-- the log with the start of a task, which gets the next number
abbrev begun_with : Task → List Line → List Line
begun_with task older =
    record { event = Start task.program task.level task.limit; reply = Ok (variant.Started (started older + 1)) } ∷ older

by_number : (task : Task) (older : List Line) (runs : List Started) (element : ℕ) → Counts older runs → (number : ℕ) (it : Started) →
    slice_get (runs ++ record { element = element; program = task.program } ∷ []) number ≡ Some it → (mine : Bool) →
    nat_eq (started older + 1) (number + 1) ≡ mine → IsBegun (number + 1) (begun_with task older) it
by_number task older runs element c number it at true is =
    let run : Started = record { element = element; program = task.program } in
    let last : number ≡ length runs = omega (arith, eqb-true (started older + 1) (number + 1) is, c.count) in
    let found : Some run ≡ Some it = sym (at_end runs run) ∙ ap (λ (n : ℕ). slice_get (runs ++ run ∷ []) n) (sym last) ∙ at in record {
      task = task;
      was = ap (λ (b : Bool). cond b (Some task) (begun (number + 1) older)) is;
      same = ap (λ (r : Started). r.program) (same_Some run it found);
    }
by_number task older runs element c number it at false is =
    let run : Started = record { element = element; program = task.program } in
    let within : number < length (runs ++ run ∷ []) = slice_get_within (runs ++ run ∷ []) number it at in
    let other : (started older + 1) ≢ (number + 1) = not_same (started older + 1) (number + 1) is in
    let below : number < length runs = omega (arith, within, length-append runs (run ∷ []), other, c.count) in
    let b : IsBegun (number + 1) older it = c.are number it (sym (before_end runs run number below) ∙ at) in record {
      task = b.task;
      was = ap (λ (b : Bool). cond b (Some task) (begun (number + 1) older)) is ∙ b.was;
      same = b.same;
    }

begins : (task : Task) (older : List Line) (runs : List Started) (element : ℕ) → Counts older runs →
    Counts (begun_with task older) (runs ++ record { element = element; program = task.program } ∷ [])
begins task older runs element c =
    let run : Started = record { element = element; program = task.program } in record {
      count = omega (arith, c.count, length-append runs (run ∷ []));
      are = λ number it at. by_number task older runs element c number it at (nat_eq (started older + 1) (number + 1)) refl;
    }

by_line : (start : Setup) (element : ℕ) (older : List Line) (runs : List Started) (event : WorldEvent) (reported : Result Reply Denied) → IsRight start older event reported →
    Counts older runs → Counts (record { event = event; reply = reported } ∷ older) (runs ++ started_by element event)
by_line start element older runs (Start program level limit) (Ok named) right c =
    let task : Task = record { program = program; level = level; limit = limit } in
    let run : Started = record { element = element; program = program } in
    let event : WorldEvent = Start program level limit in
    let some : nat_eq limit 0 ≡ false = not_zero limit right.1 (nat_eq limit 0) refl in
    let one : started_by element event ≡ run ∷ [] = ap (λ (b : Bool). cond b [] (run ∷ [])) some in
    subst (λ (rs : List Started). Counts (record { event = event; reply = Ok named } ∷ older) (runs ++ rs)) (sym one)
    (subst (λ (r : Reply). Counts (record { event = event; reply = Ok r } ∷ older) (runs ++ run ∷ [])) (sym right.0) (begins task older runs element c))
by_line start element older runs (Start program level limit) (Err refusal) right c =
    let run : Started = record { element = element; program = program } in
    let event : WorldEvent = Start program level limit in
    let none : started_by element event ≡ [] = ap (λ (n : ℕ). cond (nat_eq n 0) [] (run ∷ [])) right.1 in
    subst (λ (rs : List Started). Counts (record { event = event; reply = Err refusal } ∷ older) (runs ++ rs)) (sym none)
    (quiet event (Err refusal) older runs refl c)
by_line start element older runs other reported right c = quiet other reported older runs (silent start older other reported right refl) c

-- ---- all lines

one_more : (element : ℕ) (events : List WorldEvent) (e : WorldEvent) →
    started_in element (events ++ e ∷ []) ≡ started_in element events ++ started_by (element + length events) e
one_more element [] e = append-nil (started_by element e) ∙ ap (λ (n : ℕ). started_by n e) (let same : element ≡ element + 0 = omega arith in same)
one_more element (first ∷ events) e =
    let next : suc element + length events ≡ element + suc (length events) = omega arith in
    ap (λ (rs : List Started). started_by element first ++ rs) (one_more (suc element) events e)
    ∙ sym (append_assoc (started_by element first) (started_in (suc element) events) (started_by (suc element + length events) e))
    ∙ ap (λ (n : ℕ). (started_by element first ++ started_in (suc element) events) ++ started_by n e) next

counts : (start : Setup) (first : ℕ) (log : List Line) → AreRight start log → Counts log (started_in first (events_of log))
counts start first [] right = record { count = refl; are = λ number run at. absurd (cc) }
counts start first (line ∷ older) right =
    let events : List WorldEvent = events_of older in
    let all : events_of (line ∷ older) ≡ events ++ line.event ∷ [] = reverse-append (line.event ∷ []) (map (λ (l : Line). l.event) older) in
    subst (λ (rs : List Started). Counts (line ∷ older) rs)
    (sym (ap (λ (es : List WorldEvent). started_in first es) all ∙ one_more first events line.event))
    (by_line start (first + length events) older (started_in first events) line.event line.reply right.0 (counts start first older right.1))

pub runs_are_begun : RunsAreBegun
runs_are_begun start first log right number run at = (counts start first log right).are number run at
