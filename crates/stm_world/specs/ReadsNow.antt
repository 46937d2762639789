-- What a commit has read is what the store has.
--
-- The Go package `concurrency`, "STM": a commit compares the modification revisions of what was read. That these stand for the
-- values, since what a runner knows is true, is our own; a hall, to which any caller commits, has to look at the values too.
use Rattle.std.specs.Prelude.{◌≡◌, true, None, Some}
use Rattle.stm_program.specs.Writes.{latest_writes}
use Rattle.stm_steps.specs.declared.run.Run.{Run}
use Rattle.stm_steps.specs.declared.run.Answered.TheVariants.{Ended as EndedRun}
use Rattle.stm_program.specs.Levels.{is_comparing}
use Rattle.stm_compile.specs.Committed.{conflict_now}
use Rattle.stm_compile.specs.Laws.{AreNow}
use Rattle.stm_attempt.specs.Settled.{run_on}
use Rattle.stm_events.specs.declared.event.WorldEvent.{WorldEvent}
use Rattle.stm_events.specs.Called.{Asked, Steps, asked}
use Rattle.stm_world.specs.World.{World, Runner, runner_at}
use Rattle.stm_world.specs.Sound.{IsSound}

-- Where the runner's program has come to its end, at a level that compares, and no compare of its commit fails, each value and
-- modification revision that it has read is that of its key now. So also where the store refuses the commit.
abbrev pub HasReadWhatIsNow : World → Runner → Type 0
HasReadWhatIsNow w r =
    (run : Run) → run_on r.task.program r.known.reads ≡ EndedRun run → is_comparing r.task.level ≡ true
    → conflict_now w.standing.history r.task.level r.known.reads (latest_writes run.writes) ≡ None → AreNow w.standing.history r.known.reads

abbrev pub ReadsAreNowAsked : Asked → World → Type 0
ReadsAreNowAsked (Steps id) w = (r : Runner) → runner_at id w.runners ≡ Some r → HasReadWhatIsNow w r
ReadsAreNowAsked other w = Unit {0}

-- the same of the runner that an event steps
abbrev pub ReadsAreNow : WorldEvent → World → Type 0
ReadsAreNow event w = ReadsAreNowAsked (asked event) w

-- So it is in each sound world, whichever event comes.
abbrev pub CommitsReadWhatIsNow : Type 0
CommitsReadWhatIsNow = (event : WorldEvent) (w : World) → IsSound w → ReadsAreNow event w
