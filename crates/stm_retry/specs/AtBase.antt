-- What is known of a runner's next step.
--
-- The documentation of the Go package `clientv3/concurrency`, "Isolation": at serializable snapshot and serializable all reads of an attempt are of the
-- revision of its first read. So what such a read shows does not depend on when it is made.
use Rattle.std.specs.Prelude.{◌≡◌, ◌≤◌, ℕ, true, List, ◌∷◌, Option, None, Some}
use Rattle.stm_history.specs.declared.key_state.ReadAnswer.{ReadAnswer}
use Rattle.stm_program.specs.Levels.{is_serializable}
use Rattle.stm_attempt.specs.declared.next.Next.TheVariants.{Fetch}
use Rattle.stm_world.specs.World.{World, Runner, runner_at}
use Rattle.stm_world.specs.Sound.{IsSound}
use Rattle.stm_retry.specs.RunnerView.{next_for}
use Rattle.stm_retry.specs.declared.ahead.Ahead.{Ahead}
use Rattle.stm_retry.specs.declared.ahead.Ahead.TheVariants.{Unknown, FetchesAtBase as Fetches, Commits}

-- The next step fetches a key at the base of the attempt, whose first read carried no later revision than the one that it showed.
pub record FetchesAtBase (r : Runner) : Type 0 where
  pub first : ReadAnswer
  pub rest : List ReadAnswer
  pub key : List ℕ
  pub reads : r.known.reads ≡ first ∷ rest
  pub level : is_serializable r.task.level ≡ true
  pub some : 1 ≤ first.of_rev
  pub carried : first.revision ≤ first.of_rev
  pub next : next_for r ≡ Fetch key first.of_rev

-- so it is of a runner that stands there
abbrev pub FetchesIn : Option Runner → Type 0
FetchesIn None = ⊥
FetchesIn (Some r) = FetchesAtBase r

-- what is known ahead is so; that a step commits is a hint
abbrev pub IsAhead : Ahead → Runner → Type 0
IsAhead Fetches r = FetchesAtBase r
IsAhead Unknown r = Unit {0}
IsAhead Commits r = Unit {0}

-- in a sound world the next step of the runner with this number fetches at the base of its attempt, and nothing was compacted
pub record NextIsAtBase (id : ℕ) (w : World) : Type 0 where
  pub runner : Runner
  pub there : runner_at id w.runners ≡ Some runner
  pub fetches : FetchesAtBase runner
  pub floor : w.standing.floor ≡ 0
  pub sound : IsSound w
