-- A line that is not about a runner leaves what the log says of it.
use Rattle.std.proofs.Common.{◌≡◌, ℕ, ◌+◌, List, [], ◌∷◌, Option, None, Ok, Err, false, cond, refl, ap, arith}
use Rattle.std.specs.Prelude.{option_map, Result}
use Rattle.std.proofs.lemmas.Bool.Decides.{nat_tests}
use Rattle.stm_history.specs.History.{History}
use Rattle.stm_txn.specs.Standing.{Standing, Setup}
use Rattle.stm_attempt.specs.Known.{Known}
use Rattle.stm_events.specs.declared.reply.Reply.{Reply}
use Rattle.stm_events.specs.declared.refusal.Denied.{Denied}
use Rattle.stm_events.specs.Replies.{runner_named, event_refusal}
use Rattle.stm_events.specs.Called.{Call, called}
use Rattle.stm_events.proofs.CallReplies.{call_replies}
use Rattle.stm_world.specs.Task.{Task, nothing_known}
use Rattle.stm_world.specs.Log.{Line, begun, is_over, running, failures, is_id, store, known_after_log, known_after}
use Rattle.stm_world.specs.Log.{runner_started, runner_ended, runner_in_conflict}
use Rattle.stm_world.specs.Doomed.{failed_commit, stopped}
use Rattle.stm_world.specs.World.{Runner}
use Rattle.stm_world.specs.Headline.{runner_in_log}

pub record Untouched (id : ℕ) (reply : Result Reply Denied) : Type 0 where
  pub not_started : is_id id (runner_started reply) ≡ false
  pub not_ended : is_id id (runner_ended reply) ≡ false
  pub no_conflict : is_id id (runner_in_conflict reply) ≡ false
  pub known : (task : Task) (h : History) (k : Known) → known_after id task h reply k ≡ k

pub same_running : (id : ℕ) (line : Line) (log : List Line) → Untouched id line.reply → running id (line ∷ log) ≡ running id log
same_running id line log u = grind (arith, nat_tests)

pub same_failures : (id : ℕ) (line : Line) (log : List Line) → Untouched id line.reply → failures id (line ∷ log) ≡ failures id log
same_failures id line log u = ap (λ b. cond b (failures id log + 1) (failures id log)) u.no_conflict

pub same_reported : (start : Setup) (id : ℕ) (task : Task) (line : Line) (log : List Line) → Untouched id line.reply →
    known_after_log start id task (line ∷ log) ≡ known_after_log start id task log
same_reported start id task line log u = u.known task (store start log).history (known_after_log start id task log)

map_alike : (f g : Task → Runner) (o : Option Task) → ((task : Task) → f task ≡ g task) → option_map f o ≡ option_map g o
map_alike f g o alike = grind (arith, nat_tests)

pub same_in_log : (start : Setup) (id : ℕ) (line : Line) (log : List Line) → Untouched id line.reply →
    runner_in_log start (line ∷ log) id ≡ runner_in_log start log id
same_in_log start id line log u = grind (arith, nat_tests, same_running, map_alike, same_failures, same_reported)

-- ---- numbers that were not given ----

-- the log says nothing of a number
pub record IsFresh (start : Setup) (log : List Line) (id : ℕ) : Type 0 where
  pub not_begun : begun id log ≡ None
  pub not_over : is_over id log ≡ false
  pub no_failures : failures id log ≡ 0
  pub nothing : (task : Task) → known_after_log start id task log ≡ nothing_known

pub none_reported : (start : Setup) (id : ℕ) → IsFresh start [] id
none_reported start id = record { not_begun = refl; not_over = refl; no_failures = refl; nothing = λ task. refl }

pub fresh_stays : (start : Setup) (id : ℕ) (line : Line) (log : List Line) → Untouched id line.reply → IsFresh start log id → IsFresh start (line ∷ log) id
fresh_stays start id line log u fresh = grind (arith, nat_tests, same_failures, same_reported)

-- ---- replies ----

pub by_refusal : (id : ℕ) (refusal : Denied) → Untouched id (Err refusal)
by_refusal id refusal = record { not_started = refl; not_ended = refl; no_conflict = refl; known = λ task h k. refl }

-- a reply that names one runner, or none, is not about another
pub by_reply : (id : ℕ) (reply : Reply) → is_id id (runner_named reply) ≡ false → Untouched id (Ok reply)
by_reply id reply other = grind (arith, nat_tests)

-- ---- the replies to calls of the store ----

-- a reply that says nothing of runners
pub record SaysNothing (reply : Result Reply Denied) : Type 0 where
  pub not_started : runner_started reply ≡ None
  pub no_failure : failed_commit reply ≡ None
  pub no_stop : stopped reply ≡ None
  pub untouched : (id : ℕ) → Untouched id reply

pub nothing_by_refusal : (refusal : Denied) → SaysNothing (Err refusal)
nothing_by_refusal refusal = record { not_started = refl; no_failure = refl; no_stop = refl; untouched = λ id. by_refusal id refusal }

nothing_by_reply : (reply : Reply) → runner_named reply ≡ None → SaysNothing (Ok reply)
nothing_by_reply reply none = grind (arith, nat_tests, by_reply)

pub call_says_nothing : (s : Standing) (c : Call) → SaysNothing (called s c).reply
call_says_nothing =
    call_replies SaysNothing (record { told = nothing_by_reply; refused = λ cause expired. nothing_by_refusal (record { cause = event_refusal cause; expired = expired }) })
