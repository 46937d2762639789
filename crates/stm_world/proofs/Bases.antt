-- What an attempt at a serializable level knows is of one revision, and what any attempt has read was asked for.
use Rattle.std.proofs.Common.{◌≡◌, ◌≢◌, ℕ, ◌<◌, ◌≤◌, List, [], ◌∷◌, ◌++◌, map, true, false, refl, subst, arith}
use Rattle.std.specs.List.{AllByRecursion}
use Rattle.std.proofs.lemmas.List.Elements.{All-from_recursion}
use Rattle.std.proofs.lemmas.Bool.Decides.{nat_tests}
use Rattle.stm_history.specs.declared.key_state.ReadAnswer.{ReadAnswer}
use Rattle.stm_history.specs.History.{History, now}
use Rattle.stm_outcome.specs.Commits.{revision_read}
use Rattle.stm_txn.specs.Standing.{Standing, Setup}
use Rattle.stm_program.specs.Levels.{is_serializable}
use Rattle.stm_compile.specs.Answers.{answer_now}
use Rattle.stm_attempt.specs.Known.{Known}
use Rattle.stm_attempt.specs.Fetches.{at_of, AllShow, ShowOneRevision, HaveOneBase}
use Rattle.stm_attempt.specs.Entering.{is_due}
use Rattle.stm_attempt.specs.Laws.{BeginsWithList}
use Rattle.stm_attempt.proofs.BaseLemmas.{fetching_keeps_the_base}
use Rattle.stm_attempt.proofs.EnteringLemmas.{going_on_keeps_the_base}
use Rattle.stm_entries.specs.declared.entry.Entry.{Entry}
use Rattle.stm_entries.specs.Replayed.{Replayed, opening, without_moment}
use Rattle.stm_entries.specs.Replay.{replay}
use Rattle.stm_entries.specs.Laws.{AddsTo}
use Rattle.stm_entries.proofs.Adding.{replay_only_adds}
use Rattle.stm_steps.specs.declared.trace_item.TraceItem.{TraceItem}
use Rattle.stm_steps.specs.declared.run.Answered.TheVariants.{Wants}
use Rattle.stm_attempt.specs.Settled.{run_on}
use Rattle.stm_world.specs.Task.{Task, answer_at, with_served, after_list, after_fetch, after_conflict}
use Rattle.stm_world.specs.Asked.{AreAsked}
use Rattle.stm_world.specs.World.{Runner, begin}
use Rattle.stm_world.proofs.Carried.{IsCurrent, fetch_current, list_current, conflict_current}
use Rattle.stm_world.proofs.Asked.{none_asked, fetch_listed, fetch_asked, list_listed, list_asked, conflict_listed, conflict_asked}

-- the answers that were read have one base, and those that were prefetched show one revision, and no 0
abbrev pub HasBase : Known → Type 0
HasBase known = HaveOneBase known.reads × AllByRecursion (λ (a : ReadAnswer). 1 ≤ a.of_rev) known.prefetched × ShowOneRevision known.prefetched

-- at the serializable levels, in a world whose store did not open at 0
abbrev pub IsBased : Setup → Task → Known → Type 0
IsBased start task known = 1 ≤ start.revision → is_serializable task.level ≡ true → HasBase known

served_base : (task : Task) (known : Known) → HasBase known → HasBase (with_served task known)
served_base task known based = grind (arith, nat_tests, going_on_keeps_the_base, All-from_recursion)

rereads_show : (h : History) (keys : List (List ℕ)) → 1 ≤ now h → AllByRecursion (λ (a : ReadAnswer). 1 ≤ a.of_rev) (map (answer_now h) keys)
rereads_show h [] some = tt
rereads_show h (key ∷ keys) some = (some, rereads_show h keys some)

-- answers as they are now are of one revision
all_now : (h : History) (keys : List (List ℕ)) → AllShow (now h) (map (answer_now h) keys)
all_now h [] = tt
all_now h (key ∷ keys) = (refl, all_now h keys)

rereads_one : (h : History) (keys : List (List ℕ)) → ShowOneRevision (map (answer_now h) keys)
rereads_one h keys = grind (arith, nat_tests, all_now)

now_base : (h : History) (keys : List (List ℕ)) → 1 ≤ now h → HaveOneBase (map (answer_now h) keys)
now_base h keys some = grind (arith, nat_tests, all_now)

-- the counter of a world's store does not fall below the revision that it opened at
added_count : (before after : History) → AddsTo before after → 1 ≤ before.opening.number → 1 ≤ now after
added_count before after adds some = grind (arith, nat_tests)

pub counter_some : (start : Setup) (entries : List Entry) (s : Standing) → replay entries (opening start.revision) ≡ without_moment s → 1 ≤ start.revision → 1 ≤ now s.history
counter_some start entries s replays some =
    subst (λ (r : Replayed). 1 ≤ now r.history) replays
    (added_count (opening start.revision).history (replay entries (opening start.revision)).history (replay_only_adds entries (opening start.revision)) some)

fetch_based : (start : Setup) (task : Task) (h : History) (key : List ℕ) (known : Known) → (1 ≤ start.revision → 1 ≤ now h) → IsBased start task known →
    IsBased start task (after_fetch task (answer_at h key (revision_read h (at_of task.level known.reads))) known)
fetch_based start task h key known counter based some serializable =
    let before : HasBase known = based some serializable in
    let a : ReadAnswer = answer_at h key (revision_read h (at_of task.level known.reads)) in
    served_base task (record { reads = known.reads ++ a ∷ []; prefetched = known.prefetched })
    (fetching_keeps_the_base h task.level known.reads a serializable (counter some) refl before.0, before.1, before.2)

list_based : (start : Setup) (task : Task) (h : History) (known : Known) → (1 ≤ start.revision → 1 ≤ now h) → IsBased start task known →
    IsBased start task (after_list task h known)
list_based start task h known counter based some serializable =
    let before : HasBase known = based some serializable in
    served_base task (record { reads = map (answer_now h) task.program.prefetch; prefetched = known.prefetched })
    (now_base h task.program.prefetch (counter some), before.1, before.2)

conflict_based : (start : Setup) (task : Task) (h : History) (known : Known) → (1 ≤ start.revision → 1 ≤ now h) → IsBased start task (after_conflict task h known)
conflict_based start task h known counter some serializable = grind (arith, nat_tests, served_base, rereads_show, rereads_one)

-- ---- how a run goes on ----

-- what a runner has read in its attempt is based, at ReadCommitted of its moment, begins with its list, and was asked for after it; and it may
-- send another commit
pub record IsWellRun (start : Setup) (r : Runner) : Type 0 where
  pub based : IsBased start r.task r.known
  pub current : IsCurrent r.task r.known
  pub listed : BeginsWithList r.task.program.prefetch r.known.reads
  pub asked : AreAsked r.task.program r.known.reads
  pub within : r.failures < r.task.limit

pub begin_runs : (start : Setup) (task : Task) → task.limit ≢ 0 → IsWellRun start (begin task)
begin_runs start task some = grind (arith, nat_tests, none_asked)

pub fetch_runs : (start : Setup) (r : Runner) (h : History) (key : List ℕ) (trace : List TraceItem) → (1 ≤ start.revision → 1 ≤ now h) →
    is_due r.task.program.prefetch r.known.reads ≡ false → run_on r.task.program r.known.reads ≡ Wants key trace → IsWellRun start r →
    IsWellRun start (record r { known = after_fetch r.task (answer_at h key (revision_read h (at_of r.task.level r.known.reads))) r.known })
fetch_runs start r h key trace counter not wants well = record {
  based = fetch_based start r.task h key r.known counter well.based;
  current = fetch_current r.task h key r.known well.current;
  listed = fetch_listed r.task h key (revision_read h (at_of r.task.level r.known.reads)) r.known not well.listed;
  asked = fetch_asked r.task h key (revision_read h (at_of r.task.level r.known.reads)) trace r.known not wants well.listed well.asked;
  within = well.within;
}

pub list_runs : (start : Setup) (r : Runner) (h : History) → (1 ≤ start.revision → 1 ≤ now h) → IsWellRun start r →
    IsWellRun start (record r { known = after_list r.task h r.known })
list_runs start r h counter well = record {
  based = list_based start r.task h r.known counter well.based;
  current = list_current r.task h r.known well.current;
  listed = list_listed r.task h r.known;
  asked = list_asked r.task h r.known;
  within = well.within;
}

pub conflict_runs : (start : Setup) (task : Task) (failures : ℕ) (h : History) (known : Known) → (1 ≤ start.revision → 1 ≤ now h) → failures < task.limit →
    IsWellRun start (record { task = task; failures = failures; known = after_conflict task h known })
conflict_runs start task failures h known counter left =
    record {
      based = conflict_based start task h known counter;
      current = conflict_current task h known;
      listed = conflict_listed task h known;
      asked = conflict_asked task h known;
      within = left;
    }
