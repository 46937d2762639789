-- A run's commits fail only as often as the store's revision grows since its start.
use Rattle.std.proofs.Common.{◌≡◌, ℕ, ◌+◌, ◌<◌, ◌≤◌, zero, suc, List, [], ◌∷◌, ◌++◌, map, Some, Bool, true, sym, subst, arith}
use Rattle.std.specs.Prelude.{nat_lt, min, fold, ◌&&◌, ◌||◌, slice_get}
use Rattle.std.specs.List.{AllByRecursion}
use Rattle.std.proofs.lemmas.Bool.{ltb-true, Decides.nat_tests}
use Rattle.stm_history.specs.declared.change.Change.{Change}
use Rattle.stm_history.specs.declared.key_state.ReadAnswer.{ReadAnswer}
use Rattle.stm_history.specs.declared.revisions.TheConstants.{HIGHEST_REVISION}
use Rattle.stm_history.specs.Opening.{Opening}
use Rattle.stm_history.specs.History.{History, now, number_of_last}
use Rattle.stm_history.proofs.HistoryLaws.{mod_is_reached}
use Rattle.stm_program.specs.declared.level.Level.{Level}
use Rattle.stm_outcome.specs.Commits.{revision_read}
use Rattle.stm_compile.specs.Answers.{answer_now}
use Rattle.stm_compile.specs.CommitTxn.{first_carried, reread_keys}
use Rattle.stm_compile.specs.Conflicts.{Seen, seen_by, seen_of_read, seen_of_write, changes_above, IsChangedAbove}
use Rattle.stm_attempt.specs.Known.{Known}
use Rattle.stm_attempt.specs.Fetches.{at_of}
use Rattle.stm_world.specs.Task.{Task, answer_at, after_list, after_fetch, after_conflict}
use Rattle.stm_world.proofs.Served.{one_more, served_all}

-- ---- answers of a revision on ----

-- an answer that shows, and carries, a revision not below this one
abbrev IsFrom : ℕ → ReadAnswer → Type 0
IsFrom lowest a = (lowest ≤ a.of_rev) × (lowest ≤ a.revision)

abbrev AreFrom : ℕ → List ReadAnswer → Type 0
AreFrom lowest answers = AllByRecursion (IsFrom lowest) answers

abbrev pub KnowsFrom : ℕ → Known → Type 0
KnowsFrom lowest known = AreFrom lowest known.reads × AreFrom lowest known.prefetched

-- ---- a fetch ----

base_from : (lowest : ℕ) (h : History) (level : Level) (reads : List ReadAnswer) → lowest ≤ now h → AreFrom lowest reads →
    lowest ≤ revision_read h (at_of level reads)
base_from lowest h level reads reached are = grind (arith, nat_tests)

pub fetched_from : (lowest : ℕ) (h : History) (task : Task) (key : List ℕ) (of_rev : ℕ) (known : Known) → lowest ≤ now h →
    of_rev ≡ revision_read h (at_of task.level known.reads) → KnowsFrom lowest known → KnowsFrom lowest (after_fetch task (answer_at h key of_rev) known)
fetched_from lowest h task key of_rev known reached shows knows =
    let a : ReadAnswer = answer_at h key of_rev in
    let from : lowest ≤ of_rev = subst (λ r. lowest ≤ r) (sym shows) (base_from lowest h task.level known.reads reached knows.0) in
    served_all (IsFrom lowest) task (record { reads = known.reads ++ a ∷ []; prefetched = known.prefetched })
    (one_more (IsFrom lowest) known.reads a knows.0 (from, reached), knows.1)

-- ---- a list and a conflict ----

now_from : (lowest : ℕ) (h : History) (keys : List (List ℕ)) → lowest ≤ now h → AreFrom lowest (map (answer_now h) keys)
now_from lowest h [] reached = tt
now_from lowest h (key ∷ keys) reached = ((reached, reached), now_from lowest h keys reached)

pub prefetched_from : (lowest : ℕ) (h : History) (task : Task) (known : Known) → lowest ≤ now h → KnowsFrom lowest known →
    KnowsFrom lowest (after_list task h known)
prefetched_from lowest h task known reached knows =
    served_all (IsFrom lowest) task (record { reads = map (answer_now h) task.program.prefetch; prefetched = known.prefetched })
    (now_from lowest h task.program.prefetch reached, knows.1)

pub conflicted_from : (lowest : ℕ) (h : History) (task : Task) (known : Known) → lowest ≤ now h → KnowsFrom lowest (after_conflict task h known)
conflicted_from lowest h task known reached =
    let keys : List (List ℕ) = reread_keys task.level known.reads in
    served_all (IsFrom lowest) task (record { reads = []; prefetched = map (answer_now h) keys }) (tt, now_from lowest h keys reached)

-- what a compare is about was seen at a revision not below this one
abbrev SeenFrom : ℕ → List Seen → Type 0
SeenFrom lowest seen = AllByRecursion (λ (s : Seen). lowest ≤ s.at) seen

pub both_seen : (P : Seen → Type 0) (xs ys : List Seen) → AllByRecursion P xs → AllByRecursion P ys → AllByRecursion P (xs ++ ys)
both_seen P [] ys first second = second
both_seen P (x ∷ xs) ys first second = (first.0, both_seen P xs ys first.1 second)

reads_seen : (lowest : ℕ) (reads : List ReadAnswer) → AreFrom lowest reads → SeenFrom lowest (map seen_of_read reads)
reads_seen lowest [] are = tt
reads_seen lowest (a ∷ reads) are = (are.0.0, reads_seen lowest reads are.1)

writes_seen : (lowest first : ℕ) (writes : List Change) → lowest ≤ first → SeenFrom lowest (map (seen_of_write first) writes)
writes_seen lowest first [] from = tt
writes_seen lowest first (w ∷ writes) from = (from, writes_seen lowest first writes from)

least_from : (lowest least : ℕ) (answers : List ReadAnswer) → lowest ≤ least → AreFrom lowest answers →
    lowest ≤ fold (λ least (b : ReadAnswer). min least b.revision) least answers
least_from lowest least [] from are = from
least_from lowest least (a ∷ answers) from are = least_from lowest (min least a.revision) answers (let other : lowest ≤ a.revision = are.0.1 in omega arith) are.1

first_from : (lowest : ℕ) (reads : List ReadAnswer) → lowest ≤ HIGHEST_REVISION → AreFrom lowest reads → lowest ≤ first_carried reads
first_from lowest reads low are = grind (arith, nat_tests, least_from)

seen_from : (lowest : ℕ) (reads : List ReadAnswer) (writes : List Change) → lowest ≤ HIGHEST_REVISION → AreFrom lowest reads → SeenFrom lowest (seen_by reads writes)
seen_from lowest reads writes low are =
    both_seen (λ (s : Seen). lowest ≤ s.at) (map seen_of_read reads) (map (seen_of_write (first_carried reads)) writes) (reads_seen lowest reads are)
    (writes_seen lowest (first_carried reads) writes (first_from lowest reads low are))

pub seen_at_index : (P : Seen → Type 0) (xs : List Seen) (index : ℕ) (seen : Seen) → AllByRecursion P xs → slice_get xs index ≡ Some seen → P seen
seen_at_index P [] index seen all found = absurd (cc)
seen_at_index P (x ∷ xs) zero seen all found = let same : x ≡ seen = cc in subst P same all.0
seen_at_index P (x ∷ xs) (suc index) seen all found = seen_at_index P xs index seen all.1 found

-- a history that changes a key above a revision is above that
above_by : (opening : Opening) (r : ℕ) (above here later : Bool) (changes : List Change) (older : List (List Change)) →
    nat_lt r (number_of_last opening (changes ∷ older)) ≡ above → (later ≡ true → r < number_of_last opening older) →
    ((above && here) || later) ≡ true → r < number_of_last opening (changes ∷ older)
above_by opening r above here later changes older is goes changed = grind (arith, nat_tests, ltb-true)

pub above_all : (opening : Opening) (r : ℕ) (key : List ℕ) (revisions : List (List Change)) → changes_above opening r key revisions ≡ true →
    r < number_of_last opening revisions
above_all opening r key [] changed = grind (arith, nat_tests, ltb-true, mod_is_reached)
above_all opening r key (changes ∷ older) changed = grind (arith, nat_tests, above_by, above_all opening r key older)

-- after a conflict the store is above all that the attempt has seen
pub conflict_moves_on : (lowest : ℕ) (h : History) (reads : List ReadAnswer) (writes : List Change) (seen : Seen) (index : ℕ) (key : List ℕ) →
    lowest ≤ HIGHEST_REVISION → AreFrom lowest reads → slice_get (seen_by reads writes) index ≡ Some seen → IsChangedAbove h seen.at key → lowest + 1 ≤ now h
conflict_moves_on lowest h reads writes seen index key low are among changed = grind (arith, nat_tests, seen_at_index, seen_from, above_all)
