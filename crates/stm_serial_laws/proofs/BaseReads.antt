-- What the reads of an attempt show, from step to step; and what is read of a history that grows.
use mathlib.Core.Path.{fun_ext}
use Rattle.std.proofs.Common.{◌≡◌, ◌⊎◌, inl, inr, ℕ, ◌≤◌, Option, Some, List, [], ◌∷◌, ◌++◌, map, All, Contains, get_or, true, false, refl, sym, ◌∙◌}
use Rattle.std.proofs.Common.{ap, subst, arith, length-append}
use Rattle.std.proofs.lemmas.List.Elements.{All-from_recursion, recursion_from_All}
use Rattle.std.specs.List.{AllByRecursion}
use Rattle.std.proofs.lemmas.Bool.Decides.{nat_tests}
use Rattle.stm_history.specs.declared.change.Change.{Change}
use Rattle.stm_history.specs.declared.key_state.KeyState.{KeyState}
use Rattle.stm_history.specs.declared.key_state.ReadAnswer.{ReadAnswer}
use Rattle.stm_history.specs.Opening.{Opening}
use Rattle.stm_history.specs.History.{History, now, number_of_last, revisions_up_to}
use Rattle.stm_history.proofs.HistoryLaws.{last_is_above, last_revision_is_now}
use Rattle.stm_program.specs.Syntax.{ProgramTree}
use Rattle.stm_program.specs.declared.level.Level.{Level}
use Rattle.stm_program.specs.Levels.{is_serializable}
use Rattle.stm_outcome.specs.Commits.{revision_read}
use Rattle.stm_compile.specs.Answers.{answer_now, seen_of, state_as_of, state_now}
use Rattle.stm_compile.specs.CommitTxn.{reread_keys}
use Rattle.stm_attempt.specs.Entering.{is_due, gone_on}
use Rattle.stm_attempt.specs.Fetches.{at_of}
use Rattle.stm_attempt.specs.Known.{Known, known_of}
use Rattle.stm_attempt.specs.Laws.{AddsPrefetched}
use Rattle.stm_attempt.specs.Settled.{settled}
use Rattle.stm_attempt.proofs.EnteringLemmas.{gone_settled, not_due_before, taken_are, where_it_comes, Settles}
use Rattle.stm_attempt.proofs.SettleLemmas.{settling_adds_prefetched}
use Rattle.stm_entries.specs.Laws.{AddsTo}
use Rattle.stm_entries.specs.Replayed.{Replayed, without_moment}
use Rattle.stm_entries.proofs.Adding.{replay_only_adds}
use Rattle.stm_events.specs.declared.event.WorldEvent.{WorldEvent}
use Rattle.stm_world.specs.Appended.{HasAppended}
use Rattle.stm_world.specs.Sound.{IsSound}
use Rattle.stm_world.specs.Task.{Task, answer_at, after_conflict, after_fetch, after_list}
use Rattle.stm_world.specs.World.{World, step}
use Rattle.stm_world.proofs.Appending.{events_append}

-- ---- a history that grows

up_to_stays : (added older : List (List Change)) (opening : Opening) (r : ℕ) → r ≤ number_of_last opening older →
    revisions_up_to opening r (added ++ older) ≡ revisions_up_to opening r older
up_to_stays [] older opening r within = refl
up_to_stays (c ∷ added) older opening r within = grind (arith, nat_tests, last_is_above, length-append, up_to_stays added older opening r within)

pub counter_grows : (before after : History) → AddsTo before after → now before ≤ now after
counter_grows before after adds = grind (arith, nat_tests, length-append)

-- the state at a revision that was reached stays
pub state_stays : (before after : History) (r : ℕ) → AddsTo before after → r ≤ now before → state_as_of after r ≡ state_as_of before r
state_stays before after r adds within = grind (arith, nat_tests, up_to_stays)

-- at the last revision it is the current one
pub state_is_now : (h : History) (r : ℕ) → r ≡ now h → state_as_of h r ≡ state_now h
state_is_now h r is = fun_ext (λ key. ap (λ (s : Option KeyState). Some (seen_of s)) (last_revision_is_now h key r (omega (arith, is))))

-- an event only adds revisions
pub event_adds : (e : WorldEvent) (w : World) → IsSound w → AddsTo w.standing.history (step e w).next.standing.history
event_adds e w sound =
    let appended : HasAppended w (step e w).next = events_append (e ∷ []) w sound in
    subst (λ (r : Replayed). AddsTo w.standing.history r.history) appended.replays (replay_only_adds appended.more (without_moment w.standing))

-- ---- the base of the next reads

-- the first read of an attempt shows the current revision, or what the first one showed before
abbrev pub BaseFrom : History → List ReadAnswer → List ReadAnswer → Type 0
BaseFrom h before [] = Unit {0}
BaseFrom h before (a ∷ after) =
    (a.of_rev ≡ now h) ⊎ ((x : ReadAnswer) × (xs : List ReadAnswer) × (before ≡ x ∷ xs) × (x.of_rev ≡ a.of_rev))

fetched_from : (h : History) (level : Level) (reads added after : List ReadAnswer) (a : ReadAnswer) → is_serializable level ≡ true →
    a.of_rev ≡ revision_read h (at_of level reads) → after ≡ (reads ++ a ∷ []) ++ added → BaseFrom h reads after
fetched_from h level reads added after a serializable of_rev is = grind (arith, nat_tests)

-- after a fetch
pub fetch_from : (task : Task) (h : History) (key : List ℕ) (known : Known) → is_serializable task.level ≡ true →
    is_due task.program.prefetch known.reads ≡ false →
    BaseFrom h known.reads (after_fetch task (answer_at h key (revision_read h (at_of task.level known.reads))) known).reads
fetch_from task h key known serializable not =
    let a : ReadAnswer = answer_at h key (revision_read h (at_of task.level known.reads)) in
    let more : Known = record { reads = known.reads ++ a ∷ []; prefetched = known.prefetched } in
    let adds : AddsPrefetched more (settled task.program more) = settling_adds_prefetched task.program more in
    fetched_from h task.level known.reads adds.added (gone_on task.program more) a serializable refl
    (gone_settled task.program more (not_due_before task.program.prefetch known.reads (a ∷ []) not) ∙ adds.follow)

listed_from : (h : History) (keys : List (List ℕ)) (reads : List ReadAnswer) → is_due keys reads ≡ true → (more : List ReadAnswer → List ReadAnswer) →
    ((answers : List ReadAnswer) → is_due keys answers ≡ false → (added : List ReadAnswer) × (more answers ≡ answers ++ added)) →
    BaseFrom h reads (more (map (answer_now h) keys))
listed_from h [] reads due more follow = absurd (cc)
listed_from h (key ∷ keys) reads due more follow =
    let all : List ReadAnswer = map (answer_now h) (key ∷ keys) in
    let f = follow all refl in
    subst (BaseFrom h reads) (sym f.1) (inl refl)

-- after a list
pub list_from : (task : Task) (h : History) (known : Known) → is_due task.program.prefetch known.reads ≡ true →
    BaseFrom h known.reads (after_list task h known).reads
list_from task h known due =
    listed_from h task.program.prefetch known.reads due (λ answers. gone_on task.program (record { reads = answers; prefetched = known.prefetched }))
    (λ answers not.
    let more : Known = record { reads = answers; prefetched = known.prefetched } in
    let adds : AddsPrefetched more (settled task.program more) = settling_adds_prefetched task.program more in
    (adds.added, gone_settled task.program more not ∙ adds.follow))

-- ---- after a conflict

each_joined : (P : ReadAnswer → Type 0) (first second : List ReadAnswer) → AllByRecursion P first → AllByRecursion P second → AllByRecursion P (first ++ second)
each_joined P [] second all more = more
each_joined P (a ∷ first) second all more = (all.0, each_joined P first second all.1 more)

each_of : (P : ReadAnswer → Type 0) (answers added : List ReadAnswer) → AllByRecursion P answers → All (Contains answers) added → AllByRecursion P added
each_of P answers added all among =
    recursion_from_All P added (λ i d within.
    let there = among i d within in
    subst P there.2 (All-from_recursion P answers all there.0 (get_or added i d) there.1))

settled_each : (P : ReadAnswer → Type 0) (program : ProgramTree) (known : Known) → AllByRecursion P known.reads → AllByRecursion P known.prefetched →
    AllByRecursion P (settled program known)
settled_each P program known reads prefetched =
    let adds : AddsPrefetched known (settled program known) = settling_adds_prefetched program known in
    subst (AllByRecursion P) (sym adds.follow) (each_joined P known.reads adds.added reads (each_of P known.prefetched adds.added prefetched adds.prefetched))

start_each : (P : ReadAnswer → Type 0) (program : ProgramTree) (known : Known) (s : Settles program known) → AllByRecursion P known.reads →
    AllByRecursion P known.prefetched → AllByRecursion P s.start
start_each P program known s reads prefetched = grind (arith, nat_tests, taken_are)

gone_each : (P : ReadAnswer → Type 0) (program : ProgramTree) (known : Known) → AllByRecursion P known.reads → AllByRecursion P known.prefetched →
    AllByRecursion P (gone_on program known)
gone_each P program known reads prefetched = elim (where_it_comes program known) [
  | inl d ↦ subst (AllByRecursion P) (sym d.stays) reads
  | inr s ↦ subst (AllByRecursion P) (sym s.settles)
      (settled_each P program (known_of s.start known.prefetched) (start_each P program known s reads prefetched) prefetched)
]

now_each : (h : History) (keys : List (List ℕ)) → AllByRecursion (λ (a : ReadAnswer). a.of_rev ≡ now h) (map (answer_now h) keys)
now_each h [] = tt
now_each h (key ∷ keys) = (refl, now_each h keys)

now_from : (h : History) (before after : List ReadAnswer) → AllByRecursion (λ (a : ReadAnswer). a.of_rev ≡ now h) after → BaseFrom h before after
now_from h before after all = grind (arith, nat_tests)

pub conflict_from : (task : Task) (h : History) (known : Known) → BaseFrom h known.reads (after_conflict task h known).reads
conflict_from task h known =
    let keys : List (List ℕ) = reread_keys task.level known.reads in
    let next : Known = record { reads = []; prefetched = map (answer_now h) keys } in
    now_from h known.reads (gone_on task.program next) (gone_each (λ (a : ReadAnswer). a.of_rev ≡ now h) task.program next tt (now_each h keys))
