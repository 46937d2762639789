-- Answers that are true, and stay so.
use Rattle.std.proofs.Common.{◌≡◌, ℕ, ◌≤◌, zero, suc, List, [], ◌∷◌, ◌++◌, map, filter, Option, Some, None, Bool, true, cond, refl, sym, ◌∙◌, subst, arith}
use Rattle.std.proofs.lemmas.Bool.Decides.{nat_tests}
use Rattle.stm_history.specs.declared.change.Change.{Change}
use Rattle.stm_history.specs.declared.key_state.ReadAnswer.{ReadAnswer}
use Rattle.stm_history.specs.History.{History, now, IsTrueAnswer}
use Rattle.stm_program.specs.Syntax.{ProgramTree}
use Rattle.stm_program.specs.declared.level.Level.{Level}
use Rattle.stm_outcome.specs.Outcome.{with_changes}
use Rattle.stm_outcome.specs.Commits.{revision_read}
use Rattle.stm_compile.specs.Answers.{AreTrue, answer_in, answer_now}
use Rattle.stm_compile.specs.CommitTxn.{reread_keys}
use Rattle.stm_compile.proofs.AgreeLemmas.{true_answers_stay, now_are_true}
use Rattle.stm_attempt.specs.Known.{Known, serving, is_of_base}
use Rattle.stm_attempt.specs.Settled.{run_on, wanted, answer_for, served, taken, settle}
use Rattle.stm_attempt.specs.Entering.{answers_of_all, gone_on}
use Rattle.stm_attempt.specs.Fetches.{at_of}
use Rattle.stm_attempt.proofs.EnteringLemmas.{taken_first, where_it_comes}
use Rattle.stm_world.specs.Task.{Task, answer_at, with_served, after_list, after_fetch, after_conflict}
use Rattle.stm_world.specs.Sound.{KnowsTruth}
use Rattle.stm_watch.specs.Watching.{Watching}
use Rattle.stm_watch.specs.Places.{is_lost}
use Rattle.stm_watch.specs.Pending.{first_pending}
use Rattle.stm_world.proofs.Polling.{Carries, carries_changes, lost_stays}

-- what was true of one history is true of another, what watchers were notified of goes on, what is below a floor stays so, and it opens as
-- it did
pub record Keeps (before after : History) : Type 0 where
  pub truth : (answers : List ReadAnswer) → AreTrue before answers → AreTrue after answers
  pub carries : Carries before after
  pub lost : (floor : ℕ) (w : Watching) → is_lost floor (first_pending before w) ≡ true → is_lost floor (first_pending after w) ≡ true
  pub opening : after.opening ≡ before.opening

pub keeps_same : (h : History) → Keeps h h
keeps_same h = record { truth = λ answers t. t; carries = λ reported begun w t. t; lost = λ floor w is. is; opening = refl }

pub keeps_twice : (a b c : History) → Keeps a b → Keeps b c → Keeps a c
keeps_twice a b c first second = record {
  truth = λ answers t. second.truth answers (first.truth answers t);
  carries = λ reported begun w t. second.carries reported begun w (first.carries reported begun w t);
  lost = λ floor w is. second.lost floor w (first.lost floor w is);
  opening = second.opening ∙ first.opening;
}

opens_so : (h : History) (changes : List Change) → (with_changes h changes).opening ≡ h.opening
opens_so h changes = grind (arith, nat_tests)

pub keeps_changes : (h : History) (changes : List Change) → Keeps h (with_changes h changes)
keeps_changes h changes = record {
  truth = λ answers t. true_answers_stay h changes answers t;
  carries = carries_changes h changes;
  lost = λ floor w is. lost_stays floor h changes w is;
  opening = opens_so h changes;
}

pub known_stays : (h after : History) (known : Known) → Keeps h after → KnowsTruth h known → KnowsTruth after known
known_stays h after known keeps t = (keeps.truth known.reads t.0, keeps.truth known.prefetched t.1)

pub one_more_true : (h : History) (answers : List ReadAnswer) (a : ReadAnswer) → AreTrue h answers → IsTrueAnswer h a → AreTrue h (answers ++ a ∷ [])
one_more_true h [] a t new = (new, tt)
one_more_true h (x ∷ answers) a t new = (t.0, one_more_true h answers a t.1 new)

-- ---- what settling takes ----

chosen_true : (h : History) (b : Bool) (x a : ReadAnswer) (rest : Option ReadAnswer) → IsTrueAnswer h x → (rest ≡ Some a → IsTrueAnswer h a) →
    cond b (Some x) rest ≡ Some a → IsTrueAnswer h a
chosen_true h b x a rest t later is = grind (arith, nat_tests)

found_true : (h : History) (key : List ℕ) (answers : List ReadAnswer) (a : ReadAnswer) → AreTrue h answers → answer_in key answers ≡ Some a → IsTrueAnswer h a
found_true h key [] a t is = absurd (cc)
found_true h key (x ∷ answers) a t is = grind (arith, nat_tests, chosen_true, found_true h key answers a t.1)

kept_true : (h : History) (b : Bool) (a : ReadAnswer) (rest : List ReadAnswer) → IsTrueAnswer h a → AreTrue h rest → AreTrue h (cond b (a ∷ rest) rest)
kept_true h b a rest t later = grind (arith, nat_tests)

filter_true : (h : History) (p : ReadAnswer → Bool) (answers : List ReadAnswer) → AreTrue h answers → AreTrue h (filter p answers)
filter_true h p [] t = tt
filter_true h p (a ∷ answers) t = kept_true h (p a) a (filter p answers) t.0 (filter_true h p answers t.1)

answer_for_true : (h : History) (key : Option (List ℕ)) (answers : List ReadAnswer) (a : ReadAnswer) → AreTrue h answers →
    answer_for key answers ≡ Some a → IsTrueAnswer h a
answer_for_true h None answers a t is = absurd (cc)
answer_for_true h (Some key) answers a t is = found_true h key answers a t is

taken_true : (h : History) (again : List ReadAnswer → List ReadAnswer) (reads : List ReadAnswer) (o : Option ReadAnswer) →
    ((more : List ReadAnswer) → AreTrue h more → AreTrue h (again more)) → ((a : ReadAnswer) → o ≡ Some a → IsTrueAnswer h a) → AreTrue h reads →
    AreTrue h (taken again reads o)
taken_true h again reads o goes new t = grind (arith, nat_tests, one_more_true)

settle_true : (h : History) (n : ℕ) (program : ProgramTree) (prefetched reads : List ReadAnswer) → AreTrue h prefetched → AreTrue h reads →
    AreTrue h (settle n program prefetched reads)
unfolding settle
settle_true h zero program prefetched reads p t = t
settle_true h (suc n) program prefetched reads p t =
    taken_true h (settle n program prefetched) reads (served program prefetched reads) (λ more. settle_true h n program prefetched more p)
    (λ a. answer_for_true h (wanted (run_on program reads)) (serving reads prefetched) a (filter_true h (is_of_base reads) prefetched p)) t

-- what is taken for a list is true
list_true : (h : History) (keys : List (List ℕ)) (prefetched answers : List ReadAnswer) → AreTrue h prefetched → answers_of_all keys prefetched ≡ Some answers →
    AreTrue h answers
list_true h [] prefetched answers t is = let none : answers ≡ [] = cc in subst (AreTrue h) (sym none) tt
list_true h (key ∷ keys) prefetched answers t is =
    let parts = taken_first (answer_in key prefetched) (answers_of_all keys prefetched) answers is in
    subst (AreTrue h) (sym parts.4) (found_true h key prefetched parts.0 t parts.2, list_true h keys prefetched parts.1 t parts.3)

gone_true : (h : History) (program : ProgramTree) (known : Known) → KnowsTruth h known → AreTrue h (gone_on program known)
gone_true h program known t = grind (arith, nat_tests, where_it_comes, settle_true, list_true)

-- what an attempt knows is true, and so it is with its list and with what serves among its reads
pub served_true : (h : History) (task : Task) (known : Known) → KnowsTruth h known → KnowsTruth h (with_served task known)
served_true h task known t = (gone_true h task.program known t, t.1)

-- ---- answers to reads ----

pub answer_true : (h : History) (key : List ℕ) (r : ℕ) → r ≤ now h → IsTrueAnswer h (answer_at h key r)
answer_true h key r reached = record { reached = reached; shown = refl }

either_reached : (b : Bool) (base top : ℕ) → base ≤ top → cond b base 0 ≤ top
either_reached b base top h = grind (arith, nat_tests)

-- the base is reached
pub base_is_reached : (h : History) (level : Level) (reads : List ReadAnswer) → AreTrue h reads → at_of level reads ≤ now h
base_is_reached h level reads t = grind (arith, nat_tests, either_reached)

-- the revision of a fetch is reached
pub fetch_reached : (h : History) (level : Level) (reads : List ReadAnswer) → AreTrue h reads → revision_read h (at_of level reads) ≤ now h
fetch_reached h level reads t = grind (arith, nat_tests, base_is_reached)

-- ---- what an attempt knows goes on true ----

pub fetch_true : (h : History) (task : Task) (key : List ℕ) (known : Known) → KnowsTruth h known →
    KnowsTruth h (after_fetch task (answer_at h key (revision_read h (at_of task.level known.reads))) known)
fetch_true h task key known t =
    let of_rev : ℕ = revision_read h (at_of task.level known.reads) in
    let a : ReadAnswer = answer_at h key of_rev in
    served_true h task (record { reads = known.reads ++ a ∷ []; prefetched = known.prefetched }) (
      one_more_true h known.reads a t.0 (answer_true h key of_rev (fetch_reached h task.level known.reads t.0)),
      t.1,
    )

-- and with the answers to a list
pub prefetch_true : (h : History) (task : Task) (known : Known) → KnowsTruth h known → KnowsTruth h (after_list task h known)
prefetch_true h task known t =
    served_true h task (record { reads = map (answer_now h) task.program.prefetch; prefetched = known.prefetched })
    (now_are_true h task.program.prefetch, t.1)

pub conflict_true : (h : History) (task : Task) (known : Known) → KnowsTruth h (after_conflict task h known)
conflict_true h task known =
    let keys : List (List ℕ) = reread_keys task.level known.reads in
    served_true h task (record { reads = []; prefetched = map (answer_now h) keys }) (tt, now_are_true h keys)
