-- What a runner knows, and what its attempt relies on, from call to call.
use Rattle.std.proofs.Common.{◌≡◌, ◌⊎◌, inl, inr, ℕ, ◌<◌, Bool, true, false, List, [], ◌∷◌, ◌++◌, length, map, cond, refl, sym, ap, subst, arith}
use Rattle.std.specs.Prelude.{Option, None, Some, IfSome, Contains, Result, OnOk, OnErr}
use Rattle.std.proofs.lemmas.List.Elements.{All-nil, All-cons, All-push, All-append, All-same, All-weaker, All-contains, All-from_recursion, recursion_from_All}
use Rattle.std.proofs.lemmas.Bool.Decides.{nat_tests}
use Rattle.stm_history.specs.declared.key_state.ReadAnswer.{ReadAnswer}
use Rattle.stm_program.specs.Syntax.{ProgramTree}
use Rattle.stm_program.specs.Limits.{Fits}
use Rattle.stm_program.specs.declared.level.Level.{Level}
use Rattle.stm_meaning.proofs.RunLaws.{wanted_keys_are_unknown}
use Rattle.stm_outcome.specs.Commits.{AreNamed as KeysAreNamed}
use Rattle.stm_attempt.specs.Known.{Known, known_of, serving}
use Rattle.stm_attempt.specs.Settled.{run_on, wanted, answer_for, settle, settled}
use Rattle.stm_attempt.specs.Entering.{is_due, answers_of_all, gone_on}
use Rattle.stm_attempt.specs.AttemptState.{AttemptState, IsOf, begun, advanced, supplied, supplied_all, awaited, list_awaited, unserved}
use Rattle.stm_attempt.specs.Laws.{AddsPrefetched}
use Rattle.stm_attempt.proofs.SettleLemmas.{settle_stays, settling_adds_prefetched}
use Rattle.stm_attempt.proofs.EnteringLemmas.{taken_are, where_it_comes, gone_settled, gone_on_is_gone_on, list_named}
use Rattle.stm_world.specs.Task.{Task, nothing_known, with_served}
use Rattle.stm_world.specs.World.{begin}
use Rattle.stm_retry.specs.RunnerView.{view_of, AreNamed, IsRunner, with_answer, with_answers}

abbrev IsNamed : ReadAnswer → Type 0
IsNamed a = 0 < length a.key

-- ---- what a runner knows ----

begin_knows_nothing : (task : Task) → with_served task nothing_known ≡ nothing_known
unfolding settle
begin_knows_nothing task = grind (arith, nat_tests)

pub begun_runner : (task : Task) (level : Level) → (view_of task 0 (begun level [])).runner ≡ begin task
begun_runner task level = ap (λ (known : Known). record { task = task; failures = 0; known = known }) (begin_knows_nothing task)

-- going on with the attempt is nothing new to the runner
pub advanced_runner : (task : Task) (failures : ℕ) (attempt : AttemptState) →
    (view_of task failures (advanced task.program attempt)).runner ≡ (view_of task failures attempt).runner
advanced_runner task failures attempt = grind (arith, nat_tests, gone_on_is_gone_on)

-- ---- the key that is awaited ----

not_served : (answers : List ReadAnswer) (o : Option (List ℕ)) (key : List ℕ) → unserved answers o ≡ Some key →
    (answer_for o answers ≡ None) × (o ≡ Some key)
not_served answers o key is = grind (arith, nat_tests)

-- a key that is awaited is not empty, and what the attempt has read has gone on
pub record Awaits (program : ProgramTree) (known : Known) (key : List ℕ) : Type 0 where
  pub named : 0 < length key
  pub gone : gone_on program known ≡ known.reads

awaits_of : (program : ProgramTree) (known : Known) (key : List ℕ) → is_due program.prefetch known.reads ≡ false →
    unserved (serving known.reads known.prefetched) (wanted (run_on program known.reads)) ≡ Some key → Awaits program known key
awaits_of program known key not is = grind (arith, nat_tests, not_served, gone_settled, settle_stays, wanted_keys_are_unknown)

awaits_after : (program : ProgramTree) (known : Known) (key : List ℕ) (due : Bool) → is_due program.prefetch known.reads ≡ due →
    cond due None (unserved (serving known.reads known.prefetched) (wanted (run_on program known.reads))) ≡ Some key → Awaits program known key
awaits_after program known key true is reported = absurd (cc)
awaits_after program known key false is reported = awaits_of program known key is reported

awaits_by : (program : ProgramTree) (kept : Option ProgramTree) (level : Level) (known : Known) (key : List ℕ) →
    IfSome kept (λ (k : ProgramTree). k ≡ program) → awaited (record { program = kept; level = level; known = known }) ≡ Some key →
    Awaits program known key
awaits_by program None level known key of is = absurd (cc)
awaits_by program (Some k) level known key of is =
    subst (λ (p : ProgramTree). Awaits p known key) of (awaits_after k known key (is_due k.prefetch known.reads) refl is)

pub awaits : (program : ProgramTree) (attempt : AttemptState) (key : List ℕ) → IsOf program attempt → awaited attempt ≡ Some key →
    Awaits program attempt.known key
awaits program attempt key of is = awaits_by program attempt.program attempt.level attempt.known key of is

-- the answer that was awaited joins what the runner knows
pub supplied_runner : (task : Task) (failures : ℕ) (attempt : AttemptState) (a : ReadAnswer) → IsOf task.program attempt → awaited attempt ≡ Some a.key →
    (view_of task failures (supplied a attempt)).runner ≡ with_answer a (view_of task failures attempt).runner
supplied_runner task failures attempt a of is =
    ap (λ (reads : List ReadAnswer). record {
      task = task;
      failures = failures;
      known = with_served task (record { reads = reads ++ a ∷ []; prefetched = attempt.known.prefetched });
    }) (sym (awaits task.program attempt a.key of is).gone)

-- ---- the list that is awaited ----

listed_by : (program : ProgramTree) (kept : Option ProgramTree) (level : Level) (known : Known) (keys : List (List ℕ)) →
    IfSome kept (λ (k : ProgramTree). k ≡ program) → list_awaited (record { program = kept; level = level; known = known }) ≡ Some keys →
    keys ≡ program.prefetch
listed_by program kept level known keys of is = grind (arith, nat_tests)

-- it is the program's
pub listed : (program : ProgramTree) (attempt : AttemptState) (keys : List (List ℕ)) → IsOf program attempt → list_awaited attempt ≡ Some keys →
    keys ≡ program.prefetch
listed program attempt keys of is = listed_by program attempt.program attempt.level attempt.known keys of is

-- the key of an answer to it is not empty
named_of : (answers : List ReadAnswer) (keys : List (List ℕ)) → map (λ (a : ReadAnswer). a.key) answers ≡ keys → KeysAreNamed keys → AreNamed answers
named_of answers keys is named =
    by answers (subst KeysAreNamed (sym is) named)
  where
    by : (l : List ReadAnswer) → KeysAreNamed (map (λ (a : ReadAnswer). a.key) l) → AreNamed l
    by [] all = All-nil IsNamed
    by (a ∷ l) all = All-cons IsNamed a l all.0 (by l all.1)

-- the answers to the list are what the runner has read, before what serves after them
pub listed_runner : (task : Task) (failures : ℕ) (attempt : AttemptState) (answers : List ReadAnswer) →
    (view_of task failures (supplied_all answers attempt)).runner ≡ with_answers answers (view_of task failures attempt).runner
listed_runner task failures attempt answers = refl

-- ---- calls that memory may refuse ----

-- what holds before and after a call that was made holds where it was refused, too
pub kept_by : {A E : Type 0} (result : Result A E) (P : AttemptState → Type 0) (old next new : AttemptState) → OnOk result (new ≡ next) →
    OnErr result (new ≡ old) → P old → P next → P new
kept_by result P old next new ok err before after = grind (arith, nat_tests)

-- ---- what an attempt relies on ----

named_settled : (program : ProgramTree) (known : Known) → AreNamed known.reads → AreNamed known.prefetched → AreNamed (settled program known)
named_settled program known read prefetched =
    let adds : AddsPrefetched known (settled program known) = settling_adds_prefetched program known in
    All-same IsNamed (settled program known) (known.reads ++ adds.added) adds.follow
    (All-append IsNamed known.reads adds.added read
    (All-weaker (Contains known.prefetched) IsNamed (λ a within. All-contains IsNamed known.prefetched a prefetched within) adds.added adds.prefetched))

start_named : (program : ProgramTree) (known : Known) (start : List ReadAnswer) → AreNamed known.reads → AreNamed known.prefetched →
    (known.reads ≡ start) ⊎ (answers_of_all program.prefetch known.prefetched ≡ Some start) → AreNamed start
start_named program known start read prefetched (inl same) = subst AreNamed same read
start_named program known start read prefetched (inr is) =
    All-from_recursion IsNamed start
    (taken_are IsNamed program.prefetch known.prefetched start (recursion_from_All IsNamed known.prefetched prefetched) is)

named_gone : (program : ProgramTree) (known : Known) → AreNamed known.reads → AreNamed known.prefetched → AreNamed (gone_on program known)
named_gone program known read prefetched = elim (where_it_comes program known) [
  | inl d ↦ subst AreNamed (sym d.stays) read
  | inr s ↦ subst AreNamed (sym s.settles)
      (named_settled program (known_of s.start known.prefetched) (start_named program known s.start read prefetched s.is_start) prefetched)
]

-- what the runner knows has its keys
pub named_runner : (task : Task) (failures : ℕ) (attempt : AttemptState) → IsRunner task failures attempt →
    AreNamed (view_of task failures attempt).runner.known.reads
named_runner task failures attempt x = named_gone task.program attempt.known x.read x.prefetched

pub advanced_is_runner : (task : Task) (failures : ℕ) (attempt : AttemptState) → IsRunner task failures attempt →
    IsRunner task failures (advanced task.program attempt)
advanced_is_runner task failures attempt x = grind (arith, nat_tests, named_gone)

pub supplied_is_runner : (task : Task) (failures : ℕ) (attempt : AttemptState) (a : ReadAnswer) → IsRunner task failures attempt →
    awaited attempt ≡ Some a.key → IsRunner task failures (supplied a attempt)
supplied_is_runner task failures attempt a x is =
    record {
      of_program = x.of_program;
      of_level = x.of_level;
      has_more = x.has_more;
      read = All-push IsNamed attempt.known.reads a x.read (awaits task.program attempt a.key x.of_program is).named;
      prefetched = x.prefetched;
    }

pub listed_is_runner : (task : Task) (failures : ℕ) (attempt : AttemptState) (answers : List ReadAnswer) → IsRunner task failures attempt →
    Fits task.program → list_awaited attempt ≡ Some (map (λ (a : ReadAnswer). a.key) answers) → IsRunner task failures (supplied_all answers attempt)
listed_is_runner task failures attempt answers x fits is = grind (arith, nat_tests, named_of, listed, list_named)
