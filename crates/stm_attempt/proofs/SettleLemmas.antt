-- Settling: it comes to its end, it adds prefetched answers, and what each taken answer keeps is kept.
use Rattle.std.proofs.Common.{◌≡◌, ◌≤◌, ℕ, ◌+◌, zero, suc, Bool, true, false, cond, List, [], ◌∷◌, ◌++◌, length, filter, refl, sym, ◌∙◌, ap, subst, arith}
use Rattle.std.proofs.Common.{append_assoc, append-nil}
use Rattle.std.specs.Prelude.{bytes_eq, Option, None, Some, option_map, Contains}
use Rattle.std.specs.List.{AllByRecursion}
use Rattle.std.proofs.lemmas.List.Elements.{All-from_recursion, recursion_from_All, All-contains_itself}
use Rattle.std.proofs.lemmas.Bool.Decides.{nat_tests}
use Rattle.stm_history.specs.declared.key_state.ReadAnswer.{ReadAnswer}
use Rattle.stm_program.specs.Syntax.{ProgramTree}
use Rattle.stm_meaning.proofs.RunLaws.{wanted_keys_are_unknown}
use Rattle.stm_compile.specs.Answers.{answer_in, said}
use Rattle.stm_attempt.specs.Known.{Known, is_of_base, serving}
use Rattle.stm_attempt.specs.Settled.{run_on, wanted, answer_for, served, taken, settle, settled}
use Rattle.stm_attempt.specs.Laws.{NothingServesTheSettled, SettledIsSettled, WhatServesIsTaken, AddsPrefetched, SettlingAddsPrefetched}
use Rattle.stm_attempt.proofs.Unread.{unread, unread_small, fewer}

-- ---- a wanted key has no answer

pub no_answer : (o : Option ReadAnswer) → option_map said o ≡ None → o ≡ None
no_answer None e = refl
no_answer (Some a) e = absurd (cc)

-- the run wants a key that has no answer yet
pub wanted_is_new : (program : ProgramTree) (reads : List ReadAnswer) (key : List ℕ) → wanted (run_on program reads) ≡ Some key → answer_in key reads ≡ None
wanted_is_new program reads key is = grind (arith, nat_tests, wanted_keys_are_unknown, no_answer)

-- ---- what is taken

pub for_new : (o : Option (List ℕ)) (answers : List ReadAnswer) (a : ReadAnswer) → answer_for o answers ≡ Some a →
    (key : List ℕ) × (o ≡ Some key) × (answer_in key answers ≡ Some a)
for_new None answers a found = absurd (cc)
for_new (Some key) answers a found = (key, refl, found)

pub fewer_unread : (program : ProgramTree) (prefetched reads : List ReadAnswer) (a : ReadAnswer) → served program prefetched reads ≡ Some a →
    unread (reads ++ a ∷ []) prefetched + 1 ≤ unread reads prefetched
fewer_unread program prefetched reads a found =
    let wants = for_new (wanted (run_on program reads)) (serving reads prefetched) a found in
    fewer reads prefetched wants.0 a (wanted_is_new program reads wants.0 wants.1) wants.2

-- ---- the fuel is enough

none_serves : (program : ProgramTree) (prefetched reads : List ReadAnswer) → unread reads prefetched ≤ 0 → (o : Option ReadAnswer) →
    served program prefetched reads ≡ o → served program prefetched reads ≡ None
none_serves program prefetched reads few None is = is
none_serves program prefetched reads few (Some a) is = let less = fewer_unread program prefetched reads a is in absurd (omega arith)

nothing_by : (program : ProgramTree) (prefetched reads : List ReadAnswer) (again : List ReadAnswer → List ReadAnswer) (o : Option ReadAnswer) →
    served program prefetched reads ≡ o →
    ((a : ReadAnswer) → served program prefetched reads ≡ Some a → served program prefetched (again (reads ++ a ∷ [])) ≡ None) →
    served program prefetched (taken again reads o) ≡ None
nothing_by program prefetched reads again None is next = is
nothing_by program prefetched reads again (Some a) is next = next a is

nothing_serves : (n : ℕ) (program : ProgramTree) (prefetched reads : List ReadAnswer) → unread reads prefetched ≤ n →
    served program prefetched (settle n program prefetched reads) ≡ None
unfolding settle
nothing_serves zero program prefetched reads few = none_serves program prefetched reads few (served program prefetched reads) refl
nothing_serves (suc n) program prefetched reads few =
    nothing_by program prefetched reads (settle n program prefetched) (served program prefetched reads) refl
    (λ a is. let less = fewer_unread program prefetched reads a is in nothing_serves n program prefetched (reads ++ a ∷ []) (omega arith))

pub nothing_serves_the_settled : NothingServesTheSettled
nothing_serves_the_settled program known =
    nothing_serves (length known.prefetched) program known.prefetched known.reads (unread_small known.reads known.prefetched)

-- where nothing serves, settling adds nothing
pub settle_stays : (n : ℕ) (program : ProgramTree) (prefetched reads : List ReadAnswer) → served program prefetched reads ≡ None →
    settle n program prefetched reads ≡ reads
unfolding settle
settle_stays zero program prefetched reads none = refl
settle_stays (suc n) program prefetched reads none = ap (taken (settle n program prefetched) reads) none

pub settled_is_settled : SettledIsSettled
settled_is_settled program known =
    settle_stays (length known.prefetched) program known.prefetched (settled program known) (nothing_serves_the_settled program known)

-- ---- more fuel makes no difference

same_by : (reads : List ReadAnswer) (again other : List ReadAnswer → List ReadAnswer) (o : Option ReadAnswer) →
    ((a : ReadAnswer) → o ≡ Some a → again (reads ++ a ∷ []) ≡ other (reads ++ a ∷ [])) → taken again reads o ≡ taken other reads o
same_by reads again other None same = refl
same_by reads again other (Some a) same = same a refl

enough : (n m : ℕ) (program : ProgramTree) (prefetched reads : List ReadAnswer) → unread reads prefetched ≤ n → unread reads prefetched ≤ m →
    settle n program prefetched reads ≡ settle m program prefetched reads
unfolding settle
enough zero m program prefetched reads few some =
    sym (settle_stays m program prefetched reads (none_serves program prefetched reads few (served program prefetched reads) refl))
enough (suc n) zero program prefetched reads some few =
    settle_stays (suc n) program prefetched reads (none_serves program prefetched reads few (served program prefetched reads) refl)
enough (suc n) (suc m) program prefetched reads few some =
    same_by reads (settle n program prefetched) (settle m program prefetched) (served program prefetched reads)
    (λ a is. let less = fewer_unread program prefetched reads a is in enough n m program prefetched (reads ++ a ∷ []) (omega arith) (omega arith))

more_by : (m : ℕ) (program : ProgramTree) (prefetched reads : List ReadAnswer) (a : ReadAnswer) → served program prefetched reads ≡ Some a →
    unread reads prefetched ≤ m → settle m program prefetched reads ≡ settle m program prefetched (reads ++ a ∷ [])
unfolding settle
more_by zero program prefetched reads a is few = let less = fewer_unread program prefetched reads a is in absurd (omega arith)
more_by (suc m) program prefetched reads a is few =
    let less = fewer_unread program prefetched reads a is in
    ap (taken (settle m program prefetched) reads) is ∙ enough m (suc m) program prefetched (reads ++ a ∷ []) (omega arith) (omega arith)

pub what_serves_is_taken : WhatServesIsTaken
what_serves_is_taken program known a is =
    more_by (length known.prefetched) program known.prefetched known.reads a is (unread_small known.reads known.prefetched)

-- ---- what each taken answer keeps is kept

kept_by : (P : List ReadAnswer → Type 0) (reads : List ReadAnswer) (again : List ReadAnswer → List ReadAnswer) (o : Option ReadAnswer) → P reads →
    ((a : ReadAnswer) → o ≡ Some a → P (again (reads ++ a ∷ []))) → P (taken again reads o)
kept_by P reads again None now next = now
kept_by P reads again (Some a) now next = next a refl

settle_keeps : (P : List ReadAnswer → Type 0) (n : ℕ) (program : ProgramTree) (prefetched : List ReadAnswer) →
    ((reads : List ReadAnswer) (a : ReadAnswer) → served program prefetched reads ≡ Some a → P reads → P (reads ++ a ∷ [])) →
    (reads : List ReadAnswer) → P reads → P (settle n program prefetched reads)
unfolding settle
settle_keeps P zero program prefetched step reads now = now
settle_keeps P (suc n) program prefetched step reads now =
    kept_by P reads (settle n program prefetched) (served program prefetched reads) now
    (λ a is. settle_keeps P n program prefetched step (reads ++ a ∷ []) (step reads a is now))

-- What holds of the reads, and goes on to hold with each answer that is taken, holds of the settled reads.
pub settled_keeps : (P : List ReadAnswer → Type 0) (program : ProgramTree) (known : Known) →
    ((reads : List ReadAnswer) (a : ReadAnswer) → served program known.prefetched reads ≡ Some a → P reads → P (reads ++ a ∷ [])) →
    P known.reads → P (settled program known)
settled_keeps P program known step now = settle_keeps P (length known.prefetched) program known.prefetched step known.reads now

-- ---- what is taken was prefetched

all_chosen : (P : ReadAnswer → Type 0) (b : Bool) (a : ReadAnswer) (answers : List ReadAnswer) → P a → AllByRecursion P answers →
    AllByRecursion P (cond b (a ∷ answers) answers)
all_chosen P true a answers one all = (one, all)
all_chosen P false a answers one all = all

all_filtered : (P : ReadAnswer → Type 0) (test : ReadAnswer → Bool) (answers : List ReadAnswer) → AllByRecursion P answers →
    AllByRecursion P (filter test answers)
all_filtered P test [] all = tt
all_filtered P test (a ∷ answers) all = all_chosen P (test a) a (filter test answers) all.0 (all_filtered P test answers all.1)

all_serving : (P : ReadAnswer → Type 0) (reads prefetched : List ReadAnswer) → AllByRecursion P prefetched → AllByRecursion P (serving reads prefetched)
all_serving P reads prefetched all = all_filtered P (is_of_base reads) prefetched all

one_of : (P : ReadAnswer → Type 0) (b : Bool) (x a : ReadAnswer) (rest : Option ReadAnswer) → P x → (rest ≡ Some a → P a) →
    cond b (Some x) rest ≡ Some a → P a
one_of P true x a rest one others found = let same : x ≡ a = cc in subst P same one
one_of P false x a rest one others found = others found

pub found_is_one : (P : ReadAnswer → Type 0) (key : List ℕ) (answers : List ReadAnswer) (a : ReadAnswer) → AllByRecursion P answers →
    answer_in key answers ≡ Some a → P a
found_is_one P key [] a all found = absurd (cc)
found_is_one P key (x ∷ answers) a all found =
    one_of P (bytes_eq x.key key) x a (answer_in key answers) all.0 (found_is_one P key answers a all.1) found

-- what holds of every prefetched answer holds of one that serves
pub served_is_one : (P : ReadAnswer → Type 0) (program : ProgramTree) (prefetched reads : List ReadAnswer) (a : ReadAnswer) → AllByRecursion P prefetched →
    served program prefetched reads ≡ Some a → P a
served_is_one P program prefetched reads a all found =
    let wants = for_new (wanted (run_on program reads)) (serving reads prefetched) a found in
    found_is_one P wants.0 (serving reads prefetched) a (all_serving P reads prefetched all) wants.2

all_push : (P : ReadAnswer → Type 0) (answers : List ReadAnswer) (a : ReadAnswer) → AllByRecursion P answers → P a → AllByRecursion P (answers ++ a ∷ [])
all_push P [] a all new = (new, tt)
all_push P (x ∷ answers) a all new = (all.0, all_push P answers a all.1 new)

-- the reads are those before with some prefetched answers
added_by : (known : Known) (reads : List ReadAnswer) (a : ReadAnswer) → Contains known.prefetched a → AddsPrefetched known reads →
    AddsPrefetched known (reads ++ a ∷ [])
added_by known reads a one before = record {
  added = before.added ++ a ∷ [];
  follow = ap (λ (l : List ReadAnswer). l ++ a ∷ []) before.follow ∙ append_assoc known.reads before.added (a ∷ []);
  prefetched = All-from_recursion (Contains known.prefetched) (before.added ++ a ∷ [])
      (all_push (Contains known.prefetched) before.added a (recursion_from_All (Contains known.prefetched) before.added before.prefetched) one);
}

pub settling_adds_prefetched : SettlingAddsPrefetched
settling_adds_prefetched program known =
    settled_keeps (AddsPrefetched known) program known
    (λ reads a is before. added_by known reads a (served_is_one (Contains known.prefetched) program known.prefetched reads a
    (recursion_from_All (Contains known.prefetched) known.prefetched (All-contains_itself known.prefetched)) is) before)
    (record {
      added = [];
      follow = sym (append-nil known.reads);
      prefetched = All-from_recursion (Contains known.prefetched) [] tt;
    })
