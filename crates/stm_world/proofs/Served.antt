-- What holds of each answer that an attempt knows holds of those that it takes.
use Rattle.std.proofs.Common.{◌≡◌, ℕ, zero, suc, List, [], ◌∷◌, ◌++◌, filter, Option, Some, Bool, cond, arith}
use Rattle.std.specs.List.{AllByRecursion}
use Rattle.std.proofs.lemmas.Bool.Decides.{nat_tests}
use Rattle.stm_history.specs.declared.key_state.ReadAnswer.{ReadAnswer}
use Rattle.stm_program.specs.Syntax.{ProgramTree}
use Rattle.stm_compile.specs.Answers.{answer_in}
use Rattle.stm_attempt.specs.Known.{Known, serving, is_of_base}
use Rattle.stm_attempt.specs.Settled.{run_on, wanted, answer_for, served, taken, settle}
use Rattle.stm_attempt.specs.Entering.{gone_on}
use Rattle.stm_attempt.proofs.EnteringLemmas.{taken_are, where_it_comes}
use Rattle.stm_world.specs.Task.{Task, with_served}

-- it holds of each answer that was read, and of each that was prefetched
abbrev pub KnowsAll : (ReadAnswer → Type 0) → Known → Type 0
KnowsAll P known = AllByRecursion P known.reads × AllByRecursion P known.prefetched

pub one_more : (P : ReadAnswer → Type 0) (answers : List ReadAnswer) (a : ReadAnswer) → AllByRecursion P answers → P a → AllByRecursion P (answers ++ a ∷ [])
one_more P [] a all is = (is, tt)
one_more P (x ∷ answers) a all is = (all.0, one_more P answers a all.1 is)

found_by : (P : ReadAnswer → Type 0) (b : Bool) (x a : ReadAnswer) (rest : Option ReadAnswer) → P x → (rest ≡ Some a → P a) →
    cond b (Some x) rest ≡ Some a → P a
found_by P b x a rest is later found = grind (arith, nat_tests)

pub found_all : (P : ReadAnswer → Type 0) (key : List ℕ) (answers : List ReadAnswer) (a : ReadAnswer) → AllByRecursion P answers →
    answer_in key answers ≡ Some a → P a
found_all P key [] a all found = absurd (cc)
found_all P key (x ∷ answers) a all found = grind (arith, nat_tests, found_by, found_all P key answers a all.1)

kept_by : (P : ReadAnswer → Type 0) (b : Bool) (a : ReadAnswer) (rest : List ReadAnswer) → P a → AllByRecursion P rest →
    AllByRecursion P (cond b (a ∷ rest) rest)
kept_by P b a rest is all = grind (arith, nat_tests)

filtered_all : (P : ReadAnswer → Type 0) (p : ReadAnswer → Bool) (answers : List ReadAnswer) → AllByRecursion P answers → AllByRecursion P (filter p answers)
filtered_all P p [] all = tt
filtered_all P p (a ∷ answers) all = kept_by P (p a) a (filter p answers) all.0 (filtered_all P p answers all.1)

answered_all : (P : ReadAnswer → Type 0) (key : Option (List ℕ)) (answers : List ReadAnswer) (a : ReadAnswer) → AllByRecursion P answers →
    answer_for key answers ≡ Some a → P a
answered_all P key answers a all found = grind (arith, nat_tests, found_all)

taken_all : (P : ReadAnswer → Type 0) (again : List ReadAnswer → List ReadAnswer) (reads : List ReadAnswer) (o : Option ReadAnswer) →
    ((more : List ReadAnswer) → AllByRecursion P more → AllByRecursion P (again more)) → ((a : ReadAnswer) → o ≡ Some a → P a) →
    AllByRecursion P reads → AllByRecursion P (taken again reads o)
taken_all P again reads o goes new all = grind (arith, nat_tests, one_more)

settled_all : (P : ReadAnswer → Type 0) (n : ℕ) (program : ProgramTree) (prefetched reads : List ReadAnswer) → AllByRecursion P prefetched →
    AllByRecursion P reads → AllByRecursion P (settle n program prefetched reads)
unfolding settle
settled_all P zero program prefetched reads p all = all
settled_all P (suc n) program prefetched reads p all =
    taken_all P (settle n program prefetched) reads (served program prefetched reads) (λ more. settled_all P n program prefetched more p)
    (λ a. answered_all P (wanted (run_on program reads)) (serving reads prefetched) a (filtered_all P (is_of_base reads) prefetched p)) all

gone_all : (P : ReadAnswer → Type 0) (program : ProgramTree) (known : Known) → KnowsAll P known → AllByRecursion P (gone_on program known)
gone_all P program known knows = grind (arith, nat_tests, where_it_comes, settled_all, taken_are)

pub served_all : (P : ReadAnswer → Type 0) (task : Task) (known : Known) → KnowsAll P known → KnowsAll P (with_served task known)
served_all P task known knows = (gone_all P task.program known knows, knows.1)
