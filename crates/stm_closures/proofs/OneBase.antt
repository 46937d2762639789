-- At a serializable level all that is read is of the base revision.
use Rattle.std.proofs.Common.{◌≡◌, ◌∙◌, ◌≤◌, ℕ, Bool, true, false, cond, List, [], ◌∷◌, ◌++◌, Option, Some, None, refl, sym, ap, subst, arith}
use Rattle.std.specs.Prelude.{nat_lt, ◌==◌, bytes_eq}
use Rattle.std.proofs.lemmas.Slice.Eq.{bytes_eq-Decides}
use Rattle.std.proofs.lemmas.Bool.Decides.{nat_tests}
use Rattle.std.proofs.lemmas.Option.{cond_some}
use Rattle.stm_history.specs.declared.key_state.ReadAnswer.{ReadAnswer}
use Rattle.stm_program.specs.declared.level.Level.{Level}
use Rattle.stm_program.specs.Levels.{is_serializable}
use Rattle.stm_compile.specs.Answers.{answer_in}
use Rattle.stm_attempt.specs.Fetches.{AllShow, HaveOneBase}
use Rattle.stm_closures.specs.TransactionState.{TransactionState}
use Rattle.stm_closures.specs.Transactions.{IsOfBase, IsAnswerOf, IsAnswered, is_serving, serving_only, served}

all_show : (revision : ℕ) (reads : List ReadAnswer) (a : ReadAnswer) → AllShow revision reads → a.of_rev ≡ revision → AllShow revision (reads ++ a ∷ [])
all_show revision [] a shown same = (same, tt)
all_show revision (first ∷ reads) a (one, others) same = (one, all_show revision reads a others same)

-- one answer more
pub one_base_with : (reads : List ReadAnswer) (a : ReadAnswer) → HaveOneBase reads → IsOfBase reads a → HaveOneBase (reads ++ a ∷ [])
one_base_with [] a base same = (same, tt)
one_base_with (first ∷ reads) a (some, others) same = (some, all_show first.of_rev reads a others same)

above_zero : (n : ℕ) → nat_lt 0 n ≡ true → 1 ≤ n
above_zero n is = grind (arith, nat_tests, is)

same_number : (n m : ℕ) → (n == m) ≡ true → n ≡ m
same_number n m is = grind (arith, nat_tests, is)

of_test : (reads : List ReadAnswer) (a : ReadAnswer) → is_serving reads a ≡ true → IsOfBase reads a
of_test [] a is = above_zero a.of_rev is
of_test (first ∷ reads) a is = same_number a.of_rev first.of_rev is

of_option : (reads : List ReadAnswer) (found : Option ReadAnswer) (taken : ReadAnswer) → serving_only reads found ≡ Some taken → IsOfBase reads taken
of_option reads None taken is = absurd (cc (is))
of_option reads (Some a) taken is =
    let both = cond_some (is_serving reads a) a taken is in
    subst (IsOfBase reads) both.1 (of_test reads a both.0)

-- what was read again and serves
pub served_is_of_base : (reads again : List ReadAnswer) (key : List ℕ) (taken : ReadAnswer) → served reads again key ≡ Some taken → IsOfBase reads taken
served_is_of_base reads again key taken is = of_option reads (answer_in key again) taken is

key_by : (key : List ℕ) (first : ReadAnswer) (test : Bool) (rest : Option ReadAnswer) (a : ReadAnswer) → bytes_eq first.key key ≡ test
    → cond test (Some first) rest ≡ Some a → (rest ≡ Some a → a.key ≡ key) → a.key ≡ key
key_by key first true rest a is found others =
    let same : first ≡ a = cc (found) in
    sym (ap (λ (x : ReadAnswer). x.key) same) ∙ (bytes_eq-Decides first.key key).0 is
key_by key first false rest a is found others = others found

of_the_key : (key : List ℕ) (answers : List ReadAnswer) (a : ReadAnswer) → answer_in key answers ≡ Some a → a.key ≡ key
of_the_key key [] a found = absurd (cc (found))
of_the_key key (first ∷ answers) a found =
    key_by key first (bytes_eq first.key key) (answer_in key answers) a refl found (of_the_key key answers a)

found_again : (reads : List ReadAnswer) (found : Option ReadAnswer) (a : ReadAnswer) → serving_only reads found ≡ Some a → found ≡ Some a
found_again reads None a is = absurd (cc (is))
found_again reads (Some first) a is =
    let both = cond_some (is_serving reads first) first a is in ap (λ (x : ReadAnswer). (let o : Option ReadAnswer = Some x in o)) both.1

-- an answer that was read again and serves is one for its key
pub answered_by_serving : (t : TransactionState) (reads again : List ReadAnswer) (key : List ℕ) (a : ReadAnswer) → t.reads ≡ reads → t.again ≡ again
    → served reads again key ≡ Some a → IsAnswered t key a
answered_by_serving t reads again key a same same_again is =
    let serves : served t.reads t.again key ≡ Some a =
    ap (λ (r : List ReadAnswer). served r t.again key) same ∙ ap (λ (r : List ReadAnswer). served reads r key) same_again ∙ is
    in
    record {
      taken = subst (λ (o : Option ReadAnswer). IsAnswerOf o t key a) (sym serves) refl;
      key_is = of_the_key key t.again a (found_again t.reads (answer_in key t.again) a serves);
      of_base = λ _. served_is_of_base t.reads t.again key a serves;
    }

-- what is recorded keeps the base
pub one_base_in : (t : TransactionState) (level : Level) (reads added : List ReadAnswer) (a : ReadAnswer) → t.level ≡ level → t.reads ≡ reads
    → (is_serializable t.level ≡ true → IsOfBase t.reads a) → (is_serializable level ≡ true → HaveOneBase reads) → added ≡ reads ++ a ∷ []
    → is_serializable level ≡ true → HaveOneBase added
one_base_in t level reads added a same_level same of_base base is serializable =
    let at_level : is_serializable t.level ≡ true = ap is_serializable same_level ∙ serializable in
    let of_reads : IsOfBase reads a = subst (λ (r : List ReadAnswer). IsOfBase r a) same (of_base at_level) in
    subst HaveOneBase (sym is) (one_base_with reads a (base serializable) of_reads)
