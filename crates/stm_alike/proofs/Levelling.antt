-- Answers of which only the least of the revisions that they carry is kept: what an attempt does is the same.
use Rattle.std.proofs.Common.{◌≡◌, ℕ, zero, suc, cond, List, [], ◌∷◌, ◌++◌, length, map, fold, min, Option, Some, None, option_map, refl, sym, ◌∙◌, ap, arith}
use Rattle.std.proofs.lemmas.Bool.Decides.{nat_tests}
use Rattle.stm_history.specs.declared.key_state.ReadAnswer.{ReadAnswer}
use Rattle.stm_program.specs.Syntax.{ProgramTree}
use Rattle.stm_program.specs.declared.level.Level.{Level}
use Rattle.stm_program.specs.Levels.{is_serializable}
use Rattle.stm_history.specs.declared.change.Change.{Change}
use Rattle.stm_program.specs.Writes.{latest_writes}
use Rattle.stm_steps.specs.declared.run.Run.{Run}
use Rattle.stm_outcome.specs.Terms.{Terms}
use Rattle.stm_compile.specs.Answers.{answer_in, said}
use Rattle.stm_compile.specs.CommitTxn.{first_carried, compares_of, reread_keys}
use Rattle.stm_compile.specs.Conflicts.{seen_by}
use Rattle.stm_compile.specs.Committed.{committed}
use Rattle.stm_attempt.specs.Known.{known_of}
use Rattle.stm_attempt.specs.Settled.{run_on, served, taken, settle}
use Rattle.stm_attempt.specs.Entering.{is_due, gone_on}
use Rattle.stm_attempt.specs.Fetches.{at_of}
use Rattle.stm_alike.specs.Levelled.{carrying, levelled, LevelledAttemptsAreSame}

-- ---- the least revision that is carried

abbrev low : ℕ → List ReadAnswer → ℕ
low n xs = fold (λ least b. min least b.revision) n xs

low_append : (n : ℕ) (xs ys : List ReadAnswer) → low n (xs ++ ys) ≡ low (low n xs) ys
low_append n [] ys = refl
low_append n (x ∷ xs) ys = low_append (min n x.revision) xs ys

low_carrying : (n : ℕ) (xs : List ReadAnswer) → low n (map (carrying n) xs) ≡ n
low_carrying n [] = refl
low_carrying n (x ∷ xs) = let e : min n n ≡ n = omega arith in ap (λ k. low k (map (carrying n) xs)) e ∙ low_carrying n xs

carried_again : (reads : List ReadAnswer) → first_carried (levelled reads) ≡ first_carried reads
carried_again reads = grind (arith, nat_tests, low_carrying)

carrying_again : (n m : ℕ) (xs : List ReadAnswer) → map (carrying n) (map (carrying m) xs) ≡ map (carrying n) xs
carrying_again n m [] = refl
carrying_again n m (x ∷ xs) = ap (λ rest. carrying n x ∷ rest) (carrying_again n m xs)

pub levelled_again : (reads : List ReadAnswer) → levelled (levelled reads) ≡ levelled reads
levelled_again reads = grind (arith, nat_tests, carried_again, carrying_again)

map_both : (n : ℕ) (xs ys : List ReadAnswer) → map (carrying n) (xs ++ ys) ≡ map (carrying n) xs ++ map (carrying n) ys
map_both n [] ys = refl
map_both n (x ∷ xs) ys = ap (λ rest. carrying n x ∷ rest) (map_both n xs ys)

levelled_more : (reads more : List ReadAnswer) → levelled (levelled reads ++ more) ≡ levelled (reads ++ more)
levelled_more reads more = grind (arith, nat_tests, map_both, carrying_again, low_append, low_carrying)

both_more : (r q more : List ReadAnswer) → levelled r ≡ levelled q → levelled (r ++ more) ≡ levelled (q ++ more)
both_more r q more same = sym (levelled_more r more) ∙ ap (λ xs. levelled (xs ++ more)) same ∙ levelled_more q more

-- ---- what a run sees

found_carrying : (n : ℕ) (key : List ℕ) (reads : List ReadAnswer) → option_map said (answer_in key (map (carrying n) reads)) ≡ option_map said (answer_in key reads)
found_carrying n key [] = refl
found_carrying n key (a ∷ reads) = grind (arith, nat_tests, found_carrying n key reads)

pub same_run : (program : ProgramTree) (reads : List ReadAnswer) → run_on program (levelled reads) ≡ run_on program reads
same_run program reads = grind (arith, nat_tests, found_carrying)

pub same_due : (keys : List (List ℕ)) (reads : List ReadAnswer) → is_due keys (levelled reads) ≡ is_due keys reads
same_due keys reads = grind (arith, nat_tests)

pub same_at : (level : Level) (reads : List ReadAnswer) → at_of level (levelled reads) ≡ at_of level reads
same_at level reads = grind (arith, nat_tests)

same_served : (program : ProgramTree) (prefetched reads : List ReadAnswer) → served program prefetched (levelled reads) ≡ served program prefetched reads
same_served program prefetched reads = grind (arith, nat_tests, same_run)

both_served : (program : ProgramTree) (prefetched r q : List ReadAnswer) → levelled r ≡ levelled q → served program prefetched r ≡ served program prefetched q
both_served program prefetched r q same =
    sym (same_served program prefetched r) ∙ ap (served program prefetched) same ∙ same_served program prefetched q

-- ---- going on

both_settle : (n : ℕ) (program : ProgramTree) (prefetched r q : List ReadAnswer) → levelled r ≡ levelled q →
    levelled (settle n program prefetched r) ≡ levelled (settle n program prefetched q)
unfolding settle
both_settle zero program prefetched r q same = same
both_settle (suc n) program prefetched r q same =
    ap (λ (o : Option ReadAnswer). levelled (taken (settle n program prefetched) r o)) (both_served program prefetched r q same)
    ∙ taken_by (settle n program prefetched) (λ a. both_settle n program prefetched (r ++ a ∷ []) (q ++ a ∷ []) (both_more r q (a ∷ []) same)) (served program prefetched q)
  where
    taken_by : (again : List ReadAnswer → List ReadAnswer) → ((a : ReadAnswer) → levelled (again (r ++ a ∷ [])) ≡ levelled (again (q ++ a ∷ []))) →
        (o : Option ReadAnswer) → levelled (taken again r o) ≡ levelled (taken again q o)
    taken_by again each None = same
    taken_by again each (Some a) = each a

pub both_gone_on : (program : ProgramTree) (prefetched r q : List ReadAnswer) → levelled r ≡ levelled q →
    levelled (gone_on program (known_of r prefetched)) ≡ levelled (gone_on program (known_of q prefetched))
both_gone_on program prefetched r q same = grind (arith, nat_tests, both_settle, same_due)

-- after one more answer
pub fetched_same : (program : ProgramTree) (prefetched reads : List ReadAnswer) (a : ReadAnswer) →
    levelled (gone_on program (known_of (levelled reads ++ a ∷ []) prefetched)) ≡ levelled (gone_on program (known_of (reads ++ a ∷ []) prefetched))
fetched_same program prefetched reads a = grind (arith, nat_tests, both_gone_on, levelled_more)

-- ---- a commit

mapped : {B : Type 0} (f : ReadAnswer → B) (n : ℕ) (xs : List ReadAnswer) → ((a : ReadAnswer) → f (carrying n a) ≡ f a) → map f (map (carrying n) xs) ≡ map f xs
mapped f n [] same = refl
mapped {B} f n (x ∷ xs) same = ap (λ (y : B). y ∷ map f (map (carrying n) xs)) (same x) ∙ ap (λ (ys : List B). f x ∷ ys) (mapped f n xs same)

pub mapped_same : {B : Type 0} (f : ReadAnswer → B) (reads : List ReadAnswer) → ((n : ℕ) (a : ReadAnswer) → f (carrying n a) ≡ f a) → map f (levelled reads) ≡ map f reads
mapped_same f reads same = mapped f (first_carried reads) reads (same (first_carried reads))

length_same : (reads : List ReadAnswer) → length (levelled reads) ≡ length reads
length_same reads = long (first_carried reads) reads
  where
    long : (n : ℕ) (xs : List ReadAnswer) → length (map (carrying n) xs) ≡ length xs
    long n [] = refl
    long n (x ∷ xs) = ap suc (long n xs)

pub same_reread : (level : Level) (reads : List ReadAnswer) → reread_keys level (levelled reads) ≡ reread_keys level reads
same_reread level reads = ap (λ keys. cond (is_serializable level) keys []) (mapped_same (λ (a : ReadAnswer). a.key) reads (λ n a. refl))

same_compares : (level : Level) (reads : List ReadAnswer) (writes : List Change) → compares_of level (levelled reads) writes ≡ compares_of level reads writes
same_compares level reads writes = grind (arith, nat_tests, carried_again, mapped_same)

pub same_seen : (reads : List ReadAnswer) (writes : List Change) → seen_by (levelled reads) writes ≡ seen_by reads writes
same_seen reads writes = grind (arith, nat_tests, carried_again, mapped_same)

-- the same commit of as many answers that are compared alike
pub commit_by : (terms : Terms) (level : Level) (xs reads : List ReadAnswer) (run : Run) → length xs ≡ length reads →
    compares_of level xs (latest_writes run.writes) ≡ compares_of level reads (latest_writes run.writes) → reread_keys level xs ≡ reread_keys level reads →
    committed terms level xs run ≡ committed terms level reads run
commit_by terms level xs reads run long compares reread = grind (arith, nat_tests)

pub same_commit : (terms : Terms) (level : Level) (reads : List ReadAnswer) (run : Run) → committed terms level (levelled reads) run ≡ committed terms level reads run
same_commit terms level reads run = grind (arith, nat_tests, commit_by, length_same, same_compares, same_reread)

pub levelled_attempts_are_same : LevelledAttemptsAreSame
levelled_attempts_are_same = grind (arith, nat_tests, levelled_again, same_run, same_due, same_at, fetched_same, same_commit, same_reread, same_seen)
