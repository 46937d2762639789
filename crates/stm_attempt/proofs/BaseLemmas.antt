-- The answers of an attempt at a serializable level are of one revision.
use Rattle.std.proofs.Common.{◌≡◌, ◌≤◌, ℕ, Bool, cond, List, [], ◌∷◌, ◌++◌, filter, arith}
use Rattle.std.specs.Prelude.{Option, Some, ◌==◌}
use Rattle.std.specs.List.{AllByRecursion}
use Rattle.std.proofs.lemmas.List.Elements.{recursion_from_All}
use Rattle.std.proofs.lemmas.Bool.Decides.{nat_tests}
use Rattle.stm_history.specs.declared.key_state.ReadAnswer.{ReadAnswer}
use Rattle.stm_history.specs.History.{History, now}
use Rattle.stm_program.specs.Syntax.{ProgramTree}
use Rattle.stm_outcome.specs.Commits.{revision_read}
use Rattle.stm_attempt.specs.Known.{serving}
use Rattle.stm_attempt.specs.Settled.{run_on, wanted, answer_for, served}
use Rattle.stm_attempt.specs.Fetches.{base_of, AllShow, HaveOneBase}
use Rattle.stm_attempt.specs.Laws.{SettlingKeepsTheBase, FetchingKeepsTheBase}
use Rattle.stm_attempt.proofs.SettleLemmas.{served_is_one, settled_keeps, found_is_one}

show_push : (revision : ℕ) (answers : List ReadAnswer) (a : ReadAnswer) → AllShow revision answers → a.of_rev ≡ revision →
    AllShow revision (answers ++ a ∷ [])
show_push revision [] a all new = (new, tt)
show_push revision (x ∷ answers) a all new = (all.0, show_push revision answers a all.1 new)

-- ---- what serves is of the base

shown_by : (revision : ℕ) (b : Bool) (a : ReadAnswer) (answers : List ReadAnswer) → (a.of_rev == revision) ≡ b →
    AllByRecursion (λ (x : ReadAnswer). x.of_rev ≡ revision) answers →
    AllByRecursion (λ (x : ReadAnswer). x.of_rev ≡ revision) (cond b (a ∷ answers) answers)
shown_by revision b a answers is all = grind (arith, nat_tests)

filtered_show : (revision : ℕ) (answers : List ReadAnswer) →
    AllByRecursion (λ (x : ReadAnswer). x.of_rev ≡ revision) (filter (λ (x : ReadAnswer). x.of_rev == revision) answers)
filtered_show revision [] = tt
filtered_show revision (a ∷ answers) = grind (arith, nat_tests, shown_by, filtered_show revision answers)

for_is_one : (P : ReadAnswer → Type 0) (o : Option (List ℕ)) (answers : List ReadAnswer) (a : ReadAnswer) → AllByRecursion P answers →
    answer_for o answers ≡ Some a → P a
for_is_one P o answers a all found = grind (arith, nat_tests, found_is_one)

base_step : (program : ProgramTree) (prefetched reads : List ReadAnswer) (a : ReadAnswer) → AllByRecursion (λ (x : ReadAnswer). 1 ≤ x.of_rev) prefetched →
    served program prefetched reads ≡ Some a → HaveOneBase reads → HaveOneBase (reads ++ a ∷ [])
base_step program prefetched [] a positive found one = (served_is_one (λ (x : ReadAnswer). 1 ≤ x.of_rev) program prefetched [] a positive found, tt)
base_step program prefetched (first ∷ rest) a positive found one =
    let shows : a.of_rev ≡ first.of_rev =
    for_is_one (λ (x : ReadAnswer). x.of_rev ≡ first.of_rev) (wanted (run_on program (first ∷ rest))) (serving (first ∷ rest) prefetched) a
    (filtered_show first.of_rev prefetched) found in
    (one.0, show_push first.of_rev rest a one.1 shows)

pub settling_keeps_the_base : SettlingKeepsTheBase
settling_keeps_the_base program known positive one =
    settled_keeps HaveOneBase program known
    (λ reads a is before. base_step program known.prefetched reads a
    (recursion_from_All (λ (x : ReadAnswer). 1 ≤ x.of_rev) known.prefetched positive) is before) one

-- ---- a fetch

fetched : (h : History) (reads : List ReadAnswer) (a : ReadAnswer) → 1 ≤ now h → a.of_rev ≡ revision_read h (base_of reads) → HaveOneBase reads →
    HaveOneBase (reads ++ a ∷ [])
fetched h reads a some shows one = grind (arith, nat_tests, show_push)

pub fetching_keeps_the_base : FetchingKeepsTheBase
fetching_keeps_the_base h level reads a serializable some shows one = grind (arith, nat_tests, fetched)
