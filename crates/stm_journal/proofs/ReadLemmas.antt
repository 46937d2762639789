-- The answers of reads, among those of a transaction.
use Rattle.std.proofs.Common.{◌≡◌, List, [], ◌∷◌, ◌++◌, map, refl, sym, ◌∙◌, ap, append_assoc, All, arith}
use Rattle.std.specs.List.{AllByRecursion}
use Rattle.std.proofs.lemmas.List.Elements.{All-from_recursion}
use Rattle.std.proofs.lemmas.Bool.Decides.{nat_tests}
use Rattle.stm_history.specs.declared.key_state.ReadAnswer.{ReadAnswer}
use Rattle.stm_outcome.specs.declared.answer.OpAnswer.{OpAnswer}
use Rattle.stm_outcome.specs.declared.answer.OpAnswer.TheVariants.{Get, Put, Del}
use Rattle.stm_outcome.specs.Numbers.{ReadFits, OpsFit}
use Rattle.stm_journal.specs.Reads.{reads_in}

-- ---- one after another

first_apart : (answer : OpAnswer) (rest : List OpAnswer) → reads_in (answer ∷ rest) ≡ reads_in (answer ∷ []) ++ reads_in rest
first_apart answer rest = grind (arith, nat_tests)

-- one more answer is taken
pub one_taken : (before after : List ReadAnswer) (answer : OpAnswer) (left rest : List OpAnswer) (all : List ReadAnswer) →
    after ≡ before ++ reads_in (answer ∷ []) → left ≡ answer ∷ rest → before ++ reads_in left ≡ all → after ++ reads_in rest ≡ all
one_taken before after answer left rest all added first reported =
    ap (λ (l : List ReadAnswer). l ++ reads_in rest) added
    ∙ append_assoc before (reads_in (answer ∷ [])) (reads_in rest)
    ∙ ap (λ (l : List ReadAnswer). before ++ l) (sym (first_apart answer rest))
    ∙ ap (λ (l : List OpAnswer). before ++ reads_in l) (sym first)
    ∙ reported

-- answers that are all of reads
pub all_reads : (reads : List ReadAnswer) → reads_in (map (λ a. Get a) reads) ≡ reads
all_reads [] = refl
all_reads (a ∷ reads) = ap (λ l. a ∷ l) (all_reads reads)

-- ---- numbers

reads_are_small : (answers : List OpAnswer) → OpsFit answers → AllByRecursion ReadFits (reads_in answers)
reads_are_small [] fit = tt
reads_are_small (Get read ∷ answers) fit = (fit.0, reads_are_small answers fit.1)
reads_are_small (Put ∷ answers) fit = reads_are_small answers fit.1
reads_are_small (Del count ∷ answers) fit = reads_are_small answers fit.1

pub reads_fit : (answers : List OpAnswer) → OpsFit answers → All ReadFits (reads_in answers)
reads_fit answers fit = All-from_recursion ReadFits (reads_in answers) (reads_are_small answers fit)
