-- Running the statements of a block one after the other, as a loop does.
use Rattle.std.proofs.Common.{◌≡◌, ℕ, zero, suc, ◌+◌, ◌<◌, ◌≤◌, List, [], ◌∷◌, length, drop, get_or, sym, ap, ◌∙◌, arith}
use Rattle.std.proofs.lemmas.List.{drop_more}
use Rattle.stm_program.specs.Syntax.{Statement}
use Rattle.stm_program.specs.BlockView.{block_of}
use Rattle.stm_program.specs.Weight.{statement_weight, block_weight, block_weight-positive}
use Rattle.stm_program.proofs.WeightLemmas.{statement_weight-positive}
use Rattle.stm_steps.specs.Answer.{Lookup}
use Rattle.stm_steps.specs.Session.{Session}
use Rattle.stm_steps.specs.Outcome.{Outcome, Gives, and_then}
use Rattle.stm_steps.specs.Meaning.{run_statement, run_block}
use Rattle.stm_sites.specs.Sites.{part_or, statement_site, block_site}

-- each statement weighs less than its block
pub item_weight : (ss : List Statement) (i : ℕ) (s : Statement) → i < length ss → s ≡ get_or ss i s → statement_weight s + 1 ≤ block_weight (block_of ss)
item_weight [] i s h e = absurd (omega arith)
item_weight (t ∷ ss) zero s h e = omega (arith, ap statement_weight e, block_weight-positive ss)
item_weight (t ∷ ss) (suc i) s h e = omega (arith, item_weight ss i s (omega arith) e, statement_weight-positive t)

pub one_more : (ss : List Statement) (i : ℕ) (s : Statement) → i < length ss → s ≡ get_or ss i s → drop i ss ≡ s ∷ drop (i + 1) ss
one_more ss i s h e = drop_more ss i s h ∙ ap (λ (x : Statement). x ∷ drop (i + 1) ss) (sym e)

-- a statement that gives leaves the statements after it
pub run-step : (look : Lookup) (ss : List Statement) (i : ℕ) (s : Statement) (t u : Session) → i < length ss → s ≡ get_or ss i s →
    run_statement look s t ≡ Gives tt u → run_block look (block_of (drop i ss)) t ≡ run_block look (block_of (drop (i + 1) ss)) u
unfolding run_block
run-step look ss i s t u h e ran =
    ap (λ (l : List Statement). run_block look (block_of l) t) (one_more ss i s h e)
    ∙ ap (λ (o : Outcome (Unit {0})). and_then o (λ _. run_block look (block_of (drop (i + 1) ss)))) ran

pub site-step : (look : Lookup) (ss : List Statement) (i : ℕ) (s : Statement) (t u : Session) → i < length ss → s ≡ get_or ss i s →
    run_statement look s t ≡ Gives tt u → block_site look i (block_of (drop i ss)) t ≡ block_site look (i + 1) (block_of (drop (i + 1) ss)) u
unfolding block_site
site-step look ss i s t u h e ran =
    let next : suc i ≡ i + 1 = omega arith in
    ap (λ (l : List Statement). block_site look i (block_of l) t) (one_more ss i s h e)
    ∙ ap (λ (o : Outcome (Unit {0})). part_or i (statement_site look s t) (λ _ v. block_site look (suc i) (block_of (drop (i + 1) ss)) v) o) ran
    ∙ ap (λ (n : ℕ). block_site look n (block_of (drop (i + 1) ss)) u) next
