-- The first statement that stops a block is where the place of its site begins.
use Rattle.std.proofs.Common.{◌≡◌, ℕ, suc, ◌+◌, List, ◌∷◌, Bool, true, false, true≢false, refl, ap, ◌∙◌, arith}
use Rattle.stm_program.specs.Syntax.{Statement, Block, End, Then}
use Rattle.stm_steps.specs.declared.stop.Stop.{Stop}
use Rattle.stm_steps.specs.Answer.{Lookup}
use Rattle.stm_steps.specs.Session.{Session}
use Rattle.stm_steps.specs.Outcome.{Outcome, Gives, Stops, and_then}
use Rattle.stm_steps.specs.Meaning.{run_statement, run_block}
use Rattle.stm_sites.specs.Sites.{part_or, statement_site, block_site}
use Rattle.stm_sites.specs.Laws.{front, StopsFirst, SitesAreFirst}

-- the same of a block of which the first statement has an index
record Begins (look : Lookup) (index : ℕ) (block : Block) (s : Session) (stop : Stop) (t : Session) : Type 0 where
  number : ℕ
  inner : List ℕ
  place : (block_site look index block s).place ≡ (index + number) ∷ inner
  first : StopsFirst look block s stop t number

by_first : (look : Lookup) (index : ℕ) (first : Statement) (rest : Block) (s : Session) (stop : Stop) (t : Session) (o : Outcome (Unit {0})) →
    run_statement look first s ≡ o → and_then o (λ _. run_block look rest) ≡ Stops stop t →
    ((u : Session) → run_block look rest u ≡ Stops stop t → Begins look (suc index) rest u stop t) → Begins look index (Then first rest) s stop t
unfolding run_block block_site
by_first look index first rest s stop t (Stops by u) is e later =
    let same : index ≡ index + 0 = omega arith in
    let site = statement_site look first s in record {
      number = 0;
      inner = site.place;
      place = ap (λ (o : Outcome (Unit {0})). (part_or index site (λ _ t. block_site look (suc index) rest t) o).place) is
          ∙ ap (λ (k : ℕ). k ∷ site.place) same;
      first = record { before = (s, refl); with_it = ap (λ (o : Outcome (Unit {0})). and_then o (λ _. run_block look End)) is ∙ e };
    }
by_first look index first rest s stop t (Gives x u) is e later =
    let begins = later u e in
    let same : suc index + begins.number ≡ index + suc begins.number = omega arith in
    let site = statement_site look first s in record {
      number = suc begins.number;
      inner = begins.inner;
      place = ap (λ (o : Outcome (Unit {0})). (part_or index site (λ _ t. block_site look (suc index) rest t) o).place) is
          ∙ begins.place ∙ ap (λ (k : ℕ). k ∷ begins.inner) same;
      first = record {
        before = (
          begins.first.before.0,
          ap (λ (o : Outcome (Unit {0})). and_then o (λ _. run_block look (front begins.number rest))) is ∙ begins.first.before.1,
        );
        with_it = ap (λ (o : Outcome (Unit {0})). and_then o (λ _. run_block look (front (suc begins.number) rest))) is ∙ begins.first.with_it;
      };
    }

abbrev gave : Outcome (Unit {0}) → Bool
gave (Gives x s) = true
gave (Stops stop s) = false

begins : (look : Lookup) (index : ℕ) (block : Block) (s : Session) (stop : Stop) (t : Session) → run_block look block s ≡ Stops stop t →
    Begins look index block s stop t
unfolding run_block
begins look index End s stop t e = absurd (true≢false (ap gave e))
begins look index (Then first rest) s stop t e =
    by_first look index first rest s stop t (run_statement look first s) refl e (λ u. begins look (suc index) rest u stop t)

pub sites_are_first : SitesAreFirst
sites_are_first look block s stop t e =
    let first = begins look 0 block s stop t e in
    let same : 0 + first.number ≡ first.number = omega arith in
    (first.number, first.inner, first.place ∙ ap (λ (k : ℕ). k ∷ first.inner) same, first.first)
