-- What sites are.
use Rattle.std.specs.Prelude.{◌≡◌, ℕ, zero, suc, List, ◌∷◌}
use Rattle.stm_program.specs.Syntax.{Block, End, Then}
use Rattle.stm_steps.specs.declared.stop.Stop.{Stop}
use Rattle.stm_steps.specs.Answer.{Lookup}
use Rattle.stm_steps.specs.Session.{Session}
use Rattle.stm_steps.specs.Outcome.{Gives, Stops}
use Rattle.stm_steps.specs.Meaning.{run_block}
use Rattle.stm_sites.specs.Sites.{block_site}

-- the first statements of a block
abbrev pub front : ℕ → Block → Block
front zero block = End
front (suc n) End = End
front (suc n) (Then first rest) = Then first (front n rest)

-- the statement with this number is the first of a block that stops the run
pub record StopsFirst (look : Lookup) (block : Block) (s : Session) (stop : Stop) (t : Session) (number : ℕ) : Type 0 where
  pub before : (u : Session) × (run_block look (front number block) s ≡ Gives tt u)
  pub with_it : run_block look (front (suc number) block) s ≡ Stops stop t

-- Where the run of a block stops, the place of its site begins with the number of that statement.
abbrev pub SitesAreFirst : Type 0
SitesAreFirst = (look : Lookup) (block : Block) (s : Session) (stop : Stop) (t : Session) → run_block look block s ≡ Stops stop t →
    (number : ℕ) × (inner : List ℕ) × ((block_site look 0 block s).place ≡ number ∷ inner) × StopsFirst look block s stop t number
