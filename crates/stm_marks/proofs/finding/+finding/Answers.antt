use Rattle.std.proofs.Common.{◌≡◌, ◌<◌, ℕ, List, [], ◌∷◌, length, Option, refl, arith}
use Rattle.stm_program.proofs.WeightLemmas.{first_weight}
use Rattle.stm_program.specs.Syntax.{Statement, Set, Put, Del, If, For, Emit, Abort}
use Rattle.stm_marks.specs.Marks.{place_in_statement}
use Rattle.stm_marks.proofs.finding.+finding.Goals as goal

pub place_in-place_in_statement-requires : goal.place_in-place_in_statement-requires
place_in-place_in_statement-requires t c =
    (omega (arith, c.decreases, first_weight c.args.statements.now c.first-item.result c.in-len1-up.len_at_least c.first-item.is), tt)

-- no index leads into a statement
here : (known : Option ℕ) (path : List ℕ) (s : Statement) → length path < 1 → known ≡ place_in_statement known path s
here known [] (Set v e) none = refl
here known [] (Put k e lease) none = refl
here known [] (Del e) none = refl
here known [] (If c t e) none = refl
here known [] (For v e n body) none = refl
here known [] (Emit e) none = refl
here known [] (Abort e) none = refl
here known (i ∷ path) s none = absurd (omega (arith, none))

pub place_in_statement-returns-in_default : goal.place_in_statement-returns-in_default
place_in_statement-returns-in_default t c = here c.args.known c.args.path.now c.args.statement.now c.in_default.len_below
