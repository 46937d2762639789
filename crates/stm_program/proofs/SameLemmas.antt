-- Programs that are the same, and those of which `==` holds.
use Rattle.std.proofs.Common.{◌≡◌, List, [], ◌∷◌, ◌<◌, ◌↔◌, length, Bool, true, false, IsTrue, refl, sym, arith}
use Rattle.std.specs.Prelude.{◌==◌}
use Rattle.std.proofs.lemmas.Bool.Decides.{nat_tests}
use Rattle.stm_program.specs.Syntax.{Statement, ProgramTree}
use Rattle.stm_program.specs.BlockView.{block_of}
use Rattle.stm_program.specs.SameProgram.{same_program}
use Rattle.stm_program.specs.SameProgramLaws.{same_program-equal}

-- two lists of statements, of which the first is empty
pub both_empty : (ls rs : List Statement) (b : Bool) → length ls < 1 → b ≡ (length rs == 0) → IsTrue b ↔ (block_of ls ≡ block_of rs)
both_empty [] [] b below is_empty = (λ holds. refl, λ e. is_empty)
both_empty [] (r ∷ rs) b below is_empty = grind (arith, nat_tests)
both_empty (l ∷ ls) rs b below is_empty = absurd (omega arith)

-- a test that holds exactly where two programs are the same is `==`
pub same_program-is : (b : Bool) (p q : ProgramTree) → IsTrue b ↔ p ≡ q → b ≡ same_program p q
same_program-is b p q exact = agree b (same_program p q) (λ holds. (same_program-equal p q).1 (exact.0 holds))
    (λ holds. exact.1 ((same_program-equal p q).0 holds))
  where
    agree : (a c : Bool) → (IsTrue a → IsTrue c) → (IsTrue c → IsTrue a) → a ≡ c
    agree true true there back = refl
    agree true false there back = sym (there refl)
    agree false true there back = back refl
    agree false false there back = refl
