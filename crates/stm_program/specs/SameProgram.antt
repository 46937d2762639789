-- When `==` holds of two programs: their codes are the same, which is exactly where the programs are (SameProgramLaws).
use Rattle.std.specs.Prelude.{◌≡◌, ◌↔◌, Bool, true, false, ◌&&◌, nat_eq, IsTrue}
use base.Stored.{Gv, gnil, gnum, gcons}
use Rattle.stm_program.specs.Syntax.{ProgramTree}
use Rattle.stm_program.specs.Coding.{encode_program}

abbrev pub same_code : Gv → Gv → Bool
same_code gnil gnil = true
same_code (gnum m) (gnum n) = nat_eq m n
same_code (gcons a b) (gcons c d) = same_code a c && same_code b d
same_code _ _ = false

unfoldable pub same_program : ProgramTree → ProgramTree → Bool
same_program p q = same_code (encode_program p) (encode_program q)

-- it holds exactly where the two are the same program
abbrev pub SameProgramsAreEqual : Type 0
SameProgramsAreEqual = (p q : ProgramTree) → IsTrue (same_program p q) ↔ p ≡ q
