-- The parts of a program that wait: what is left of a block, and the turns that are left of a loop.
use Rattle.std.specs.Prelude.{ℕ, suc, zero, Option, None, Some}
use Rattle.stm_program.specs.Syntax.{Statement, Block, End, Then}

-- the first statement of a block, and the statements after it
abbrev pub first_of : Block → Option Statement
first_of End = None
first_of (Then s b) = Some s

abbrev pub behind_first : Block → Block
behind_first End = End
behind_first (Then s b) = b

-- the turn that comes next, from 0, and how many turns are left with it
pub record TurnsLeft : Type 0 where
  pub next : ℕ
  pub left : ℕ

abbrev pub turns_from : ℕ → ℕ → TurnsLeft
turns_from next left = record { next = next; left = left }

-- the turns after the next one, where one is left
abbrev pub behind_turn : ℕ → ℕ → Option TurnsLeft
behind_turn next zero = None
behind_turn next (suc left) = Some (turns_from (suc next) left)

abbrev pub behind_next : TurnsLeft → Option TurnsLeft
behind_next turns = behind_turn turns.next turns.left
