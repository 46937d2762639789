-- A block with the statements that it begins with in front, the first of these last.
use Rattle.std.proofs.Common.{◌≡◌, List, [], ◌∷◌, ◌++◌, reverse, refl, ◌∙◌}
use mathlib.Core.List.{reverse_aux}
use Rattle.stm_program.specs.Syntax.{Statement, Block, Then}
use Rattle.stm_program.specs.BlockView.{block_of}
use Rattle.stm_leaving.specs.Closed.{one_behind}
use Rattle.stm_leaving.specs.Behind.{turned}

pub turned_append : (ss more : List Statement) (b : Block) → turned (ss ++ more) b ≡ turned more (turned ss b)
turned_append [] more b = refl
turned_append (s ∷ ss) more b = turned_append ss more (Then s b)

pub turned_push : (ss : List Statement) (s : Statement) (b : Block) → turned (ss ++ s ∷ []) b ≡ Then s (turned ss b)
turned_push ss s b = turned_append ss (s ∷ []) b

turned_aux : (ss more : List Statement) (b : Block) → turned (reverse_aux ss more) b ≡ turned more (one_behind (block_of ss) b)
turned_aux [] more b = refl
turned_aux (s ∷ ss) more b = turned_aux ss (s ∷ more) b

-- statements in their order, in front of a block
pub turned_front : (ss front : List Statement) (b : Block) → turned (ss ++ reverse front) b ≡ one_behind (block_of front) (turned ss b)
turned_front ss front b = turned_append ss (reverse front) b ∙ turned_aux front [] (turned ss b)

block_aux : (ss more rest : List Statement) → block_of (reverse_aux ss more ++ rest) ≡ turned ss (block_of (more ++ rest))
block_aux [] more rest = refl
block_aux (s ∷ ss) more rest = block_aux ss (s ∷ more) rest

-- all its statements
pub turned_all : (ss rest : List Statement) → block_of (reverse ss ++ rest) ≡ turned ss (block_of rest)
turned_all ss rest = block_aux ss [] rest
