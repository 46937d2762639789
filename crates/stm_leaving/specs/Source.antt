-- Statements of the source language, as trees, and the ways in which they leave their block.
use Rattle.std.specs.Prelude.{ℕ, Bool, true}
use Rattle.stm_program.specs.Syntax.{Expression, Condition, Statement}
use Rattle.stm_leaving.specs.declared.ways.Ways.{Ways}

-- `Plain` is a statement of a program; `Items` is a loop over items, one copy of its block for each; `Count` is a counted loop
mutual
  pub data Source : Type 0 where
    Plain : Statement → Source
    Choice : Condition → Sources → Sources → Source
    Items : Copies → Source
    Count : ℕ → Expression → ℕ → Sources → Source
    Return : Source
    Break : Source
    Continue : Source

  pub data Sources : Type 0 where
    Nil : Sources
    Next : Source → Sources → Sources

  pub data Copies : Type 0 where
    NoCopy : Copies
    Copy : Sources → Copies → Copies

-- how a part of a source is left
pub data Way : Type 0 where
  GoesOn : Way
  Returns : Way
  Breaks : Way
  Continues : Way

abbrev pub is_way : Ways → Way → Bool
is_way ways GoesOn = true
is_way ways Returns = ways.returns
is_way ways Breaks = ways.breaks
is_way ways Continues = ways.continues

-- in the block of a loop over items, beside the ways in which the loop itself may be left
abbrev pub in_copies : Ways → Ways
in_copies ways = record { returns = ways.returns; breaks = true; continues = true }
