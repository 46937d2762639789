-- How a condition is printed.
use Rattle.std.specs.Prelude.{ℕ, List, ◌++◌, nat_lt, nat_le, codes}
use Rattle.stm_program.specs.Syntax.{Expression, Condition, Equal, Less, Not, And, Or}
use Rattle.stm_program_source.specs.Texts.{call, bracketed}
use Rattle.stm_program_source.specs.Expressions.{shown_expression}

-- `||` binds least, and what is neither `||` nor `&&` most
abbrev pub condition_rank : Condition → ℕ
condition_rank (Or c d) = 1
condition_rank (And c d) = 2
condition_rank (Equal l r) = 3
condition_rank (Less l r) = 3
condition_rank (Not c) = 3

abbrev pub comparison : Expression → List ℕ → Expression → List ℕ
comparison l between r = shown_expression l ++ between ++ shown_expression r

-- what does not hold: a comparison has a sign for it
abbrev pub negated : Condition → List ℕ → List ℕ
negated (Equal l r) text = comparison l (codes " != ") r
negated (Less l r) text = comparison l (codes " >= ") r
negated (Not c) text = call (codes "!") text
negated (And c d) text = call (codes "!") text
negated (Or c d) text = call (codes "!") text

-- brackets stand round a left operand that binds less, and round a right one that does not bind more
abbrev pub connected : ℕ → List ℕ → Condition → List ℕ → Condition → List ℕ → List ℕ
connected own between c left d right =
    bracketed (nat_lt (condition_rank c) own) left ++ between ++ bracketed (nat_le (condition_rank d) own) right

abbrev pub shown_condition : Condition → List ℕ
shown_condition (Equal l r) = comparison l (codes " == ") r
shown_condition (Less l r) = comparison l (codes " < ") r
shown_condition (Not c) = negated c (shown_condition c)
shown_condition (And c d) = connected 2 (codes " && ") c (shown_condition c) d (shown_condition d)
shown_condition (Or c d) = connected 1 (codes " || ") c (shown_condition c) d (shown_condition d)
