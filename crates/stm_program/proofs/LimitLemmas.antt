-- Each node counts, and stands at depth 1 at least.
use Rattle.std.proofs.Common.{◌≤◌, ℕ, arith}
use Rattle.stm_program.specs.Syntax.{Expression, Text, Condition, Equal}
use Rattle.stm_program.specs.Syntax.{Statement, Set}
use Rattle.stm_program.specs.Size.{expression_nodes, condition_nodes, statement_nodes}
use Rattle.stm_program.specs.Limits.{expression_depth, condition_depth, statement_depth, ExpressionFits, ConditionFits, StatementFits}

pub expression_nodes-positive : (e : Expression) → 1 ≤ expression_nodes e
expression_nodes-positive (Text s) = omega arith
expression_nodes-positive _ = omega arith

pub expression_depth-positive : (e : Expression) → 1 ≤ expression_depth e
expression_depth-positive (Text s) = omega arith
expression_depth-positive _ = omega arith

pub condition_nodes-positive : (c : Condition) → 1 ≤ condition_nodes c
condition_nodes-positive (Equal l r) = omega arith
condition_nodes-positive _ = omega arith

pub condition_depth-positive : (c : Condition) → 1 ≤ condition_depth c
condition_depth-positive (Equal l r) = omega arith
condition_depth-positive _ = omega arith

pub statement_nodes-positive : (s : Statement) → 1 ≤ statement_nodes s
statement_nodes-positive (Set v e) = omega arith
statement_nodes-positive _ = omega arith

pub statement_depth-positive : (s : Statement) → 1 ≤ statement_depth s
statement_depth-positive (Set v e) = omega arith
statement_depth-positive _ = omega arith

-- nothing fits no levels, or no room
pub expression_needs : (l r : ℕ) (e : Expression) → ExpressionFits l r e → (1 ≤ l) × (1 ≤ r)
expression_needs l r e f = (omega (arith, f.depth, expression_depth-positive e), omega (arith, f.nodes, expression_nodes-positive e))

pub condition_needs : (l r : ℕ) (c : Condition) → ConditionFits l r c → (1 ≤ l) × (1 ≤ r)
condition_needs l r c f = (omega (arith, f.depth, condition_depth-positive c), omega (arith, f.nodes, condition_nodes-positive c))

pub statement_needs : (l r : ℕ) (s : Statement) → StatementFits l r s → (1 ≤ l) × (1 ≤ r)
statement_needs l r s f = (omega (arith, f.depth, statement_depth-positive s), omega (arith, f.nodes, statement_nodes-positive s))
