use Rattle.std.proofs.Common.{◌≡◌, ◌+◌, ◌*◌, drop}
use Rattle.serde_json.specs.View.{items_view}
use Rattle.stm_program_json.specs.Reading.{statement_at, statements_from}
use Rattle.stm_program_json.proofs.BlockLemmas.{with_front}
use Rattle.stm_program_json.proofs.read.statements.+read_statements.Given as goal

abbrev pub decreases-statement : goal.decreases-statement
decreases-statement l = 8 * l.levels

abbrev pub decreases-statement_part : goal.decreases-statement_part
decreases-statement_part l = 8 * l.levels + 1

abbrev pub decreases-statement_list : goal.decreases-statement_list
decreases-statement_list l = 8 * l.levels + 2

abbrev pub decreases-statements : goal.decreases-statements
decreases-statements l = 8 * l.levels + 3

abbrev pub decreases-block_part : goal.decreases-block_part
decreases-block_part l = 8 * l.levels + 4

abbrev pub decreases-choice : goal.decreases-choice
decreases-choice l = 8 * l.levels + 5

abbrev pub decreases-repetition : goal.decreases-repetition
decreases-repetition l = 8 * l.levels + 5

abbrev pub decreases-statement_named : goal.decreases-statement_named
decreases-statement_named l = 8 * l.levels + 6

abbrev pub decreases-statement_array : goal.decreases-statement_array
decreases-statement_array l = 8 * l.levels + 7

-- the statements so far, and then what is read of the rest
abbrev pub invariant-statement_list-loop-index : goal.invariant-statement_list-loop-index
invariant-statement_list-loop-index l =
    with_front l.statements.items (statements_from (statement_at l.fn.levels) (l.index + l.fn.first) l.left (items_view (drop l.index l.values)))
    ≡ statements_from (statement_at l.fn.levels) l.fn.first l.fn.room (items_view l.values)
