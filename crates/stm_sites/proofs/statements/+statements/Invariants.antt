use Rattle.std.proofs.Common.{◌≡◌, ◌+◌, ◌*◌, ◌-◌, drop}
use Rattle.stm_program.specs.BlockView.{block_of}
use Rattle.stm_program.specs.Weight.{statement_weight, block_weight}
use Rattle.stm_steps.specs.Meaning.{run_block, repeat}
use Rattle.stm_sites.specs.Sites.{block_site, turns_site}
use Rattle.stm_sites.proofs.statements.+statements.Given as goal

abbrev pub decreases-run_one : goal.decreases-run_one
decreases-run_one g l = 4 * statement_weight l.statement.now

abbrev pub decreases-run_choice : goal.decreases-run_choice
decreases-run_choice g l = 4 * (block_weight l.then_block.now + block_weight l.else_block.now) + 2

abbrev pub decreases-run_loop : goal.decreases-run_loop
decreases-run_loop g l = 4 * block_weight l.body.now + 3

abbrev pub decreases-run_at : goal.decreases-run_at
decreases-run_at g l = 4 * statement_weight l.statement.now + 1

abbrev pub decreases-run_all : goal.decreases-run_all
decreases-run_all g l = 4 * block_weight (block_of l.statements.now)

abbrev pub decreases-run_part : goal.decreases-run_part
decreases-run_part g l = 4 * block_weight l.block.now + 1

abbrev pub decreases-run_turns : goal.decreases-run_turns
decreases-run_turns g l = 4 * block_weight l.body.now + 2

-- the statements that are left do from here what all of them do from the start, and stop where all of them do
abbrev pub invariant-run_all-loop-index : goal.invariant-run_all-loop-index
invariant-run_all-loop-index g l =
    let look = g.L.Lookup.answers l.lookup in
    (run_block look (block_of (drop l.index l.statements)) l.session ≡ run_block look (block_of l.statements) l.fn.session)
    × (block_site look l.index (block_of (drop l.index l.statements)) l.session ≡ block_site look 0 (block_of l.statements) l.fn.session)

-- the turns that are left do from here what all of them do from the start, and stop where all of them do
abbrev pub invariant-run_turns-loop-turn : goal.invariant-run_turns-loop-turn
invariant-run_turns-loop-turn g l =
    let look = g.L.Lookup.answers l.lookup in
    (repeat l.variable (run_block look l.body) (l.count - l.turn) l.turn l.session ≡ repeat l.variable (run_block look l.body) l.count 0 l.fn.session)
    × (turns_site l.variable (run_block look l.body) (block_site look 0 l.body) (l.count - l.turn) l.turn l.session
    ≡ turns_site l.variable (run_block look l.body) (block_site look 0 l.body) l.count 0 l.fn.session)
