use Rattle.std.proofs.Common.{◌≡◌, ◌++◌, ℕ, List, OnOk, arith, subst, string_bytes}
use Rattle.stm_program_source.proofs.Blocks.{item_nodes, item_weight, some_filled}
use Rattle.stm_program_source.proofs.statements.+push_statements.Goals as goal

pub push_lines-push_statement-requires : goal.push_lines-push_statement-requires
push_lines-push_statement-requires t c =
    let ss = c.args.statements.now in
    let i = c.loop-statement.statement-index in
    let s = c.statement-item.result in (
      omega (arith, c.decreases, item_weight ss i s c.loop-statement-test.true c.statement-item.is),
      omega (arith, c.requires, item_nodes ss i s c.loop-statement-test.true c.statement-item.is),
    )

pub push_block-returns-in-len1-up : goal.push_block-returns-in-len1-up
push_block-returns-in-len1-up t c =
    let holds : List ℕ → Type 0 = λ text. OnOk c.push_filled.result (string_bytes c.push_filled.new.out ≡ string_bytes c.args.out.now ++ text) in
    subst holds (some_filled c.args.blocks c.args.statements.now c.in-len1-up.len_at_least) c.push_filled.ensures
