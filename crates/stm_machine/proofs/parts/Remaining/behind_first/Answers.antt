use Rattle.std.proofs.Common.{◌≡◌, ◌≤◌, ◌+◌, ◌∙◌, ap, arith, rules, List, length, drop}
use Rattle.stm_program.specs.Syntax.{Statement, Block}
use Rattle.stm_program.specs.BlockView.{block_of}
use Rattle.stm_machine.specs.Parts.{behind_first}
use Rattle.stm_machine.proofs.PartLemmas.{behind_within, behind_past}
use Rattle.stm_machine.proofs.parts.Remaining.behind_first.Goals as goal

pub returns-then-self-count : goal.returns-then-self-count
returns-then-self-count c =
    let items : List Statement = c.self.inside.statements.value.items in
    let copied : c.in_ok-statements.statements.value.items ≡ items = search rules in
    ap (λ (l : List Statement). block_of (drop (c.self.inside.next + 1) l)) copied
    ∙ behind_within items c.self.inside.next
    ∙ ap (λ (b : Block). behind_first b) c.self.view_is

pub returns : goal.returns
returns c =
    let items : List Statement = c.self.inside.statements.value.items in
    let copied : c.in_ok-statements.statements.value.items ≡ items = search rules in
    let count : c.len-count.result ≡ length items = search rules in
    let past : length items ≤ c.self.inside.next = omega (arith, count, c.if-self-count.false) in
    ap (λ (l : List Statement). block_of (drop c.self.inside.next l)) copied
    ∙ behind_past items c.self.inside.next past
    ∙ ap (λ (b : Block). behind_first b) c.self.view_is
