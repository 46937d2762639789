use Rattle.std.proofs.Common.{◌≡◌, ◌≤◌, ◌∙◌, sym, ap, arith, rules, List, length}
use Rattle.stm_program.specs.Syntax.{Statement, Block}
use Rattle.stm_machine.specs.Parts.{behind_first}
use Rattle.stm_machine.proofs.PartLemmas.{behind_within, behind_past}
use Rattle.stm_machine.proofs.parts.Remaining.pass_first.Goals as goal

pub returns : goal.returns
returns c =
    let items : List Statement = c.self.inside.statements.value.items in
    behind_within items c.self.inside.next ∙ ap (λ (b : Block). behind_first b) c.self.view_is

pub returns-then-self-len : goal.returns-then-self-len
returns-then-self-len c =
    let items : List Statement = c.self.inside.statements.value.items in
    let count : c.len.result ≡ length items = search rules in
    let past : length items ≤ c.self.inside.next = omega (arith, count, c.if-self-len.true) in
    sym c.self.view_is ∙ behind_past items c.self.inside.next past ∙ ap (λ (b : Block). behind_first b) c.self.view_is
