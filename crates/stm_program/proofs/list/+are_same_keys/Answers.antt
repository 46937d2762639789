use Rattle.std.proofs.Common.{sym, ◌∙◌}
use Rattle.stm_program.proofs.ListLemmas.{same_keys}
use Rattle.stm_program.proofs.list.+are_same_keys.Goals as goal

pub returns-then-eq : goal.returns-then-eq
returns-then-eq t c =
    same_keys c.args.left.now c.args.right.now c.first-item.result c.other-item.result _ _ c.are_same_keys.result c.in-len1-up.len_at_least
    c.in-len1-up-right.len_at_least c.first-item.is c.other-item.is c.as_str.ensures.value c.as_str-in-len1-up-right.ensures.value
    (sym c.eq.ensures ∙ c.if-eq.true) c.are_same_keys.ensures
