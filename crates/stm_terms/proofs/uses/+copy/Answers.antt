use Rattle.std.proofs.Common.{◌<◌, sym, ◌∙◌, arith}
use Rattle.stm_terms.proofs.CopyLemmas.{own_nodes, left_nodes, within_none, within_copied}
use Rattle.stm_terms.proofs.uses.+copy.Goals as goal

pub copy_look_up-copy_other-requires : goal.copy_look_up-copy_other-requires
copy_look_up-copy_other-requires t c =
    let own = own_nodes c.args.own.now c.first-item.result _ _ c.in-len1-up.len_at_least c.first-item.is c.split_own.ensures.own in
    (omega (arith, c.decreases, own), tt)

pub copy_look_up-returns-in_ok-all-in-len1-up-clause-less : goal.copy_look_up-returns-in_ok-all-in-len1-up-clause-less
copy_look_up-returns-in_ok-all-in-len1-up-clause-less t c =
    left_nodes c.args.own.now c.first-item.result _ _ c.in-len1-up.len_at_least c.first-item.is c.split_own.ensures.others

pub look_ups_in-returns-then-most-eq0 : goal.look_ups_in-returns-then-most-eq0
look_ups_in-returns-then-most-eq0 t c = c.new-none.ensures ∙ sym (within_none _ _ _ _ _ c.if-most-eq0.true)

pub look_ups_in-returns : goal.look_ups_in-returns
look_ups_in-returns t c =
    let some : 0 < c.args.most = omega arith in
    within_copied c.args.most c.args.at c.args.arguments.now c.args.own.now c.args.value.now _ _ _ some c.new-none.ensures c.in_ok-all.ensures.is
