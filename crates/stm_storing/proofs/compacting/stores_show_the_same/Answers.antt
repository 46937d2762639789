use Rattle.std.proofs.Common.{◌≤◌, ap, sym, ◌∙◌, subst, arith}
use Rattle.std.proofs.lemmas.Result.{IfOk-weaker}
use Rattle.stm_history.specs.History.{History, now, key_at}
use Rattle.stm_storing.proofs.CompactLemmas.{shows}
use Rattle.stm_storing.proofs.compacting.stores_show_the_same.Goals as goal

pub had_same_keys-requires-clause-here : goal.had_same_keys-requires-clause-here
had_same_keys-requires-clause-here c = subst (λ (h : History). c.args.floor ≤ now h) (sym c.keys.ensures.history) c.requires.reached

pub had_same_keys-requires-clause-there : goal.had_same_keys-requires-clause-there
had_same_keys-requires-clause-there c =
    let alike = c.are_alike_since.ensures c.if-not-are_alike_since.false in
    subst (λ (h : History). c.args.floor ≤ now h) (sym c.keys-2.ensures.history) (omega (arith, c.requires.reached, alike.reached))

pub returns : goal.returns
returns c =
    let floor = c.args.floor in
    IfOk-weaker c.had_same_keys.result _ _
    (λ is found same live.
    shows floor c.args.left.now.standing c.args.right.now.standing c.requires.positive (c.have_same_limit.ensures c.if-not-have_same_limit.false)
    (c.are_alike_since.ensures c.if-not-are_alike_since.false)
    (λ key. sym (ap (λ (h : History). key_at h key floor) c.keys.ensures.history) ∙ found same key ∙ ap (λ (h : History). key_at h key floor) c.keys-2.ensures.history) live)
    c.had_same_keys.ensures
