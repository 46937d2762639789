use Rattle.std.proofs.Common.{All, subst, sym, rules}
use Rattle.std.proofs.lemmas.List.Elements.{All-push}
use Rattle.stm_driving.specs.AtOnce.{IsReadNow}
use Rattle.stm_driving.proofs.ReadsNow.{read_is_now}
use Rattle.stm_driving.proofs.at_once.read_key.Goals as goal

-- one answer more
pub returns-in_ok-add : goal.returns-in_ok-add
returns-in_ok-add c =
    let s = c.args.store.now.standing in
    let one = read_is_now s c.args.key.now c.in_ok-answer.answer (search rules) in
    subst (All (IsReadNow s.history)) (sym c.in_ok-add.ensures.ok) (All-push (IsReadNow s.history) c.args.reads.now c.in_ok-answer.answer c.requires one)
