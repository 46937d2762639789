use Rattle.std.proofs.Common.{◌≡◌, ◌∙◌, Some, sym, ap}
use Rattle.std.specs.Prelude.{option_copied}
use Rattle.stm_history.specs.History.{History}
use Rattle.stm_txn.specs.Standing.{Standing}
use Rattle.stm_attempt.specs.ReadyRun.{ReadyRun}
use Rattle.stm_journal.specs.Verdicts.{first_unvouched}
use Rattle.stm_journal.proofs.CauseLemmas.{not_vouched, turned_unvouched}
use Rattle.stm_journal.proofs.committing.find_false_key.Goals as goal

-- there is one
pub unreachable-requires : goal.unreachable-requires
unreachable-requires c =
    let ready : ReadyRun = c.args.ready.now in
    not_vouched c.args.store.now.standing ready (option_copied c.find_unvouched.result) c.requires
    (c.find_unvouched.ensures ∙ ap (λ (h : History). first_unvouched h ready.level ready.answers) c.keys.ensures.history)
    (ap (λ o. option_copied o) c.in-None.is)

pub returns : goal.returns
returns c =
    let ready : ReadyRun = c.args.ready.now in
    let s : Standing = c.args.store.now.standing in
    let first : first_unvouched s.history ready.level ready.answers ≡ Some c.in-Some.unvouched.now =
    sym (c.find_unvouched.ensures ∙ ap (λ (h : History). first_unvouched h ready.level ready.answers) c.keys.ensures.history)
    ∙ ap (λ o. option_copied o) c.in-Some.is in
    turned_unvouched s ready c.in-Some.unvouched.now c.in_ok-key-in-Some.key c.requires first c.in_ok-key-in-Some.ensures.cases
