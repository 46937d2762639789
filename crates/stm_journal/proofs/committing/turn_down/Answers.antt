use Rattle.std.proofs.Common.{◌∙◌, Some, Err, ap}
use Rattle.std.proofs.lemmas.Result.{err_from_is_err_and}
use Rattle.stm_journal.specs.declared.causes.Cause.{Cause}
use Rattle.stm_journal.proofs.CauseLemmas.{caused_by_compare, turned_wrong, turned_failed, turned_out}
use Rattle.stm_journal.proofs.committing.turn_down.Goals as goal

-- wrong as a whole
pub returns-in-Wrong-clause-verdict : goal.returns-in-Wrong-clause-verdict
returns-in-Wrong-clause-verdict c =
    turned_wrong c.args.store.now.standing c.args.ready.now c.in-Wrong.fault (c.requires ∙ ap (λ (x : Cause). Some x) c.in-Wrong.is)

-- a compare failed
pub fail-requires : goal.fail-requires
fail-requires c =
    (caused_by_compare c.args.store.now.standing c.args.ready.now c.in-Fails.failed (c.requires ∙ ap (λ (x : Cause). Some x) c.in-Fails.is)).1

pub returns-in_ok-verdict-in-Fails-clause-verdict : goal.returns-in_ok-verdict-in-Fails-clause-verdict
returns-in_ok-verdict-in-Fails-clause-verdict c =
    turned_failed c.args.store.now.standing c.args.ready.now c.in-Fails.failed c.in_ok-verdict-in-Fails.verdict
    (c.requires ∙ ap (λ (x : Cause). Some x) c.in-Fails.is) c.in_ok-verdict-in-Fails.ensures.verdict

-- and an allocation failed
pub returns-in_err-verdict-in-Fails-clause-verdict : goal.returns-in_err-verdict-in-Fails-clause-verdict
returns-in_err-verdict-in-Fails-clause-verdict c =
    let exit = err_from_is_err_and c.from_residual.result c.from_residual.ensures.1 in
    turned_out c.args.store.now.standing c.args.ready.now c.from_residual.result (exit.1 ∙ ap (λ e. Err e) exit.2)

-- a value is not the store's
pub find_false_key-requires : goal.find_false_key-requires
find_false_key-requires c = c.requires ∙ ap (λ (x : Cause). Some x) c.in-Unvouched.is

pub returns-in_err-key-in-Unvouched-clause-verdict : goal.returns-in_err-key-in-Unvouched-clause-verdict
returns-in_err-key-in-Unvouched-clause-verdict c =
    let exit = err_from_is_err_and c.from_residual-in_err-key-in-Unvouched.result c.from_residual-in_err-key-in-Unvouched.ensures.1 in
    turned_out c.args.store.now.standing c.args.ready.now c.from_residual-in_err-key-in-Unvouched.result (exit.1 ∙ ap (λ e. Err e) exit.2)

pub returns-in_ok-key-in-Unvouched-clause-verdict : goal.returns-in_ok-key-in-Unvouched-clause-verdict
returns-in_ok-key-in-Unvouched-clause-verdict c = c.in_ok-key-in-Unvouched.ensures
