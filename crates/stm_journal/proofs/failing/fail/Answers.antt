use Rattle.std.proofs.Common.{◌≡◌, ◌≤◌, ◌∙◌, ℕ, map, refl, sym, ap, subst}
use Rattle.std.proofs.lemmas.Result.{IfOk-weaker}
use Rattle.std.specs.Prelude.{bytes_eq}
use Rattle.std.specs.List.{IsDistinct}
use Rattle.stm_history.specs.declared.key_state.ReadAnswer.{ReadAnswer}
use Rattle.stm_history.specs.declared.revisions.TheConstants.{HIGHEST_REVISION}
use Rattle.stm_history.specs.History.{History, now}
use Rattle.stm_compile.specs.Answers.{answer_now}
use Rattle.stm_compile.specs.CommitTxn.{reread_keys}
use Rattle.stm_attempt.specs.ReadyRun.{ReadyRun, ready_parts}
use Rattle.stm_journal.specs.Verdicts.{txn_of, failed_with, CanGoOn}
use Rattle.stm_journal.proofs.PrefetchLemmas.{may_be_prefetched}
use Rattle.stm_journal.proofs.CauseLemmas.{read_so, failed_within}
use Rattle.stm_journal.proofs.Sending.{place_seen}
use Rattle.stm_journal.proofs.failing.fail.Goals as goal

-- the compare is about a key of the attempt
pub failed_verdict-requires : goal.failed_verdict-requires
failed_verdict-requires c =
    place_seen c.args.ready.now (txn_of c.args.ready.now) c.args.failed.index refl
    (failed_within c.args.store.now.standing.history (txn_of c.args.ready.now).compares c.args.failed c.requires)

pub returns-clause-verdict : goal.returns-clause-verdict
returns-clause-verdict c =
    let h : History = c.args.store.now.standing.history in
    let ready : ReadyRun = c.args.ready.now in
    let r = c.ready.inside in
    let inside : ReadyRun = ready_parts r.program r.level r.answers r.output r.trace r.writes in
    let again : c.in_ok-again.again.items ≡ map (answer_now h) (reread_keys ready.level ready.answers) =
    read_so h c.keys-keys.result.now.history inside ready c.in_ok-again.again.items c.in_ok-again.ensures c.keys-keys.ensures.history c.ready.view_is in
    IfOk-weaker c.failed_verdict.result _ _ (λ verdict reported. reported ∙ ap (failed_with ready c.args.failed) again) c.failed_verdict.ensures

-- its answers are of keys that differ
pub returns-clause-answers : goal.returns-clause-answers
returns-clause-answers c =
    let h : History = c.args.store.now.standing.history in
    let ready : ReadyRun = c.args.ready.now in
    let r = c.ready.inside in
    let inside : ReadyRun = ready_parts r.program r.level r.answers r.output r.trace r.writes in
    let again : c.in_ok-again.again.items ≡ map (answer_now h) (reread_keys ready.level ready.answers) =
    read_so h c.keys-keys.result.now.history inside ready c.in_ok-again.again.items c.in_ok-again.ensures c.keys-keys.ensures.history c.ready.view_is in
    let distinct : IsDistinct bytes_eq (map (λ (a : ReadAnswer). a.key) ready.answers) =
    subst (λ (r : ReadyRun). IsDistinct bytes_eq (map (λ (a : ReadAnswer). a.key) r.answers)) c.ready.view_is c.as_slice-keys_differ.ensures.distinct in
    let bounded : now h ≤ HIGHEST_REVISION =
    subst (λ (x : History). now x ≤ HIGHEST_REVISION) c.keys-keys.ensures.history
    (subst (λ (n : ℕ). n ≤ HIGHEST_REVISION) c.revision-counter.ensures.value c.revision-counter.ensures.bounded) in
    IfOk-weaker c.failed_verdict.result _ _ (λ verdict reported.
    subst CanGoOn (sym (reported ∙ ap (failed_with ready c.args.failed) again))
    (may_be_prefetched h ready.level ready.answers distinct bounded c.keys-keys.ensures.numbers)) c.failed_verdict.ensures
