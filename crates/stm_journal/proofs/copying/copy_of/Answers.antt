use Rattle.std.proofs.Common.{sym, ◌∙◌, subst}
use Rattle.stm_attempt.specs.ReadyRun.{IsRunOnItsAnswers, ready_parts}
use Rattle.stm_journal.proofs.CopyLemmas.{same_parts, writes_again}
use Rattle.stm_journal.proofs.copying.copy_of.Goals as goal

-- each part is as it was
pub invariant_of-result : goal.invariant_of-result
invariant_of-result c =
    let r = c.ready.inside in
    subst IsRunOnItsAnswers
    (sym (same_parts r.program c.in_ok-program.program r.level r.answers c.in_ok-answers.answers r.output c.in_ok-output.output r.trace c.in_ok-trace.trace
    r.writes c.in_ok-writes.writes c.in_ok-program.ensures c.in_ok-answers.ensures c.in_ok-output.ensures c.in_ok-trace.ensures
    (c.in_ok-writes.ensures ∙ writes_again (ready_parts r.program r.level r.answers r.output r.trace r.writes) c.ready.invariant)))
    c.ready.invariant

pub returns : goal.returns
returns c =
    let r = c.ready.inside in
    same_parts r.program c.in_ok-program.program r.level r.answers c.in_ok-answers.answers r.output c.in_ok-output.output r.trace c.in_ok-trace.trace
    r.writes c.in_ok-writes.writes c.in_ok-program.ensures c.in_ok-answers.ensures c.in_ok-output.ensures c.in_ok-trace.ensures
    (c.in_ok-writes.ensures ∙ writes_again (ready_parts r.program r.level r.answers r.output r.trace r.writes) c.ready.invariant)
    ∙ c.ready.view_is
