use Rattle.std.proofs.Common.{◌&&◌, sym, ◌∙◌, ap, subst}
use Rattle.stm_program.specs.Levels.{is_comparing}
use Rattle.stm_attempt.specs.ReadyRun.{ReadyRun, IsRunOnItsAnswers}
use Rattle.stm_journal.proofs.WholeFaults.{reads_nothing, ready_names}
use Rattle.stm_journal.proofs.faults.names_empty_key.Goals as goal

-- the keys that are written are named
pub returns : goal.returns
returns c =
    let ready : ReadyRun = c.args.ready.now in
    let kept : IsRunOnItsAnswers ready = subst IsRunOnItsAnswers c.ready.view_is c.ready.invariant in
    c.compares_empty_key.ensures ∙ ap (λ (r : ReadyRun). is_comparing r.level && reads_nothing r.answers) c.ready.view_is ∙ sym (ready_names ready kept)
