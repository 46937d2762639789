use Rattle.std.proofs.Common.{sym, ◌∙◌, subst}
use Rattle.stm_program.specs.Syntax.{ProgramTree}
use Rattle.stm_program.specs.Limits.{Fits}
use Rattle.stm_program.proofs.ListLemmas.{program_copied}
use Rattle.stm_program.proofs.program.ProgramClone.clone.Goals as goal

pub invariant_of-result : goal.invariant_of-result
invariant_of-result c =
    subst (λ (p : ProgramTree). Fits p)
    (sym (program_copied _ _ _ _ c.in_ok-prefetch.ensures.cases.0 c.in_ok-statements.ensures)) c.self.invariant

pub returns : goal.returns
returns c = record { cases = program_copied _ _ _ _ c.in_ok-prefetch.ensures.cases.0 c.in_ok-statements.ensures ∙ c.self.view_is }
