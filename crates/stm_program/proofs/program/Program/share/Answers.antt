use Rattle.std.proofs.Common.{sym, ◌∙◌, subst}
use Rattle.stm_program.specs.Syntax.{ProgramTree}
use Rattle.stm_program.specs.Limits.{Fits}
use Rattle.stm_program.proofs.ListLemmas.{program_shared}
use Rattle.stm_program.proofs.program.Program.share.Goals as goal

pub invariant_of-result : goal.invariant_of-result
invariant_of-result c = subst (λ (p : ProgramTree). Fits p) (sym (program_shared _ _ _ c.in-Ok.ensures)) c.self.invariant

pub returns : goal.returns
returns c = program_shared _ _ _ c.in-Ok.ensures ∙ c.self.view_is
