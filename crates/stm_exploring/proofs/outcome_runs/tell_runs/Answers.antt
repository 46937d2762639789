use Rattle.std.proofs.Common.{List, sym, subst}
use Rattle.stm_program.specs.Syntax.{ProgramTree}
use Rattle.stm_serial_search.specs.Search.{AreProgramsOf}
use Rattle.stm_exploring.proofs.outcome_runs.tell_runs.Goals as goal

pub tell_account-requires : goal.tell_account-requires
tell_account-requires g c =
    subst (λ (ps : List ProgramTree). AreProgramsOf ps c.args.begun.now.world.runners) (sym c.as_slice-2.ensures.value) c.requires.programs
