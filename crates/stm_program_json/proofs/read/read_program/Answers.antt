use Rattle.serde_json.specs.View.{view}
use Rattle.std.specs.Prelude.{Ok}
use Rattle.stm_json.proofs.OutcomeLemmas.{reported_means, reported_reads}
use Rattle.stm_program.specs.Syntax.{ProgramTree}
use Rattle.stm_program_json.specs.Grammar.{SpellsProgram}
use Rattle.stm_program_json.specs.Reading.{program_of}
use Rattle.stm_program_json.proofs.ProgramLemmas.{program_sound, faulted}
use Rattle.stm_program_json.proofs.StatementComplete.{program_reads}
use Rattle.stm_program_json.proofs.read.read_program.Goals as goal

pub returns-clause-spelled : goal.returns-clause-spelled
returns-clause-spelled c =
    let d = view c.args.value.now in
    reported_means (λ (p : ProgramTree). p) (SpellsProgram d) c.program.result (program_of d) (λ p h. (program_sound d p h).0) c.program.ensures

pub returns-clause-accepts : goal.returns-clause-accepts
returns-clause-accepts c p s f =
    let d = view c.args.value.now in
    reported_reads (λ (q : ProgramTree). q) c.program.result (program_of d) (Ok p) (program_reads d p s f) c.program.ensures

pub returns-clause-faults : goal.returns-clause-faults
returns-clause-faults c = faulted (view c.args.value.now) c.program.result c.program.ensures
