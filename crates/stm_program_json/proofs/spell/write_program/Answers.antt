use Rattle.std.proofs.lemmas.Result.{IfOk-weaker}
use Rattle.stm_program_json.proofs.WrittenLemmas.{written_as, spells_as, reads_as}
use Rattle.stm_program_json.proofs.spell.write_program.Goals as goal

pub returns-clause-exact : goal.returns-clause-exact
returns-clause-exact c =
    IfOk-weaker c.program_value.result _ _ (λ v e. written_as _ _ _ _ e c.prefetch.ensures.same c.statements.ensures.same) c.program_value.ensures

pub returns-clause-spells : goal.returns-clause-spells
returns-clause-spells c =
    IfOk-weaker c.program_value.result _ _ (λ v e. spells_as _ _ (written_as _ _ _ _ e c.prefetch.ensures.same c.statements.ensures.same))
    c.program_value.ensures

pub returns-clause-reads_back : goal.returns-clause-reads_back
returns-clause-reads_back c =
    IfOk-weaker c.program_value.result _ _
    (λ v e. reads_as _ _ (written_as _ _ _ _ e c.prefetch.ensures.same c.statements.ensures.same) c.statements.ensures.fits) c.program_value.ensures
