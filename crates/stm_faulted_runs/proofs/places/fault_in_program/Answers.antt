use Rattle.std.proofs.lemmas.Result.{IfOk-weaker}
use Rattle.stm_faulted_runs.proofs.PlaceLemmas.{found_below}
use Rattle.stm_faulted_runs.proofs.places.fault_in_program.Goals as goal

pub returns-clause-few : goal.returns-clause-few
returns-clause-few g c =
    IfOk-weaker c.find_fault.result _ _
    (λ found is. found_below (g.L.Lookup.answers c.args.lookup.now) c.args.program.now found c.statements.ensures.fits is)
    c.find_fault.ensures
