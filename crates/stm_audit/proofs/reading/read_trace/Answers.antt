use Rattle.std.specs.Prelude.{Ok}
use Rattle.stm_json.proofs.FaultLemmas.{reported_faults}
use Rattle.stm_json.proofs.OutcomeLemmas.{reported_means, reported_reads}
use Rattle.stm_audit.specs.declared.trace.Trace.{Trace}
use Rattle.stm_audit.specs.FirstFault.{first_fault}
use Rattle.stm_audit.specs.Grammar.{SpellsTrace}
use Rattle.stm_audit.specs.Reading.{trace_in}
use Rattle.stm_audit.proofs.GrammarComplete.{trace_reads}
use Rattle.stm_audit.proofs.GrammarSound.{trace_sound}
use Rattle.stm_audit.proofs.TraceFaults.{first_fault-is}
use Rattle.stm_audit.proofs.reading.read_trace.Goals as goal

pub returns-clause-spelled : goal.returns-clause-spelled
returns-clause-spelled c =
    let bytes = c.args.bytes.now in
    reported_means (λ (t : Trace). t) (SpellsTrace bytes) c.trace_of_bytes.result (trace_in bytes) (trace_sound bytes) c.trace_of_bytes.ensures

pub returns-clause-accepts : goal.returns-clause-accepts
returns-clause-accepts c trace spelled =
    let bytes = c.args.bytes.now in
    reported_reads (λ (t : Trace). t) c.trace_of_bytes.result (trace_in bytes) (Ok trace) (trace_reads bytes trace spelled) c.trace_of_bytes.ensures

pub returns-clause-faults : goal.returns-clause-faults
returns-clause-faults c =
    let bytes = c.args.bytes.now in
    reported_faults (λ (t : Trace). t) (first_fault bytes) c.trace_of_bytes.result (trace_in bytes) (first_fault-is bytes) c.trace_of_bytes.ensures
