use Rattle.std.proofs.Common.{◌≤◌, length, arith, IsTrue}
use Rattle.serde_json.specs.View.{view}
use Rattle.stm_json.specs.declared.limits.TheConstants.{MOST_BYTES}
use Rattle.stm_audit.proofs.TraceLemmas.{trace_in-json, trace_in-other}
use Rattle.stm_audit.proofs.reading.trace_of_bytes.Goals as goal

pub returns-in-Ok : goal.returns-in-Ok
returns-in-Ok c =
    let short : length c.args.bytes.now ≤ MOST_BYTES = omega arith in
    rw (trace_in-json c.args.bytes.now (view c.in-Ok.value) short c.in-Ok.ensures.ok.0 c.in-Ok.ensures.ok.1) c.trace.ensures

pub returns-else-is_memory : goal.returns-else-is_memory
returns-else-is_memory c =
    let short : length c.args.bytes.now ≤ MOST_BYTES = omega arith in
    let other = trace_in-other c.args.bytes.now short (c.in-Err.ensures.err (λ m. let t : IsTrue c.is_memory.result = c.is_memory.ensures.1 m in cc)) in
    rw c.fault-else-is_memory.ensures other
