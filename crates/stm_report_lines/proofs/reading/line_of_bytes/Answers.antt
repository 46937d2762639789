use Rattle.std.proofs.Common.{IsTrue}
use Rattle.serde_json.specs.View.{view}
use Rattle.stm_report_lines.proofs.LineInLemmas.{line_in-json, line_in-other}
use Rattle.stm_report_lines.proofs.reading.line_of_bytes.Goals as goal

pub returns-in-Ok : goal.returns-in-Ok
returns-in-Ok c =
    rw (line_in-json c.args.bytes.now (view c.in-Ok.value) c.in-Ok.ensures.ok.0 c.in-Ok.ensures.ok.1) c.line.ensures

pub returns-else-is_memory : goal.returns-else-is_memory
returns-else-is_memory c =
    let other = line_in-other c.args.bytes.now (c.in-Err.ensures.err (λ m. let t : IsTrue c.is_memory.result = c.is_memory.ensures.1 m in cc)) in
    rw c.fault.ensures other
