use Rattle.std.proofs.Common.{◌≤◌, length, arith, IsTrue}
use Rattle.serde_json.specs.View.{view}
use Rattle.stm_json.specs.declared.limits.TheConstants.{MOST_BYTES}
use Rattle.stm_program_texts.proofs.Texts.{program_in-json, program_in-other}
use Rattle.stm_program_texts.proofs.reading.program_of_bytes.Goals as goal

pub returns-in-Ok : goal.returns-in-Ok
returns-in-Ok c =
    let short : length c.args.bytes.now ≤ MOST_BYTES = omega arith in
    rw (program_in-json c.args.bytes.now (view c.in-Ok.value) short c.in-Ok.ensures.ok.0 c.in-Ok.ensures.ok.1) c.read_program.ensures.exact

pub returns-else-is_memory : goal.returns-else-is_memory
returns-else-is_memory c =
    let short : length c.args.bytes.now ≤ MOST_BYTES = omega arith in
    let other = program_in-other c.args.bytes.now short (c.in-Err.ensures.err (λ m. let t : IsTrue c.is_memory.result = c.is_memory.ensures.1 m in cc)) in
    rw c.fault-else-is_memory.ensures other
