use Rattle.std.proofs.Common.{◌≤◌, length, arith, IsTrue}
use Rattle.serde_json.specs.View.{view}
use Rattle.stm_json.specs.declared.limits.TheConstants.{MOST_BYTES}
use Rattle.stm_texts.proofs.ScenarioLemmas.{scenario_in-json, scenario_in-other}
use Rattle.stm_texts.proofs.reading.scenario_of_bytes.Goals as goal

pub returns-in-Ok-clause-value : goal.returns-in-Ok-clause-value
returns-in-Ok-clause-value c =
    let short : length c.args.bytes.now ≤ MOST_BYTES = omega arith in
    rw (scenario_in-json c.args.bytes.now (view c.in-Ok.value) short c.in-Ok.ensures.ok.0 c.in-Ok.ensures.ok.1) c.scenario.ensures.value

pub returns-else-is_memory-clause-value : goal.returns-else-is_memory-clause-value
returns-else-is_memory-clause-value c =
    let short : length c.args.bytes.now ≤ MOST_BYTES = omega arith in
    let other = scenario_in-other c.args.bytes.now short (c.in-Err.ensures.err (λ m. let t : IsTrue c.is_memory.result = c.is_memory.ensures.1 m in cc)) in
    rw c.fault-else-is_memory.ensures other
