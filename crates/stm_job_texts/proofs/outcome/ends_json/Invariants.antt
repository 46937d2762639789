use Rattle.std.proofs.Common.{◌≡◌, map, take}
use Rattle.serde_json.specs.View.{view}
use Rattle.stm_job_texts.specs.Outcomes.{end_data}
use Rattle.stm_job_texts.proofs.outcome.ends_json.Given as goal

-- the ends so far
abbrev pub invariant-loop-end : goal.invariant-loop-end
invariant-loop-end l = map view l.values.items ≡ map (end_data l.entries) (take l.end-index l.ends)
