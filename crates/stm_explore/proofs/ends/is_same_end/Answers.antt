use Rattle.std.proofs.Common.{rules}
use Rattle.stm_schedules.proofs.SameOutcomes.{end_decides}
use Rattle.stm_explore.proofs.ends.is_same_end.Goals as goal

pub returns : goal.returns
returns c = search (rules, end_decides)
