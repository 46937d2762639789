use Rattle.std.proofs.Common.{rules}
use Rattle.stm_events.proofs.SameReplies.{outcome_decides}
use Rattle.stm_events.proofs.same.are_same_outcomes.Goals as goal

pub returns : goal.returns
returns c = search (rules, outcome_decides)
