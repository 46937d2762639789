use Rattle.std.proofs.Common.{rules}
use Rattle.stm_events.proofs.SameReplies.{states_decide}
use Rattle.stm_events.proofs.same.are_same_states.Goals as goal

pub returns : goal.returns
returns c = search (rules, states_decide)
