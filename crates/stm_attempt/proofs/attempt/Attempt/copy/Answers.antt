use Rattle.std.proofs.Common.{◌∙◌}
use Rattle.stm_attempt.proofs.Copied.{attempt_copied, state_copied}
use Rattle.stm_attempt.proofs.attempt.Attempt.copy.Goals as goal

pub invariant_of-result : goal.invariant_of-result
invariant_of-result c =
    attempt_copied c.self.inside.program c.in_ok-program.program c.self.inside.reads c.in-Ok.reads c.self.inside.prefetched
    c.in-Ok-clone.prefetched c.self.inside.reported c.in_ok-program.ensures c.in-Ok.ensures.cases c.in-Ok-clone.ensures.cases
    c.self.inside.progress c.self.invariant

pub returns : goal.returns
returns c =
    state_copied c.self.inside.program c.in_ok-program.program c.self.inside.reads c.in-Ok.reads c.self.inside.prefetched
    c.in-Ok-clone.prefetched c.self.inside.reported c.in_ok-program.ensures c.in-Ok.ensures.cases c.in-Ok-clone.ensures.cases
    c.self.inside.level
    ∙ c.self.view_is
