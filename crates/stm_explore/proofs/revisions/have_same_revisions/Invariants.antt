use Rattle.stm_explore.proofs.SameRevisions.{AreSameTo}
use Rattle.stm_explore.proofs.revisions.have_same_revisions.Given as goal

-- the revisions up to here show the same events
abbrev pub invariant-loop-number : goal.invariant-loop-number
invariant-loop-number l = AreSameTo l.number l.left.history l.right.history
