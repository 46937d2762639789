use Rattle.std.proofs.Common.{ℕ, All, take}
use Rattle.std.specs.List.{AllZip}
use Rattle.stm_visited.specs.Answers.{EachIs, OpenIsSpent as VisitedIsSpent}
use Rattle.stm_explore.specs.Explored.{OpenIsSpent}
use Rattle.stm_explore.specs.Waiting.{IsExploredPatiently}
use Rattle.stm_explore.proofs.waiting.with_ends.Given as goal

-- what is known of the rules so far
abbrev pub invariant-loop-index : goal.invariant-loop-index
invariant-loop-index l = record {
  explored : AllZip (λ rule. IsExploredPatiently l.waiting.waits.now l.waiting.when rule (record { world = l.start; others = l.waiting.gathered.others.now }) l.ends)
      (take l.index l.waiting.rules.now) l.all.items;
  same : (left : ℕ) → EachIs (λ n. VisitedIsSpent left) l.answers → All (OpenIsSpent left) l.all.items;
}
