use Rattle.std.proofs.Common.{ℕ, All, take}
use Rattle.std.specs.List.{AllZip}
use Rattle.stm_visited.specs.Answers.{EachIs, OpenIsSpent as VisitedIsSpent, OpenIsFar as VisitedIsFar}
use Rattle.stm_explore.specs.Explored.{IsExplored, OpenIsSpent, OpenIsFar}
use Rattle.stm_explore.specs.Spots.{rules_steps}
use Rattle.stm_explore.proofs.exploring.with_ends.Given as goal

-- what is known of the rules so far
abbrev pub invariant-loop-index : goal.invariant-loop-index
invariant-loop-index l = record {
  explored : AllZip (λ rule. IsExplored rule (record { world = l.start; others = l.judged.others.now })) (take l.index l.judged.rules.now) l.all.items;
  same : (left : ℕ) → EachIs (λ n. VisitedIsSpent left) l.answers → All (OpenIsSpent left) l.all.items;
  far : (made : ℕ) → EachIs (λ n. VisitedIsFar (rules_steps l.judged.rules.now l.judged.others.now n) (record { world = l.start; taken = 0 }) made) l.answers →
      All (OpenIsFar (record { world = l.start; others = l.judged.others.now }) made) l.all.items;
}
