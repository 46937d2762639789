use Rattle.stm_schedules.proofs.Merging.{merges_keep as merges}
use Rattle.stm_explore.specs.Explored.{IsExplored, MergesAreKept}
use Rattle.stm_explore.proofs.ExploreLemmas.{merges_keep}
use Rattle.stm_explore.proofs.Zipped.{zip_weaker}
use Rattle.stm_explore.proofs.exploring.explore.Goals as goal

pub returns-clause-merges : goal.returns-clause-merges
returns-clause-merges g c =
    zip_weaker (λ rule. IsExplored rule (record { world = c.args.world.now; others = c.args.others.now }))
    (λ rule. MergesAreKept rule (record { world = c.args.world.now; others = c.args.others.now })) c.args.rules.now c.in_ok-all.all.items
    (λ rule e is. merges_keep merges rule (record { world = c.args.world.now; others = c.args.others.now }) e is) c.in_ok-all.ensures.explored
