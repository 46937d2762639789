use Rattle.std.specs.Cmp.{unsigned_Decides}
use Rattle.std.proofs.lemmas.Map.Lookups.{btree_map_eq-Decides}
use Rattle.stm_storing.proofs.CompactLemmas.{lease_decides}
use Rattle.stm_storing.proofs.compacting.are_same_leases.Goals as goal

pub returns : goal.returns
returns c = (btree_map_eq-Decides unsigned_Decides lease_decides c.args.left.now c.args.right.now c.eq.result c.eq.ensures).0
