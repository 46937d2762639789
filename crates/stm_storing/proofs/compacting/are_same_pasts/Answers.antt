use Rattle.std.proofs.lemmas.Map.Lookups.{btree_map_eq-Decides}
use Rattle.std.proofs.lemmas.Slice.Eq.{bytes_eq-Decides}
use Rattle.stm_history.proofs.SameStates.{state_decides}
use Rattle.stm_storing.proofs.compacting.are_same_pasts.Goals as goal

pub returns : goal.returns
returns c = (btree_map_eq-Decides bytes_eq-Decides state_decides c.args.left.now c.args.right.now c.eq.result c.eq.ensures).0
