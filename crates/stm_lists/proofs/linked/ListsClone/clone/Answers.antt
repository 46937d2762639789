use Rattle.std.proofs.Common.{arith}
use Rattle.stm_lists.proofs.Cloned.{sound_cloned, lists_cloned}
use Rattle.stm_lists.proofs.linked.ListsClone.clone.Goals as goal

pub invariant_of-result : goal.invariant_of-result
invariant_of-result g c =
    record {
      sound = sound_cloned _ c.self.inside.nodes c.in_ok-nodes.nodes c.in_ok-nodes.ensures.clones c.self.inside.heads c.in_ok-heads.heads c.in_ok-heads.ensures
          c.self.invariant.sound;
      room = omega (arith, c.in_ok-nodes.ensures.room);
    }

pub returns : goal.returns
returns g c =
    record {
      cases = lists_cloned _ c.self.inside.nodes c.in_ok-nodes.nodes c.in_ok-nodes.ensures.clones c.self.inside.heads c.in_ok-heads.heads
          c.in_ok-heads.ensures c.self.invariant.sound c.self.inside.spare _ c.self.view_is;
    }
