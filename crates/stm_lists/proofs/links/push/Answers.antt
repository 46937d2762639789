use Rattle.std.proofs.Common.{arith}
use Rattle.stm_lists.proofs.Operations.{len-le, push_there, push-sound, push-shows}
use Rattle.stm_lists.proofs.links.push.Goals as goal

pub prove-unreachable-requires : goal.prove-unreachable-requires
prove-unreachable-requires g c =
    let found = rw c.index.ensures at c.index-head.ensures in
    let fewer = len-le _ _ _ _ c.requires.sound found in
    omega arith

pub set_next-requires : goal.set_next-requires
set_next-requires g c =
    let found = rw c.index.ensures at c.index-head.ensures in
    push_there _ _ _ _ c.requires.sound found _ _ _ c.insert_reserved.ensures.was_vacant c.insert_reserved.ensures.updates

pub returns-clause-sound : goal.returns-clause-sound
returns-clause-sound g c =
    let found = rw c.index.ensures at c.index-head.ensures in
    rw (c.lengthen.ensures, c.set_next.ensures.nodes, c.set_next.ensures.heads, c.index-2.ensures, c.at-node.ensures)
    (push-sound _ _ _ _ c.requires.sound found _ _ _ c.insert_reserved.ensures.was_vacant c.insert_reserved.ensures.updates)

pub returns-clause-shows : goal.returns-clause-shows
returns-clause-shows g c =
    let found = rw c.index.ensures at c.index-head.ensures in
    rw (c.lengthen.ensures, c.set_next.ensures.nodes, c.set_next.ensures.heads, c.index-2.ensures, c.at-node.ensures)
    (push-shows _ _ _ _ c.requires.sound found _ _ _ c.insert_reserved.ensures.was_vacant c.insert_reserved.ensures.updates)
