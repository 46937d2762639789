use Rattle.stm_leases.proofs.Walk.{walk-place, walk-node, walk-more}
use Rattle.stm_leases.proofs.collect.texts.Goals as goal

pub get-requires : goal.get-requires
get-requires c = walk-node c.args.lists.now c.args.list _ _ c.in-Some.node c.requires c.loop-next.invariant c.in-Some.is

pub next-next-requires : goal.next-next-requires
next-next-requires c = walk-node c.args.lists.now c.args.list _ _ c.in-Some.node c.requires c.loop-next.invariant c.in-Some.is

pub loop-next-preserved : goal.loop-next-preserved
loop-next-preserved c =
    let found = walk-place c.args.lists.now c.args.list c.loop-next.texts.items c.loop-next.next c.in-Some.node c.requires c.loop-next.invariant c.in-Some.is in
    rw c.in_ok-push.ensures.items
    (walk-more c.args.lists.now c.args.list c.loop-next.texts.items c.in-Some.node c.in_ok-clone.field-0 c.get.result.now c.next-next.result found
    c.get.ensures c.in_ok-clone.ensures.cases c.next-next.ensures)
