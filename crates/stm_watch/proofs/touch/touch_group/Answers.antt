use Rattle.std.proofs.Common.{◌≤◌, length, List, arith, subst}
use Rattle.stm_watch.specs.declared.ranges.Ranges.{Ranges}
use Rattle.stm_watch.specs.Pages.{IsIn, ReachesAt, ReachesIn}
use Rattle.stm_watch.proofs.Entered.{at-past, at-read, at-set}
use Rattle.stm_watch.proofs.Touching.{touched_as, touched_none}
use Rattle.stm_watch.proofs.touch.touch_group.Goals as goal

pub returns-then-group-len-clause-slots : goal.returns-then-group-len-clause-slots
returns-then-group-len-clause-slots c =
    let groups : List Ranges = c.args.groups.now.groups.items in
    touched_as c.args.revision c.args.key.now (λ i. ReachesIn c.args.revision c.args.key.now i c.index_mut.result.now)
    (λ i. ReachesAt c.args.revision c.args.key.now i groups c.args.group) c.args.slots.now c.touch_ranges.new.slots
    (λ i reached. at-read (ReachesIn c.args.revision c.args.key.now i) groups c.in-Some.group c.index_mut.result.now c.index_mut.ensures.value
    (subst (ReachesAt c.args.revision c.args.key.now i groups) c.in-Some.is reached))
    c.touch_ranges.ensures.slots

pub returns-then-group-len-clause-kept : goal.returns-then-group-len-clause-kept
returns-then-group-len-clause-kept c = record {
  keys = λ key g is. is;
  entries = λ ws g e. at-set (IsIn ws e) c.args.groups.now.groups.items c.in-Some.group g c.index_mut.result.now c.touch_ranges.new.ranges
      c.index_mut.ensures.value (c.touch_ranges.ensures.kept ws e);
}

pub returns-else-group-len-clause-slots : goal.returns-else-group-len-clause-slots
returns-else-group-len-clause-slots c =
    let groups : List Ranges = c.args.groups.now.groups.items in
    let past : length groups ≤ c.in-Some.group = omega (arith, c.if-group-len.false, c.args.groups.now.groups.ok.0) in
    touched_none c.args.revision c.args.key.now (λ i. ReachesAt c.args.revision c.args.key.now i groups c.args.group) c.args.slots.now
    (λ i reached. at-past (ReachesIn c.args.revision c.args.key.now i) groups c.in-Some.group past
    (subst (ReachesAt c.args.revision c.args.key.now i groups) c.in-Some.is reached))
