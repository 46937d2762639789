use Rattle.std.proofs.Common.{◌<◌, ◌≤◌, ◌∙◌, length, List, arith, subst, sym}
use Rattle.std.proofs.lemmas.Option.{same_Some}
use Rattle.stm_watch.specs.declared.ranges.Ranges.{Ranges}
use Rattle.stm_watch.specs.Pages.{HasIn, IsIn}
use Rattle.stm_watch.proofs.Entered.{at-new, at-past, at-read, at-set}
use Rattle.stm_watch.proofs.groups.Groups.wake.Goals as goal

pub returns-then-group-len-clause-kept : goal.returns-then-group-len-clause-kept
returns-then-group-len-clause-kept c = record {
  keys = λ key g is. is;
  entries = λ ws g e. at-set (IsIn ws e) c.args.self.now.groups.items c.in-Some.group g c.index_mut.result.now c.wake.new.self
      c.index_mut.ensures.value (c.wake.ensures.kept ws e);
}

pub returns-then-group-len-clause-woken : goal.returns-then-group-len-clause-woken
returns-then-group-len-clause-woken c old new had =
    let groups : List Ranges = c.args.self.now.groups.items in
    let below : c.in-Some.group < length groups = omega (arith, c.if-group-len.true, c.args.self.now.groups.ok.0) in
    let same = same_Some had.group c.in-Some.group (sym had.its ∙ sym c.of.ensures ∙ c.in-Some.is) in
    let there = subst (λ g. HasIn old groups g had.entered.entry) same had.entered.there in
    let woken = c.wake.ensures.woken old new (record {
      entry = had.entered.entry;
      its = had.entered.its;
      there = at-read (IsIn old had.entered.entry) groups c.in-Some.group c.index_mut.result.now c.index_mut.ensures.value there;
    }) in
    record {
      group = c.in-Some.group;
      its = sym c.of.ensures ∙ c.in-Some.is;
      entered = record {
        entry = woken.entry;
        its = woken.its;
        there = at-new (IsIn new woken.entry) groups c.in-Some.group c.wake.new.self below woken.there;
      };
    }

pub returns-else-group-len-clause-woken : goal.returns-else-group-len-clause-woken
returns-else-group-len-clause-woken c old new had =
    let groups : List Ranges = c.args.self.now.groups.items in
    let past : length groups ≤ c.in-Some.group = omega (arith, c.if-group-len.false, c.args.self.now.groups.ok.0) in
    let same = same_Some had.group c.in-Some.group (sym had.its ∙ sym c.of.ensures ∙ c.in-Some.is) in
    absurd (at-past (IsIn old had.entered.entry) groups c.in-Some.group past (subst (λ g. HasIn old groups g had.entered.entry) same had.entered.there))
