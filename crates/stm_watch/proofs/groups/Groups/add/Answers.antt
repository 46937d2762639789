use Rattle.std.proofs.Common.{◌<◌, ◌∙◌, length, List, ap, arith}
use Rattle.indexmap.specs.IndexMap.{get_by_text}
use Rattle.stm_watch.specs.declared.ranges.Ranges.{Ranges}
use Rattle.stm_watch.specs.Pages.{IsIn, group_of}
use Rattle.stm_watch.proofs.Entered.{at-new, at-set, kept_twice}
use Rattle.stm_watch.proofs.groups.Groups.add.Goals as goal

pub returns-in_err-make_up_to-clause-kept : goal.returns-in_err-make_up_to-clause-kept
returns-in_err-make_up_to-clause-kept c = kept_twice c.args.self.now c.make_group.new.self c.make_up_to.new.self c.make_group.ensures.kept c.make_up_to.ensures.kept

pub returns-in_err-entry-clause-kept : goal.returns-in_err-entry-clause-kept
returns-in_err-entry-clause-kept c = kept_twice c.args.self.now c.make_group.new.self c.make_up_to.new.self c.make_group.ensures.kept c.make_up_to.ensures.kept

pub returns-in_err-add-clause-kept : goal.returns-in_err-add-clause-kept
returns-in_err-add-clause-kept c =
    kept_twice c.args.self.now c.make_up_to.new.self _
    (kept_twice c.args.self.now c.make_group.new.self c.make_up_to.new.self c.make_group.ensures.kept c.make_up_to.ensures.kept)
    (record {
      keys = λ key g is. is;
      entries = λ ws g e. at-set (IsIn ws e) c.make_up_to.new.self.groups.items c.in_ok-group.group g c.index_mut.result.now c.add.new.self
          c.index_mut.ensures.value (c.add.ensures.kept ws e);
    })

pub returns-clause-kept : goal.returns-clause-kept
returns-clause-kept c =
    kept_twice c.args.self.now c.make_up_to.new.self _
    (kept_twice c.args.self.now c.make_group.new.self c.make_up_to.new.self c.make_group.ensures.kept c.make_up_to.ensures.kept)
    (record {
      keys = λ key g is. is;
      entries = λ ws g e. at-set (IsIn ws e) c.make_up_to.new.self.groups.items c.in_ok-group.group g c.index_mut.result.now c.add.new.self
          c.index_mut.ensures.value (c.add.ensures.kept ws e);
    })

pub returns-clause-ok : goal.returns-clause-ok
returns-clause-ok c ws =
    let groups : List Ranges = c.make_up_to.new.self.groups.items in
    let below : c.in_ok-group.group < length groups = omega (arith, c.in_ok-make_up_to.ensures.ok, c.make_up_to.new.self.groups.ok.0) in
    record {
      group = c.in_ok-group.group;
      its = ap (λ m. group_of (get_by_text m) c.args.watched.now) c.make_up_to.ensures.keys ∙ c.in_ok-group.ensures.ok;
      entered = record {
        entry = c.in_ok-entry.entry;
        its = c.in_ok-entry.ensures;
        there = at-new (IsIn ws c.in_ok-entry.entry) groups c.in_ok-group.group c.add.new.self below (c.in_ok-add.ensures.ok ws);
      };
    }
