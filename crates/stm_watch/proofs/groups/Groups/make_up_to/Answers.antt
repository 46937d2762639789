use Rattle.std.proofs.Common.{[], ◌∷◌, ◌∙◌, List, ap, subst, sym}
use Rattle.indexmap.specs.IndexMap.{get_by_text}
use Rattle.stm_watch.specs.declared.ranges.Ranges.{Ranges}
use Rattle.stm_watch.specs.Pages.{HasIn, IsIn}
use Rattle.stm_watch.proofs.Entered.{at-more}
use Rattle.stm_watch.proofs.groups.Groups.make_up_to.Goals as goal

pub groups-preserved : goal.groups-preserved
groups-preserved c = record {
  keys = c.groups.invariant.keys;
  kept = λ ws g e has.
      subst (λ (rs : List Ranges). HasIn ws rs g e) (sym c.push_reserved.ensures.items)
      (at-more (IsIn ws e) c.reserve.new.self.items (c.new.result ∷ []) g
      (subst (λ (rs : List Ranges). HasIn ws rs g e) (sym c.reserve.ensures.items) (c.groups.invariant.kept ws g e has)));
}

pub returns-in_err-reserve-clause-kept : goal.returns-in_err-reserve-clause-kept
returns-in_err-reserve-clause-kept c = record {
  keys = λ key g is. ap (λ m. get_by_text m key) c.groups.invariant.keys ∙ is;
  entries = λ ws g e has. subst (λ (rs : List Ranges). HasIn ws rs g e) (sym c.reserve.ensures.items) (c.groups.invariant.kept ws g e has);
}

pub returns-clause-kept : goal.returns-clause-kept
returns-clause-kept c = record {
  keys = λ key g is. ap (λ m. get_by_text m key) c.groups.invariant.keys ∙ is;
  entries = c.groups.invariant.kept;
}
