use Rattle.std.proofs.Common.{◌≡◌, ◌+◌, ◌≤◌, ℕ, suc, sym, ap, ◌∙◌, subst, true, List, inl, inr, arith}
use Rattle.stm_schedules.specs.declared.moves.Move.{Move}
use Rattle.stm_schedules.specs.declared.outcome.Outcome.{Outcome}
use Rattle.stm_visited.specs.Layers.{Reached, StandFor, on_among, moved_from_each, shown_among}
use Rattle.stm_explore.specs.declared.places.ReportedPlace.{ReportedPlace}
use Rattle.stm_explore.specs.Gathering.{Gathers}
use Rattle.stm_explore.specs.Explored.{AreOutcomesUpTo, count_up_to}
use Rattle.stm_explore.specs.Witnesses.{AreOrdered, AreUpTo, HaveWitnesses, KeepOrder}
use Rattle.stm_explore.specs.Spots.{place_of, outcome_steps}
use Rattle.stm_explore.proofs.LayerOutcomes.{first_layer, first_end, next_gathered, next_end, none_on, open_at, far_gathered, far_open, far_without}
use Rattle.stm_explore.proofs.Ordering.{order_first, order_next}
use Rattle.stm_explore.proofs.Witnessing.{first_witnesses, next_witnesses}
use Rattle.stm_explore.proofs.finding.collect_layers.Goals as goal

pub returns-then-not-branch-clause-collected : goal.returns-then-not-branch-clause-collected
returns-then-not-branch-clause-collected g c =
    let others = c.args.gathered.now.others.now in
    first_end others c.args.start c.in_ok-layer.layer.items c.args.found.now.items c.collect_whole.new.found.items c.in_ok-layer.ensures c.requires.none_found
    (subst (λ (rs : List (Reached ReportedPlace Move)). Gathers (shown_among (outcome_steps others) 0 rs) c.args.found.now.items c.collect_whole.new.found.items)
    c.as_slice.ensures.value c.in_ok-collect_whole.ensures.gathers)
    (ap (on_among (outcome_steps others) 1) (sym c.as_slice-2.ensures.value) ∙ sym (c.in_ok-can_go_on.ensures 0) ∙ c.if-not-branch.true)

pub loop-gone_through-init : goal.loop-gone_through-init
loop-gone_through-init g c =
    let others = c.args.gathered.now.others.now in
    record {
      come = first_layer others c.args.start c.in_ok-layer.layer.items c.args.found.now.items c.collect_whole.new.found.items c.in_ok-layer.ensures c.requires.none_found
          (subst (λ (rs : List (Reached ReportedPlace Move)). Gathers (shown_among (outcome_steps others) 0 rs) c.args.found.now.items c.collect_whole.new.found.items)
          c.as_slice.ensures.value c.in_ok-collect_whole.ensures.gathers)
          (ap (on_among (outcome_steps others) 1) (sym c.as_slice-2.ensures.value) ∙ sym (c.in_ok-can_go_on.ensures 0) ∙ c.if-not-branch.false);
      witnessed = first_witnesses others c.args.start c.in_ok-layer.layer.items c.args.found.now.items c.collect_whole.new.found.items c.args.schedules.now.items
          c.collect_whole.new.schedules.items c.in_ok-layer.ensures c.requires.none_found c.requires.no_schedules
          (subst (λ (rs : List (Reached ReportedPlace Move)). HaveWitnesses others rs c.args.found.now.items c.collect_whole.new.found.items c.args.schedules.now.items
          c.collect_whole.new.schedules.items) c.as_slice.ensures.value c.in_ok-collect_whole.ensures.witnesses);
      up_to = (order_first others c.args.start c.in_ok-layer.layer.items c.args.schedules.now.items c.collect_whole.new.schedules.items c.in_ok-layer.ensures
          c.requires.no_schedules (subst (λ (rs : List (Reached ReportedPlace Move)). KeepOrder rs c.args.schedules.now.items c.collect_whole.new.schedules.items)
          c.as_slice.ensures.value c.in_ok-collect_whole.ensures.ordered)).0;
      ordered = (order_first others c.args.start c.in_ok-layer.layer.items c.args.schedules.now.items c.collect_whole.new.schedules.items c.in_ok-layer.ensures
          c.requires.no_schedules (subst (λ (rs : List (Reached ReportedPlace Move)). KeepOrder rs c.args.schedules.now.items c.collect_whole.new.schedules.items)
          c.as_slice.ensures.value c.in_ok-collect_whole.ensures.ordered)).1;
      within = omega arith;
      made = omega arith;
    }

pub returns-then-not-branch-2-clause-collected : goal.returns-then-not-branch-2-clause-collected
returns-then-not-branch-2-clause-collected g c =
    let others = c.args.gathered.now.others.now in
    let stand : StandFor ReportedPlace Move Outcome (outcome_steps others) c.in-Ok.next.items (moved_from_each (outcome_steps others) c.loop-gone_through.layer.items) =
    c.in-Ok.ensures.stand 0 in
    next_end others c.args.start c.loop-gone_through.gone_through c.loop-gone_through.layer.items c.in-Ok.next.items c.loop-gone_through.found.items
    c.collect_whole-in-Ok.new.found.items c.loop-gone_through.invariant.come stand
    (subst (λ (rs : List (Reached ReportedPlace Move)). Gathers (shown_among (outcome_steps others) 0 rs) c.loop-gone_through.found.items c.collect_whole-in-Ok.new.found.items)
    c.as_slice-in-Ok.ensures.value c.in_ok-collect_whole-in-Ok.ensures.gathers)
    (ap (on_among (outcome_steps others) 1) (sym c.as_slice-in-Ok-2.ensures.value) ∙ sym (c.in_ok-can_go_on-in-Ok.ensures 0) ∙ c.if-not-branch-2.true)

pub loop-gone_through-preserved : goal.loop-gone_through-preserved
loop-gone_through-preserved g c =
    let others = c.args.gathered.now.others.now in
    let stand : StandFor ReportedPlace Move Outcome (outcome_steps others) c.in-Ok.next.items (moved_from_each (outcome_steps others) c.loop-gone_through.layer.items) =
    c.in-Ok.ensures.stand 0 in
    let on : on_among (outcome_steps others) 1 c.in-Ok.next.items ≡ true =
    ap (on_among (outcome_steps others) 1) (sym c.as_slice-in-Ok-2.ensures.value) ∙ sym (c.in_ok-can_go_on-in-Ok.ensures 0) ∙ c.if-not-branch-2.false in
    let after : AreUpTo (c.loop-gone_through.gone_through + 1) c.collect_whole-in-Ok.new.schedules.items × AreOrdered c.collect_whole-in-Ok.new.schedules.items =
    order_next others c.args.start c.loop-gone_through.gone_through c.loop-gone_through.layer.items c.in-Ok.next.items c.loop-gone_through.found.items
    c.loop-gone_through.schedules.items c.collect_whole-in-Ok.new.schedules.items c.loop-gone_through.invariant.come stand
    (subst (λ (rs : List (Reached ReportedPlace Move)). KeepOrder rs c.loop-gone_through.schedules.items c.collect_whole-in-Ok.new.schedules.items)
    c.as_slice-in-Ok.ensures.value c.in_ok-collect_whole-in-Ok.ensures.ordered) c.loop-gone_through.invariant.up_to c.loop-gone_through.invariant.ordered in
    record {
      come = next_gathered others c.args.start c.loop-gone_through.gone_through c.loop-gone_through.layer.items c.in-Ok.next.items c.loop-gone_through.found.items
          c.collect_whole-in-Ok.new.found.items c.loop-gone_through.invariant.come stand
          (subst (λ (rs : List (Reached ReportedPlace Move)). Gathers (shown_among (outcome_steps others) 0 rs) c.loop-gone_through.found.items c.collect_whole-in-Ok.new.found.items)
          c.as_slice-in-Ok.ensures.value c.in_ok-collect_whole-in-Ok.ensures.gathers) on;
      witnessed = next_witnesses others c.args.start c.loop-gone_through.gone_through c.loop-gone_through.layer.items c.in-Ok.next.items c.loop-gone_through.found.items
          c.collect_whole-in-Ok.new.found.items c.loop-gone_through.schedules.items c.collect_whole-in-Ok.new.schedules.items c.loop-gone_through.invariant.come stand
          (subst (λ (rs : List (Reached ReportedPlace Move)). HaveWitnesses others rs c.loop-gone_through.found.items c.collect_whole-in-Ok.new.found.items
          c.loop-gone_through.schedules.items c.collect_whole-in-Ok.new.schedules.items) c.as_slice-in-Ok.ensures.value c.in_ok-collect_whole-in-Ok.ensures.witnesses)
          c.loop-gone_through.invariant.witnessed;
      up_to = after.0;
      ordered = after.1;
      within = elim c.in-Ok.ensures.taken [
        | inl nothing ↦ absurd (let none = none_on others c.in-Ok.next.items nothing in cc)
        | inr less ↦ omega (arith, c.loop-gone_through.invariant.within)
      ];
      made = far_gathered others c.args.start c.loop-gone_through.gone_through c.loop-gone_through.layer.items
          c.loop-gone_through.found.items _ _ _ c.loop-gone_through.invariant.come c.loop-gone_through.invariant.made
          (c.next_layer.ensures.made 0);
    }

pub returns-in-Err-Spent-clause-collected : goal.returns-in-Err-Spent-clause-collected
returns-in-Err-Spent-clause-collected g c =
    open_at c.args.gathered.now.others.now c.args.start c.loop-gone_through.gone_through c.loop-gone_through.layer.items c.loop-gone_through.found.items
    c.loop-gone_through.invariant.come

pub returns-clause-collected : goal.returns-clause-collected
returns-clause-collected g c =
    let all : c.loop-gone_through.gone_through ≡ c.args.budget.now.left = omega arith in
    subst (λ (n : ℕ). AreOutcomesUpTo n (place_of c.args.gathered.now.others.now c.args.start.at) c.args.start.ends c.loop-gone_through.found.items) all
    (open_at c.args.gathered.now.others.now c.args.start c.loop-gone_through.gone_through c.loop-gone_through.layer.items c.loop-gone_through.found.items
    c.loop-gone_through.invariant.come)

-- ---- the budget

pub returns-in-Err-Spent-clause-spent : goal.returns-in-Err-Spent-clause-spent
returns-in-Err-Spent-clause-spent g c = c.in-Err-Spent.ensures.spent (cc)

pub returns-clause-spent : goal.returns-clause-spent
returns-clause-spent g c = omega (arith, c.loop-gone_through.invariant.within)

pub returns-in-Err-Spent-clause-far : goal.returns-in-Err-Spent-clause-far
returns-in-Err-Spent-clause-far g c =
    let others = c.args.gathered.now.others.now in
    far_open others c.args.start c.loop-gone_through.gone_through c.loop-gone_through.layer.items c.loop-gone_through.found.items _ _ _
    c.loop-gone_through.invariant.come c.loop-gone_through.invariant.made
    (c.next_layer.ensures.made 0) (c.in-Err-Spent.ensures.spent (cc))

pub returns-clause-far : goal.returns-clause-far
returns-clause-far g c =
    let all : c.loop-gone_through.gone_through ≡ c.args.budget.now.left = omega arith in
    let none : c.loop-gone_through.budget.left ≡ 0 = omega (arith, c.loop-gone_through.invariant.within) in
    subst (λ (n : ℕ). c.args.budget.now.left ≤ count_up_to (suc n) (place_of c.args.gathered.now.others.now c.args.start.at)) all
    (far_without _ _ _ _ c.loop-gone_through.invariant.made none)

-- ---- witnesses

pub returns-then-not-branch-clause-witnessed : goal.returns-then-not-branch-clause-witnessed
returns-then-not-branch-clause-witnessed g c =
    let others = c.args.gathered.now.others.now in
    first_witnesses others c.args.start c.in_ok-layer.layer.items c.args.found.now.items c.collect_whole.new.found.items c.args.schedules.now.items
    c.collect_whole.new.schedules.items c.in_ok-layer.ensures c.requires.none_found c.requires.no_schedules
    (subst (λ (rs : List (Reached ReportedPlace Move)). HaveWitnesses others rs c.args.found.now.items c.collect_whole.new.found.items c.args.schedules.now.items
    c.collect_whole.new.schedules.items) c.as_slice.ensures.value c.in_ok-collect_whole.ensures.witnesses)

pub returns-then-not-branch-2-clause-witnessed : goal.returns-then-not-branch-2-clause-witnessed
returns-then-not-branch-2-clause-witnessed g c =
    let others = c.args.gathered.now.others.now in
    let stand : StandFor ReportedPlace Move Outcome (outcome_steps others) c.in-Ok.next.items (moved_from_each (outcome_steps others) c.loop-gone_through.layer.items) =
    c.in-Ok.ensures.stand 0 in
    next_witnesses others c.args.start c.loop-gone_through.gone_through c.loop-gone_through.layer.items c.in-Ok.next.items c.loop-gone_through.found.items
    c.collect_whole-in-Ok.new.found.items c.loop-gone_through.schedules.items c.collect_whole-in-Ok.new.schedules.items c.loop-gone_through.invariant.come stand
    (subst (λ (rs : List (Reached ReportedPlace Move)). HaveWitnesses others rs c.loop-gone_through.found.items c.collect_whole-in-Ok.new.found.items
    c.loop-gone_through.schedules.items c.collect_whole-in-Ok.new.schedules.items) c.as_slice-in-Ok.ensures.value c.in_ok-collect_whole-in-Ok.ensures.witnesses)
    c.loop-gone_through.invariant.witnessed

-- ---- the order of the schedules

pub returns-then-not-branch-clause-ordered : goal.returns-then-not-branch-clause-ordered
returns-then-not-branch-clause-ordered g c =
    let others = c.args.gathered.now.others.now in
    (order_first others c.args.start c.in_ok-layer.layer.items c.args.schedules.now.items c.collect_whole.new.schedules.items c.in_ok-layer.ensures c.requires.no_schedules
    (subst (λ (rs : List (Reached ReportedPlace Move)). KeepOrder rs c.args.schedules.now.items c.collect_whole.new.schedules.items) c.as_slice.ensures.value
    c.in_ok-collect_whole.ensures.ordered)).1

pub returns-then-not-branch-2-clause-ordered : goal.returns-then-not-branch-2-clause-ordered
returns-then-not-branch-2-clause-ordered g c =
    let others = c.args.gathered.now.others.now in
    let stand : StandFor ReportedPlace Move Outcome (outcome_steps others) c.in-Ok.next.items (moved_from_each (outcome_steps others) c.loop-gone_through.layer.items) =
    c.in-Ok.ensures.stand 0 in
    (order_next others c.args.start c.loop-gone_through.gone_through c.loop-gone_through.layer.items c.in-Ok.next.items c.loop-gone_through.found.items
    c.loop-gone_through.schedules.items c.collect_whole-in-Ok.new.schedules.items c.loop-gone_through.invariant.come stand
    (subst (λ (rs : List (Reached ReportedPlace Move)). KeepOrder rs c.loop-gone_through.schedules.items c.collect_whole-in-Ok.new.schedules.items)
    c.as_slice-in-Ok.ensures.value c.in_ok-collect_whole-in-Ok.ensures.ordered) c.loop-gone_through.invariant.up_to c.loop-gone_through.invariant.ordered).1

pub returns-in-Err-Spent-clause-ordered : goal.returns-in-Err-Spent-clause-ordered
returns-in-Err-Spent-clause-ordered g c = c.loop-gone_through.invariant.ordered

pub returns-clause-ordered : goal.returns-clause-ordered
returns-clause-ordered g c = c.loop-gone_through.invariant.ordered
