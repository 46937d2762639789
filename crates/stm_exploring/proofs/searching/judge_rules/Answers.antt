use Rattle.std.proofs.Common.{◌≡◌, ◌-◌, ◌++◌, ◌≤◌, All, List, length, get_or, take, sym, ap, ◌∙◌, subst, arith}
use Rattle.std.proofs.lemmas.List.{get_or_default, take_all}
use Rattle.stm_exploring.specs.declared.rules.Rule.{Rule}
use Rattle.stm_exploring.specs.Beginnings.{AreFoundThere}
use Rattle.stm_exploring.proofs.AnswerLemmas.{group_asked, joined_parts}
use Rattle.stm_exploring.proofs.searching.judge_rules.Goals as goal

pub end_of_group-end-requires : goal.end_of_group-end-requires
end_of_group-end-requires g c =
    let rule = c.index-rules-done.result in
    record {
      within = c.if-done-rules.false;
      first = λ d. ap (λ (r : Rule). r.when) (get_or_default c.args.rules.now c.loop-turn.done d rule c.if-done-rules.false);
    }

pub group_of-group-requires : goal.group_of-group-requires
group_of-group-requires g c = record { behind = omega (arith, c.end_of_group-end.ensures.further); within = c.end_of_group-end.ensures.within }

pub judge_group-requires-clause-when : goal.judge_group-requires-clause-when
judge_group-requires-clause-when g c =
    let when = (get_or c.args.rules.now c.loop-turn.done c.index-rules-done.result).when in
    subst (All (λ (r : Rule). r.when ≡ when)) (sym c.group_of-group.ensures)
    (group_asked when c.args.rules.now c.loop-turn.done c.end_of_group-end.result c.end_of_group-end.ensures.within c.end_of_group-end.ensures.asked)

pub loop-turn-preserved : goal.loop-turn-preserved
loop-turn-preserved g c =
    let rules = c.args.rules.now in
    let further = c.end_of_group-end.ensures.further in
    record {
      within = c.end_of_group-end.ensures.within;
      further = omega (arith, further, c.loop-turn.invariant.further);
      found = subst (λ (done : List Rule). AreFoundThere c.args.at.now done c.judge_group.new.answers.items)
          (ap (λ (group : List Rule). take c.loop-turn.done rules ++ group) c.group_of-group.ensures
          ∙ joined_parts rules c.loop-turn.done c.end_of_group-end.result (omega (arith, further)))
          (c.in_ok-judge_group.ensures (take c.loop-turn.done rules) c.loop-turn.invariant.found);
    }

pub returns-then-done-rules : goal.returns-then-done-rules
returns-then-done-rules g c =
    subst (λ (done : List Rule). AreFoundThere c.args.at.now done c.loop-turn.answers.items)
    (take_all c.loop-turn.done c.args.rules.now c.if-done-rules.true) c.loop-turn.invariant.found

pub returns : goal.returns
returns g c =
    let all : length c.args.rules.now ≤ c.loop-turn.done = omega (arith, c.loop-turn-test.false, c.loop-turn.invariant.further) in
    subst (λ (done : List Rule). AreFoundThere c.args.at.now done c.loop-turn.answers.items)
    (take_all c.loop-turn.done c.args.rules.now all) c.loop-turn.invariant.found
