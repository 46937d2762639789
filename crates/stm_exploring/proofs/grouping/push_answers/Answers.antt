use Rattle.std.proofs.Common.{◌≡◌, ◌+◌, ◌≤◌, ◌++◌, ◌∷◌, List, length, take, sym, ap, ◌∙◌, subst, arith}
use Rattle.std.proofs.lemmas.List.{take_all, nil_from_length}
use Rattle.std.specs.Vec.Iter.{into_iter_items}
use Rattle.stm_exploring.specs.declared.judging.Answer.{Answer}
use Rattle.stm_exploring.specs.declared.rules.Rule.{Rule}
use Rattle.stm_exploring.specs.declared.rules.RuleAnswer.{RuleAnswer}
use Rattle.stm_exploring.specs.Judging.{AreFoundFrom}
use Rattle.stm_exploring.proofs.AnswerLemmas.{one_further, next_left, next_found}
use Rattle.stm_exploring.proofs.grouping.push_answers.Goals as goal

pub loop-answer-preserved : goal.loop-answer-preserved
loop-answer-preserved c =
    let at = c.loop-answer in
    let i = at.index in
    let rules = c.args.rules.now in
    let rest : List Answer = into_iter_items c.next.new.self in
    let taken : into_iter_items at.answer-iterator ≡ c.in-Some.answer ∷ rest = c.in-Some.ensures.steps.0 in
    let gone = c.in-Some.ensures.steps.1 in
    let each : i + length (into_iter_items at.answer-iterator) ≡ length rules = at.invariant.each in
    let one = ap length taken in
    let answered : RuleAnswer = record { rule = c.in_ok-rule.rule; answer = c.in-Some.answer } in
    record {
      can_next = tt;
      ends = tt;
      counted = let was = at.invariant.counted in omega arith;
      each = one_further i (length rules) (length (into_iter_items at.answer-iterator)) (length rest) one each;
      left = λ waits p ends found.
          next_left c.args.when waits p ends rules i c.index-rules-index.result c.in-Some.answer (into_iter_items at.answer-iterator) rest (omega (arith, one, each))
          c.index-rules-index.is taken (at.invariant.left waits p ends found);
      so_far = λ waits p ends before found all.
          subst (λ (answers : List RuleAnswer). AreFoundFrom waits (before ++ take (i + 1) rules) p ends answers) (sym c.in_ok-push.ensures.items)
          (next_found c.args.when waits p ends rules i c.index-rules-index.result answered (into_iter_items at.answer-iterator) rest at.answers.items before
          (omega (arith, one, each)) c.index-rules-index.is c.in_ok-rule.ensures c.requires.when taken (at.invariant.left waits p ends found)
          (at.invariant.so_far waits p ends before found all));
    }

pub returns : goal.returns
returns c = λ waits p ends before found so_far.
    let at = c.loop-answer in
    let rules = c.args.rules.now in
    let none = ap length (nil_from_length (into_iter_items at.answer-iterator) (sym at.invariant.counted ∙ c.in-None.ensures.steps.0)) in
    let each = at.invariant.each in
    let all : length rules ≤ at.index = omega arith in
    subst (λ (xs : List Rule). AreFoundFrom waits (before ++ xs) p ends at.answers.items) (take_all at.index rules all)
    (at.invariant.so_far waits p ends before found so_far)
