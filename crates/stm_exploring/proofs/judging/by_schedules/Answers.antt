use Rattle.std.proofs.Common.{◌≡◌, ◌∙◌, ◌++◌, ◌∷◌, [], List, length, map, sym, ap, append_assoc, append-nil, arith}
use Rattle.std.specs.Vec.Iter.{into_iter_items}
use Rattle.std.proofs.lemmas.List.{nil_from_length}
use Rattle.stm_explore.specs.declared.exploring.Explored.{Explored}
use Rattle.stm_exploring.specs.declared.judging.Answer.{Answer}
use Rattle.stm_exploring.specs.declared.judging.Answer.TheVariants.{BySchedules}
use Rattle.stm_exploring.proofs.judging.by_schedules.Goals as goal

pub loop-explored-preserved : goal.loop-explored-preserved
loop-explored-preserved c =
    let at = c.loop-explored in
    let rest : List Explored = into_iter_items c.next.new.self in
    let taken : into_iter_items at.explored-iterator ≡ c.in-Some.explored ∷ rest = c.in-Some.ensures.steps.0 in
    let gone = c.in-Some.ensures.steps.1 in
    let one = ap length taken in
    record {
      can_next = tt;
      ends = tt;
      counted = let was = at.invariant.counted in omega arith;
      so_far = ap (λ (answers : List Answer). answers ++ map BySchedules rest) c.in_ok-push.ensures.items
          ∙ append_assoc at.answers.items (BySchedules c.in-Some.explored ∷ []) (map BySchedules rest)
          ∙ ap (λ (all : List Explored). at.answers.items ++ map BySchedules all) (sym taken) ∙ at.invariant.so_far;
    }

pub returns : goal.returns
returns c =
    let at = c.loop-explored in
    let none = nil_from_length (into_iter_items at.explored-iterator) (sym at.invariant.counted ∙ c.in-None.ensures.steps.0) in
    sym (append-nil at.answers.items) ∙ sym (ap (λ (all : List Explored). at.answers.items ++ map BySchedules all) none) ∙ at.invariant.so_far
