use Rattle.std.proofs.Common.{◌≡◌, List, length, sym, ap, ◌∙◌, subst, arith}
use Rattle.stm_schedules.specs.declared.moves.Move.{Move}
use Rattle.stm_visited.specs.declared.visited.Visited.{Visited}
use Rattle.stm_visited.specs.Answers.{EachIs, IsVisited, OpenIsSpent}
use Rattle.stm_explore.specs.Turns.{turn_steps}
use Rattle.stm_explore.proofs.orders.seek.Goals as goal

pub taken-requires : goal.taken-requires
taken-requires g c = let one : length c.of.result ≡ 1 = ap length c.of.ensures ∙ c.in_ok-answers.ensures.each in omega (arith, one)

pub returns-clause-visited : goal.returns-clause-visited
returns-clause-visited g c =
    let t = c.args.turns.now in
    let each = subst (λ (all : List (Visited Move)). EachIs (λ n. IsVisited (turn_steps t.wanted.now t.goal.now t.gathered.others.now) c.args.start) all) (sym c.of.ensures)
    c.in_ok-answers.ensures.visited in
    let one : length c.of.result ≡ 1 = ap length c.of.ensures ∙ c.in_ok-answers.ensures.each in
    subst (IsVisited (turn_steps t.wanted.now t.goal.now t.gathered.others.now) c.args.start) (sym c.taken.ensures) (each 0 c.taken.result (omega (arith, one)))

pub returns-clause-spent : goal.returns-clause-spent
returns-clause-spent g c =
    let left = c.find_first_bad.new.budget.left in
    let each = subst (λ (all : List (Visited Move)). EachIs (λ n. OpenIsSpent left) all) (sym c.of.ensures) c.in_ok-answers.ensures.spent in
    let one : length c.of.result ≡ 1 = ap length c.of.ensures ∙ c.in_ok-answers.ensures.each in
    subst (OpenIsSpent left) (sym c.taken.ensures) (each 0 c.taken.result (omega (arith, one)))
