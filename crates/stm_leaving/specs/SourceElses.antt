-- `get(K) else E` in the head of a source's statement.
use Rattle.std.specs.Prelude.{◌≡◌, ◌<◌, ℕ, Bool, false, not, ◌||◌, ◌&&◌, nat_eq, [], length}
use Rattle.stm_program.specs.Syntax.{Expression, Text, Variable, Get, Equal, Set, If, End, Then}
use Rattle.stm_steps.specs.declared.value.Value.{Value}
use Rattle.stm_steps.specs.Answer.{Lookup}
use Rattle.stm_steps.specs.Session.{Session}
use Rattle.stm_steps.specs.Outcome.{Outcome, and_then}
use Rattle.stm_leaving.specs.Source.{Source, Sources, Copies, Plain, Choice, Items, Count, Return, Break, Continue, Nil, Next, NoCopy, Copy, Way}
use Rattle.stm_leaving.specs.Running.{then_on, run_source, run_one}
use Rattle.stm_leaving.specs.Elses.{fill, mentions, evaluate_else, but_for}
use Rattle.stm_leaving.specs.Unseen.{names, sets, needs_one}
use Rattle.stm_leaving.specs.Heads.{fill_condition, fill_head, needs_inside}

abbrev pub sets_part : ℕ → Source → Bool
sets_part v (Plain p) = sets v p
sets_part v (Choice c a b) = false
sets_part v (Items cs) = false
sets_part v (Count w e limit body) = false
sets_part v Return = false
sets_part v Break = false
sets_part v Continue = false

-- may read the variable before it sets it
unfoldable mutual
  pub needs_source : ℕ → Sources → Bool
  needs_source v Nil = false
  needs_source v (Next first rest) = needs_part v first || (not (sets_part v first) && needs_source v rest)

  pub needs_part : ℕ → Source → Bool
  needs_part v (Plain p) = needs_one v p
  needs_part v (Choice c a b) = names v c || (needs_source v a || needs_source v b)
  needs_part v (Items cs) = needs_copies v cs
  needs_part v (Count w e limit body) = mentions v e || (not (nat_eq w v) && needs_source v body)
  needs_part v Return = false
  needs_part v Break = false
  needs_part v Continue = false

  pub needs_copies : ℕ → Copies → Bool
  needs_copies v NoCopy = false
  needs_copies v (Copy c cs) = needs_source v c || needs_copies v cs

abbrev pub fill_part : ℕ → Value → Source → Source
fill_part v x (Plain p) = Plain (fill_head v x p)
fill_part v x (Choice c a b) = Choice (fill_condition v x c) a b
fill_part v x (Items cs) = Items cs
fill_part v x (Count w e limit body) = Count w (fill v x e) limit body
fill_part v x Return = Return
fill_part v x Break = Break
fill_part v x Continue = Continue

abbrev pub needs_within : ℕ → Source → Bool
needs_within v (Plain p) = needs_inside v p
needs_within v (Choice c a b) = needs_source v a || needs_source v b
needs_within v (Items cs) = needs_copies v cs
needs_within v (Count w e limit body) = not (nat_eq w v) && needs_source v body
needs_within v Return = false
needs_within v Break = false
needs_within v Continue = false

unfoldable pub lifted_source : ℕ → Expression → Expression → Sources → Sources
lifted_source v key other rest = Next (Plain (Set v (Get key))) (Next (Plain (If (Equal (Variable v) (Text [])) (Then (Set v other) End) End)) rest)

-- `get(key) else other` is evaluated, its value stands for the variable in the statement's head, and then comes what follows
abbrev pub run_part_else : Lookup → ℕ → Expression → Expression → Source → Sources → Session → Outcome Way
run_part_else look v key other q rest s =
    and_then (and_then (evaluate_else look key other s) (λ x. run_one look (fill_part v x q))) (then_on (run_source look rest))

abbrev pub LiftedInSources : Type 0
LiftedInSources = (look : Lookup) (v : ℕ) (key other : Expression) (q : Source) (rest : Sources) (s : Session) → v < length s.variables →
    mentions v key ≡ false → mentions v other ≡ false → needs_within v q ≡ false → (not (sets_part v q) && needs_source v rest) ≡ false →
    but_for v (run_source look (lifted_source v key other (Next q rest)) s) ≡ but_for v (run_part_else look v key other q rest s)
