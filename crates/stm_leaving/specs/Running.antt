-- The meaning of a source: what its statements come to, and the way in which they are left.
use Rattle.std.specs.Prelude.{ℕ, suc, zero, Bool, true, false}
use Rattle.stm_steps.specs.Answer.{Lookup}
use Rattle.stm_steps.specs.Values.{turns_of}
use Rattle.stm_steps.specs.Session.{Session}
use Rattle.stm_steps.specs.Outcome.{Outcome, Gives, and_then, given, begin_turn}
use Rattle.stm_steps.specs.Meaning.{evaluate, holds, run_statement}
use Rattle.stm_leaving.specs.Source.{Source, Sources, Copies, Plain, Choice, Items, Count, Return, Break, Continue, Nil, Next, NoCopy, Copy}
use Rattle.stm_leaving.specs.Source.{Way, GoesOn, Returns, Breaks, Continues}

-- what follows a statement in its list is for those who go on
abbrev pub then_on : (Session → Outcome Way) → Way → Session → Outcome Way
then_on more GoesOn s = more s
then_on more Returns s = Gives Returns s
then_on more Breaks s = Gives Breaks s
then_on more Continues s = Gives Continues s

-- behind a turn or a copy come the others; a `break` goes on behind the loop
abbrev pub after_turn : (Session → Outcome Way) → Way → Session → Outcome Way
after_turn more GoesOn s = more s
after_turn more Returns s = Gives Returns s
after_turn more Breaks s = Gives GoesOn s
after_turn more Continues s = more s

abbrev pub one_of : (Session → Outcome Way) → (Session → Outcome Way) → Bool → Session → Outcome Way
one_of a b true s = a s
one_of a b false s = b s

-- the turns of a counted loop that are left, from turn i on
unfoldable pub run_turns : ℕ → (Session → Outcome Way) → ℕ → ℕ → Session → Outcome Way
run_turns v body zero i s = Gives GoesOn s
run_turns v body (suc left) i s = and_then (begin_turn v i s) (λ _ t. and_then (body t) (after_turn (run_turns v body left (suc i))))

unfoldable mutual
  pub run_source : Lookup → Sources → Session → Outcome Way
  run_source look Nil s = Gives GoesOn s
  run_source look (Next first rest) s = and_then (run_one look first s) (then_on (run_source look rest))

  pub run_one : Lookup → Source → Session → Outcome Way
  run_one look (Plain p) s = and_then (run_statement look p s) (λ _. Gives GoesOn)
  run_one look (Choice c a b) s = and_then (holds look c s) (one_of (run_source look a) (run_source look b))
  run_one look (Items cs) s = run_copies look cs s
  run_one look (Count v e limit body) s =
      and_then (evaluate look e s) (λ x t. and_then (given (turns_of x limit) t) (λ n. run_turns v (run_source look body) n 0))
  run_one look Return s = Gives Returns s
  run_one look Break s = Gives Breaks s
  run_one look Continue s = Gives Continues s

  pub run_copies : Lookup → Copies → Session → Outcome Way
  run_copies look NoCopy s = Gives GoesOn s
  run_copies look (Copy c cs) s = and_then (run_source look c s) (after_turn (run_copies look cs))
