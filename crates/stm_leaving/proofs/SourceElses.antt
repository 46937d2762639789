-- A look-up with `else` in front of a statement of a source.
use Rattle.std.proofs.Common.{◌≡◌, ◌<◌, ℕ, Bool, true, false, refl, ◌∙◌, ap, length, nat_eq, ◌||◌, ◌⊎◌, suc, zero, inl, inr, arith}
use Rattle.std.specs.Prelude.{not, ◌&&◌, pos}
use Rattle.std.proofs.lemmas.Bool.{eqb-true, Decides.nat_tests}
use Rattle.stm_program.specs.Syntax.{Expression, Get, End}
use Rattle.stm_steps.specs.declared.value.Value.{Value}
use Rattle.stm_steps.specs.declared.value.Value.TheVariants.{Number as NumberValue}
use Rattle.stm_steps.specs.Answer.{Lookup}
use Rattle.stm_steps.specs.Values.{turns_of}
use Rattle.stm_steps.specs.Session.{Session, with_variable}
use Rattle.stm_steps.specs.Outcome.{Outcome, Gives, and_then, given}
use Rattle.stm_steps.specs.Meaning.{evaluate, holds, run_statement, run_block}
use Rattle.stm_leaving.specs.Elses.{or_else, evaluate_else, fill, mentions, run_set_else, lifted, but_for, blank, but_for_at_stops}
use Rattle.stm_leaving.specs.Source.{Source, Sources, Copies, Plain, Choice, Items, Count, Return, Break, Continue, Nil, Next, NoCopy, Copy}
use Rattle.stm_leaving.specs.Source.{Way, GoesOn, Returns, Breaks, Continues}
use Rattle.stm_leaving.specs.Running.{then_on, after_turn, one_of, run_turns, run_source, run_one, run_copies}
use Rattle.stm_leaving.specs.SourceElses.{sets_part, needs_source, needs_part, needs_copies, fill_part, needs_within, lifted_source, LiftedInSources}
use Rattle.stm_leaving.specs.Heads.{fill_condition, fill_head}
use Rattle.stm_leaving.specs.Unseen.{names}
use Rattle.stm_leaving.proofs.SameRuns.{set_again, or_none, Sized, carried, sized_then, same_given, same_evaluate, but_for_carried, Sizes, hits}
use Rattle.stm_leaving.proofs.Elses.{ended, test, sized_get, or_else-sized, set_else_runs_alike}
use Rattle.stm_leaving.proofs.UnseenLemmas.{unneeded_behind, Any, Unseen, then_unseen, then_exact, same_unseen, own, same_holds}
use Rattle.stm_leaving.proofs.UnseenLemmas.{puts, begin_unseen, begin_exact, setter_exact, statement_unseen, filled_holds, head_same, head_exact}

module _ (look : Lookup) (v : ℕ) where
  abbrev going : Unit {0} → Session → Outcome Way
  going x s = Gives GoesOn s

  on_unseen : (f : Session → Outcome Way) → Unseen look v f → (way : Way) → Unseen look v (then_on f way)
  on_unseen f h way = grind (arith, nat_tests)

  after_unseen : (f : Session → Outcome Way) → Unseen look v f → (way : Way) → Unseen look v (after_turn f way)
  after_unseen f h way = grind (arith, nat_tests)

  one_of_unseen : (f g : Session → Outcome Way) → Unseen look v f → Unseen look v g → (b : Bool) → Unseen look v (one_of f g b)
  one_of_unseen f g h k b = grind (arith, nat_tests)

  run_turns_unseen : (w : ℕ) (g : Session → Outcome Way) → (w ≡ v) ⊎ Unseen look v g → (left i : ℕ) → Unseen look v (run_turns w g left i)
  unfolding run_turns
  run_turns_unseen w g h zero i s t near = ap (λ r. Gives GoesOn r) near
  run_turns_unseen w g (inl e) (suc left) i s t near = grind (arith, nat_tests, then_exact, begin_exact)
  run_turns_unseen w g (inr h) (suc left) i s t near =
      grind (arith, nat_tests, then_unseen, begin_unseen, after_unseen, run_turns_unseen w g (inr h) left (suc i))

  run_turns_see : (x : Bool) (w : ℕ) → nat_eq w v ≡ x → (y : Bool) → (not x && y) ≡ false → (body : Sources) → (y ≡ false → Unseen look v (run_source look body)) →
      (w ≡ v) ⊎ Unseen look v (run_source look body)
  run_turns_see x w e y h body more = grind (arith, nat_tests, eqb-true)

  exact_on : (o p : Outcome (Unit {0})) → but_for_at_stops v o ≡ but_for_at_stops v p → but_for_at_stops v (and_then o going) ≡ but_for_at_stops v (and_then p going)
  exact_on o p h = grind (arith, nat_tests)

  part_exact : (q : Source) → sets_part v q ≡ true → needs_part v q ≡ false → (s t : Session) → blank v s ≡ blank v t →
      but_for_at_stops v (run_one look q s) ≡ but_for_at_stops v (run_one look q t)
  unfolding run_one needs_part
  part_exact q h k s t near = grind (arith, nat_tests, exact_on, setter_exact)

  mutual
    unfolding run_source needs_source

    source_unseen : (p : Sources) → needs_source v p ≡ false → Unseen look v (run_source look p)
    source_unseen Nil h s t near = ap (λ r. Gives GoesOn r) near
    source_unseen (Next first rest) h s t near =
        let none = or_none (needs_part v first) (not (sets_part v first) && needs_source v rest) h in
        elim (unneeded_behind (sets_part v first) (needs_source v rest) none.1) as (λ _. but_for v (run_source look (Next first rest) s) ≡ but_for v (run_source look (Next first rest) t)) [
          | inl e ↦ then_exact look v (run_one look first s) (run_one look first t) (then_on (run_source look rest)) (part_exact first e none.0 s t near)
          | inr e ↦ then_unseen look v (run_one look first s) (run_one look first t) (then_on (run_source look rest)) (part_unseen first none.0 s t near)
              (on_unseen (run_source look rest) (source_unseen rest e))
        ]

    part_unseen : (q : Source) → needs_part v q ≡ false → Unseen look v (run_one look q)
    part_unseen (Plain p) h s t near =
        then_unseen look v (run_statement look p s) (run_statement look p t) going (statement_unseen look v p h s t near) (λ _ a b m. ap (λ r. Gives GoesOn r) m)
    part_unseen (Choice c a b) h s t near =
        let none = or_none (names v c) (needs_source v a || needs_source v b) h in
        let both = or_none (needs_source v a) (needs_source v b) none.1 in
        then_unseen look v (holds look c s) (holds look c t) (one_of (run_source look a) (run_source look b))
        (same_unseen look v (holds look c) (same_holds look v c none.0) s t near)
        (one_of_unseen (run_source look a) (run_source look b) (source_unseen a both.0) (source_unseen b both.1))
    part_unseen (Items cs) h s t near = copies_unseen cs h s t near
    part_unseen (Count w e limit body) h s t near =
        let none = or_none (mentions v e) (not (nat_eq w v) && needs_source v body) h in
        then_unseen look v (evaluate look e s) (evaluate look e t) (λ x r. and_then (given (turns_of x limit) r) (λ n. run_turns w (run_source look body) n 0))
        (same_unseen look v (evaluate look e) (own look v e none.0) s t near)
        (λ x a b m. then_unseen look v (given (turns_of x limit) a) (given (turns_of x limit) b) (λ n. run_turns w (run_source look body) n 0)
        (same_unseen look v (given (turns_of x limit)) (same_given look v (NumberValue (pos 0)) (Any look v) (turns_of x limit)) a b m)
        (λ n. run_turns_unseen w (run_source look body) (run_turns_see (nat_eq w v) w refl (needs_source v body) none.1 body (λ k. source_unseen body k)) n 0))
    part_unseen Return h s t near = ap (λ r. Gives Returns r) near
    part_unseen Break h s t near = ap (λ r. Gives Breaks r) near
    part_unseen Continue h s t near = ap (λ r. Gives Continues r) near

    copies_unseen : (cs : Copies) → needs_copies v cs ≡ false → Unseen look v (run_copies look cs)
    copies_unseen NoCopy h s t near = ap (λ r. Gives GoesOn r) near
    copies_unseen (Copy c cs) h s t near =
        let none = or_none (needs_source v c) (needs_copies v cs) h in
        then_unseen look v (run_source look c s) (run_source look c t) (after_turn (run_copies look cs)) (source_unseen c none.0 s t near)
        (after_unseen (run_copies look cs) (copies_unseen cs none.1))

  part_head : (y : Value) (q : Source) → needs_within v q ≡ false → (s : Session) → v < length s.variables →
      but_for v (run_one look q (with_variable v y s)) ≡ but_for v (run_one look (fill_part v y q) s)
  unfolding run_one
  part_head y (Plain p) h s n =
      then_unseen look v (run_statement look p (with_variable v y s)) (run_statement look (fill_head v y p) s) going (head_same look v y p h s n)
      (λ _ a b m. ap (λ r. Gives GoesOn r) m)
  part_head y (Choice c a b) h s n =
      let none = or_none (needs_source v a) (needs_source v b) h in
      ap (λ o. but_for v (and_then o (one_of (run_source look a) (run_source look b)))) ((filled_holds look v y c).goes s n)
      ∙ then_unseen look v (carried look v y (Sizes v) (holds look (fill_condition v y c) s)) (holds look (fill_condition v y c) s)
      (one_of (run_source look a) (run_source look b)) (but_for_carried look v y (Sizes v) (holds look (fill_condition v y c) s))
      (one_of_unseen (run_source look a) (run_source look b) (source_unseen a none.0) (source_unseen b none.1))
  part_head y (Items cs) h s n = copies_unseen cs h (with_variable v y s) s (set_again v (NumberValue (pos 0)) y s)
  part_head y (Count w e limit body) h s n =
      ap (λ o. but_for v (and_then o (λ x r. and_then (given (turns_of x limit) r) (λ n. run_turns w (run_source look body) n 0))))
      ((same_evaluate look v y (Sizes v) e (λ _. hits v y)).goes s n)
      ∙ then_unseen look v (carried look v y (Sizes v) (evaluate look (fill v y e) s)) (evaluate look (fill v y e) s)
      (λ x r. and_then (given (turns_of x limit) r) (λ n. run_turns w (run_source look body) n 0))
      (but_for_carried look v y (Sizes v) (evaluate look (fill v y e) s))
      (λ x a b m. then_unseen look v (given (turns_of x limit) a) (given (turns_of x limit) b) (λ n. run_turns w (run_source look body) n 0)
      (same_unseen look v (given (turns_of x limit)) (same_given look v (NumberValue (pos 0)) (Any look v) (turns_of x limit)) a b m)
      (λ n. run_turns_unseen w (run_source look body) (run_turns_see (nat_eq w v) w refl (needs_source v body) h body (λ k. source_unseen body k)) n 0))
  part_head y Return h s n = ap (λ r. Gives Returns r) (set_again v (NumberValue (pos 0)) y s)
  part_head y Break h s n = ap (λ r. Gives Breaks r) (set_again v (NumberValue (pos 0)) y s)
  part_head y Continue h s n = ap (λ r. Gives Continues r) (set_again v (NumberValue (pos 0)) y s)

  part_head_exact : (x : Value) (q : Source) → sets_part v q ≡ true → (s : Session) → v < length s.variables →
      but_for_at_stops v (run_one look q (with_variable v x s)) ≡ but_for_at_stops v (run_one look (fill_part v x q) s)
  unfolding run_one
  part_head_exact x q h s n = grind (arith, nat_tests, exact_on, head_exact)

  part_goes : (q : Source) (rest : Sources) → needs_within v q ≡ false → (not (sets_part v q) && needs_source v rest) ≡ false → (o : Outcome Value) →
      Sized look v (NumberValue (pos 0)) (Sizes v) o →
      but_for v (and_then (and_then o (puts look v v)) (λ _. run_source look (Next q rest)))
      ≡ but_for v (and_then (and_then o (λ x. run_one look (fill_part v x q))) (then_on (run_source look rest)))
  unfolding run_source
  part_goes q rest h k o n = grind (arith, nat_tests, unneeded_behind, then_exact, part_head_exact, then_unseen, part_head, on_unseen, source_unseen)

  abbrev second : (Session → Outcome (Unit {0})) → (Session → Outcome Way) → Session → Outcome Way
  second f more t = and_then (and_then (f t) going) (then_on more)

  abbrev both : (Session → Outcome (Unit {0})) → Unit {0} → Session → Outcome (Unit {0})
  both f x t = and_then (f t) (ended look v)

  lifted_is : (key other : Expression) (rest : Sources) (s : Session) →
      run_source look (lifted_source v key other rest) s ≡ and_then (run_block look (lifted v key other End) s) (λ _. run_source look rest)
  unfolding run_source run_block lifted lifted_source
  lifted_is key other rest s = grind (arith, nat_tests, test)

pub lifted_in_sources : LiftedInSources
lifted_in_sources look v key other q rest s n i j h k =
    ap (λ o. but_for v o) (lifted_is look v key other (Next q rest) s)
    ∙ then_exact look v (run_block look (lifted v key other End) s) (run_set_else look v key other s) (λ _. run_source look (Next q rest))
    (set_else_runs_alike look v key other s n i j)
    ∙ part_goes look v q rest h k (evaluate_else look key other s)
    (sized_then look v (NumberValue (pos 0)) (Sizes v) (evaluate look (Get key) s) (or_else look other) (sized_get look v key i s n)
    (λ x t m. or_else-sized look v other j x t m))
