-- Statements that do not need a variable do not see it, and so a look-up with `else` may stand in front of any of them.
use Rattle.std.proofs.Common.{◌≡◌, ◌<◌, ℕ, Bool, true, false, refl, sym, ◌∙◌, ap, List, length, nat_eq, ◌||◌, ◌⊎◌, suc, zero, inl, inr, arith}
use Rattle.std.specs.Prelude.{if◌then◌else◌, not, ◌&&◌, pos}
use Rattle.std.proofs.lemmas.Bool.{eqb-true, Decides.nat_tests}
use Rattle.stm_program.specs.Syntax.{Expression, Statement, Block, Condition, Less, Not, And, Or, Get, Equal, Set, Put, Del, If, For, Emit, Abort, End, Then}
use Rattle.stm_steps.specs.declared.value.Value.{Value}
use Rattle.stm_steps.specs.declared.value.Value.TheVariants.{Number as NumberValue}
use Rattle.stm_steps.specs.Answer.{Lookup}
use Rattle.stm_steps.specs.Values.{text_in, equal, less, put_of, del_of, turns_of}
use Rattle.stm_steps.specs.Session.{Session, with_variable, with_output, with_turn}
use Rattle.stm_steps.specs.Outcome.{Outcome, Gives, Stops, and_then, given, begin_turn}
use Rattle.stm_steps.specs.Meaning.{evaluate, holds, unless_false, unless_true, branch, repeat, aborts, run_statement, run_block}
use Rattle.stm_leaving.specs.Elses.{or_else, evaluate_else, fill, mentions, fill_plain, is_plain, lifted, but_for, blank, but_for_at_stops}
use Rattle.stm_leaving.specs.Heads.{fill_condition, fill_head, needs_inside, LiftedBeforeAny}
use Rattle.stm_leaving.specs.Unseen.{names, sets, needs, needs_one, FreeVariablesAreUnseen, LiftedInFront}
use Rattle.stm_steps.specs.declared.fault.Fault.TheVariants.{TurnLimit}
use Rattle.stm_steps.specs.declared.stop.Stop.TheVariants.{Faulted}
use Rattle.stm_leaving.proofs.SameRuns.{set_again, set_behind, or_none, Sized, carried, Same, sized_then, same_then}
use Rattle.stm_leaving.proofs.SameRuns.{same_given, same_evaluate, same_own, but_for_carried, writing, same_write, plain_same, Sizes, hits}
use Rattle.stm_leaving.proofs.Elses.{then_set, sized_get, lifted_goes, or_else-sized, but_for_all}

pub unneeded_behind : (x y : Bool) → (not x && y) ≡ false → (x ≡ true) ⊎ (y ≡ false)
unneeded_behind x y h = grind (arith, nat_tests)

module _ (look : Lookup) (v : ℕ) where
  abbrev zero_value : Value
  zero_value = NumberValue (pos 0)

  -- nothing is known of the variables
  abbrev pub Any : List Value → Type 0
  Any l = Unit {0}

  abbrev pub Unseen : {X : Type 0} → (Session → Outcome X) → Type 0
  Unseen f = (s t : Session) → blank v s ≡ blank v t → but_for v (f s) ≡ but_for v (f t)

  pub then_unseen : {X Y : Type 0} (o p : Outcome X) (h : X → Session → Outcome Y) → but_for v o ≡ but_for v p → ((x : X) → Unseen (h x)) →
      but_for v (and_then o h) ≡ but_for v (and_then p h)
  then_unseen o p h e more = grind (arith, nat_tests)

  -- where the variable is the same after it, too
  pub then_exact : {X Y : Type 0} (o p : Outcome X) (h : X → Session → Outcome Y) → but_for_at_stops v o ≡ but_for_at_stops v p →
      but_for v (and_then o h) ≡ but_for v (and_then p h)
  then_exact o p h e = grind (arith, nat_tests)

  -- what goes alike with the variable set does not see it
  pub same_unseen : {X : Type 0} (f : Session → Outcome X) → Same look v zero_value Any f f → Unseen f
  same_unseen f same s t near = grind (arith, nat_tests)

  pub own : (e : Expression) → mentions v e ≡ false → Same look v zero_value Any (evaluate look e) (evaluate look e)
  own e h = same_own look v zero_value Any e h

  same_unless_false : (f : Session → Outcome Bool) → Same look v zero_value Any f f → (b : Bool) → Same look v zero_value Any (unless_false f b) (unless_false f b)
  same_unless_false f h b = grind (arith, nat_tests)

  same_unless_true : (f : Session → Outcome Bool) → Same look v zero_value Any f f → (b : Bool) → Same look v zero_value Any (unless_true f b) (unless_true f b)
  same_unless_true f h b = grind (arith, nat_tests)

  pub same_holds : (c : Condition) → names v c ≡ false → Same look v zero_value Any (holds look c) (holds look c)
  unfolding holds names
  same_holds (Equal e f) h =
      let none = or_none (mentions v e) (mentions v f) h in
      same_then look v zero_value Any (evaluate look e) (evaluate look e) (λ x t. and_then (evaluate look f t) (λ z. given (equal x z)))
      (λ x t. and_then (evaluate look f t) (λ z. given (equal x z))) (own e none.0)
      (λ x. same_then look v zero_value Any (evaluate look f) (evaluate look f) (λ z. given (equal x z)) (λ z. given (equal x z)) (own f none.1)
      (λ z. same_given look v zero_value Any (equal x z)))
  same_holds (Less e f) h =
      let none = or_none (mentions v e) (mentions v f) h in
      same_then look v zero_value Any (evaluate look e) (evaluate look e) (λ x t. and_then (evaluate look f t) (λ z. given (less x z)))
      (λ x t. and_then (evaluate look f t) (λ z. given (less x z))) (own e none.0)
      (λ x. same_then look v zero_value Any (evaluate look f) (evaluate look f) (λ z. given (less x z)) (λ z. given (less x z)) (own f none.1)
      (λ z. same_given look v zero_value Any (less x z)))
  same_holds (Not c) h =
      same_then look v zero_value Any (holds look c) (holds look c) (λ b. Gives (not b)) (λ b. Gives (not b)) (same_holds c h)
      (λ b. record { goes = λ s n. refl; sized = λ s n. n })
  same_holds (And c d) h =
      let none = or_none (names v c) (names v d) h in
      same_then look v zero_value Any (holds look c) (holds look c) (unless_false (holds look d)) (unless_false (holds look d)) (same_holds c none.0)
      (same_unless_false (holds look d) (same_holds d none.1))
  same_holds (Or c d) h =
      let none = or_none (names v c) (names v d) h in
      same_then look v zero_value Any (holds look c) (holds look c) (unless_true (holds look d)) (unless_true (holds look d)) (same_holds c none.0)
      (same_unless_true (holds look d) (same_holds d none.1))

  near_set : (x : Value) (s t : Session) → blank v s ≡ blank v t → with_variable v x s ≡ with_variable v x t
  near_set x s t near = sym (set_again v x zero_value s) ∙ ap (λ r. with_variable v x r) near ∙ set_again v x zero_value t

  near_other : (w : ℕ) (x : Value) (s t : Session) → blank v s ≡ blank v t → blank v (with_variable w x s) ≡ blank v (with_variable w x t)
  near_other w x s t near =
      sym (set_behind v w x zero_value zero_value s) ∙ ap (λ r. blank v (with_variable w x r)) near ∙ set_behind v w x zero_value zero_value t

  abbrev pub puts : ℕ → Value → Session → Outcome (Unit {0})
  puts w x s = Gives tt (with_variable w x s)

  puts_unseen : (w : ℕ) (x : Value) → Unseen (puts w x)
  puts_unseen w x s t near = ap (λ r. Gives tt r) (near_other w x s t near)

  branch_unseen : (f g : Session → Outcome (Unit {0})) → Unseen f → Unseen g → (b : Bool) → Unseen (branch f g b)
  branch_unseen f g h k b = grind (arith, nat_tests)

  -- ---- turns

  abbrev turn : Bool → ℕ → ℕ → Session → Outcome (Unit {0})
  turn b w i s = if b then Gives tt (with_variable w (NumberValue (pos i)) (with_turn s)) else Stops (Faulted TurnLimit) s

  pub begin_unseen : (w i : ℕ) → Unseen (begin_turn w i)
  unfolding begin_turn
  begin_unseen w i s t near = grind (arith, nat_tests, near_other)

  pub begin_exact : (i : ℕ) (s t : Session) → blank v s ≡ blank v t → but_for_at_stops v (begin_turn v i s) ≡ but_for_at_stops v (begin_turn v i t)
  unfolding begin_turn
  begin_exact i s t near = grind (arith, nat_tests, near_set)

  repeat_unseen : (w : ℕ) (g : Session → Outcome (Unit {0})) → (w ≡ v) ⊎ Unseen g → (left i : ℕ) → Unseen (repeat w g left i)
  unfolding repeat
  repeat_unseen w g h zero i s t near = ap (λ r. Gives tt r) near
  repeat_unseen w g (inl e) (suc left) i s t near = grind (arith, nat_tests, then_exact, begin_exact)
  repeat_unseen w g (inr h) (suc left) i s t near = grind (arith, nat_tests, then_unseen, begin_unseen, repeat_unseen w g (inr h) left (suc i))

  -- ---- statements

  set_exact : (w : ℕ) → w ≡ v → (o p : Outcome Value) → but_for v o ≡ but_for v p → but_for_at_stops v (and_then o (puts w)) ≡ but_for_at_stops v (and_then p (puts w))
  set_exact w e o p h = grind (arith, nat_tests, near_set)

  turns_see : (x : Bool) (w : ℕ) → nat_eq w v ≡ x → (y : Bool) → (not x && y) ≡ false → (body : Block) → (y ≡ false → Unseen (run_block look body)) →
      (w ≡ v) ⊎ Unseen (run_block look body)
  turns_see x w e y h body more = grind (arith, nat_tests, eqb-true)

  pub setter_exact : (p : Statement) → sets v p ≡ true → needs_one v p ≡ false → (s t : Session) → blank v s ≡ blank v t →
      but_for_at_stops v (run_statement look p s) ≡ but_for_at_stops v (run_statement look p t)
  unfolding run_statement needs_one
  setter_exact p h k s t near = grind (arith, nat_tests, set_exact, eqb-true, same_unseen, own)

  mutual
    unfolding run_statement needs

    pub statement_unseen : (p : Statement) → needs_one v p ≡ false → Unseen (run_statement look p)
    statement_unseen (Set w e) h s t near =
        then_unseen (evaluate look e s) (evaluate look e t) (puts w) (same_unseen (evaluate look e) (own e h) s t near) (puts_unseen w)
    statement_unseen (Put e f lease) h s t near =
        let none = or_none (mentions v e) (mentions v f) h in
        same_unseen (λ r. run_statement look (Put e f lease) r)
        (same_then look v zero_value Any (evaluate look e) (evaluate look e)
        (λ x r. and_then (evaluate look f r) (λ z u. and_then (given (put_of x z lease) u) (writing look v zero_value Any)))
        (λ x r. and_then (evaluate look f r) (λ z u. and_then (given (put_of x z lease) u) (writing look v zero_value Any))) (own e none.0)
        (λ x. same_then look v zero_value Any (evaluate look f) (evaluate look f)
        (λ z u. and_then (given (put_of x z lease) u) (writing look v zero_value Any))
        (λ z u. and_then (given (put_of x z lease) u) (writing look v zero_value Any)) (own f none.1)
        (λ z. same_write look v zero_value Any (put_of x z lease)))) s t near
    statement_unseen (Del e) h s t near =
        same_unseen (λ r. run_statement look (Del e) r)
        (same_then look v zero_value Any (evaluate look e) (evaluate look e) (λ x r. and_then (given (del_of x) r) (writing look v zero_value Any))
        (λ x r. and_then (given (del_of x) r) (writing look v zero_value Any)) (own e h) (λ x. same_write look v zero_value Any (del_of x))) s t near
    statement_unseen (If c a b) h s t near =
        let none = or_none (names v c) (needs v a || needs v b) h in
        let both = or_none (needs v a) (needs v b) none.1 in
        then_unseen (holds look c s) (holds look c t) (branch (run_block look a) (run_block look b)) (same_unseen (holds look c) (same_holds c none.0) s t near)
        (branch_unseen (run_block look a) (run_block look b) (block_unseen a both.0) (block_unseen b both.1))
    statement_unseen (For w e limit body) h s t near =
        let none = or_none (mentions v e) (not (nat_eq w v) && needs v body) h in
        then_unseen (evaluate look e s) (evaluate look e t) (λ x r. and_then (given (turns_of x limit) r) (λ n. repeat w (run_block look body) n 0))
        (same_unseen (evaluate look e) (own e none.0) s t near)
        (λ x a b m. then_unseen (given (turns_of x limit) a) (given (turns_of x limit) b) (λ n. repeat w (run_block look body) n 0)
        (same_unseen (given (turns_of x limit)) (same_given look v zero_value Any (turns_of x limit)) a b m)
        (λ n. repeat_unseen w (run_block look body) (turns_see (nat_eq w v) w refl (needs v body) none.1 body (λ k. block_unseen body k)) n 0))
    statement_unseen (Emit e) h s t near =
        same_unseen (λ r. run_statement look (Emit e) r)
        (same_then look v zero_value Any (evaluate look e) (evaluate look e) (λ x r. Gives tt (with_output x r)) (λ x r. Gives tt (with_output x r)) (own e h)
        (λ x. record { goes = λ s n. refl; sized = λ s n. n })) s t near
    statement_unseen (Abort e) h s t near =
        same_unseen (λ r. run_statement look (Abort e) r)
        (same_then look v zero_value Any (evaluate look e) (evaluate look e) (λ x r. and_then (given (text_in x) r) aborts)
        (λ x r. and_then (given (text_in x) r) aborts) (own e h)
        (λ x. same_then look v zero_value Any (given (text_in x)) (given (text_in x)) aborts aborts (same_given look v zero_value Any (text_in x))
        (λ z. record { goes = λ s n. refl; sized = λ s n. n }))) s t near

    block_unseen : (b : Block) → needs v b ≡ false → Unseen (run_block look b)
    block_unseen End h s t near = ap (λ r. Gives tt r) near
    block_unseen (Then first rest) h s t near =
        let none = or_none (needs_one v first) (not (sets v first) && needs v rest) h in
        elim (unneeded_behind (sets v first) (needs v rest) none.1) as (λ _. but_for v (run_block look (Then first rest) s) ≡ but_for v (run_block look (Then first rest) t)) [
          | inl e ↦ then_exact (run_statement look first s) (run_statement look first t) (λ _. run_block look rest) (setter_exact first e none.0 s t near)
          | inr e ↦ then_unseen (run_statement look first s) (run_statement look first t) (λ _. run_block look rest) (statement_unseen first none.0 s t near)
              (λ _. block_unseen rest e)
        ]

  -- ---- a look-up in front, and what follows

  plain_exact : (x : Value) (p : Statement) → sets v p ≡ true → (s : Session) → v < length s.variables →
      but_for_at_stops v (run_statement look p (with_variable v x s)) ≡ but_for_at_stops v (run_statement look (fill_plain v x p) s)
  unfolding run_statement
  plain_exact x (Set w e) h s n =
      ap (λ o. but_for_at_stops v (and_then o (puts w))) ((same_evaluate look v x (Sizes v) e (λ _. hits v x)).goes s n)
      ∙ set_exact w (eqb-true w v h) (carried look v x (Sizes v) (evaluate look (fill v x e) s)) (evaluate look (fill v x e) s)
      (but_for_carried look v x (Sizes v) (evaluate look (fill v x e) s))
  plain_exact x (Put e f lease) h s n = cc
  plain_exact x (Del e) h s n = cc
  plain_exact x (If c a b) h s n = cc
  plain_exact x (For w e limit body) h s n = cc
  plain_exact x (Emit e) h s n = cc
  plain_exact x (Abort e) h s n = cc

  rest_goes : (p : Statement) (rest : Block) → is_plain p ≡ true → (not (sets v p) && needs v rest) ≡ false → (o : Outcome Value) →
      Sized look v zero_value (Sizes v) o →
      but_for v (and_then o (then_set look v (run_block look (Then p rest))))
      ≡ but_for v (and_then (and_then o (λ x. run_statement look (fill_plain v x p))) (λ _. run_block look rest))
  unfolding run_block
  rest_goes p rest h k (Stops stop s) n = refl
  rest_goes p rest h k (Gives x s) n =
      elim (unneeded_behind (sets v p) (needs v rest) k) as (λ _. but_for v (and_then (run_statement look p (with_variable v x s)) (λ _. run_block look rest))
      ≡ but_for v (and_then (run_statement look (fill_plain v x p) s) (λ _. run_block look rest))) [
        | inl e ↦ then_exact (run_statement look p (with_variable v x s)) (run_statement look (fill_plain v x p) s) (λ _. run_block look rest) (plain_exact x p e s n)
        | inr e ↦ then_unseen (run_statement look p (with_variable v x s)) (run_statement look (fill_plain v x p) s) (λ _. run_block look rest)
            (plain_same look v x (Sizes v) (hits v x) p h s n) (λ _. block_unseen rest e)
      ]

  -- ---- heads

  filled_unless_false : (y : Value) (f g : Session → Outcome Bool) → Same look v y (Sizes v) f g → (b : Bool) →
      Same look v y (Sizes v) (unless_false f b) (unless_false g b)
  filled_unless_false y f g h b = grind (arith, nat_tests)

  filled_unless_true : (y : Value) (f g : Session → Outcome Bool) → Same look v y (Sizes v) f g → (b : Bool) →
      Same look v y (Sizes v) (unless_true f b) (unless_true g b)
  filled_unless_true y f g h b = grind (arith, nat_tests)

  pub filled_holds : (y : Value) (c : Condition) → Same look v y (Sizes v) (holds look (fill_condition v y c)) (holds look c)
  unfolding holds fill_condition
  filled_holds y (Equal e f) =
      same_then look v y (Sizes v) (evaluate look (fill v y e)) (evaluate look e) (λ x t. and_then (evaluate look (fill v y f) t) (λ z. given (equal x z)))
      (λ x t. and_then (evaluate look f t) (λ z. given (equal x z))) (same_evaluate look v y (Sizes v) e (λ _. hits v y))
      (λ x. same_then look v y (Sizes v) (evaluate look (fill v y f)) (evaluate look f) (λ z. given (equal x z)) (λ z. given (equal x z))
      (same_evaluate look v y (Sizes v) f (λ _. hits v y)) (λ z. same_given look v y (Sizes v) (equal x z)))
  filled_holds y (Less e f) =
      same_then look v y (Sizes v) (evaluate look (fill v y e)) (evaluate look e) (λ x t. and_then (evaluate look (fill v y f) t) (λ z. given (less x z)))
      (λ x t. and_then (evaluate look f t) (λ z. given (less x z))) (same_evaluate look v y (Sizes v) e (λ _. hits v y))
      (λ x. same_then look v y (Sizes v) (evaluate look (fill v y f)) (evaluate look f) (λ z. given (less x z)) (λ z. given (less x z))
      (same_evaluate look v y (Sizes v) f (λ _. hits v y)) (λ z. same_given look v y (Sizes v) (less x z)))
  filled_holds y (Not c) =
      same_then look v y (Sizes v) (holds look (fill_condition v y c)) (holds look c) (λ b. Gives (not b)) (λ b. Gives (not b)) (filled_holds y c)
      (λ b. record { goes = λ s n. refl; sized = λ s n. n })
  filled_holds y (And c d) =
      same_then look v y (Sizes v) (holds look (fill_condition v y c)) (holds look c) (unless_false (holds look (fill_condition v y d)))
      (unless_false (holds look d)) (filled_holds y c) (λ b. filled_unless_false y (holds look (fill_condition v y d)) (holds look d) (filled_holds y d) b)
  filled_holds y (Or c d) =
      same_then look v y (Sizes v) (holds look (fill_condition v y c)) (holds look c) (unless_true (holds look (fill_condition v y d)))
      (unless_true (holds look d)) (filled_holds y c) (λ b. filled_unless_true y (holds look (fill_condition v y d)) (holds look d) (filled_holds y d) b)

  pub head_same : (y : Value) (p : Statement) → needs_inside v p ≡ false → (s : Session) → v < length s.variables →
      but_for v (run_statement look p (with_variable v y s)) ≡ but_for v (run_statement look (fill_head v y p) s)
  unfolding run_statement
  head_same y (Set w e) h s n = plain_same look v y (Sizes v) (hits v y) (Set w e) refl s n
  head_same y (Put e f lease) h s n = plain_same look v y (Sizes v) (hits v y) (Put e f lease) refl s n
  head_same y (Del e) h s n = plain_same look v y (Sizes v) (hits v y) (Del e) refl s n
  head_same y (Emit e) h s n = plain_same look v y (Sizes v) (hits v y) (Emit e) refl s n
  head_same y (Abort e) h s n = plain_same look v y (Sizes v) (hits v y) (Abort e) refl s n
  head_same y (If c a b) h s n =
      let none = or_none (needs v a) (needs v b) h in
      ap (λ o. but_for v (and_then o (branch (run_block look a) (run_block look b)))) ((filled_holds y c).goes s n)
      ∙ then_unseen (carried look v y (Sizes v) (holds look (fill_condition v y c) s)) (holds look (fill_condition v y c) s)
      (branch (run_block look a) (run_block look b)) (but_for_carried look v y (Sizes v) (holds look (fill_condition v y c) s))
      (branch_unseen (run_block look a) (run_block look b) (block_unseen a none.0) (block_unseen b none.1))
  head_same y (For w e limit body) h s n =
      ap (λ o. but_for v (and_then o (λ x r. and_then (given (turns_of x limit) r) (λ n. repeat w (run_block look body) n 0))))
      ((same_evaluate look v y (Sizes v) e (λ _. hits v y)).goes s n)
      ∙ then_unseen (carried look v y (Sizes v) (evaluate look (fill v y e) s)) (evaluate look (fill v y e) s)
      (λ x r. and_then (given (turns_of x limit) r) (λ n. repeat w (run_block look body) n 0))
      (but_for_carried look v y (Sizes v) (evaluate look (fill v y e) s))
      (λ x a b m. then_unseen (given (turns_of x limit) a) (given (turns_of x limit) b) (λ n. repeat w (run_block look body) n 0)
      (same_unseen (given (turns_of x limit)) (same_given look v zero_value Any (turns_of x limit)) a b m)
      (λ n. repeat_unseen w (run_block look body) (turns_see (nat_eq w v) w refl (needs v body) h body (λ k. block_unseen body k)) n 0))

  pub head_exact : (x : Value) (p : Statement) → sets v p ≡ true → (s : Session) → v < length s.variables →
      but_for_at_stops v (run_statement look p (with_variable v x s)) ≡ but_for_at_stops v (run_statement look (fill_head v x p) s)
  head_exact x p h s n = grind (arith, nat_tests, plain_exact)

  head_goes : (p : Statement) (rest : Block) → needs_inside v p ≡ false → (not (sets v p) && needs v rest) ≡ false → (o : Outcome Value) →
      Sized look v zero_value (Sizes v) o →
      but_for v (and_then o (then_set look v (run_block look (Then p rest))))
      ≡ but_for v (and_then (and_then o (λ x. run_statement look (fill_head v x p))) (λ _. run_block look rest))
  unfolding run_block
  head_goes p rest h k o n = grind (arith, nat_tests, unneeded_behind, then_exact, head_exact, then_unseen, head_same, block_unseen)

pub lifted_before_any : LiftedBeforeAny
lifted_before_any look v key other p rest s n i j h k =
    sym (but_for_all look v (run_block look (lifted v key other (Then p rest)) s))
    ∙ ap (λ o. but_for v o) (lifted_goes look v key other (Then p rest) i j s n)
    ∙ but_for_all look v (and_then (evaluate_else look key other s) (then_set look v (run_block look (Then p rest))))
    ∙ head_goes look v p rest h k (evaluate_else look key other s)
    (sized_then look v (NumberValue (pos 0)) (Sizes v) (evaluate look (Get key) s) (or_else look other) (sized_get look v key i s n)
    (λ x t m. or_else-sized look v other j x t m))

pub lifted_in_front : LiftedInFront
lifted_in_front look v key other p rest s h n i j k =
    sym (but_for_all look v (run_block look (lifted v key other (Then p rest)) s))
    ∙ ap (λ o. but_for v o) (lifted_goes look v key other (Then p rest) i j s n)
    ∙ but_for_all look v (and_then (evaluate_else look key other s) (then_set look v (run_block look (Then p rest))))
    ∙ rest_goes look v p rest h k (evaluate_else look key other s)
    (sized_then look v (NumberValue (pos 0)) (Sizes v) (evaluate look (Get key) s) (or_else look other) (sized_get look v key i s n)
    (λ x t m. or_else-sized look v other j x t m))

pub free_variables_are_unseen : FreeVariablesAreUnseen
free_variables_are_unseen look v b s t h near = block_unseen look v b h s t near
