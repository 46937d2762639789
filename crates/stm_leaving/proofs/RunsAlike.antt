-- The program that is made of a source runs as the source does.
use Rattle.std.proofs.Common.{◌≡◌, ℕ, suc, zero, Bool, true, ◌&&◌, refl, sym, ◌∙◌, ap, arith}
use Rattle.std.specs.Prelude.{if◌then◌else◌}
use Rattle.std.proofs.lemmas.Bool.{and_parts, Decides.nat_tests}
use Rattle.stm_program.specs.Syntax.{Block, If, End, Then}
use Rattle.stm_steps.specs.declared.value.Value.{Value}
use Rattle.stm_steps.specs.Answer.{Lookup}
use Rattle.stm_steps.specs.Values.{turns_of}
use Rattle.stm_steps.specs.Session.{Session, fresh}
use Rattle.stm_steps.specs.Outcome.{Outcome, Gives, Stops, and_then, given, begin_turn}
use Rattle.stm_steps.specs.Meaning.{evaluate, holds, branch, repeat, run_statement, run_block, answered, run_over}
use Rattle.stm_leaving.specs.Source.{Source, Sources, Copies, Plain, Choice, Items, Count, Return, Break, Continue, Nil, Next, NoCopy, Copy}
use Rattle.stm_leaving.specs.Source.{Way, GoesOn, Returns, Breaks, Continues, in_copies}
use Rattle.stm_leaving.specs.declared.ways.Ways.{Ways}
use Rattle.stm_leaving.specs.Leaving.{goes_on, continues_only, keeps_to, keeps_to_one, keep_to}
use Rattle.stm_leaving.specs.Running.{then_on, after_turn, one_of, run_turns, run_source, run_one, run_copies}
use Rattle.stm_leaving.specs.declared.follow.Follow.{Follow}
use Rattle.stm_leaving.specs.Closed.{nothing, with_next, copy_follow, one_behind, is_abort, behind, closed, closed_one, closed_copies}
use Rattle.stm_leaving.specs.LeavingLaw.{done, Only, ClosedRunsAlike, RunsOverAlike}

-- ---- outcomes ----

same_then : {X Y : Type 0} (o : Outcome X) (f g : X → Session → Outcome Y) → ((x : X) (t : Session) → f x t ≡ g x t) → and_then o f ≡ and_then o g
same_then o f g h = grind (arith, nat_tests)

then_then : {X Y Z : Type 0} (o : Outcome X) (f : X → Session → Outcome Y) (g : Y → Session → Outcome Z) →
    and_then (and_then o f) g ≡ and_then o (λ x t. and_then (f x t) g)
then_then o f g = grind (arith, nat_tests)

-- ---- ways ----

only_then : (ways : Ways) (o : Outcome Way) (f : Session → Outcome Way) → Only ways o → ((t : Session) → Only ways (f t)) → Only ways (and_then o (then_on f))
only_then ways o f h more = grind (arith, nat_tests)

only_after : (ways : Ways) (o : Outcome Way) (f : Session → Outcome Way) → Only (in_copies ways) o → ((t : Session) → Only ways (f t)) →
    Only ways (and_then o (after_turn f))
only_after ways o f h more = grind (arith, nat_tests)

only_turn : (ways : Ways) (o : Outcome Way) (f : Session → Outcome Way) → Only continues_only o → ((t : Session) → Only ways (f t)) →
    Only ways (and_then o (after_turn f))
only_turn ways o f h more = grind (arith, nat_tests)

only_more : {X : Type 0} (ways : Ways) (o : Outcome X) (f : X → Session → Outcome Way) → ((x : X) (t : Session) → Only ways (f x t)) → Only ways (and_then o f)
only_more ways o f h = grind (arith, nat_tests)

only_one_of : (ways : Ways) (a b : Session → Outcome Way) → ((t : Session) → Only ways (a t)) → ((t : Session) → Only ways (b t)) → (x : Bool) (t : Session) →
    Only ways (one_of a b x t)
only_one_of ways a b first second x t = grind (arith, nat_tests)

only_turns : (ways : Ways) (v : ℕ) (body : Session → Outcome Way) → ((t : Session) → Only continues_only (body t)) → (left i : ℕ) (s : Session) →
    Only ways (run_turns v body left i s)
unfolding run_turns
only_turns ways v body h zero i s = refl
only_turns ways v body h (suc left) i s = grind (arith, nat_tests, only_more, only_turn, only_turns ways v body h left (suc i))

module _ (look : Lookup) where
  mutual
    unfolding keeps_to run_source

    only_source : (ways : Ways) (p : Sources) → keeps_to ways p ≡ true → (s : Session) → Only ways (run_source look p s)
    only_source ways Nil h s = refl
    only_source ways (Next first rest) h s =
        let both = and_parts (keeps_to_one ways first) (keeps_to ways rest) h in
        only_then ways (run_one look first s) (run_source look rest) (only_one ways first both.0 s) (only_source ways rest both.1)

    only_one : (ways : Ways) (q : Source) → keeps_to_one ways q ≡ true → (s : Session) → Only ways (run_one look q s)
    only_one ways (Plain p) h s = only_more ways (run_statement look p s) (λ _. Gives GoesOn) (λ _ t. refl)
    only_one ways (Choice c a b) h s =
        let both = and_parts (keeps_to ways a) (keeps_to ways b) h in
        only_more ways (holds look c s) (one_of (run_source look a) (run_source look b))
        (only_one_of ways (run_source look a) (run_source look b) (only_source ways a both.0) (only_source ways b both.1))
    only_one ways (Items cs) h s = only_copies ways cs h s
    only_one ways (Count v e limit body) h s =
        only_more ways (evaluate look e s) (λ x t. and_then (given (turns_of x limit) t) (λ n. run_turns v (run_source look body) n 0))
        (λ x t. only_more ways (given (turns_of x limit) t) (λ n. run_turns v (run_source look body) n 0)
        (λ n u. only_turns ways v (run_source look body) (only_source continues_only body h) n 0 u))
    only_one ways Return h s = h
    only_one ways Break h s = h
    only_one ways Continue h s = h

    only_copies : (ways : Ways) (cs : Copies) → keep_to (in_copies ways) cs ≡ true → (s : Session) → Only ways (run_copies look cs s)
    only_copies ways NoCopy h s = refl
    only_copies ways (Copy c cs) h s =
        let both = and_parts (keeps_to (in_copies ways) c) (keep_to (in_copies ways) cs) h in
        only_after ways (run_source look c s) (run_copies look cs) (only_source (in_copies ways) c both.0 s) (only_copies ways cs both.1)

  -- ---- what follows ----

  -- where a part has been left, the run is that of what follows
  abbrev then_by : Follow → Way → Session → Outcome (Unit {0})
  then_by k GoesOn s = run_block look k.next s
  then_by k Returns s = Gives tt s
  then_by k Breaks s = run_block look k.broken s
  then_by k Continues s = run_block look k.continued s

  ends_nothing : (w : Way) (t : Session) → then_by nothing w t ≡ Gives tt t
  unfolding run_block
  ends_nothing w t = grind (arith, nat_tests)

  only_next : (k : Follow) (o : Outcome Way) → Only goes_on o → and_then o (λ _ t. run_block look k.next t) ≡ and_then o (then_by k)
  only_next k o h = grind (arith, nat_tests)

  run_behind : (a b : Block) (s : Session) → run_block look (one_behind a b) s ≡ and_then (run_block look a s) (λ _. run_block look b)
  unfolding run_block
  run_behind End b s = refl
  run_behind (Then first rest) b s =
      same_then (run_statement look first s) (λ _. run_block look (one_behind rest b)) (λ _ t. and_then (run_block look rest t) (λ _. run_block look b))
      (λ _ t. run_behind rest b t) ∙ sym (then_then (run_statement look first s) (λ _. run_block look rest) (λ _. run_block look b))

  -- what is the same as a part that only goes on, and then what follows
  kept_then : (k : Follow) (p : Outcome (Unit {0})) (o : Outcome Way) → p ≡ and_then o (then_by nothing) → Only goes_on o →
      and_then p (λ _. run_block look k.next) ≡ and_then o (then_by k)
  kept_then k p o e h =
      ap (λ q. and_then q (λ _. run_block look k.next)) e ∙ then_then o (then_by nothing) (λ _. run_block look k.next)
      ∙ same_then o (λ w t. and_then (then_by nothing w t) (λ _. run_block look k.next)) (λ _. run_block look k.next)
      (λ w t. ap (λ q. and_then q (λ _. run_block look k.next)) (ends_nothing w t)) ∙ only_next k o h

  -- ---- statements ----

  abbrev Halts : {X : Type 0} → Outcome X → Type 0
  Halts (Gives x s) = ⊥
  Halts (Stops stop s) = Unit {0}

  one_halts : (q : Source) → is_abort q ≡ true → (s : Session) → Halts (run_one look q s)
  unfolding run_statement run_one
  one_halts q h s = grind (arith, nat_tests)

  then_step : (x : Bool) (k : Follow) (o : Outcome Way) (rest : Follow → Block) (f : Session → Outcome Way) → (x ≡ true → Halts o) →
      ((t : Session) → run_block look (rest k) t ≡ and_then (f t) (then_by k)) →
      and_then o (then_by (with_next k (rest (if x then nothing else k)))) ≡ and_then (and_then o (then_on f)) (then_by k)
  then_step x k o rest f halts h = grind (arith, nat_tests)

  if_kept : (k : Follow) (o : Outcome Bool) (a b : Block) (f g : Session → Outcome Way) →
      ((t : Session) → run_block look a t ≡ and_then (f t) (then_by nothing)) → ((t : Session) → run_block look b t ≡ and_then (g t) (then_by nothing)) →
      ((t : Session) → Only goes_on (f t)) → ((t : Session) → Only goes_on (g t)) →
      and_then (and_then o (branch (run_block look a) (run_block look b))) (λ _. run_block look k.next) ≡ and_then (and_then o (one_of f g)) (then_by k)
  if_kept k o a b f g first second h i = grind (arith, nat_tests, kept_then)

  if_left : (k : Follow) (o : Outcome Bool) (a b : Block) (f g : Session → Outcome Way) →
      ((t : Session) → run_block look a t ≡ and_then (f t) (then_by k)) → ((t : Session) → run_block look b t ≡ and_then (g t) (then_by k)) →
      and_then (and_then o (branch (run_block look a) (run_block look b))) (λ _ t. Gives tt t) ≡ and_then (and_then o (one_of f g)) (then_by k)
  if_left k o a b f g first second = grind (arith, nat_tests)

  copy_step : (k : Follow) (more : Block) (o : Outcome Way) (f : Session → Outcome Way) →
      ((t : Session) → run_block look more t ≡ and_then (f t) (then_by k)) →
      and_then o (then_by (copy_follow more k.next)) ≡ and_then (and_then o (after_turn f)) (then_by k)
  copy_step k more o f h = grind (arith, nat_tests)

  turn_over : (k : Follow) (o : Outcome Way) (more : Session → Outcome (Unit {0})) (f : Session → Outcome Way) → Only continues_only o →
      ((t : Session) → and_then (more t) (λ _. run_block look k.next) ≡ and_then (f t) (then_by k)) →
      and_then (and_then (done o) (λ _. more)) (λ _. run_block look k.next) ≡ and_then (and_then o (after_turn f)) (then_by k)
  turn_over k o more f h i = grind (arith, nat_tests)

  turns_closed : (k : Follow) (v : ℕ) (g : Session → Outcome (Unit {0})) (f : Session → Outcome Way) → ((t : Session) → g t ≡ and_then (f t) (then_by nothing)) →
      ((t : Session) → Only continues_only (f t)) → (left i : ℕ) (s : Session) →
      and_then (repeat v g left i s) (λ _. run_block look k.next) ≡ and_then (run_turns v f left i s) (then_by k)
  unfolding repeat run_turns
  turns_closed k v g f e h zero i s = refl
  turns_closed k v g f e h (suc left) i s =
      then_then (begin_turn v i s) (λ _ t. and_then (g t) (λ _. repeat v g left (suc i))) (λ _. run_block look k.next)
      ∙ same_then (begin_turn v i s) (λ _ t. and_then (and_then (g t) (λ _. repeat v g left (suc i))) (λ _. run_block look k.next))
      (λ _ t. and_then (and_then (f t) (after_turn (run_turns v f left (suc i)))) (then_by k))
      (λ _ t. ap (λ q. and_then (and_then q (λ _. repeat v g left (suc i))) (λ _. run_block look k.next))
      (e t ∙ same_then (f t) (then_by nothing) (λ _. Gives tt) ends_nothing)
      ∙ turn_over k (f t) (repeat v g left (suc i)) (run_turns v f left (suc i)) (h t) (λ u. turns_closed k v g f e h left (suc i) u))
      ∙ sym (then_then (begin_turn v i s) (λ _ t. and_then (f t) (after_turn (run_turns v f left (suc i)))) (then_by k))

  for_closed : (k : Follow) (v limit : ℕ) (o : Outcome Value) (g : Session → Outcome (Unit {0})) (f : Session → Outcome Way) →
      ((t : Session) → g t ≡ and_then (f t) (then_by nothing)) → ((t : Session) → Only continues_only (f t)) →
      and_then (and_then o (λ x t. and_then (given (turns_of x limit) t) (λ n. repeat v g n 0))) (λ _. run_block look k.next)
      ≡ and_then (and_then o (λ x t. and_then (given (turns_of x limit) t) (λ n. run_turns v f n 0))) (then_by k)
  for_closed k v limit o g f e h = grind (arith, nat_tests, then_then, same_then, turns_closed)

  -- ---- sources ----

  by_test : (P : Block → Type 0) (x : Bool) (a b : Block) → (x ≡ true → P a) → P b → P (if x then a else b)
  by_test P x a b h i = grind (arith, nat_tests)

  mutual
    unfolding run_source run_statement keeps_to closed

    closes : (ways : Ways) (p : Sources) (k : Follow) → keeps_to ways p ≡ true → (s : Session) →
        run_block look (closed p k) s ≡ and_then (run_source look p s) (then_by k)
    closes ways Nil k h s = refl
    closes ways (Next first rest) k h s =
        let both = and_parts (keeps_to_one ways first) (keeps_to ways rest) h in
        closes_one ways first (with_next k (closed rest (behind first k))) both.0 s
        ∙ then_step (is_abort first) k (run_one look first s) (closed rest) (run_source look rest) (λ e. one_halts first e s) (closes ways rest k both.1)

    closes_one : (ways : Ways) (q : Source) (k : Follow) → keeps_to_one ways q ≡ true → (s : Session) →
        run_block look (closed_one q k) s ≡ and_then (run_one look q s) (then_by k)
    closes_one ways (Plain p) k h s = sym (then_then (run_statement look p s) (λ _. Gives GoesOn) (then_by k))
    closes_one ways (Choice c a b) k h s =
        let both = and_parts (keeps_to ways a) (keeps_to ways b) h in
        by_test (λ (block : Block). run_block look block s ≡ and_then (run_one look (Choice c a b) s) (then_by k)) (keeps_to goes_on a && keeps_to goes_on b)
        (Then (If c (closed a nothing) (closed b nothing)) k.next) (Then (If c (closed a k) (closed b k)) End)
        (λ e. let each = and_parts (keeps_to goes_on a) (keeps_to goes_on b) e in
        if_kept k (holds look c s) (closed a nothing) (closed b nothing) (run_source look a) (run_source look b) (closes goes_on a nothing each.0)
        (closes goes_on b nothing each.1) (only_source goes_on a each.0) (only_source goes_on b each.1))
        (if_left k (holds look c s) (closed a k) (closed b k) (run_source look a) (run_source look b) (closes ways a k both.0) (closes ways b k both.1))
    closes_one ways (Items cs) k h s =
        by_test (λ (block : Block). run_block look block s ≡ and_then (run_one look (Items cs) s) (then_by k)) (keep_to (in_copies goes_on) cs)
        (one_behind (closed_copies cs End) k.next) (closed_copies cs k.next)
        (λ e. run_behind (closed_copies cs End) k.next s
        ∙ kept_then k (run_block look (closed_copies cs End) s) (run_copies look cs s) (closes_copies goes_on cs nothing e s) (only_copies goes_on cs e s))
        (closes_copies ways cs k h s)
    closes_one ways (Count v e limit body) k h s =
        for_closed k v limit (evaluate look e s) (run_block look (closed body nothing)) (run_source look body) (closes continues_only body nothing h)
        (only_source continues_only body h)
    closes_one ways Return k h s = refl
    closes_one ways Break k h s = refl
    closes_one ways Continue k h s = refl

    closes_copies : (ways : Ways) (cs : Copies) (k : Follow) → keep_to (in_copies ways) cs ≡ true → (s : Session) →
        run_block look (closed_copies cs k.next) s ≡ and_then (run_copies look cs s) (then_by k)
    closes_copies ways NoCopy k h s = refl
    closes_copies ways (Copy c cs) k h s =
        let both = and_parts (keeps_to (in_copies ways) c) (keep_to (in_copies ways) cs) h in
        closes (in_copies ways) c (copy_follow (closed_copies cs k.next) k.next) both.0 s
        ∙ copy_step k (closed_copies cs k.next) (run_source look c s) (run_copies look cs) (closes_copies ways cs k both.1)

pub closed_runs_alike : ClosedRunsAlike
closed_runs_alike look statements s h = grind (arith, nat_tests, closes, same_then, ends_nothing, only_source)

pub runs_over_alike : RunsOverAlike
unfolding run_over
runs_over_alike look statements h = ap (λ o. answered o) (closed_runs_alike look statements fresh h).0
