-- Due leases end one after another as they did, once the revisions below the floor are dropped.
use Rattle.std.proofs.Common.{◌≡◌, inl, inr, ℕ, ◌≤◌, ◌<◌, zero, suc, Bool, true, false, cond, List, [], ◌∷◌, ◌++◌, length, Option, Some, None, refl, sym, ◌∙◌}
use Rattle.std.proofs.Common.{ap, subst, arith, length-append, ◌+◌}
use Rattle.std.specs.Prelude.{nat_lt, IsOk, Result, Ok, Err}
use Rattle.std.specs.FinMap as finmap
use Rattle.std.proofs.lemmas.Bool.{cases_lt, lt-ltb, le-ltb, Decides.nat_tests}
use Rattle.stm_leases.specs.DueFirst.{first_due}
use Rattle.stm_outcome.specs.declared.advance.Expired.{Expired}
use Rattle.stm_outcome.specs.declared.refusal.Refusal.{Refusal}
use Rattle.stm_outcome.specs.declared.refusal.Refusal.TheVariants.{TimeGoesBack}
use Rattle.stm_txn.specs.Standing.{Standing, kept, ended, Advance, after, expired_in, expire_up_to, expire_all, at_moment, advanced, HasCome, IsStopped}
use Rattle.stm_txn.specs.Standing.{IsCutShort}
use Rattle.stm_txn.proofs.Ending.{none_due, one_ended, next_ended}
use Rattle.stm_txn.proofs.Coming.{ComesFirst, comes_first}
use Rattle.stm_compaction.specs.Kept.{kept_end, kept_advance}
use Rattle.stm_compaction.specs.Advanced.{IsCutShortToo, ComesToo}
use Rattle.stm_compaction.proofs.Calls.{HasReached, ended_kept, ended_reaches, counted}

-- what an advance has come to
abbrev come_to : List Expired → Standing → Option Refusal → Advance
come_to expired leaves cause = record { expired = expired; leaves = leaves; cause = cause }

abbrev expired_as : ℕ → ℕ → Expired
expired_as id revision = record { id = id; revision = revision }

-- ---- expiries

ends_by : (more id : ℕ) (s : Standing) → HasReached s → (o : Result Standing Refusal) → first_due s.live s.moment ≡ Some id → ended s id ≡ o →
    ((next : Standing) → HasReached next → expire_up_to more (kept next) ≡ kept_advance (expire_up_to more next)) →
    expire_up_to (suc more) (kept s) ≡ kept_advance (expire_up_to (suc more) s)
ends_by more id s reached (Err cause) due is rest =
    one_ended more id (kept s) (Err cause) due (ended_kept s reached id ∙ ap kept_end is) ∙ sym (ap kept_advance (one_ended more id s (Err cause) due is))
ends_by more id s reached (Ok next) due is rest =
    one_ended more id (kept s) (Ok (kept next)) due (ended_kept s reached id ∙ ap kept_end is)
    ∙ ap (after (expired_in id (kept next) ∷ [])) (rest next (ended_reaches s next id reached is))
    ∙ ap (λ (n : ℕ). after (expired_as id n ∷ []) (kept_advance (expire_up_to more next))) (counted next (ended_reaches s next id reached is))
    ∙ sym (ap kept_advance (one_ended more id s (Ok next) due is))

due_by : (more : ℕ) (s : Standing) → HasReached s → (due : Option ℕ) → first_due s.live s.moment ≡ due →
    ((next : Standing) → HasReached next → expire_up_to more (kept next) ≡ kept_advance (expire_up_to more next)) →
    expire_up_to (suc more) (kept s) ≡ kept_advance (expire_up_to (suc more) s)
due_by more s reached None is rest = none_due (suc more) (kept s) is ∙ sym (ap kept_advance (none_due (suc more) s is))
due_by more s reached (Some id) is rest = ends_by more id s reached (ended s id) is refl rest

pub expiries_kept : (many : ℕ) (s : Standing) → HasReached s → expire_up_to many (kept s) ≡ kept_advance (expire_up_to many s)
expiries_kept zero s reached = refl
expiries_kept (suc more) s reached = due_by more s reached (first_due s.live s.moment) refl (λ next still. expiries_kept more next still)

pub all_kept : (s : Standing) → HasReached s → expire_all (kept s) ≡ kept_advance (expire_all s)
all_kept s reached = expiries_kept (finmap.len s.live) s reached

pub advanced_kept : (s : Standing) → HasReached s → (moment : ℕ) → advanced (kept s) moment ≡ kept_advance (advanced s moment)
advanced_kept s reached moment = by_test (nat_lt moment s.moment)
  where
    by_test : (b : Bool) → cond b (come_to [] (kept s) (Some TimeGoesBack)) (expire_all (at_moment (kept s) moment))
        ≡ kept_advance (cond b (come_to [] s (Some TimeGoesBack)) (expire_all (at_moment s moment)))
    by_test true = refl
    by_test false = all_kept (at_moment s moment) reached

-- ---- the floor stays reached

reach_ends : (more id : ℕ) (s : Standing) → HasReached s → (o : Result Standing Refusal) → first_due s.live s.moment ≡ Some id → ended s id ≡ o →
    ((next : Standing) → HasReached next → HasReached (expire_up_to more next).leaves) → HasReached (expire_up_to (suc more) s).leaves
reach_ends more id s reached o due is rest = grind (arith, nat_tests, HasReached, one_ended, ended_reaches)

reach_due : (more : ℕ) (s : Standing) → HasReached s → (due : Option ℕ) → first_due s.live s.moment ≡ due →
    ((next : Standing) → HasReached next → HasReached (expire_up_to more next).leaves) → HasReached (expire_up_to (suc more) s).leaves
reach_due more s reached due is rest = grind (arith, nat_tests, HasReached, none_due, reach_ends)

expiries_reach : (many : ℕ) (s : Standing) → HasReached s → HasReached (expire_up_to many s).leaves
expiries_reach zero s reached = reached
expiries_reach (suc more) s reached = reach_due more s reached (first_due s.live s.moment) refl (λ next still. expiries_reach more next still)

-- ---- from what a store without those revisions has come to, to what the whole one has

record CameTo (s : Standing) (expired : List Expired) (left : Standing) : Type 0 where
  whole : Standing
  reached : HasReached whole
  leaves : kept whole ≡ left
  come : HasCome s expired whole

came_to : (s : Standing) → HasReached s → (expired : List Expired) (left : Standing) → HasCome (kept s) expired left → CameTo s expired left
came_to s reached expired left come =
    let a : Advance = expire_up_to (length expired) s in
    let same : kept_advance a ≡ come_to expired left None = sym (expiries_kept (length expired) s reached) ∙ come in
    let expiries : a.expired ≡ expired = ap (λ (x : Advance). x.expired) same in
    let cause : a.cause ≡ None = ap (λ (x : Advance). x.cause) same in
    record {
      whole = a.leaves;
      reached = expiries_reach (length expired) s reached;
      leaves = ap (λ (x : Advance). x.leaves) same;
      come = λ i. record { expired = expiries i; leaves = a.leaves; cause = cause i };
    }

front_due : (more : ℕ) (s : Standing) (due : Option ℕ) → first_due s.live s.moment ≡ due →
    ((next : Standing) → (expire_up_to (length (expire_up_to more next).expired) next).leaves ≡ (expire_up_to more next).leaves) →
    (expire_up_to (length (expire_up_to (suc more) s).expired) s).leaves ≡ (expire_up_to (suc more) s).leaves
front_due more s due is rest = grind (arith, nat_tests, none_due, one_ended)

front_leaves : (many : ℕ) (s : Standing) → (expire_up_to (length (expire_up_to many s).expired) s).leaves ≡ (expire_up_to many s).leaves
front_leaves zero s = refl
front_leaves (suc more) s = front_due more s (first_due s.live s.moment) refl (λ next. front_leaves more next)

-- what is still to come follows what has come
rest_follows : (s whole : Standing) (expired : List Expired) → HasCome s expired whole → expire_all s ≡ after expired (expire_all whole)
rest_follows s whole [] come = ap (λ (a : Advance). expire_all a.leaves) come
rest_follows s whole (e ∷ es) come =
    let one : ComesFirst s e es whole = comes_first s e es whole come in
    next_ended s one.next one.id one.due one.is
    ∙ ap (after (expired_in one.id one.next ∷ [])) (rest_follows one.next whole es one.rest)
    ∙ ap (λ (x : Expired). after (x ∷ es) (expire_all whole)) one.named

can_end_too : (o : Result Standing Refusal) → IsOk (kept_end o) → IsOk o
can_end_too o is = grind (arith, nat_tests)

forward : (s : Standing) (moment : ℕ) → s.moment ≤ moment → advanced s moment ≡ expire_all (at_moment s moment)
forward s moment on = ap (λ b. cond b (come_to [] s (Some TimeGoesBack)) (expire_all (at_moment s moment))) (le-ltb moment s.moment on)

backward : (s : Standing) (moment : ℕ) → moment < s.moment → advanced s moment ≡ come_to [] s (Some TimeGoesBack)
backward s moment back = ap (λ b. cond b (come_to [] s (Some TimeGoesBack)) (expire_all (at_moment s moment))) (lt-ltb moment s.moment back)

module _ (s : Standing) (reached : HasReached s) (moment : ℕ) (expired : List Expired) (left : Standing) where
  -- where all that expired left the kept store so, as much of the whole one's left that store
  whole_leaves : (c : CameTo (at_moment s moment) expired left) (cause : Option Refusal) →
      kept_advance (expire_all (at_moment s moment)) ≡ come_to expired left cause → expire_all (at_moment s moment) ≡ come_to expired c.whole cause
  whole_leaves c cause same = grind (arith, nat_tests, front_leaves)

  whole_stopped : (c : CameTo (at_moment s moment) expired left) (whole : Advance) → IsStopped whole expired left →
      IsStopped (expire_all (at_moment s moment)) expired c.whole
  whole_stopped c whole stopped = record {
    so_far = rest_follows (at_moment s moment) c.whole expired c.come;
    id = stopped.id;
    is_next = ap (λ (x : Standing). first_due x.live x.moment) c.leaves ∙ stopped.is_next;
    can_end = can_end_too (ended c.whole stopped.id)
        (subst (λ (o : Result Standing Refusal). IsOk o)
        (ap (λ (x : Standing). ended x stopped.id) (sym c.leaves) ∙ ended_kept c.whole c.reached stopped.id) stopped.can_end);
  }

  whole_cut : (c : CameTo (at_moment s moment) expired left) (cause : Refusal) → s.moment ≤ moment →
      IsCutShort (advanced (kept s) moment) expired cause left → IsCutShort (advanced s moment) expired cause c.whole
  whole_cut c cause on (inl is) =
      inl (forward s moment on
      ∙ whole_leaves c (Some cause) (ap kept_advance (sym (forward s moment on)) ∙ sym (advanced_kept s reached moment) ∙ is))
  whole_cut c cause on (inr stopped) = inr (
    stopped.0,
    subst (λ (a : Advance). IsStopped a expired c.whole) (sym (forward s moment on)) (whole_stopped c (advanced (kept s) moment) stopped.1),
  )

  -- an advance that went back expired nothing
  never_stopped : (o : Result Standing Refusal) (id : ℕ) → first_due left.live left.moment ≡ Some id → ended left id ≡ o → IsOk o →
      come_to [] (kept s) (Some TimeGoesBack) ≡ after expired (expire_all left) → ⊥
  never_stopped (Err cause) id due is can so_far = absurd (cc)
  never_stopped (Ok next) id due is can so_far =
      let whole : come_to [] (kept s) (Some TimeGoesBack) ≡ after expired (after (expired_in id next ∷ []) (expire_all next)) =
      so_far ∙ ap (after expired) (next_ended left next id due is) in
      let count : 0 ≡ length (expired ++ expired_in id next ∷ (expire_all next).expired) = ap (λ (a : Advance). length a.expired) whole in
      let sum : length (expired ++ expired_in id next ∷ (expire_all next).expired) ≡ length expired + suc (length (expire_all next).expired) =
      length-append expired (expired_in id next ∷ (expire_all next).expired) in
      omega (arith, count, sum)

  went_back : (cause : Refusal) → moment < s.moment → IsCutShort (advanced (kept s) moment) expired cause left →
      come_to [] (kept s) (Some TimeGoesBack) ≡ come_to expired left (Some cause)
  went_back cause back h3 = grind (arith, nat_tests, backward, never_stopped)

  pub cut_short_too : (cause : Refusal) → (s.moment ≤ moment → HasCome (at_moment (kept s) moment) expired left) →
      IsCutShort (advanced (kept s) moment) expired cause left → IsCutShortToo s moment expired cause left
  cut_short_too cause come cut = elim (cases_lt moment s.moment) [
    | inl back ↦
        let same : come_to [] (kept s) (Some TimeGoesBack) ≡ come_to expired left (Some cause) = went_back cause back cut in
        let expiries : [] ≡ expired = ap (λ (a : Advance). a.expired) same in
        let reported : Some TimeGoesBack ≡ Some cause = ap (λ (a : Advance). a.cause) same in
        record {
          whole = s;
          leaves = ap (λ (a : Advance). a.leaves) same;
          come = λ on. absurd (omega (arith, back, on));
          cut_short = inl (backward s moment back ∙ λ i. record { expired = expiries i; leaves = s; cause = reported i });
        }
    | inr on ↦
        let c : CameTo (at_moment s moment) expired left = came_to (at_moment s moment) reached expired left (come on) in
        record { whole = c.whole; leaves = c.leaves; come = λ again. c.come; cut_short = whole_cut c cause on cut }
  ]

  -- an advance that ended all that is due
  pub comes_too : advanced (kept s) moment ≡ come_to expired left None → HasCome (at_moment (kept s) moment) expired left → ComesToo s moment expired left
  comes_too is come = elim (cases_lt moment s.moment) [
    | inl back ↦
        let never : Some TimeGoesBack ≡ None = ap (λ (a : Advance). a.cause) (sym (backward (kept s) moment back) ∙ is) in
        absurd (cc)
    | inr on ↦
        let c : CameTo (at_moment s moment) expired left = came_to (at_moment s moment) reached expired left come in
        record {
          whole = c.whole;
          leaves = c.leaves;
          come = c.come;
          is = forward s moment on
              ∙ whole_leaves c None (ap kept_advance (sym (forward s moment on)) ∙ sym (advanced_kept s reached moment) ∙ is);
        }
  ]
