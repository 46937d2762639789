-- An advance ends due leases one after another, until none is due or one can't end.
use Rattle.std.proofs.Common.{◌≡◌, ℕ, ◌≤◌, zero, suc, Option, Some, None, refl, sym, subst, arith}
use Rattle.std.specs.Prelude.{Result, Ok, Err}
use Rattle.std.specs.FinMap as finmap
use Rattle.std.proofs.lemmas.Bool.{le-ltb, Decides.nat_tests}
use Rattle.stm_leases.specs.DueFirst.{first_due}
use Rattle.stm_leases.proofs.DueLaws.{first_due_is_next}
use Rattle.stm_outcome.specs.declared.refusal.Refusal.{Refusal}
use Rattle.stm_txn.specs.Standing.{Standing, ended, Advance, expire_all, at_moment, advanced}
use Rattle.stm_txn.specs.Advances.{Expiries, none, more, StopsFor, AdvanceExpires}
use Rattle.stm_txn.proofs.Ending.{done, next_ended, next_refused, ended_fewer}

-- what an advance from a store on expires, and why it stops
record Runs (s : Standing) (a : Advance) : Type 0 where
  expiries : Expiries s a.expired a.leaves
  stops : StopsFor a.cause a.leaves

no_step : (s : Standing) → first_due s.live s.moment ≡ None → Runs s (expire_all s)
no_step s is = subst (Runs s) (sym (done s is)) (record { expiries = none s; stops = (first_due_is_next.none s.live s.moment).0 is })

last_step : (s : Standing) (id : ℕ) (cause : Refusal) → first_due s.live s.moment ≡ Some id → ended s id ≡ Err cause → Runs s (expire_all s)
last_step s id cause due is =
    subst (Runs s) (sym (next_refused s id cause due is))
    (record { expiries = none s; stops = (id, (first_due_is_next.next s.live s.moment id).0 due, is) })

one_step : (s next : Standing) (id : ℕ) → first_due s.live s.moment ≡ Some id → ended s id ≡ Ok next → Runs next (expire_all next) → Runs s (expire_all s)
one_step s next id due is rest =
    subst (Runs s) (sym (next_ended s next id due is))
    (record {
      expiries = more s next (expire_all next).leaves id (expire_all next).expired ((first_due_is_next.next s.live s.moment id).0 due) is rest.expiries;
      stops = rest.stops;
    })

by_outcome : (s : Standing) (id : ℕ) (outcome : Result Standing Refusal) → first_due s.live s.moment ≡ Some id → ended s id ≡ outcome →
    ((next : Standing) → ended s id ≡ Ok next → Runs next (expire_all next)) → Runs s (expire_all s)
by_outcome s id (Ok next) due is rest = one_step s next id due is (rest next is)
by_outcome s id (Err cause) due is rest = last_step s id cause due is

by_due : (s : Standing) (first : Option ℕ) → first_due s.live s.moment ≡ first →
    ((id : ℕ) (next : Standing) → first_due s.live s.moment ≡ Some id → ended s id ≡ Ok next → Runs next (expire_all next)) → Runs s (expire_all s)
by_due s None due rest = no_step s due
by_due s (Some id) due rest = by_outcome s id (ended s id) due refl (λ next is. rest id next due is)

runs : (n : ℕ) (s : Standing) → finmap.len s.live ≡ n → Runs s (expire_all s)
runs zero s count =
    by_due s (first_due s.live s.moment) refl
    (λ id next due is. let fewer : finmap.len s.live ≡ suc (finmap.len next.live) = ended_fewer s next id due is in absurd (omega arith))
runs (suc n) s count =
    by_due s (first_due s.live s.moment) refl
    (λ id next due is. runs n next (let fewer : finmap.len s.live ≡ suc (finmap.len next.live) = ended_fewer s next id due is in omega arith))

forward : (s : Standing) (moment : ℕ) → s.moment ≤ moment → expire_all (at_moment s moment) ≡ advanced s moment
forward s moment above = grind (arith, nat_tests, le-ltb)

pub advance_expires : AdvanceExpires
advance_expires s moment above =
    let whole : Runs (at_moment s moment) (advanced s moment) =
    subst (Runs (at_moment s moment)) (forward s moment above) (runs (finmap.len s.live) (at_moment s moment) refl) in
    record { expiries = whole.expiries; stops = whole.stops }
