-- How each change of the table keeps the tournament in time with it, and what its first is.
use Rattle.std.proofs.Common.{◌≡◌, ◌≢◌, ◌⊎◌, ℕ, ◌+◌, ◌<◌, ◌≤◌, true, false, cond, nat_eq, is_some, List, String, Option, Some, None, option_map}
use Rattle.std.proofs.Common.{refl, sym, ap, ◌∙◌, inl, inr, arith}
use Rattle.std.proofs.lemmas.Bool.{cases_eq, cases_lt, eqb-true, eqb-false, eq-eqb, ne_eqb, ltb-false, Decides.nat_tests}
use Rattle.std.proofs.lemmas.Option.{same_Some}
use Rattle.std.specs.FinMap as finmap
use Rattle.std.specs.Prelude.{Result, OnOk, is_err}
use Rattle.std.specs.declared.alloc.AllocError.{AllocError}
use Rattle.indexmap.specs.IndexMap.{IndexMap, get}
use Rattle.stm_lists.specs.Lists.{Lists, list_at, HasList}
use Rattle.stm_leases.specs.LeaseLog.{Term, due}
use Rattle.stm_leases.specs.Live.{Live}
use Rattle.stm_leases.specs.DueFirst.{NoneIsDue, IsNextDue}
use Rattle.stm_leases.specs.declared.lease.Attachment.{Attachment}
use Rattle.stm_leases.specs.declared.lease.Lease.{Lease}
use Rattle.stm_leases.specs.declared.tournament.DueAt.{DueAt}
use Rattle.stm_leases.specs.declared.tournament.Tournament.{Tournament}
use Rattle.stm_leases.specs.Due.{due_in, IsTimed}
use Rattle.stm_leases.specs.Kept.{term_in, list_in, AreInStep}
use Rattle.stm_leases.specs.Tournament.{IsPlayed, Leads, slot_of}

-- what a slot says of a lease
pub record Says (id : ℕ) (lease : Lease) (d : DueAt) : Type 0 where
  pub same_id : d.id ≡ id
  pub moment : d.moment ≡ lease.renewed + lease.ttl

-- the entry of a lease
abbrev entry_of : ℕ → Lease → DueAt
entry_of id lease = record { moment = lease.renewed + lease.ttl; id = id }

says : (id : ℕ) (lease : Lease) (d : DueAt) → due_in id lease ≡ Some d → Says id lease d
says id lease d is = grind (arith, nat_tests, same_Some)

said : (id : ℕ) (lease : Lease) → lease.renewed + lease.ttl < 18446744073709551616
    → due_in id lease ≡ Some (record { moment = lease.renewed + lease.ttl; id = id })
said id lease fits = grind (arith, nat_tests, ltb-false)

-- when the lease that a change leaves at an id falls due
abbrev pub due_left : ℕ → Option Lease → Option DueAt
due_left id None = None
due_left id (Some lease) = due_in id lease

-- a change of the table at one id, and of the slot of that id's list
pub retimed : (table new : ℕ → Option Lease) (before after : Tournament) (id slot : ℕ) (left : Option Lease) →
    IsTimed table before → IsPlayed after → slot < after.slots → before.slots ≤ after.slots →
    ((q : ℕ) → new q ≡ cond (nat_eq id q) left (table q)) → ((lease : Lease) → left ≡ Some lease → lease.keys ≡ slot) →
    slot_of after slot ≡ due_left id left → ((other : ℕ) → other ≢ slot → slot_of after other ≡ slot_of before other) →
    ((q : ℕ) (lease : Lease) → table q ≡ Some lease → (lease.keys ≡ slot → id ≡ q) × (id ≡ q → lease.keys ≡ slot)) → IsTimed new after
retimed table new before after id slot left timed played fits more updates mine written kept apart =
    grind (arith, nat_tests, cases_eq, eqb-true, eqb-false, says, eq-eqb, ne_eqb)

-- the same slots of the same leases
pub still_timed : (table : ℕ → Option Lease) (before after : Tournament) → IsTimed table before → IsPlayed after → before.slots ≤ after.slots →
    ((other : ℕ) → slot_of after other ≡ slot_of before other) → IsTimed table after
still_timed table before after timed played more kept = grind (arith, nat_tests)

-- the same slots of a table that has the same leases
pub same_timed : (table new : ℕ → Option Lease) (due : Tournament) → ((id : ℕ) → new id ≡ table id) → IsTimed table due → IsTimed new due
same_timed table new due same timed = grind (arith, nat_tests)

-- what holds on success holds where the call did not fail
pub on_ok : {P : Type 0} (r : Result (Unit {0}) AllocError) → OnOk r P → is_err r ≡ false → P
on_ok r holds well = grind (arith, nat_tests)

-- the slot of a live lease is its own
pub own_slot : {A S : Type 0} (leases : IndexMap ℕ Lease S) (place_of : List ℕ → Option Attachment) (keys : Lists (String A)) (id : ℕ) (was : Lease) →
    AreInStep (list_in leases) place_of keys → get nat_eq leases id ≡ Some was →
    (q : ℕ) (lease : Lease) → get nat_eq leases q ≡ Some lease → (lease.keys ≡ was.keys → id ≡ q) × (id ≡ q → lease.keys ≡ was.keys)
own_slot leases place_of keys id was in_step found q lease is = (
  λ same. in_step.own id q was.keys (ap (option_map (λ (l : Lease). l.keys)) found) (ap (option_map (λ (l : Lease). l.keys)) is ∙ ap Some same),
  λ same. ap (λ (l : Lease). l.keys) (same_Some lease was (sym is ∙ ap (get nat_eq leases) (sym same) ∙ found)),
)

-- the slot of a list that was just made is no lease's
pub fresh_slot : {A S : Type 0} (leases : IndexMap ℕ Lease S) (place_of : List ℕ → Option Attachment) (keys : Lists (String A)) (id list : ℕ) →
    AreInStep (list_in leases) place_of keys → is_some (get nat_eq leases id) ≡ false → list_at keys list ≡ None →
    (q : ℕ) (lease : Lease) → get nat_eq leases q ≡ Some lease → (lease.keys ≡ list → id ≡ q) × (id ≡ q → lease.keys ≡ list)
fresh_slot leases place_of keys id list in_step unknown fresh q lease is = (
  λ same.
      let has : HasList keys lease.keys = in_step.listed q lease.keys (ap (option_map (λ (l : Lease). l.keys)) is) in
      let none = ap (list_at keys) same ∙ fresh in
      absurd (cc),
  λ same. let known : is_some (get nat_eq leases q) ≡ true = ap is_some is in let not : is_some (get nat_eq leases q) ≡ false =
      ap (λ (n : ℕ). is_some (get nat_eq leases n)) (sym same) ∙ unknown in absurd (cc),
)

module _ (live : Live) (table : ℕ → Option Lease) (times : Tournament) (timed : IsTimed table times)
    (seen : (id : ℕ) → finmap.get live id ≡ option_map term_in (table id)) (now : ℕ) (fits : now < 18446744073709551616) where
  -- the slot of a lease that is due
  pub record IsInSlot (id : ℕ) (term : Term) : Type 0 where
    pub slot : ℕ
    pub stands : slot_of times slot ≡ Some (record { moment = due term; id = id })

  in_slot : (id : ℕ) (term : Term) → finmap.get live id ≡ Some term → due term ≤ now → IsInSlot id term
  in_slot id term is is_due = by_lease (table id) refl (sym (seen id) ∙ is)
    where
      by_lease : (o : Option Lease) → table id ≡ o → option_map term_in o ≡ Some term → IsInSlot id term
      by_lease None found same = absurd (cc)
      by_lease (Some lease) found same =
          let terms : term_in lease ≡ term = same_Some (term_in lease) term same in
          let dues : lease.renewed + lease.ttl ≡ due term = ap due terms in
          record {
            slot = lease.keys;
            stands = timed.entered id lease found ∙ said id lease (omega arith) ∙ ap (λ (n : ℕ). Some (record { moment = n; id = id })) dues;
          }

  pub first_is_next : (d : DueAt) → Leads times d → d.moment ≤ now → IsNextDue live now d.id
  first_is_next d top due_now =
      let had = timed.only top.slot d top.stands in
      let when : d.moment ≡ had.0.renewed + had.0.ttl = (says d.id had.0 d had.2).moment in
      record {
        term = term_in had.0;
        live_now = seen d.id ∙ ap (option_map term_in) had.1;
        is_due = omega arith;
        first = λ other term live_other is_due.
            let place = in_slot other term live_other is_due in
            let lead = top.leads place.slot (record { moment = due term; id = other }) place.stands in
            (omega (arith, lead.0), λ same. lead.1 (when ∙ same));
      }

  pub none_before_first : (d : DueAt) → Leads times d → now < d.moment → NoneIsDue live now
  none_before_first d top later id term is = by_order (cases_lt now (due term))
    where
      by_order : (now < due term) ⊎ (due term ≤ now) → now < due term
      by_order (inl less) = less
      by_order (inr is_due) =
          let place = in_slot id term is is_due in
          let lead = top.leads place.slot (record { moment = due term; id = id }) place.stands in
          absurd (omega (arith, lead.0))

  pub none_of_none : ((slot : ℕ) → slot_of times slot ≡ None) → NoneIsDue live now
  none_of_none empty id term is = by_order (cases_lt now (due term))
    where
      by_order : (now < due term) ⊎ (due term ≤ now) → now < due term
      by_order (inl less) = less
      by_order (inr is_due) =
          let place = in_slot id term is is_due in
          let never = sym (empty place.slot) ∙ place.stands in
          absurd (cc)
