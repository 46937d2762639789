-- What callers see of the tables, and what each change of a table makes of it.
use Rattle.std.proofs.Common.{◌≡◌, ◌≢◌, ℕ, ◌-◌, Bool, true, false, cond, is_some, IsTrue, List, length, Option, Some, None, option_map, arith}
use Rattle.std.proofs.Common.{String, nat_eq, refl, sym, ap, subst, ◌∙◌}
use Rattle.std.proofs.lemmas.Bool.{true≢false, eqb-true, Decides.nat_tests}
use Rattle.std.proofs.lemmas.Cmp.{nat_list_cmp_total}
use Rattle.std.proofs.lemmas.Option.{same_Some}
use Rattle.std.specs.Cmp.{eq_by_cmp_equiv}
use Rattle.std.specs.List.{IsDistinct}
use Rattle.std.specs.Map.{lookup, keys_of}
use Rattle.std.specs.Str.{bytes_eq}
use Rattle.std.specs.FinMap as finmap
use Rattle.indexmap.specs.IndexMap.{IndexMap, get, get_by_text, ContainsKey}
use Rattle.stm_lists.specs.Lists.{Lists}
use Rattle.stm_leases.specs.LeaseLog.{LogItem, Term, term_of}
use Rattle.stm_leases.specs.Leases.{Leases, StandsFor, IsLive, AttachedToLive, lease_of}
use Rattle.stm_leases.specs.declared.lease.Lease.{Lease}
use Rattle.stm_leases.specs.declared.lease.Attachment.{Attachment}
use Rattle.stm_leases.specs.Live.{Live, is_id, is_ttl, is_live_in, AreInRange, grant_refusal}
use Rattle.stm_leases.specs.Kept.{term_in, view_of, list_in, AllInRange, AreInStep}
use Rattle.stm_leases.proofs.Tables.{get-live, get-attached, live-insert, live-remove, attached-insert, attached-remove, log-insert, log-remove, log-renew}
use Rattle.stm_leases.proofs.Tables.{len-entries}
use Rattle.stm_leases.proofs.Ordered.{placed_at}

-- a change of the table at one id changes the list of that id
pub list-updates : {S : Type 0} (old new : IndexMap ℕ Lease S) (id : ℕ) (o : Option Lease)
    → ((q : ℕ) → get nat_eq new q ≡ cond (nat_eq id q) o (get nat_eq old q)) → (q : ℕ)
    → list_in new q ≡ cond (nat_eq id q) (option_map (λ (l : Lease). l.keys) o) (list_in old q)
list-updates old new id o updates q = grind (arith, nat_tests)

-- what a grant that only memory can refuse is for
pub may-grant : (live : Live) (id ttl : ℕ) → grant_refusal live id ttl ≡ None → (IsTrue (is_id id) × IsTrue (is_ttl ttl)) × (is_live_in live id ≡ false)
may-grant live id ttl = grind (arith, nat_tests)

-- what holds of each lease of the table, and of one more, holds of each lease after it
pub one-more : {S : Type 0} (old new : IndexMap ℕ Lease S) (id : ℕ) (now : Lease)
    → ((q : ℕ) → get nat_eq new q ≡ cond (nat_eq id q) (Some now) (get nat_eq old q))
    → AllInRange old → IsTrue (is_id id) × IsTrue (is_ttl now.ttl) → AllInRange new
one-more old new id now updates kept more q l is = by_test (nat_eq id q) refl (sym (updates q) ∙ is)
  where
    by_test : (b : Bool) → nat_eq id q ≡ b → cond b (Some now) (get nat_eq old q) ≡ Some l → IsTrue (is_id q) × IsTrue (is_ttl l.ttl)
    by_test true same found =
        let leases : now ≡ l = same_Some now l found in
        (subst (λ (n : ℕ). IsTrue (is_id n)) (eqb-true id q same) more.0, subst (λ (x : Lease). IsTrue (is_ttl x.ttl)) leases more.1)
    by_test false differs found = kept q l found

-- a table with the same entries is in range too
pub same-range : {S : Type 0} (old new : IndexMap ℕ Lease S) → new.entries ≡ old.entries → AllInRange old → AllInRange new
same-range old new same all id lease is = all id lease (ap (lookup (nat_eq id)) (sym same) ∙ is)

-- what is left after a removal was there before
pub left-lease : {S : Type 0} (old new : IndexMap ℕ Lease S) (id q : ℕ) (l : Lease) → ((n : ℕ) → get nat_eq new n ≡ cond (nat_eq id n) None (get nat_eq old n))
    → get nat_eq new q ≡ Some l → get nat_eq old q ≡ Some l
left-lease old new id q l updates is = grind (arith, nat_tests)

-- a renewal keeps the list of each id
pub list-renewed : {S : Type 0} (old new : IndexMap ℕ Lease S) (id : ℕ) (was now : Lease) → get nat_eq old id ≡ Some was → now.keys ≡ was.keys
    → ((q : ℕ) → get nat_eq new q ≡ cond (nat_eq id q) (Some now) (get nat_eq old q)) → (q : ℕ) → list_in new q ≡ list_in old q
list-renewed old new id was now found same updates q = grind (arith, nat_tests, list-updates, eqb-true)

module _ {A S R : Type 0} (leases : IndexMap ℕ Lease S) (attached : IndexMap (String A) Attachment R) (spare : ℕ) (now : Leases)
    (seen : view_of leases attached spare ≡ now) where
  pub live-now : (id : ℕ) → finmap.get now.live id ≡ option_map term_in (get nat_eq leases id)
  live-now id = ap (λ (s : Leases). finmap.get s.live id) (sym seen) ∙ get-live leases attached spare id

  pub lease_of-now : (key : List ℕ) → lease_of now key ≡ option_map (λ (p : Attachment). p.lease) (get_by_text attached key)
  lease_of-now key = ap (λ (s : Leases). finmap.get s.attached key) (sym seen) ∙ get-attached leases attached spare key

  pub contains-now : (id : ℕ) → finmap.contains_key now.live id ≡ is_some (get nat_eq leases id)
  contains-now id = grind (arith, nat_tests, live-now)

  -- ids and times to live in range, as callers see them
  pub range-now : AllInRange leases → AreInRange now.live
  range-now all id term is = by_lease (get nat_eq leases id) refl (sym (live-now id) ∙ is)
    where
      by_lease : (o : Option Lease) → get nat_eq leases id ≡ o → option_map term_in o ≡ Some term → IsTrue (is_id id) × IsTrue (is_ttl term.ttl)
      by_lease None found same = absurd (cc)
      by_lease (Some l) found same = let fits = all id l found in (fits.0, subst (λ (t : Term). IsTrue (is_ttl t.ttl)) (same_Some (term_in l) term same) fits.1)

  pub live-found : (id : ℕ) (l : Lease) → get nat_eq leases id ≡ Some l → IsLive now id
  live-found id l found = contains-now id ∙ ap is_some found

  pub live-absent : (id : ℕ) → get nat_eq leases id ≡ None → IsLive now id → ⊥
  live-absent id none live = true≢false (sym live ∙ contains-now id ∙ ap is_some none)

  pub table-has : (id : ℕ) → IsLive now id → ContainsKey nat_eq leases id
  table-has id live = sym (contains-now id) ∙ live

  pub term-found : (id : ℕ) (l : Lease) (term : Term) → get nat_eq leases id ≡ Some l → finmap.get now.live id ≡ Some term → term_in l ≡ term
  term-found id l term found is = same_Some (term_in l) term (sym (live-now id ∙ ap (option_map term_in) found) ∙ is)

  -- a key is attached to a live lease
  pub attach-on-live : {B : Type 0} (keys : Lists (String B)) → AreInStep (list_in leases) (get_by_text attached) keys → AttachedToLive now
  attach-on-live keys in_step key id is = grind (arith, nat_tests, placed_at, lease_of-now, live-found)

  -- the leases after a change of their table
  pub inserted-view : (new : IndexMap ℕ Lease S) (id : ℕ) (l : Lease) → ((q : ℕ) → get nat_eq new q ≡ cond (nat_eq id q) (Some l) (get nat_eq leases q))
      → view_of new attached spare ≡ record now { live = finmap.insert now.live id (term_in l) }
  inserted-view new id l updates =
      ap (λ live. record (view_of leases attached spare) { live = live }) (live-insert leases attached spare new id l updates)
      ∙ ap (λ (s : Leases). record s { live = finmap.insert s.live id (term_in l) }) seen

  pub removed-view : (new : IndexMap ℕ Lease S) (id : ℕ) → ((q : ℕ) → get nat_eq new q ≡ cond (nat_eq id q) None (get nat_eq leases q))
      → view_of new attached spare ≡ record now { live = finmap.remove now.live id }
  removed-view new id updates =
      ap (λ live. record (view_of leases attached spare) { live = live }) (live-remove leases attached spare new id updates)
      ∙ ap (λ (s : Leases). record s { live = finmap.remove s.live id }) seen

  -- the attached keys after a change of theirs
  pub attached-view : (new : IndexMap (String A) Attachment R) (key : List ℕ) (p : Attachment)
      → ((q : List ℕ) → get_by_text new q ≡ cond (bytes_eq key q) (Some p) (get_by_text attached q))
      → view_of leases new (spare - 1) ≡ record now { attached = finmap.insert now.attached key p.lease; spare = now.spare - 1 }
  attached-view new key p updates =
      ap (λ keys. record (view_of leases attached spare) { attached = keys; spare = spare - 1 }) (attached-insert leases attached spare new key p updates)
      ∙ ap (λ (s : Leases). record s { attached = finmap.insert s.attached key p.lease; spare = s.spare - 1 }) seen

  pub detached-view : (new : IndexMap (String A) Attachment R) (key : List ℕ)
      → ((q : List ℕ) → get_by_text new q ≡ cond (bytes_eq key q) None (get_by_text attached q))
      → view_of leases new spare ≡ record now { attached = finmap.remove now.attached key }
  detached-view new key updates =
      ap (λ keys. record (view_of leases attached spare) { attached = keys }) (attached-remove leases attached spare new key updates)
      ∙ ap (λ (s : Leases). record s { attached = finmap.remove s.attached key }) seen

  -- a detached key is attached to no lease
  pub detached-loose : (new : IndexMap (String A) Attachment R) (key : List ℕ)
      → ((q : List ℕ) → get_by_text new q ≡ cond (bytes_eq key q) None (get_by_text attached q)) → lease_of (view_of leases new spare) key ≡ None
  detached-loose new key updates =
      ap (λ (s : Leases). finmap.get s.attached key) (detached-view new key updates) ∙ finmap.get-remove nat_list_cmp_total now.attached key key
      ∙ ap (λ b. cond b None (finmap.get now.attached key)) ((eq_by_cmp_equiv nat_list_cmp_total).refl key)

  -- what the leases stand for after a change
  pub granted-log : (new : IndexMap ℕ Lease S) (id : ℕ) (l : Lease) → ((q : ℕ) → get nat_eq new q ≡ cond (nat_eq id q) (Some l) (get nat_eq leases q))
      → (log : List LogItem) → StandsFor now.live log → (q : ℕ)
      → finmap.get (view_of new attached spare).live q ≡ cond (nat_eq id q) (Some (term_in l)) (term_of log q)
  granted-log new id l updates log stands q =
      ap (λ (s : Leases). finmap.get s.live q) (inserted-view new id l updates) ∙ log-insert now log id (term_in l) stands q

  pub renewed-log : (new : IndexMap ℕ Lease S) (id at : ℕ) (l old : Lease) → get nat_eq leases id ≡ Some old
      → term_in l ≡ record { ttl = old.ttl; renewed = at } → ((q : ℕ) → get nat_eq new q ≡ cond (nat_eq id q) (Some l) (get nat_eq leases q))
      → (log : List LogItem) → StandsFor now.live log → (q : ℕ)
      → finmap.get (view_of new attached spare).live q ≡ cond (nat_eq id q) (option_map (λ (t : Term). record t { renewed = at }) (term_of log q))
      (term_of log q)
  renewed-log new id at l old found is updates log stands q =
      ap (λ (s : Leases). finmap.get s.live q) (inserted-view new id l updates) ∙ ap (λ (t : Term). finmap.get (finmap.insert now.live id t) q) is
      ∙ log-renew now log id at (term_in old) (live-now id ∙ ap (option_map term_in) found) stands q

  pub removed-log : (new : IndexMap ℕ Lease S) (id : ℕ) → ((q : ℕ) → get nat_eq new q ≡ cond (nat_eq id q) None (get nat_eq leases q)) → (log : List LogItem)
      → StandsFor now.live log → (q : ℕ) → finmap.get (view_of new attached spare).live q ≡ cond (nat_eq id q) None (term_of log q)
  removed-log new id updates log stands q =
      ap (λ (s : Leases). finmap.get s.live q) (removed-view new id updates) ∙ log-remove now log id stands q

  -- no key is attached to a lease, in the table
  pub none-placed : (id : ℕ) → ((key : List ℕ) → lease_of now key ≢ Some id) → (key : List ℕ) (place : Attachment) → get_by_text attached key ≡ Some place
      → place.lease ≢ id
  none-placed id none key place found same =
      none key (lease_of-now key ∙ ap (option_map (λ (p : Attachment). p.lease)) found ∙ ap Some same)

  pub len-now : IsDistinct nat_eq (keys_of leases.entries) → length leases.entries ≡ finmap.len now.live
  len-now distinct = sym (len-entries term_in leases.entries distinct) ∙ ap (λ (s : Leases). finmap.len s.live) seen
