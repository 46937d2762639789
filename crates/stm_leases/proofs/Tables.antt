-- From the tables to what contracts see of them.
use Rattle.std.proofs.Common.{◌≡◌, ℕ, ◌+◌, Bool, true, false, cond, is_some, List, [], ◌∷◌, map, length, Option, Some, None, option_map, String, string_bytes}
use Rattle.std.proofs.Common.{nat_eq, refl, sym, ap, ◌∙◌, arith}
use Rattle.std.proofs.lemmas.Bool.{eqb-true, eq-eqb, Decides.nat_tests}
use Rattle.std.proofs.lemmas.Cmp.{nat_cmp_total, nat_eq_equiv, nat_list_cmp_total}
use Rattle.std.proofs.lemmas.Map.Text.{is_eq-slice_cmp}
use Rattle.std.proofs.lemmas.Map.Keys.{IsDistinct-head, IsDistinct-tail}
use Rattle.std.proofs.lemmas.Slice.Eq.{bytes_eq-Decides}
use Rattle.std.specs.Cmp.{IsTotalOrder}
use Rattle.std.specs.declared.cmp.Ordering.{Ordering}
use Rattle.std.specs.Cmp.Lexicographic.{slice_cmp}
use Rattle.std.specs.List.{IsDistinct, AllByRecursion}
use Rattle.std.specs.Map.{lookup, keys_of}
use Rattle.std.specs.Ordering.{nat_cmp, eq_by_cmp}
use Rattle.std.specs.Str.{bytes_eq}
use Rattle.std.specs.FinMap as finmap
use Rattle.indexmap.specs.IndexMap.{IndexMap, get, get_by_text}
use Rattle.stm_leases.specs.LeaseLog.{LogItem, Term, term_of}
use Rattle.stm_leases.specs.Leases.{Leases, StandsFor}
use Rattle.stm_leases.specs.declared.lease.Lease.{Lease}
use Rattle.stm_leases.specs.declared.lease.Attachment.{Attachment}
use Rattle.stm_leases.specs.Kept.{term_in, view_of}

-- `==` on numbers, by their order
pub test_number : (x y : ℕ) → eq_by_cmp nat_cmp x y ≡ nat_eq x y
test_number x y = grind (arith, nat_tests, eq-eqb, eqb-true, nat_cmp_total)

module _ {X Y : Type 0} (f : X → Y) where
  pub find-numbers : (es : List (ℕ × X)) (q : ℕ) → finmap.find nat_cmp q (map (λ (e : ℕ × X). (e.0, f e.1)) es) ≡ option_map f (lookup (nat_eq q) es)
  find-numbers [] q = refl
  find-numbers (e ∷ es) q = grind (arith, nat_tests, test_number, find-numbers es q)

  pub find-texts : {A : Type 0} (es : List (String A × X)) (q : List ℕ)
      → finmap.find (slice_cmp nat_cmp) q (map (λ (e : String A × X). (string_bytes e.0, f e.1)) es) ≡ option_map f
      (lookup (λ k. bytes_eq q (string_bytes k)) es)
  find-texts [] q = refl
  find-texts {A} (e ∷ es) q = grind (arith, nat_tests, is_eq-slice_cmp, find-texts es q)

-- a map that answers as another does after an insertion or a removal is that map
module _ {K X : Type 0} {R : K → K → Ordering} (o : IsTotalOrder R) (same : finmap.IsAntisymmetric R) where
  is_insert : (m n : finmap.FinMap R X) (k : K) (v : X) → ((q : K) → finmap.get n q ≡ cond (eq_by_cmp R q k) (Some v) (finmap.get m q))
      → n ≡ finmap.insert m k v
  is_insert m n k v answers = finmap.same_map o same n (finmap.insert m k v) (λ q. answers q ∙ sym (finmap.get-insert o m k v q))

  is_remove : (m n : finmap.FinMap R X) (k : K) → ((q : K) → finmap.get n q ≡ cond (eq_by_cmp R q k) None (finmap.get m q)) → n ≡ finmap.remove m k
  is_remove m n k answers = finmap.same_map o same n (finmap.remove m k) (λ q. answers q ∙ sym (finmap.get-remove o m k q))

through : {X Y : Type 0} (f : X → Y) (b : Bool) (v w : Option X) → option_map f (cond b v w) ≡ cond b (option_map f v) (option_map f w)
through f b v w = grind (arith, nat_tests)

flipped : (x y : ℕ) → nat_eq x y ≡ eq_by_cmp nat_cmp y x
flipped x y = nat_eq_equiv.symm x y ∙ sym (test_number y x)

bytes_flipped : (x y : List ℕ) → bytes_eq x y ≡ eq_by_cmp (slice_cmp nat_cmp) y x
bytes_flipped x y = grind (arith, nat_tests, bytes_eq-Decides, is_eq-slice_cmp)

module _ {A S R : Type 0} (leases : IndexMap ℕ Lease S) (attached : IndexMap (String A) Attachment R) (spare : ℕ) where
  pub get-live : (id : ℕ) → finmap.get (view_of leases attached spare).live id ≡ option_map term_in (get nat_eq leases id)
  get-live id = finmap.get-from_entries nat_cmp_total (map (λ (e : ℕ × Lease). (e.0, term_in e.1)) leases.entries) id ∙ find-numbers term_in leases.entries id

  pub get-attached : (key : List ℕ) → finmap.get (view_of leases attached spare).attached key ≡ option_map (λ p. p.lease) (get_by_text attached key)
  get-attached key = finmap.get-from_entries nat_list_cmp_total (map (λ (e : String A × Attachment). (string_bytes e.0, e.1.lease)) attached.entries) key
      ∙ find-texts (λ (p : Attachment). p.lease) attached.entries key

  pub live-insert : (new : IndexMap ℕ Lease S) (id : ℕ) (l : Lease) → ((q : ℕ) → get nat_eq new q ≡ cond (nat_eq id q) (Some l) (get nat_eq leases q))
      → (view_of new attached spare).live ≡ finmap.insert (view_of leases attached spare).live id (term_in l)
  live-insert new id l updates =
      is_insert nat_cmp_total finmap.nat_cmp-IsAntisymmetric _ (view_of new attached spare).live id (term_in l) (λ q.
      new_live q ∙ ap (option_map term_in) (updates q) ∙ through term_in (nat_eq id q) (Some l) (get nat_eq leases q)
      ∙ ap (λ b. cond b (Some (term_in l)) (option_map term_in (get nat_eq leases q))) (flipped id q)
      ∙ ap (cond (eq_by_cmp nat_cmp q id) (Some (term_in l))) (sym (get-live q)))
    where
      new_live : (q : ℕ) → finmap.get (view_of new attached spare).live q ≡ option_map term_in (get nat_eq new q)
      new_live q = finmap.get-from_entries nat_cmp_total (map (λ (e : ℕ × Lease). (e.0, term_in e.1)) new.entries) q ∙ find-numbers term_in new.entries q

  pub live-remove : (new : IndexMap ℕ Lease S) (id : ℕ) → ((q : ℕ) → get nat_eq new q ≡ cond (nat_eq id q) None (get nat_eq leases q))
      → (view_of new attached spare).live ≡ finmap.remove (view_of leases attached spare).live id
  live-remove new id updates =
      is_remove nat_cmp_total finmap.nat_cmp-IsAntisymmetric _ (view_of new attached spare).live id (λ q.
      new_live q ∙ ap (option_map term_in) (updates q) ∙ through term_in (nat_eq id q) None (get nat_eq leases q)
      ∙ ap (λ b. cond b None (option_map term_in (get nat_eq leases q))) (flipped id q) ∙ ap (cond (eq_by_cmp nat_cmp q id) None) (sym (get-live q)))
    where
      new_live : (q : ℕ) → finmap.get (view_of new attached spare).live q ≡ option_map term_in (get nat_eq new q)
      new_live q = finmap.get-from_entries nat_cmp_total (map (λ (e : ℕ × Lease). (e.0, term_in e.1)) new.entries) q ∙ find-numbers term_in new.entries q

  pub attached-insert : (new : IndexMap (String A) Attachment R) (key : List ℕ) (p : Attachment)
      → ((q : List ℕ) → get_by_text new q ≡ cond (bytes_eq key q) (Some p) (get_by_text attached q))
      → (view_of leases new spare).attached ≡ finmap.insert (view_of leases attached spare).attached key p.lease
  attached-insert new key p updates =
      is_insert nat_list_cmp_total (finmap.slice_cmp-IsAntisymmetric finmap.nat_cmp-IsAntisymmetric) _ (view_of leases new spare).attached key p.lease (λ q.
      new_attached q ∙ ap (option_map (λ (x : Attachment). x.lease)) (updates q)
      ∙ through (λ (x : Attachment). x.lease) (bytes_eq key q) (Some p) (get_by_text attached q)
      ∙ ap (λ b. cond b (Some p.lease) (option_map (λ (x : Attachment). x.lease) (get_by_text attached q))) (bytes_flipped key q)
      ∙ ap (cond (eq_by_cmp (slice_cmp nat_cmp) q key) (Some p.lease)) (sym (get-attached q)))
    where
      new_attached : (q : List ℕ) → finmap.get (view_of leases new spare).attached q ≡ option_map (λ (x : Attachment). x.lease) (get_by_text new q)
      new_attached q = finmap.get-from_entries nat_list_cmp_total (map (λ (e : String A × Attachment). (string_bytes e.0, e.1.lease)) new.entries) q
          ∙ find-texts (λ (x : Attachment). x.lease) new.entries q

  pub attached-remove : (new : IndexMap (String A) Attachment R) (key : List ℕ)
      → ((q : List ℕ) → get_by_text new q ≡ cond (bytes_eq key q) None (get_by_text attached q))
      → (view_of leases new spare).attached ≡ finmap.remove (view_of leases attached spare).attached key
  attached-remove new key updates =
      is_remove nat_list_cmp_total (finmap.slice_cmp-IsAntisymmetric finmap.nat_cmp-IsAntisymmetric) _ (view_of leases new spare).attached key (λ q.
      new_attached q ∙ ap (option_map (λ (x : Attachment). x.lease)) (updates q)
      ∙ through (λ (x : Attachment). x.lease) (bytes_eq key q) None (get_by_text attached q)
      ∙ ap (λ b. cond b None (option_map (λ (x : Attachment). x.lease) (get_by_text attached q))) (bytes_flipped key q)
      ∙ ap (cond (eq_by_cmp (slice_cmp nat_cmp) q key) None) (sym (get-attached q)))
    where
      new_attached : (q : List ℕ) → finmap.get (view_of leases new spare).attached q ≡ option_map (λ (x : Attachment). x.lease) (get_by_text new q)
      new_attached q = finmap.get-from_entries nat_list_cmp_total (map (λ (e : String A × Attachment). (string_bytes e.0, e.1.lease)) new.entries) q
          ∙ find-texts (λ (x : Attachment). x.lease) new.entries q

-- what a log says after one more item
pub log-insert : (s : Leases) (log : List LogItem) (id : ℕ) (term : Term) → StandsFor s.live log → (q : ℕ)
    → finmap.get (finmap.insert s.live id term) q ≡ cond (nat_eq id q) (Some term) (term_of log q)
log-insert s log id term stands q =
    finmap.get-insert nat_cmp_total s.live id term q ∙ ap (λ b. cond b (Some term) (finmap.get s.live q)) (sym (flipped id q))
    ∙ ap (cond (nat_eq id q) (Some term)) (stands q)

pub log-remove : (s : Leases) (log : List LogItem) (id : ℕ) → StandsFor s.live log → (q : ℕ)
    → finmap.get (finmap.remove s.live id) q ≡ cond (nat_eq id q) None (term_of log q)
log-remove s log id stands q =
    finmap.get-remove nat_cmp_total s.live id q ∙ ap (λ b. cond b None (finmap.get s.live q)) (sym (flipped id q)) ∙ ap (cond (nat_eq id q) None) (stands q)

pub log-renew : (s : Leases) (log : List LogItem) (id at : ℕ) (term : Term) → finmap.get s.live id ≡ Some term → StandsFor s.live log → (q : ℕ)
    → finmap.get (finmap.insert s.live id (record term { renewed = at })) q ≡ cond (nat_eq id q)
    (option_map (λ (t : Term). record t { renewed = at }) (term_of log q)) (term_of log q)
log-renew s log id at term found stands q =
    log-insert s log id (record term { renewed = at }) stands q ∙ by_test (nat_eq id q) refl
  where
    by_test : (b : Bool) → nat_eq id q ≡ b
        → cond b (Some (record term { renewed = at })) (term_of log q) ≡ cond b (option_map (λ (t : Term). record t { renewed = at }) (term_of log q))
        (term_of log q)
    by_test false is = refl
    by_test true is =
        let same : id ≡ q = eqb-true id q is in
        let known : term_of log q ≡ Some term = sym (stands q) ∙ ap (finmap.get s.live) (sym same) ∙ found in
        ap (option_map (λ (t : Term). record t { renewed = at })) (sym known)

-- a key that no other is equal to is not found
absent : {X : Type 0} (id : ℕ) (es : List (ℕ × X)) → AllByRecursion (λ y. nat_eq id y ≡ false) (keys_of es) → lookup (nat_eq id) es ≡ None
absent id [] all = refl
absent id (e ∷ es) all = ap (λ b. cond b (Some e.1) (lookup (nat_eq id) es)) all.0 ∙ absent id es all.1

-- each entry counts once
pub len-entries : {X Y : Type 0} (f : X → Y) (es : List (ℕ × X)) → IsDistinct nat_eq (keys_of es)
    → finmap.len (finmap.from_entries {R = nat_cmp} (map (λ (e : ℕ × X). (e.0, f e.1)) es)) ≡ length es
len-entries {X} {Y} f [] distinct = finmap.len-empty nat_cmp Y
len-entries {X} {Y} f (e ∷ es) distinct =
    let rest = finmap.from_entries {R = nat_cmp} (map (λ (e : ℕ × X). (e.0, f e.1)) es) in
    let none : finmap.contains_key rest e.0 ≡ false =
    ap is_some (finmap.get-from_entries nat_cmp_total (map (λ (e : ℕ × X). (e.0, f e.1)) es) e.0 ∙ find-numbers f es e.0
    ∙ ap (option_map f) (absent e.0 es (IsDistinct-head nat_eq e.0 (keys_of es) distinct))) in
    let longer = finmap.len-insert nat_cmp_total rest e.0 (f e.1) ∙ ap (λ b. cond b (finmap.len rest) (finmap.len rest + 1)) none in
    let counted = len-entries f es (IsDistinct-tail nat_eq e.0 (keys_of es) distinct) in
    omega arith
