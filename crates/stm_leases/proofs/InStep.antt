-- How each change of the tables and the lists keeps them in step.
use Rattle.std.proofs.Common.{◌≡◌, ◌≢◌, ◌⊎◌, ℕ, false, cond, List, [], ◌∷◌, ◌++◌, length, Option, Some, None, IsSome, unwrap_or, String, string_bytes, nat_eq}
use Rattle.std.proofs.Common.{refl, sym, ap, subst, ◌∙◌, inl, inr, arith}
use Rattle.std.proofs.lemmas.Bool.{cases_Bool, cases_eq, eq-eqb, ne_eqb, Decides.nat_tests}
use Rattle.std.proofs.lemmas.Option.{same_Some}
use Rattle.std.proofs.lemmas.Slice.Eq.{bytes_eq-Decides}
use Rattle.std.specs.Str.{bytes_eq}
use Rattle.stm_lists.specs.Lists.{Lists, Place, list_at, entries_at, HasList, HasNode, StandsAt, Updates}
use Rattle.stm_leases.specs.declared.lease.Attachment.{Attachment}
use Rattle.stm_leases.specs.Kept.{Holds, AreInStep}

module _ {A : Type 0} where
  pub holds-right : (node : ℕ) (key : List ℕ) (xs ys : List (ℕ × String A)) → Holds ys node key → Holds (xs ++ ys) node key
  holds-right node key [] ys h = h
  holds-right node key (e ∷ xs) ys h = inr (holds-right node key xs ys h)

  pub holds-left : (node : ℕ) (key : List ℕ) (xs ys : List (ℕ × String A)) → Holds xs node key → Holds (xs ++ ys) node key
  holds-left node key [] ys h = absurd h
  holds-left node key (e ∷ xs) ys h = elim h [ inl here ↦ inl here | inr there ↦ inr (holds-left node key xs ys there) ]

  -- among two parts it stands in one
  holds-parts : (node : ℕ) (key : List ℕ) (xs ys : List (ℕ × String A)) → Holds (xs ++ ys) node key → Holds xs node key ⊎ Holds ys node key
  holds-parts node key [] ys h = inr h
  holds-parts node key (e ∷ xs) ys h =
      elim h [
        | inl here ↦ inl (inl here)
        | inr there ↦ elim (holds-parts node key xs ys there) [ inl left ↦ inl (inr left) | inr right ↦ inr right ]
      ]

  -- another key stays where one entry leaves
  holds-without : (node gone : ℕ) (key : List ℕ) (text : String A) (before after : List (ℕ × String A)) → (string_bytes text ≡ key → ⊥)
      → Holds (before ++ (gone, text) ∷ after) node key → Holds (before ++ after) node key
  holds-without node gone key text before after differs h = grind (arith, nat_tests, holds-parts, holds-left, holds-right)

  -- and what stands without the entry stands with it
  holds-with : (node gone : ℕ) (key : List ℕ) (text : String A) (before after : List (ℕ × String A)) → Holds (before ++ after) node key
      → Holds (before ++ (gone, text) ∷ after) node key
  holds-with node gone key text before after h = grind (arith, nat_tests, holds-parts, holds-left, holds-right)

  -- the place of a node that holds a key
  pub record IsKeyPlace (keys : Lists (String A)) (list node : ℕ) (key : List ℕ) : Type 0 where
    pub place : Place (String A)
    pub stands : StandsAt keys node place
    pub here : place.list ≡ list
    pub text : string_bytes place.value ≡ key

  holds-split : (node : ℕ) (key : List ℕ) (xs : List (ℕ × String A)) → Holds xs node key
      → (before : List (ℕ × String A)) × (text : String A) × (after : List (ℕ × String A)) × (xs ≡ before ++ (node, text) ∷ after) × (string_bytes text ≡ key)
  holds-split node key [] h = absurd h
  holds-split node key (e ∷ xs) h =
      elim h [
        | inl here ↦ ([], e.1, xs, ap (λ (n : ℕ). (n, e.1) ∷ xs) here.0, here.1)
        | inr there ↦ let more = holds-split node key xs there in (e ∷ more.0, more.1, more.2, ap (λ ys. e ∷ ys) more.3, more.4)
      ]

  there : (o : Option (List (ℕ × String A))) → IsSome o → o ≡ Some (unwrap_or o [])
  there o some = grind (arith, nat_tests)

  pub key-place : (keys : Lists (String A)) (list node : ℕ) (key : List ℕ) → HasList keys list → Holds (entries_at keys list) node key
      → IsKeyPlace keys list node key
  key-place keys list node key has holds =
      let split = holds-split node key (entries_at keys list) holds in
      record {
        place = record { list = list; before = split.0; value = split.1; after = split.2 };
        stands = record { stands = there (list_at keys list) has ∙ ap Some split.3 };
        here = refl;
        text = split.4;
      }

  -- the node of a key that stands on a list is there
  holds-node : (keys : Lists (String A)) (list node : ℕ) (key : List ℕ) (xs : List (ℕ × String A)) → list_at keys list ≡ Some xs → Holds xs node key
      → HasNode keys node
  holds-node keys list node key xs is holds =
      let split = holds-split node key xs holds in
      (record { list = list; before = split.0; value = split.1; after = split.2 }, record { stands = is ∙ ap Some split.3 })

  module _ (list_of new_list_of : ℕ → Option ℕ) (place_of new_place_of : List ℕ → Option Attachment) (keys new_keys : Lists (String A))
      (in_step : AreInStep list_of place_of keys) where
    -- a list that is there differs from one that is not
    fresh_differs : (list other : ℕ) → list_at keys list ≡ None → HasList keys other → other ≢ list
    fresh_differs list other none has same = let is = ap (list_at keys) same ∙ none in absurd (cc)

    same_entries : (list other : ℕ) (o : Option (List (ℕ × String A))) → Updates keys new_keys list o → other ≢ list
        → entries_at new_keys other ≡ entries_at keys other
    same_entries list other o updates differs = ap (λ x. unwrap_or x []) (updates.others other differs)

    still_there : (list other : ℕ) (o : Option (List (ℕ × String A))) → Updates keys new_keys list o → other ≢ list → HasList keys other
        → HasList new_keys other
    still_there list other o updates differs has = subst IsSome (sym (updates.others other differs)) has

    now_there : (list : ℕ) (xs : List (ℕ × String A)) → Updates keys new_keys list (Some xs) → HasList new_keys list
    now_there list xs updates = rw updates.changed refl

    now_entries : (list : ℕ) (xs : List (ℕ × String A)) → Updates keys new_keys list (Some xs) → entries_at new_keys list ≡ xs
    now_entries list xs updates = ap (λ o. unwrap_or o []) updates.changed

    -- the list of an id after a change at one id
    module _ (id : ℕ) (slot : Option ℕ) (lists : (q : ℕ) → new_list_of q ≡ cond (nat_eq id q) slot (list_of q)) where
      list_here : new_list_of id ≡ slot
      list_here = lists id ∙ ap (λ b. cond b slot (list_of id)) (eq-eqb id id refl)

      list_else : (q : ℕ) → q ≢ id → new_list_of q ≡ list_of q
      list_else q differs = lists q ∙ ap (λ b. cond b slot (list_of q)) (ne_eqb id q (λ same. differs (sym same)))

    -- a lease is granted: it gets an empty list of its own
    pub granted : (id list : ℕ) → list_of id ≡ None → list_at keys list ≡ None → Updates keys new_keys list (Some [])
        → ((q : ℕ) → new_list_of q ≡ cond (nat_eq id q) (Some list) (list_of q)) → AreInStep new_list_of place_of new_keys
    granted id list not_live fresh updates lists =
        record {
          listed = λ q l is. elim (cases_eq q id) [
            | inl same ↦ subst (HasList new_keys) (of_id q l same is) (now_there list [] updates)
            | inr differs ↦ let had = in_step.listed q l (old q l differs is) in still_there list l (Some []) updates (fresh_differs list l fresh had) had
          ];
          own = λ q r l is also. elim (cases_eq q id) [
            | inl same ↦ elim (cases_eq r id) [
              | inl also_same ↦ same ∙ sym also_same
              | inr other ↦ absurd (fresh_differs list l fresh (in_step.listed r l (old r l other also)) (sym (of_id q l same is)))
            ]
            | inr differs ↦ elim (cases_eq r id) [
              | inl also_same ↦ absurd (fresh_differs list l fresh (in_step.listed q l (old q l differs is)) (sym (of_id r l also_same also)))
              | inr other ↦ in_step.own q r l (old q l differs is) (old r l other also)
            ]
          ];
          placed = λ key place is.
              let had = in_step.placed key place is in
              let differs : place.lease ≢ id = λ same. let none = ap list_of same ∙ not_live in let some = had.1 in absurd (cc) in (
                had.0,
                list_else id (Some list) lists place.lease differs
                    ∙ had.1,
                rw (same_entries list had.0 (Some []) updates (fresh_differs list had.0 fresh (in_step.listed place.lease had.0 had.1))) had.2,
              );
          held = λ q l node key is holds. elim (cases_eq q id) [
            | inl same ↦ absurd (subst (λ (xs : List (ℕ × String A)). Holds xs node key)
                (ap (entries_at new_keys) (sym (of_id q l same is)) ∙ now_entries list [] updates) holds)
            | inr differs ↦
                let before = old q l differs is in
                in_step.held q l node key before (rw (same_entries list l (Some []) updates (fresh_differs list l fresh (in_step.listed q l before))) at holds)
          ];
        }
      where
        of_id : (q l : ℕ) → q ≡ id → new_list_of q ≡ Some l → list ≡ l
        of_id q l same is = same_Some list l (sym (list_here id (Some list) lists) ∙ ap new_list_of (sym same) ∙ is)

        old : (q l : ℕ) → q ≢ id → new_list_of q ≡ Some l → list_of q ≡ Some l
        old q l differs is = sym (list_else id (Some list) lists q differs) ∙ is

    -- a lease without keys ends, and its list with it
    pub removed : (id list : ℕ) → list_of id ≡ Some list → ((key : List ℕ) (place : Attachment) → place_of key ≡ Some place → place.lease ≢ id)
        → Updates keys new_keys list None → ((q : ℕ) → new_list_of q ≡ cond (nat_eq id q) None (list_of q)) → AreInStep new_list_of place_of new_keys
    removed id list live no_keys updates lists = grind (arith, nat_tests, still_there, list_else, same_entries, list_here)

    -- every list stays, as where a list that was just made is dropped again
    pub lists_stay : ((l : ℕ) → list_at new_keys l ≡ list_at keys l) → AreInStep list_of place_of new_keys
    lists_stay same = grind (arith, nat_tests)

    -- the lists of the ids stay
    pub same_lists : ((q : ℕ) → new_list_of q ≡ list_of q) → AreInStep new_list_of place_of keys
    same_lists same = grind (arith, nat_tests)

    -- a lease to which no key is attached has an empty list
    pub no_entries : (id list : ℕ) → list_of id ≡ Some list → ((key : List ℕ) (place : Attachment) → place_of key ≡ Some place → place.lease ≢ id)
        → length (entries_at keys list) ≡ 0
    no_entries id list live no_keys = by_entries (entries_at keys list) refl
      where
        by_entries : (xs : List (ℕ × String A)) → entries_at keys list ≡ xs → length xs ≡ 0
        by_entries [] is = refl
        by_entries (e ∷ xs) is =
            let on : Holds (entries_at keys list) e.0 (string_bytes e.1) =
            subst (λ (ys : List (ℕ × String A)). Holds ys e.0 (string_bytes e.1)) (sym is) (inl (refl, refl)) in
            absurd (no_keys (string_bytes e.1) (record { lease = id; node = e.0 }) (in_step.held id list e.0 (string_bytes e.1) live on) refl)

    -- the place of a key after a change at one key
    module _ (key : List ℕ) (slot : Option Attachment) (places : (q : List ℕ) → new_place_of q ≡ cond (bytes_eq key q) slot (place_of q)) where
      place_here : (q : List ℕ) → key ≡ q → new_place_of q ≡ slot
      place_here q same = places q ∙ ap (λ b. cond b slot (place_of q)) ((bytes_eq-Decides key q).1 same)

      place_else : (q : List ℕ) → bytes_eq key q ≡ false → new_place_of q ≡ place_of q
      place_else q differs = places q ∙ ap (λ b. cond b slot (place_of q)) differs

    -- a key is attached: its copy stands at the back of the lease's list
    pub attached : (id list node : ℕ) (key : List ℕ) (copy : String A) → list_of id ≡ Some list → place_of key ≡ None → string_bytes copy ≡ key
        → Updates keys new_keys list (Some (entries_at keys list ++ (node, copy) ∷ []))
        → ((q : List ℕ) → new_place_of q ≡ cond (bytes_eq key q) (Some (record { lease = id; node = node })) (place_of q))
        → AreInStep list_of new_place_of new_keys
    attached id list node key copy live loose text updates places =
        record {
          listed = λ q l is. elim (cases_eq l list) [
            | inl same ↦ subst (HasList new_keys) (sym same) (now_there list entries updates)
            | inr differs ↦ still_there list l (Some entries) updates differs (in_step.listed q l is)
          ];
          own = in_step.own;
          placed = λ q place is. elim (cases_Bool (bytes_eq key q)) [
            | inl same ↦
                let q_is = (bytes_eq-Decides key q).0 same in
                let here : record { lease = id; node = node } ≡ place =
                same_Some _ place (sym (place_here key (Some (record { lease = id; node = node })) places q q_is) ∙ is) in
                let back : Holds (entries_at keys list ++ (node, copy) ∷ []) node q =
                holds-right node q (entries_at keys list) ((node, copy) ∷ []) (inl (refl, text ∙ q_is)) in (
                  list,
                  ap (λ (p : Attachment). list_of p.lease) (sym here)
                      ∙ live,
                  subst (λ (n : ℕ). Holds (entries_at new_keys list) n q) (ap (λ (p : Attachment). p.node) here)
                      (rw (now_entries list entries updates) back),
                )
            | inr differs ↦
                let had = in_step.placed q place (sym (place_else key (Some (record { lease = id; node = node })) places q differs) ∙ is) in
                (had.0, had.1, kept had.0 place.node q had.2)
          ];
          held = λ r l n q is holds. elim (cases_eq l list) [
            | inl same ↦
                let owner : r ≡ id = in_step.own r id list (is ∙ ap Some same) live in
                elim (holds-parts n q (entries_at keys list) ((node, copy) ∷ [])
                (subst (λ (xs : List (ℕ × String A)). Holds xs n q) (ap (entries_at new_keys) same ∙ now_entries list entries updates) holds)) [
                  | inl left ↦ old_place q (record { lease = r; node = n })
                      (in_step.held r l n q is (subst (λ (m : ℕ). Holds (entries_at keys m) n q) (sym same) left))
                  | inr right ↦ elim right [
                    | inl here ↦ place_here key (Some (record { lease = id; node = node })) places q (sym text ∙ here.1) ∙ rw (owner, here.0) refl
                    | inr nothing ↦ absurd nothing
                  ]
                ]
            | inr differs ↦ old_place q (record { lease = r; node = n })
                (in_step.held r l n q is (rw (same_entries list l (Some entries) updates differs) at holds))
          ];
        }
      where
        entries : List (ℕ × String A)
        entries = entries_at keys list ++ (node, copy) ∷ []

        kept : (l n : ℕ) (q : List ℕ) → Holds (entries_at keys l) n q → Holds (entries_at new_keys l) n q
        kept l n q holds =
            elim (cases_eq l list) [
              | inl same ↦ rw (same, now_entries list (entries_at keys list ++ (node, copy) ∷ []) updates)
                  (holds-left n q (entries_at keys list) ((node, copy) ∷ []) (subst (λ (m : ℕ). Holds (entries_at keys m) n q) same holds))
              | inr differs ↦ rw (same_entries list l (Some (entries_at keys list ++ (node, copy) ∷ [])) updates differs) holds
            ]

        old_place : (q : List ℕ) (p : Attachment) → place_of q ≡ Some p → new_place_of q ≡ Some p
        old_place q p is =
            elim (cases_Bool (bytes_eq key q)) [
              | inl same ↦ let none = ap place_of (sym ((bytes_eq-Decides key q).0 same)) ∙ loose in absurd (cc)
              | inr differs ↦ place_else key (Some (record { lease = id; node = node })) places q differs ∙ is
            ]

    -- a key is detached: its node leaves the lease's list
    pub detached : (id node : ℕ) (key : List ℕ) → place_of key ≡ Some (record { lease = id; node = node }) → (place : Place (String A))
        → StandsAt keys node place → list_of id ≡ Some place.list → string_bytes place.value ≡ key
        → Updates keys new_keys place.list (Some (place.before ++ place.after)) → (HasNode new_keys node → ⊥)
        → ((q : List ℕ) → new_place_of q ≡ cond (bytes_eq key q) None (place_of q)) → AreInStep list_of new_place_of new_keys
    detached id node key had_place place at live text updates gone places =
        record {
          listed = λ q l is. elim (cases_eq l place.list) [
            | inl same ↦ subst (HasList new_keys) (sym same) (now_there place.list (place.before ++ place.after) updates)
            | inr differs ↦ still_there place.list l (Some (place.before ++ place.after)) updates differs (in_step.listed q l is)
          ];
          own = in_step.own;
          placed = λ q p is. elim (cases_Bool (bytes_eq key q)) [
            | inl same ↦ let none = sym (place_here key None places q ((bytes_eq-Decides key q).0 same)) ∙ is in absurd (cc)
            | inr differs ↦
                let had = in_step.placed q p (sym (place_else key None places q differs) ∙ is) in
                (had.0, had.1, kept had.0 p.node q differs had.2)
          ];
          held = λ r l n q is holds. elim (cases_eq l place.list) [
            | inl same ↦
                let left = subst (λ (xs : List (ℕ × String A)). Holds xs n q)
                (ap (entries_at new_keys) same ∙ now_entries place.list (place.before ++ place.after) updates) holds in
                let was = in_step.held r l n q is
                (subst (λ (m : ℕ). Holds (entries_at keys m) n q) (sym same) (rw entries (holds-with n node q place.value place.before place.after left)))
                in
                elim (cases_Bool (bytes_eq key q)) [
                  | inl equal ↦
                      let nodes : record { lease = id; node = node } ≡ record { lease = r; node = n } =
                      same_Some {A = Attachment} _ _ (sym had_place ∙ ap place_of ((bytes_eq-Decides key q).0 equal) ∙ was) in
                      absurd (gone (holds-node new_keys place.list node q (place.before ++ place.after) updates.changed
                      (subst (λ (m : ℕ). Holds (place.before ++ place.after) m q) (sym (ap (λ (p : Attachment). p.node) nodes)) left)))
                  | inr differs ↦ place_else key None places q differs ∙ was
                ]
            | inr other ↦
                let was = in_step.held r l n q is (rw (same_entries place.list l (Some (place.before ++ place.after)) updates other) at holds) in
                elim (cases_Bool (bytes_eq key q)) [
                  | inl equal ↦
                      let nodes : record { lease = id; node = node } ≡ record { lease = r; node = n } =
                      same_Some {A = Attachment} _ _ (sym had_place ∙ ap place_of ((bytes_eq-Decides key q).0 equal) ∙ was) in
                      let lists = same_Some place.list l (sym live ∙ ap (λ (p : Attachment). list_of p.lease) nodes ∙ is) in
                      absurd (other (sym lists))
                  | inr differs ↦ place_else key None places q differs ∙ was
                ]
          ];
        }
      where
        entries : entries_at keys place.list ≡ place.before ++ (node, place.value) ∷ place.after
        entries = ap (λ o. unwrap_or o []) at.stands

        kept : (l n : ℕ) (q : List ℕ) → bytes_eq key q ≡ false → Holds (entries_at keys l) n q → Holds (entries_at new_keys l) n q
        kept l n q differs holds =
            elim (cases_eq l place.list) [
              | inl same ↦
                  let on = subst (λ (xs : List (ℕ × String A)). Holds xs n q) (ap (entries_at keys) same ∙ ap (λ o. unwrap_or o []) at.stands) holds in
                  rw (same, now_entries place.list (place.before ++ place.after) updates)
                  (holds-without n node q place.value place.before place.after
                  (λ equal. let yes_true = (bytes_eq-Decides key q).1 (sym text ∙ equal) in absurd (cc)) on)
              | inr other ↦ rw (same_entries place.list l (Some (place.before ++ place.after)) updates other) holds
            ]

-- a list that was made and dropped again leaves every list as it was
pub dropped_again : {A : Type 0} (old made dropped : Lists (String A)) (list : ℕ) → list_at old list ≡ None → Updates old made list (Some [])
    → Updates made dropped list None →
    (l : ℕ) → list_at dropped l ≡ list_at old l
dropped_again old made dropped list fresh making dropping l = grind (arith, nat_tests, cases_eq)
