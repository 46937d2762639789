-- A walk along a list that takes each text with it.
use Rattle.std.proofs.Common.{◌≡◌, ℕ, ◌<◌, List, [], ◌∷◌, ◌++◌, length, map, Option, Some, None, IsSome, unwrap_or, String, string_bytes, refl, sym, ap, ◌∙◌}
use Rattle.std.proofs.Common.{arith, length-append}
use Rattle.std.proofs.lemmas.List.{append-nil, append_assoc, map-append, length-map}
use Rattle.std.proofs.lemmas.Option.{same_Some}
use Rattle.std.proofs.lemmas.Bool.Decides.{nat_tests}
use Rattle.stm_lists.specs.Lists.{Lists, Place, list_at, entries_at, HasList, HasNode, StandsAt, first_node}

module _ {A : Type 0} where
  -- the texts taken are those of the nodes passed, and the next node is the first of the rest
  pub record IsWalked (lists : Lists (String A)) (list : ℕ) (texts : List (String A)) (next : Option ℕ) : Type 0 where
    pub passed : List (ℕ × String A)
    pub rest : List (ℕ × String A)
    pub split : entries_at lists list ≡ passed ++ rest
    pub taken : map string_bytes texts ≡ map (λ e. string_bytes e.1) passed
    pub next_is : next ≡ first_node rest

  pub walk-start : (lists : Lists (String A)) (list : ℕ) (texts : List (String A)) (next : Option ℕ) → texts ≡ [] → next ≡ first_node (entries_at lists list)
      → IsWalked lists list texts next
  walk-start lists list texts next none first = grind (arith, nat_tests)

  -- a list that is there
  there : (o : Option (List (ℕ × String A))) → IsSome o → o ≡ Some (unwrap_or o [])
  there o some = grind (arith, nat_tests)

  -- the place of the next node
  pub record IsNextPlace (lists : Lists (String A)) (list : ℕ) (texts : List (String A)) (node : ℕ) : Type 0 where
    pub place : Place (String A)
    pub stands : StandsAt lists node place
    pub here : place.list ≡ list
    pub taken : map string_bytes texts ≡ map (λ e. string_bytes e.1) place.before

  pub walk-place : (lists : Lists (String A)) (list : ℕ) (texts : List (String A)) (next : Option ℕ) (node : ℕ) → HasList lists list
      → IsWalked lists list texts next → next ≡ Some node → IsNextPlace lists list texts node
  walk-place lists list texts next node has walked is = by_rest walked.rest walked.split (sym walked.next_is ∙ is)
    where
      by_rest : (rest : List (ℕ × String A)) → entries_at lists list ≡ walked.passed ++ rest → first_node rest ≡ Some node → IsNextPlace lists list texts node
      by_rest [] split first = absurd (cc)
      by_rest (entry ∷ rest) split first =
          let same : entry.0 ≡ node = same_Some entry.0 node first in
          record {
            place = record { list = list; before = walked.passed; value = entry.1; after = rest };
            stands = record { stands = there (list_at lists list) has ∙ ap Some (split ∙ ap (λ (n : ℕ). walked.passed ++ (n, entry.1) ∷ rest) same) };
            here = refl;
            taken = walked.taken;
          }

  pub walk-node : (lists : Lists (String A)) (list : ℕ) (texts : List (String A)) (next : Option ℕ) (node : ℕ) → HasList lists list
      → IsWalked lists list texts next → next ≡ Some node → HasNode lists node
  walk-node lists list texts next node has walked is =
      let found = walk-place lists list texts next node has walked is in (found.place, found.stands)

  -- one node further
  pub walk-more : (lists : Lists (String A)) (list : ℕ) (texts : List (String A)) (node : ℕ) (text value : String A) (after : Option ℕ)
      → IsNextPlace lists list texts node → ((place : Place (String A)) → StandsAt lists node place → value ≡ place.value)
      → string_bytes text ≡ string_bytes value → ((place : Place (String A)) → StandsAt lists node place → after ≡ first_node place.after)
      → IsWalked lists list (texts ++ text ∷ []) after
  walk-more lists list texts node text value after found got cloned follows =
      let place = found.place in
      let at = found.stands.stands in
      let entries : entries_at lists list ≡ place.before ++ (node, place.value) ∷ place.after = ap (λ (l : ℕ). entries_at lists l) (sym found.here)
      ∙ ap (λ o. unwrap_or o []) at in
      let bytes : string_bytes text ≡ string_bytes place.value = cloned ∙ ap string_bytes (got place found.stands) in
      record {
        passed = place.before ++ (node, place.value) ∷ [];
        rest = place.after;
        split = entries ∙ sym (append_assoc place.before ((node, place.value) ∷ []) place.after);
        taken = map-append string_bytes texts (text ∷ [])
            ∙ rw (found.taken, bytes) (sym (map-append (λ e. string_bytes e.1) place.before ((node, place.value) ∷ [])));
        next_is = follows place found.stands;
      }

  -- the texts that are left to take
  pub walk-length : (lists : Lists (String A)) (list : ℕ) (texts : List (String A)) (node : ℕ) → IsNextPlace lists list texts node
      → length texts < length (entries_at lists list)
  walk-length lists list texts node found = grind (arith, nat_tests, length-append, length-map)

  -- at the end all texts are taken
  pub walk-end : (lists : Lists (String A)) (list : ℕ) (texts : List (String A)) (next : Option ℕ) → IsWalked lists list texts next → next ≡ None
      → map string_bytes texts ≡ map (λ e. string_bytes e.1) (entries_at lists list)
  walk-end lists list texts next walked is = grind (arith, nat_tests, append-nil)
