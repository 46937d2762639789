-- One event after another: room for its key's chain, and its version there.
use Rattle.std.proofs.Common.{◌≡◌, ℕ, ◌≤◌, ◌<◌, Bool, true, false, List, [], ◌∷◌, ◌++◌, map, zero, suc, slice_get}
use Rattle.std.proofs.Common.{option_map, Option, Some, None, refl, sym, ◌∙◌, ap, subst, cond, is_some, arith}
use Rattle.std.specs.Prelude.{bytes_eq}
use Rattle.std.specs.Map.{keys_of}
use Rattle.std.proofs.lemmas.Slice.Eq.{bytes_eq-Decides}
use Rattle.std.proofs.lemmas.Bool.Decides.{nat_tests}
use Rattle.stm_keys.specs.declared.event.Event.{Event}
use Rattle.stm_keys.specs.Events.{key_of_event, event_about}
use Rattle.stm_keys.specs.Chains.{Versions, Chain, versions_in, room_in, with_version}

-- a key that events are about is that of the last one, or one of those before
last_some : {P : Type 0} (c : Event) (b : Bool) → (b ≡ true → P) → is_some (cond b (Some c) None) ≡ true → P
last_some c b last some = grind (arith, nat_tests)

first_some : {P : Type 0} (d : Event) (b : Bool) (o p : Option Event) → (is_some (cond b (Some d) o) ≡ true → P) →
    ((is_some o ≡ true → P) → is_some p ≡ true → P) → is_some (cond b (Some d) p) ≡ true → P
first_some d b o p before rest some = grind (arith, nat_tests)

split_some : {P : Type 0} (k : List ℕ) (cs : List Event) (c : Event) → (is_some (event_about k cs) ≡ true → P) → (bytes_eq (key_of_event c) k ≡ true → P) →
    is_some (event_about k (cs ++ c ∷ [])) ≡ true → P
split_some k [] c before last some = last_some c (bytes_eq (key_of_event c) k) last some
split_some k (d ∷ cs) c before last some =
    first_some d (bytes_eq (key_of_event d) k) (event_about k cs) (event_about k (cs ++ c ∷ [])) before (λ had. split_some k cs c had last) some

pub room_made : (cs : List Event) (c : Event) (old new : List ℕ → ℕ) → ((k : List ℕ) → is_some (event_about k cs) ≡ true → 0 < old k) →
    ((k : List ℕ) → old k ≤ new k) → 0 < new (key_of_event c) → (k : List ℕ) → is_some (event_about k (cs ++ c ∷ [])) ≡ true → 0 < new k
room_made cs c old new before more room k some =
    split_some k cs c (λ had. omega (arith, before k had, more k)) (λ same. subst (λ (l : List ℕ). 0 < new l)
    ((bytes_eq-Decides (key_of_event c) k).0 same) room)
    some

-- a version that was added to the chain of one key leaves the room of the others
pub room_left : (c : Event) (cs : List Event) (old new : List ℕ → ℕ) → event_about (key_of_event c) cs ≡ None →
    ((k : List ℕ) → is_some (event_about k (c ∷ cs)) ≡ true → 0 < old k) → ((k : List ℕ) → bytes_eq (key_of_event c) k ≡ false → new k ≡ old k) →
    (k : List ℕ) → is_some (event_about k cs) ≡ true → 0 < new k
room_left c cs old new apart room others k some = grind (arith, nat_tests, bytes_eq-Decides)

-- and the rest of the events adds what is left to add
pub versions_left : (c : Event) (cs : List Event) (number : ℕ) (old new all : List ℕ → Versions) → event_about (key_of_event c) cs ≡ None →
    ((k : List ℕ) → with_version (is_some (event_about k (c ∷ cs))) number (old k) ≡ all k) →
    ((k : List ℕ) → new k ≡ with_version (bytes_eq (key_of_event c) k) number (old k)) →
    (k : List ℕ) → with_version (is_some (event_about k cs)) number (new k) ≡ all k
versions_left c cs number old new all apart reported added k = grind (arith, nat_tests, bytes_eq-Decides)

-- a chain that was written under its key, and every other as it was
module _ (get new : List ℕ → Option Chain) (key : List ℕ) (w : Chain) (written : (k : List ℕ) → new k ≡ cond (bytes_eq key k) (Some w) (get k)) where
  written_case : (P : Option Chain → Option Chain → Type 0) (k : List ℕ) → P (get key) (Some w) → P (get k) (get k) → P (get k) (new k)
  written_case P k here there = grind (arith, nat_tests, bytes_eq-Decides)

  pub versions_kept : w.versions ≡ versions_in (get key) → (k : List ℕ) → versions_in (new k) ≡ versions_in (get k)
  versions_kept same k = written_case (λ o n. versions_in n ≡ versions_in o) k same refl

  pub room_grows : room_in (get key) ≤ w.room → (k : List ℕ) → room_in (get k) ≤ room_in (new k)
  room_grows more k = written_case (λ o n. room_in o ≤ room_in n) k more (omega arith)

  -- what was made of the versions of the key
  pub versions_made : (f : Versions → Versions) → w.versions ≡ f (versions_in (get key)) → (k : List ℕ) →
      versions_in (new k) ≡ cond (bytes_eq key k) (f (versions_in (get k))) (versions_in (get k))
  versions_made f made k = grind (arith, nat_tests, bytes_eq-Decides)

  pub version_added : (number : ℕ) → w.versions ≡ with_version true number (versions_in (get key)) → (k : List ℕ) →
      versions_in (new k) ≡ with_version (bytes_eq key k) number (versions_in (get k))
  version_added number added k = versions_made (with_version true number) added k ∙ sym (chosen (bytes_eq key k))
    where
      chosen : (b : Bool) → with_version b number (versions_in (get k)) ≡ cond b (with_version true number (versions_in (get k))) (versions_in (get k))
      chosen true = refl
      chosen false = refl

  pub room_elsewhere : (k : List ℕ) → bytes_eq key k ≡ false → room_in (new k) ≡ room_in (get k)
  room_elsewhere k differs = ap room_in (written k ∙ ap (λ b. cond b (Some w) (get k)) differs)

-- the key at a place
pub text_at : {K X : Type 0} (text : K → List ℕ) (es : List (K × X)) (i : ℕ) →
    slice_get (map text (keys_of es)) i ≡ option_map (λ e. text e.0) (slice_get es i)
text_at text [] i = refl
text_at text (e ∷ es) zero = refl
text_at text (e ∷ es) (suc i) = text_at text es i

pub texts_push : {K X : Type 0} (text : K → List ℕ) (es : List (K × X)) (k : K) (x : X) →
    map text (keys_of (es ++ (k, x) ∷ [])) ≡ map text (keys_of es) ++ text k ∷ []
texts_push text [] k x = refl
texts_push text (e ∷ es) k x = ap (λ l. text e.0 ∷ l) (texts_push text es k x)

-- the first event is found by its key
pub found_first : (c : Event) (cs : List Event) → is_some (event_about (key_of_event c) (c ∷ cs)) ≡ true
found_first c cs = ap (λ b. is_some (cond b (Some c) (event_about (key_of_event c) cs))) ((bytes_eq-Decides (key_of_event c) (key_of_event c)).1 refl)
