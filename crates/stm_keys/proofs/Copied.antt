-- What copies of the chains and of the revisions keep.
use Rattle.std.proofs.Common.{◌≡◌, ℕ, ◌+◌, ◌≤◌, length, Bool, cond, List, [], ◌∷◌, map, reverse, Option, Some, is_some, String, refl, arith}
use Rattle.std.specs.Prelude.{bytes_eq, string_bytes}
use Rattle.std.specs.List.{AllZip}
use Rattle.std.specs.Map.{lookup, keys_of}
use Rattle.std.proofs.lemmas.Bool.Decides.{nat_tests}
use Rattle.stm_history.specs.Opening.{Opening}
use Rattle.stm_history.specs.History.{key_after}
use Rattle.stm_keys.specs.declared.event.Event.{Event}
use Rattle.stm_keys.specs.Keys.{Contents, IsKept, changes_of}
use Rattle.stm_keys.specs.Chains.{Chain, versions_in, present_among, StandFirst}
use Rattle.stm_keys.proofs.Walked.{kept_with_room}

-- a copy of a chain under its key
abbrev pub IsChainCopy : {A : Type 0} → String A × Chain → String A × Chain → Type 0
IsChainCopy e f = (string_bytes f.0 ≡ string_bytes e.0) × (f.1.versions ≡ e.1.versions)

pub names_copied : {A : Type 0} (es fs : List (String A × Chain)) → AllZip IsChainCopy es fs
    → map string_bytes (keys_of fs) ≡ map string_bytes (keys_of es)
names_copied [] [] p = refl
names_copied [] (f ∷ fs) p = absurd p
names_copied (e ∷ es) [] p = absurd p
names_copied (e ∷ es) (f ∷ fs) p = grind (arith, nat_tests, names_copied es fs p.1)

-- the versions that one of two look-ups finds
versions_by : (b : Bool) (x y : Chain) (more rest : Option Chain) → x.versions ≡ y.versions → versions_in more ≡ versions_in rest
    → versions_in (cond b (Some x) more) ≡ versions_in (cond b (Some y) rest)
versions_by b x y more rest same others = grind (arith, nat_tests)

pub versions_copied : {A : Type 0} (es fs : List (String A × Chain)) (key : List ℕ) → AllZip IsChainCopy es fs
    → versions_in (lookup (λ k. bytes_eq key (string_bytes k)) fs) ≡ versions_in (lookup (λ k. bytes_eq key (string_bytes k)) es)
versions_copied [] [] key p = refl
versions_copied [] (f ∷ fs) key p = absurd p
versions_copied (e ∷ es) [] key p = absurd p
versions_copied (e ∷ es) (f ∷ fs) key p = grind (arith, nat_tests, versions_by, versions_copied es fs key p.1)

-- what contracts see of these fields
abbrev pub contents_of : Opening → ℕ → ℕ → List (List Event) → List (List ℕ) → Contents
contents_of opening opened floor recorded names = record {
  history = record { opening = opening; revisions = changes_of (reverse recorded) };
  present = present_among (λ key. key_after opening key (changes_of (reverse recorded))) names;
  opened = opened;
  floor = floor;
}

-- what a key store keeps true of these fields
abbrev pub AreFields : Opening → ℕ → List (List Event) → (List ℕ → Option Chain) → ℕ → List (List ℕ) → Type 0
AreFields opening floor recorded chains present names =
    IsKept opening (reverse recorded) chains × StandFirst (λ key. is_some (key_after opening key (changes_of (reverse recorded)))) present names
    × (floor ≤ opening.number + length recorded)

module _ (opening next : Opening) (floor present : ℕ) (recorded copies : List (List Event)) (chains copied : List ℕ → Option Chain)
    (names copy_names : List (List ℕ)) (alike : next ≡ opening) (same : copies ≡ recorded)
    (versions : (key : List ℕ) → versions_in (copied key) ≡ versions_in (chains key)) (same_names : copy_names ≡ names) where
  pub fields_copied : AreFields opening floor recorded chains present names → AreFields next floor copies copied present copy_names
  fields_copied are = grind (arith, nat_tests, kept_with_room)

  pub contents_copied : (opened : ℕ) → contents_of next opened floor copies copy_names ≡ contents_of opening opened floor recorded names
  contents_copied opened = grind (arith, nat_tests)
