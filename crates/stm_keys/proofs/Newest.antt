-- The newest event of a key is about the key.
use Rattle.std.proofs.Common.{◌≡◌, ℕ, List, [], ◌∷◌, Option, Some, IfSome, Bool, refl, cond, arith}
use Rattle.std.specs.Prelude.{bytes_eq}
use Rattle.std.proofs.lemmas.Slice.Eq.{bytes_eq-Decides}
use Rattle.std.proofs.lemmas.Bool.Decides.{nat_tests}
use Rattle.stm_keys.specs.declared.event.Event.{Event}
use Rattle.stm_keys.specs.Events.{key_of_event, event_about}
use Rattle.stm_keys.specs.Chains.{Versions, newest_event}

about_case : (key : List ℕ) (e : Event) (rest : Option Event) (b : Bool) → bytes_eq (key_of_event e) key ≡ b →
    IfSome rest (λ event. key_of_event event ≡ key) → IfSome (cond b (Some e) rest) (λ event. key_of_event event ≡ key)
about_case key e rest b same about = grind (arith, nat_tests, bytes_eq-Decides)

is_about : (key : List ℕ) (events : List Event) → IfSome (event_about key events) (λ event. key_of_event event ≡ key)
is_about key [] = tt
is_about key (e ∷ es) = about_case key e (event_about key es) (bytes_eq (key_of_event e) key) refl (is_about key es)

pub newest_about : (below : ℕ) (recorded : List (List Event)) (key : List ℕ) (versions : Versions) →
    IfSome (newest_event below recorded key versions) (λ event. key_of_event event ≡ key)
newest_about below recorded key versions = grind (arith, nat_tests, is_about)
