-- The events of a recorded revision are about different keys, so a key's event is found wherever it stands.
use Rattle.std.proofs.Common.{◌≡◌, ℕ, ◌<◌, Bool, true, List, [], ◌∷◌, ◌++◌, length, map, reverse, take, drop, get_or, Option, Some, None, zero, suc}
use Rattle.std.proofs.Common.{refl, ◌∙◌, ap, subst, arith, cond}
use Rattle.std.specs.Prelude.{bytes_eq}
use Rattle.std.proofs.Math.Seq.{drop-cons}
use Rattle.std.proofs.lemmas.List.{reverse-append, append_assoc}
use Rattle.std.proofs.lemmas.Slice.Eq.{bytes_eq-Decides}
use Rattle.std.proofs.lemmas.Bool.Decides.{nat_tests}
use Rattle.stm_history.specs.declared.change.Change.{Change}
use Rattle.stm_history.specs.History.{key_of, change_of, HasDistinctKeys, AreRevisions}
use Rattle.stm_keys.specs.declared.event.Event.{Event}
use Rattle.stm_keys.specs.Events.{key_of_event, event_about, change_of_event, AreApart}
use Rattle.stm_keys.specs.Keys.{changes_of}
use Rattle.stm_keys.proofs.Fields.{reverse-split}

-- events are about different keys where their changes are
key_shown : (e : Event) → key_of (change_of_event e) ≡ key_of_event e
key_shown e = grind (arith, nat_tests)

shown_case : (b : Bool) (c : Change) (e : Event) (o : Option Change) (p : Option Event) → cond b (Some c) o ≡ None → (o ≡ None → p ≡ None) →
    cond b (Some e) p ≡ None
shown_case b c e o p none rest = grind (arith, nat_tests)

none_shown : (key : List ℕ) (es : List Event) → change_of key (map change_of_event es) ≡ None → event_about key es ≡ None
none_shown key [] none = refl
none_shown key (e ∷ es) none = grind (arith, nat_tests, shown_case, key_shown, none_shown key es)

apart_shown : (es : List Event) → HasDistinctKeys (map change_of_event es) → AreApart es
apart_shown [] distinct = tt
apart_shown (e ∷ es) distinct = grind (arith, nat_tests, none_shown, key_shown, apart_shown es distinct.1)

among : (newer : List (List Event)) (x : List Event) (older : List (List Event)) → AreRevisions (changes_of (newer ++ x ∷ older)) → AreApart x
among [] x older are = apart_shown x are.0.1
among (y ∷ newer) x older are = among newer x older are.1

-- the revisions at a place, the oldest standing first
pub apart_there : (xs : List (List Event)) (place : ℕ) → AreRevisions (changes_of (reverse xs)) → place < length xs → AreApart (get_or xs place [])
apart_there xs place are within =
    let newer : List (List Event) = reverse (drop (suc place) xs) in
    let older : List (List Event) = reverse (take place xs) in
    let x : List Event = get_or xs place [] in
    let split : reverse xs ≡ newer ++ x ∷ older =
    reverse-split place xs
    ∙ ap (λ l. reverse l ++ older) (drop-cons xs place [] within)
    ∙ ap (λ l. l ++ older) (reverse-append (x ∷ []) (drop (suc place) xs))
    ∙ append_assoc newer (x ∷ []) older in
    among newer x older (subst (λ l. AreRevisions (changes_of l)) split are)

-- of events about different keys each is the one of its key
pub stands_there : (es : List Event) (key : List ℕ) (spot : ℕ) (e : Event) → AreApart es → spot < length es → e ≡ get_or es spot e →
    bytes_eq (key_of_event e) key ≡ true → Some e ≡ event_about key es
stands_there [] key spot e apart within is same = absurd (omega (arith, within))
stands_there (x ∷ es) key zero e apart within is same = grind (arith, nat_tests)
stands_there (x ∷ es) key (suc spot) e apart within is same =
    grind (arith, nat_tests, bytes_eq-Decides, stands_there es key spot e apart.1 (omega (arith, within)) is same)
