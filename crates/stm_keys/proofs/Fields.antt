-- The fields of a key store, the recorded revisions being the oldest first.
use Rattle.std.proofs.Common.{◌≡◌, ℕ, ◌+◌, ◌≤◌, ◌<◌, List, [], ◌∷◌, ◌++◌, length, map, reverse, take, drop, get_or, Option, suc}
use Rattle.std.proofs.Common.{sym, ◌∙◌, ap, subst, arith, is_some}
use Rattle.std.proofs.Math.Seq.{drop-cons}
use Rattle.std.proofs.lemmas.List.{length-reverse, length-take-le, reverse-append, take-append-drop, append_assoc}
use Rattle.stm_history.specs.declared.change.Change.{Change}
use Rattle.stm_history.specs.declared.key_state.KeyState.{KeyState}
use Rattle.stm_history.specs.declared.revisions.TheConstants.{HIGHEST_REVISION}
use Rattle.stm_history.specs.Opening.{Opening}
use Rattle.stm_history.specs.History.{key_after, IsRevision}
use Rattle.stm_keys.specs.declared.event.Event.{Event}
use Rattle.stm_keys.specs.Events.{event_of, events_numbered, event_about}
use Rattle.stm_keys.specs.Keys.{changes_of, all_events, IsKept}
use Rattle.stm_keys.specs.Chains.{Chain, versions_in, with_version}
use Rattle.stm_keys.proofs.Recorded.{numbered, kept_after, shown_after}

-- the newest of a list cut in two stand first once it is reversed
pub reverse-split : (n : ℕ) (xs : List (List Event)) → reverse xs ≡ reverse (drop n xs) ++ reverse (take n xs)
reverse-split n xs = ap reverse (sym (take-append-drop n xs)) ∙ reverse-append (take n xs) (drop n xs)

-- the revision at a place, those above it and those below
pub split_at : (xs : List (List Event)) (i : ℕ) (x : List Event) → i < length xs → x ≡ get_or xs i x →
    reverse xs ≡ reverse (drop (suc i) xs) ++ x ∷ reverse (take i xs)
split_at xs i x within is =
    let newer : List (List Event) = reverse (drop (suc i) xs) in
    let older : List (List Event) = reverse (take i xs) in
    reverse-split i xs
    ∙ ap (λ l. reverse l ++ older) (drop-cons xs i x within ∙ ap (λ e. e ∷ drop (suc i) xs) (sym is))
    ∙ ap (λ l. l ++ older) (reverse-append (x ∷ []) (drop (suc i) xs))
    ∙ append_assoc newer (x ∷ []) older

-- a recorded revision has the events of its number
pub events_at : (opening : Opening) (r : ℕ) (xs : List (List Event)) (chains : List ℕ → Option Chain) (i : ℕ) →
    IsKept opening (reverse xs) chains → i < length xs → r ≡ opening.number + suc i → (x : List Event) → x ≡ get_or xs i x →
    events_numbered opening r (changes_of (reverse xs)) ≡ x
events_at opening r xs chains i kept within place x is =
    let newer : List (List Event) = reverse (drop (suc i) xs) in
    let older : List (List Event) = reverse (take i xs) in
    let split : reverse xs ≡ newer ++ x ∷ older = split_at xs i x within is in
    ap (λ l. events_numbered opening r (changes_of l)) split
    ∙ numbered opening r newer x older (subst (λ l. l ≡ all_events opening (changes_of l)) split kept.events)
    (omega (arith, length-reverse (take i xs), length-take-le i xs (omega arith)))

-- a pushed revision keeps the fields, and is one more revision of the history
pub pushed : (opening : Opening) (number : ℕ) (xs ys : List (List Event)) (chains next : List ℕ → Option Chain) (before : List ℕ → Option KeyState)
    (changes : List Change) (events : List Event) →
    IsKept opening (reverse xs) chains → number ≡ opening.number + suc (length (reverse xs)) → number ≤ HIGHEST_REVISION → IsRevision changes →
    ((key : List ℕ) → before key ≡ key_after opening key (changes_of (reverse xs))) →
    events ≡ map (event_of number before) changes →
    ((key : List ℕ) → versions_in (next key) ≡ with_version (is_some (event_about key events)) number (versions_in (chains key))) →
    ys ≡ xs ++ events ∷ [] →
    IsKept opening (reverse ys) next × (changes_of (reverse ys) ≡ changes ∷ changes_of (reverse xs))
pushed opening number xs ys chains next before changes events kept place room revision now made noted is =
    let last : reverse ys ≡ events ∷ reverse xs = ap reverse is ∙ reverse-append xs (events ∷ []) in
    let shown : events ≡ map (event_of (opening.number + suc (length (reverse xs))) before) changes =
    made ∙ ap (λ n. map (event_of n before) changes) place in (
      subst (λ l. IsKept opening l next) (sym last)
          (kept_after opening (reverse xs) chains next before changes events kept (omega (arith, place, room)) revision now shown
          (λ key. noted key ∙ ap (λ n. with_version (is_some (event_about key events)) n (versions_in (chains key))) place)),
      ap changes_of last ∙ shown_after (opening.number + suc (length (reverse xs))) (reverse xs) before changes events shown,
    )
