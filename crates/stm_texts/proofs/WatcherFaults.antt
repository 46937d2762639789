-- The first fault of a watcher's event is the fault that reading it answers.
use Rattle.std.proofs.Common.{◌≡◌, ℕ, List, [], ◌∷◌, Bool, true, false, cond, Option, Some, None, Ok, refl, codes, arith}
use Rattle.std.proofs.lemmas.Bool.Decides.{nat_tests}
use Rattle.serde_json.specs.Data.{Items, no_items, item}
use Rattle.stm_history.specs.declared.revisions.TheConstants.{HIGHEST_NUMBER}
use Rattle.stm_json.specs.declared.cause.Cause.TheVariants.{Shape}
use Rattle.stm_json.specs.Outcome.{bad}
use Rattle.stm_json.specs.Elements.{one_of, two_of, three_of, number_up_to}
use Rattle.stm_json.specs.Faults.{Sort, AnyText, first_of, at, faults_by, sorted_faults, any_number}
use Rattle.stm_json.specs.Parts.{text_of, same}
use Rattle.stm_json.proofs.FaultLemmas.{fault_of, wrong_is, part_then, text_faulted, number_reported}
use Rattle.stm_events.specs.declared.event.WorldEvent.{WorldEvent}
use Rattle.stm_events.specs.declared.event.WorldEvent.TheVariants.{WatchRange}
use Rattle.stm_texts.specs.Reading.{watch_key_of, watch_range_of, poll_of, cancel_of, watcher_event}

abbrev watch_key_sorts : List Sort
watch_key_sorts = AnyText ∷ any_number ∷ []

abbrev watch_range_sorts : List Sort
watch_range_sorts = AnyText ∷ AnyText ∷ any_number ∷ []

abbrev poll_sorts : List Sort
poll_sorts = any_number ∷ any_number ∷ []

abbrev cancel_sorts : List Sort
cancel_sorts = any_number ∷ []

watch_key_faulted : (p : List ℕ) (ds : Items) → first_of (sorted_faults p (Some watch_key_sorts) ds) ≡ fault_of p (watch_key_of (two_of ds))
watch_key_faulted p no_items = wrong_is p Shape (watch_key_of None) refl
watch_key_faulted p (item a no_items) = wrong_is p Shape (watch_key_of None) refl
watch_key_faulted p (item a (item b no_items)) = grind (arith, nat_tests, part_then, text_faulted, number_reported)
watch_key_faulted p (item a (item b (item c ds))) = wrong_is p Shape (watch_key_of None) refl

watch_range_faulted : (p : List ℕ) (ds : Items) → first_of (sorted_faults p (Some watch_range_sorts) ds) ≡ fault_of p (watch_range_of (three_of ds))
watch_range_faulted p no_items = wrong_is p Shape (watch_range_of None) refl
watch_range_faulted p (item a no_items) = wrong_is p Shape (watch_range_of None) refl
watch_range_faulted p (item a (item b no_items)) = wrong_is p Shape (watch_range_of None) refl
watch_range_faulted p (item a (item b (item c no_items))) =
    part_then p 1 (text_of a) _ (faults_by AnyText (at p 1) a) _ (text_faulted (at p 1) a) (λ (first : List ℕ).
    part_then p 2 (text_of b) _ (faults_by AnyText (at p 2) b) _ (text_faulted (at p 2) b) (λ (end : List ℕ).
    part_then p 3 (number_up_to HIGHEST_NUMBER c) (λ from. Ok (WatchRange first end from)) (faults_by any_number (at p 3) c) []
    (number_reported (at p 3) c) (λ from. refl)))
watch_range_faulted p (item a (item b (item c (item d ds)))) = wrong_is p Shape (watch_range_of None) refl

poll_faulted : (p : List ℕ) (ds : Items) → first_of (sorted_faults p (Some poll_sorts) ds) ≡ fault_of p (poll_of (two_of ds))
poll_faulted p no_items = wrong_is p Shape (poll_of None) refl
poll_faulted p (item a no_items) = wrong_is p Shape (poll_of None) refl
poll_faulted p (item a (item b no_items)) = grind (arith, nat_tests, part_then, number_reported)
poll_faulted p (item a (item b (item c ds))) = wrong_is p Shape (poll_of None) refl

cancel_faulted : (p : List ℕ) (ds : Items) → first_of (sorted_faults p (Some cancel_sorts) ds) ≡ fault_of p (cancel_of (one_of ds))
cancel_faulted p no_items = wrong_is p Shape (cancel_of None) refl
cancel_faulted p (item a no_items) = grind (arith, nat_tests, part_then, number_reported)
cancel_faulted p (item a (item b ds)) = wrong_is p Shape (cancel_of None) refl

word_tested : (p : List ℕ) (ds : Items) (key range poll cancel : Bool)
    → first_of (sorted_faults p (cond key (Some watch_key_sorts) (cond range (Some watch_range_sorts) (cond poll (Some poll_sorts)
    (cond cancel (Some cancel_sorts) None)))) ds)
    ≡ fault_of p (cond key (watch_key_of (two_of ds)) (cond range (watch_range_of (three_of ds)) (cond poll (poll_of (two_of ds))
    (cond cancel (cancel_of (one_of ds)) (bad Shape)))))
word_tested p ds true range poll cancel = watch_key_faulted p ds
word_tested p ds false true poll cancel = watch_range_faulted p ds
word_tested p ds false false true cancel = poll_faulted p ds
word_tested p ds false false false true = cancel_faulted p ds
word_tested p ds false false false false = wrong_is {A = WorldEvent} p Shape (bad Shape) refl

-- the elements that follow a watcher's word
abbrev pub watcher_rows : List ℕ → Option (List Sort)
watcher_rows w =
    cond (same w (codes "watch_key")) (Some watch_key_sorts) (cond (same w (codes "watch_range")) (Some watch_range_sorts)
    (cond (same w (codes "poll")) (Some poll_sorts) (cond (same w (codes "cancel")) (Some cancel_sorts) None)))

pub watcher_faulted : (p w : List ℕ) (ds : Items) → first_of (sorted_faults p (watcher_rows w) ds) ≡ fault_of p (watcher_event w ds)
unfolding watcher_event
watcher_faulted p w ds = grind (arith, nat_tests, word_tested)
