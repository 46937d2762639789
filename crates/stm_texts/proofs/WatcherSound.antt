-- What is read of a watcher's event is spelled by the data.
use Rattle.std.proofs.Common.{◌≡◌, ℕ, List, Bool, true, false, cond, Option, Some, Ok, refl, codes, arith}
use Rattle.std.proofs.lemmas.Slice.Eq.{bytes_eq-Decides}
use Rattle.std.proofs.lemmas.Bool.Decides.{nat_tests}
use Rattle.serde_json.specs.Data.{Data, Items}
use Rattle.stm_json.specs.declared.cause.Cause.TheVariants.{Shape}
use Rattle.stm_json.specs.Outcome.{bad}
use Rattle.stm_json.specs.Elements.{worded, one_of, two_of, three_of}
use Rattle.stm_json.proofs.OutcomeLemmas.{bind_ok, within_ok}
use Rattle.stm_json.proofs.ElementLemmas.{one_of-is, two_of-is, three_of-is}
use Rattle.stm_json.specs.Parts.{same}
use Rattle.stm_json.proofs.PartLemmas.{text_of-is, up_to_is, word_and}
use Rattle.stm_events.specs.declared.event.WorldEvent.{WorldEvent}
use Rattle.stm_texts.specs.Grammar.{SpellsEvent}
use Rattle.stm_texts.specs.Reading.{watch_key_of, watch_range_of, poll_of, cancel_of, watcher_event}

watch_key_sound : (d : Data) (p : List ℕ × Items) (o : Option (Data × Data)) (e : WorldEvent) → worded d ≡ Some p → p.0 ≡ codes "watch_key"
    → two_of p.1 ≡ o → watch_key_of o ≡ Ok e → SpellsEvent d e
watch_key_sound d p o e w t i h = grind (arith, nat_tests, bind_ok, text_of-is, within_ok, word_and, two_of-is, up_to_is)

watch_range_sound : (d : Data) (p : List ℕ × Items) (o : Option (Data × Data × Data)) (e : WorldEvent) → worded d ≡ Some p
    → p.0 ≡ codes "watch_range" → three_of p.1 ≡ o → watch_range_of o ≡ Ok e → SpellsEvent d e
watch_range_sound d p o e w t i h = grind (arith, nat_tests, bind_ok, text_of-is, within_ok, word_and, three_of-is, up_to_is)

poll_sound : (d : Data) (p : List ℕ × Items) (o : Option (Data × Data)) (e : WorldEvent) → worded d ≡ Some p → p.0 ≡ codes "poll" → two_of p.1 ≡ o
    → poll_of o ≡ Ok e → SpellsEvent d e
poll_sound d p o e w t i h = grind (arith, nat_tests, bind_ok, word_and, two_of-is, up_to_is, within_ok)

cancel_sound : (d : Data) (p : List ℕ × Items) (o : Option Data) (e : WorldEvent) → worded d ≡ Some p → p.0 ≡ codes "cancel" → one_of p.1 ≡ o
    → cancel_of o ≡ Ok e → SpellsEvent d e
cancel_sound d p o e w t i h = grind (arith, nat_tests, bind_ok, word_and, one_of-is, up_to_is, within_ok)

word_sound : (d : Data) (p : List ℕ × Items) (e : WorldEvent) (key range poll cancel : Bool) → worded d ≡ Some p
    → same p.0 (codes "watch_key") ≡ key → same p.0 (codes "watch_range") ≡ range → same p.0 (codes "poll") ≡ poll → same p.0 (codes "cancel") ≡ cancel
    → cond key (watch_key_of (two_of p.1)) (cond range (watch_range_of (three_of p.1)) (cond poll (poll_of (two_of p.1))
    (cond cancel (cancel_of (one_of p.1)) (bad Shape)))) ≡ Ok e
    → SpellsEvent d e
word_sound d p e true range poll cancel w s1 s2 s3 s4 h = watch_key_sound d p (two_of p.1) e w ((bytes_eq-Decides p.0 (codes "watch_key")).0 s1) refl h
word_sound d p e false true poll cancel w s1 s2 s3 s4 h =
    watch_range_sound d p (three_of p.1) e w ((bytes_eq-Decides p.0 (codes "watch_range")).0 s2) refl h
word_sound d p e false false true cancel w s1 s2 s3 s4 h = poll_sound d p (two_of p.1) e w ((bytes_eq-Decides p.0 (codes "poll")).0 s3) refl h
word_sound d p e false false false true w s1 s2 s3 s4 h = cancel_sound d p (one_of p.1) e w ((bytes_eq-Decides p.0 (codes "cancel")).0 s4) refl h
word_sound d p e false false false false w s1 s2 s3 s4 h = cc

pub watcher_sound : (d : Data) (p : List ℕ × Items) (e : WorldEvent) → worded d ≡ Some p → watcher_event p.0 p.1 ≡ Ok e → SpellsEvent d e
unfolding watcher_event
watcher_sound d p e w h = grind (arith, nat_tests, word_sound)
