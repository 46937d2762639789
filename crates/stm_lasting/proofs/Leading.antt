-- What records lead to, with one more record.
use Rattle.std.proofs.Common.{◌≡◌, ◌⊎◌, inl, inr, ⊎_elim, ℕ, suc, ◌+◌, ◌^◌, ◌<◌, ◌≤◌, get_or, List, [], ◌∷◌, ◌++◌, length, take, drop, refl, sym, ◌∙◌, ap, arith}
use Rattle.std.specs.Prelude.{Option, None, Some, option_and_then, Ok, Err}
use Rattle.std.proofs.lemmas.List.{drop_all}
use Rattle.std.proofs.Math.Seq.{drop-cons}
use Rattle.std.proofs.lemmas.Option.{none-some}
use Rattle.stm_json.specs.Outcome.{Outcome}
use Rattle.stm_texts.specs.declared.scenario.Scenario.{Scenario}
use Rattle.stm_texts.specs.Opens.{setup_of}
use Rattle.stm_texts.specs.Reading.{scenario_in}
use Rattle.stm_world.specs.World.{World, opened, world_after}
use Rattle.stm_frames.specs.Frame.{frame, log, at_places}
use Rattle.stm_frames.proofs.Frames.{log-push}
use Rattle.stm_frames.proofs.Unique.{opens_one, opens_log}
use Rattle.stm_records.proofs.Heads.{log_head}
use Rattle.stm_lasting.specs.Kept.{taken, led, begun_with, world_in, IsKept, LeadsTo, IsReady, LeavesWhole, IsWorldBeforeOrAfter}

-- ---- one record more ----

led_by : (read : Outcome Scenario) (texts more : List (List ℕ)) (from to next : World)
    → ((w : World) → led texts w ≡ Some to → led more w ≡ Some next) → option_and_then (led texts) (taken from read) ≡ Some to
    → option_and_then (led more) (taken from read) ≡ Some next
led_by (Ok s) texts more from to next on leads = on (world_after s.events from) leads
led_by (Err fault) texts more from to next on leads = absurd (none-some to leads)

led_on : (texts : List (List ℕ)) (text : List ℕ) (scenario : Scenario) (from to : World) → scenario_in text ≡ Ok scenario → led texts from ≡ Some to
    → led (texts ++ text ∷ []) from ≡ Some (world_after scenario.events to)
led_on [] text scenario from to spelled leads =
    ap (λ (o : Outcome Scenario). option_and_then (led []) (taken from o)) spelled
    ∙ ap (λ (o : Option World). option_and_then (λ (w : World). Some (world_after scenario.events w)) o) leads
led_on (first ∷ texts) text scenario from to spelled leads =
    led_by (scenario_in first) texts (texts ++ text ∷ []) from to (world_after scenario.events to) (λ w is. led_on texts text scenario w to spelled is) leads

begun_by : (first : Option World) (texts more : List (List ℕ)) (to next : World) → ((w : World) → led texts w ≡ Some to → led more w ≡ Some next)
    → option_and_then (led texts) first ≡ Some to → option_and_then (led more) first ≡ Some next
begun_by (Some w) texts more to next on leads = on w leads
begun_by None texts more to next on leads = absurd (none-some to leads)

world_on : (texts : List (List ℕ)) (text : List ℕ) (scenario : Scenario) (to : World) → (texts ≡ [] → ⊥) → scenario_in text ≡ Ok scenario
    → world_in texts ≡ Some to → world_in (texts ++ text ∷ []) ≡ Some (world_after scenario.events to)
world_on [] text scenario to some spelled leads = absurd (some refl)
world_on (first ∷ texts) text scenario to some spelled leads =
    begun_by (begun_with (scenario_in first) first) texts (texts ++ text ∷ []) to (world_after scenario.events to) (λ w is. led_on texts text scenario w to spelled is)
    leads

first_world : (text : List ℕ) (scenario : Scenario) → scenario_in text ≡ Ok scenario
    → world_in (text ∷ []) ≡ Some (world_after scenario.events (opened (setup_of scenario.opening)))
first_world text scenario spelled = ap (λ (o : Outcome Scenario). option_and_then (led []) (begun_with o text)) spelled

-- what is ready leads to the world after the scenario
pub ready_leads : (file text : List ℕ) (world : World) (scenario : Scenario) → scenario_in text ≡ Ok scenario → IsReady file world scenario
    → LeadsTo file text (world_after scenario.events world)
ready_leads file text world scenario spelled (inl new) = record {
  records = [];
  whole = new.0;
  leads = first_world text scenario spelled ∙ ap (λ (w : World). Some (world_after scenario.events w)) (sym new.1);
}
ready_leads file text world scenario spelled (inr old) = record {
  records = old.1.records;
  whole = old.1.whole;
  leads = world_on old.1.records text scenario world (λ none. old.0 (old.1.whole ∙ ap (λ (rs : List (List ℕ)). log 0 rs) none)) spelled old.1.leads;
}

-- ---- a step of the loop over the records ----

pub next_led : (texts : List (List ℕ)) (text : List ℕ) (from to : World) → taken from (scenario_in text) ≡ Some to → led (text ∷ texts) from ≡ led texts to
next_led texts text from to is = ap (λ (o : Option World). option_and_then (led texts) o) is

-- ---- a file and its records ----

pub one_more : (file new text : List ℕ) (world : World) → (leads : LeadsTo file text world) → new ≡ file ++ frame (length file) text → IsKept new world
one_more file new text world leads is = record {
  records = leads.records ++ text ∷ [];
  whole = is ∙ ap (λ (l : List ℕ). l ++ frame (length file) text) leads.whole ∙ sym (log-push leads.records text (length file) (ap length leads.whole));
  leads = leads.leads;
}

same_records : (file : List ℕ) (rs qs : List (List ℕ)) → length file < 2 ^ 64 → file ≡ log 0 rs → file ≡ log 0 qs → rs ≡ qs
same_records file rs qs short is are = opens_one file rs qs short (opens_log file rs is) (opens_log file qs are)

-- the file as it was
pub still : (file text : List ℕ) (after : World) (c : List ℕ) → c ≡ file → IsWorldBeforeOrAfter file text after c
still file text after c is = λ before kept chance.
    inl (record { head = log_head c kept.records (is ∙ kept.whole); records = kept.records; opens = opens_log c kept.records (is ∙ kept.whole); leads = kept.leads })

-- what a crash left of a file and one more record, as worlds
pub as_worlds : (file text : List ℕ) (after : World) (c : List ℕ) → length file < 2 ^ 64 → LeadsTo file text after → LeavesWhole file text c
    → IsWorldBeforeOrAfter file text after c
as_worlds file text after c short leads left = λ before kept chance.
    let head = left.1 (log_head file kept.records kept.whole) in
    ⊎_elim
    (λ without. inl (record { head = head; records = kept.records; opens = without; leads = kept.leads }))
    (λ with_it. inr (record {
      head = head;
      records = kept.records ++ text ∷ [];
      opens = with_it;
      leads = ap (λ (rs : List (List ℕ)). world_in (rs ++ text ∷ [])) (same_records file kept.records leads.records short kept.whole leads.whole) ∙ leads.leads;
    }))
    (left.0 kept.records kept.whole chance)

-- ---- a loop over the places of records ----

-- the place at hand, and those behind it
next_place : (bytes : List ℕ) (places : List (ℕ × ℕ)) (i : ℕ) (other : ℕ × ℕ) → i < length places
    → at_places bytes (drop i places)
    ≡ take (get_or places i other).1 (drop (get_or places i other).0 bytes) ∷ at_places bytes (drop (i + 1) places)
next_place bytes places i other within =
    let step : i + 1 ≡ suc i = omega arith in
    ap (λ (l : List (ℕ × ℕ)). at_places bytes l) (drop-cons places i other within ∙ ap (λ (n : ℕ). get_or places i other ∷ drop n places) (sym step))

-- one record taken, from what is left at it
pub taken_on : (bytes : List ℕ) (places : List (ℕ × ℕ)) (i : ℕ) (other : ℕ × ℕ) (from to begun : World) → i < length places
    → taken from (scenario_in (take (get_or places i other).1 (drop (get_or places i other).0 bytes))) ≡ Some to
    → led (at_places bytes (drop i places)) from ≡ led (at_places bytes places) begun
    → led (at_places bytes (drop (i + 1) places)) to ≡ led (at_places bytes places) begun
taken_on bytes places i other from to begun within step so_far =
    sym (next_led (at_places bytes (drop (i + 1) places)) (take (get_or places i other).1 (drop (get_or places i other).0 bytes)) from to step)
    ∙ ap (λ (texts : List (List ℕ)). led texts from) (sym (next_place bytes places i other within)) ∙ so_far

-- a record that spells no scenario
pub taken_nowhere : (bytes : List ℕ) (places : List (ℕ × ℕ)) (i : ℕ) (other : ℕ × ℕ) (from begun : World) → i < length places
    → taken from (scenario_in (take (get_or places i other).1 (drop (get_or places i other).0 bytes))) ≡ None
    → led (at_places bytes (drop i places)) from ≡ led (at_places bytes places) begun → led (at_places bytes places) begun ≡ None
taken_nowhere bytes places i other from begun within step so_far =
    sym so_far ∙ ap (λ (texts : List (List ℕ)). led texts from) (next_place bytes places i other within)
    ∙ ap (λ (o : Option World). option_and_then (led (at_places bytes (drop (i + 1) places))) o) step

-- once none is left
pub all_taken : (bytes : List ℕ) (places : List (ℕ × ℕ)) (i : ℕ) (to begun : World) → length places ≤ i
    → led (at_places bytes (drop i places)) to ≡ led (at_places bytes places) begun → led (at_places bytes places) begun ≡ Some to
all_taken bytes places i to begun end so_far =
    sym so_far ∙ ap (λ (l : List (ℕ × ℕ)). led (at_places bytes l) to) (drop_all i places end)
