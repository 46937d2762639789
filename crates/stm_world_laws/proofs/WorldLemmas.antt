-- Recipes over all that happens in a world.
use Rattle.std.proofs.Common.{◌≡◌, ℕ, ◌<◌, List, [], ◌∷◌, ◌++◌, length, Some, refl, sym, ◌∙◌, ap, subst, arith}
use Rattle.std.specs.Prelude.{ℤ, pos, ◌+ℤ◌}
use Rattle.std.proofs.lemmas.Int.{ints}
use Rattle.std.proofs.lemmas.Bool.Decides.{nat_tests}
use Rattle.stm_steps.specs.Values.{written_number}
use Rattle.stm_compile.proofs.AgreeLemmas.{commit_is_the_run_now}
use Rattle.stm_compile.proofs.ConflictLemmas.{failed_compares_conflict}
use Rattle.stm_entries.specs.declared.entry.Entry.{Entry}
use Rattle.stm_entries.specs.Legal.{AreLegal}
use Rattle.stm_entries.specs.Replay.{replay, replay_entry}
use Rattle.stm_entries.specs.Replayed.{Replayed, opening, without_moment}
use Rattle.stm_entries.proofs.Replaying.{replay_goes_on, all_legal, front_legal, rest_legal}
use Rattle.stm_recipes.specs.Accounts.{sum_of}
use Rattle.stm_events.specs.declared.event.WorldEvent.{WorldEvent}
use Rattle.stm_world.specs.World.{opened, world_after}
use Rattle.stm_world.proofs.Headlines.{headline}
use Rattle.stm_world_laws.specs.Accounts.{total_now, counted_total, AreAccounts, AreOfAccounts, deposits_of}
use Rattle.stm_world_laws.specs.Queues.{HoldsItems, AreOfQueue, all_added, all_taken, Kept}
use Rattle.stm_world_laws.specs.Slots.{IsReservation, AreOfSlot, IsFreed}
use Rattle.stm_world_laws.specs.Worlds.{entries_after, history_after, RecipesInWorlds}
use Rattle.stm_world_laws.proofs.AccountLemmas.{totals_grow_by_deposits, counted_totals}
use Rattle.stm_world_laws.proofs.QueueLemmas.{queues_keep_their_items}
use Rattle.stm_world_laws.proofs.SlotLemmas.{slots_are_freed_between}
use Rattle.stm_txn.specs.Standing.{Setup}

-- the entries of a world are legal and lead to its store
record Leads (start : Setup) (events : List WorldEvent) : Type 0 where
  legal : AreLegal (entries_after start events) (opening start.revision)
  replays : replay (entries_after start events) (opening start.revision) ≡ without_moment (world_after events (opened start)).standing

leads : (start : Setup) (events : List WorldEvent) → Leads start events
leads start events =
    let h = headline (record { run_now = commit_is_the_run_now; conflicts = failed_compares_conflict }) start events in
    record { legal = h.legal; replays = h.replays }

totals : (start : Setup) (events : List WorldEvent) (accounts : List (List ℕ)) (front rest : List Entry) (total : ℤ) → AreAccounts accounts →
    entries_after start events ≡ front ++ rest → (of : AreOfAccounts accounts rest (replay front (opening start.revision))) →
    total_now (replay front (opening start.revision)).history accounts ≡ Some total →
    total_now (history_after start events) accounts ≡ Some (total +ℤ deposits_of accounts rest (replay front (opening start.revision)) of)
totals start events accounts front rest total are parts of sums =
    let l : Leads start events = leads start events in
    let at : Replayed = replay front (opening start.revision) in
    let legal : AreLegal rest at = rest_legal front rest (opening start.revision) (subst (λ (es : List Entry). AreLegal es (opening start.revision)) parts l.legal) in
    ap (λ (r : Replayed). total_now r.history accounts)
    (sym l.replays ∙ ap (λ (es : List Entry). replay es (opening start.revision)) parts ∙ replay_goes_on front rest (opening start.revision))
    ∙ totals_grow_by_deposits.grows accounts rest at total are legal of sums

-- accounts of a store that opens count as 0
none_deposited : (start : Setup) (accounts : List (List ℕ)) → counted_total (opening start.revision).history accounts ≡ Some (pos 0)
unfolding written_number
none_deposited start [] = refl
none_deposited start (a ∷ accounts) = ap (sum_of (Some (pos 0))) (none_deposited start accounts)

deposits : (start : Setup) (events : List WorldEvent) (accounts : List (List ℕ)) (es : List Entry) → AreAccounts accounts → entries_after start events ≡ es →
    (of : AreOfAccounts accounts es (opening start.revision)) → counted_total (history_after start events) accounts ≡ Some (deposits_of accounts es (opening start.revision) of)
deposits start events accounts es are parts of =
    let l : Leads start events = leads start events in
    let legal : AreLegal es (opening start.revision) = subst (λ (xs : List Entry). AreLegal xs (opening start.revision)) parts l.legal in
    let sum : ℤ = deposits_of accounts es (opening start.revision) of in
    let from_none : pos 0 +ℤ sum ≡ sum = omega (arith, ints) in
    ap (λ (r : Replayed). counted_total r.history accounts) (sym l.replays ∙ ap (λ (xs : List Entry). replay xs (opening start.revision)) parts)
    ∙ counted_totals.grow accounts es (opening start.revision) (pos 0) are legal of (none_deposited start accounts) ∙ ap (λ (z : ℤ). Some z) from_none

-- a queue of a store that opens holds nothing
holds_nothing : (start : Setup) (queue : List ℕ) → HoldsItems (opening start.revision).history queue []
holds_nothing start queue = grind (arith, nat_tests)

items : (start : Setup) (events : List WorldEvent) (queue : List ℕ) (es : List Entry) → 0 < length queue → entries_after start events ≡ es →
    (of : AreOfQueue queue es (opening start.revision)) →
    Kept queue [] (all_taken queue es (opening start.revision) of) (all_added queue es (opening start.revision) of) (history_after start events)
items start events queue es named are of =
    let l : Leads start events = leads start events in
    let legal : AreLegal es (opening start.revision) = subst (λ (xs : List Entry). AreLegal xs (opening start.revision)) are l.legal in
    subst (λ (r : Replayed). Kept queue [] (all_taken queue es (opening start.revision) of) (all_added queue es (opening start.revision) of) r.history)
    (ap (λ (xs : List Entry). replay xs (opening start.revision)) (sym are) ∙ l.replays)
    (queues_keep_their_items queue es (opening start.revision) [] named legal of (holds_nothing start queue))

holders : (start : Setup) (events : List WorldEvent) (slot : List ℕ) (front between rest : List Entry) (first second : Entry) → 0 < length slot →
    entries_after start events ≡ front ++ (first ∷ between ++ second ∷ rest) → IsReservation slot first → IsReservation slot second →
    AreOfSlot slot between (replay_entry first (replay front (opening start.revision))) →
    IsFreed slot between (replay_entry first (replay front (opening start.revision)))
holders start events slot front between rest first second named parts reserves again of =
    let l : Leads start events = leads start events in
    let at : Replayed = replay front (opening start.revision) in
    let after : Replayed = replay_entry first at in
    let legal : AreLegal (first ∷ between ++ second ∷ rest) at =
    rest_legal front (first ∷ between ++ second ∷ rest) (opening start.revision) (subst (λ (es : List Entry). AreLegal es (opening start.revision)) parts l.legal) in
    let both : AreLegal (between ++ second ∷ []) after =
    all_legal between (second ∷ []) after (front_legal between (second ∷ rest) after legal.1) ((rest_legal between (second ∷ rest) after legal.1).0, tt) in
    slots_are_freed_between slot first second between at named (legal.0, both) reserves again of

pub recipes_in_worlds : RecipesInWorlds
recipes_in_worlds = record { totals = totals; deposits = deposits; items = items; holders = holders }
