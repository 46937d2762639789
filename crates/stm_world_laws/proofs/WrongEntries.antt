-- Wrong entries of recipes are rejected.
use Rattle.std.proofs.Common.{◌≡◌, ◌≢◌, ℕ, ◌+◌, ◌<◌, zero, suc, List, [], ◌∷◌, ◌++◌, length, Option, Some, None, true, false, refl, sym, ◌∙◌, ap, arith}
use Rattle.std.specs.Prelude.{ℤ, pos, ◌+ℤ◌, int_lt, is_some, slice_get}
use Rattle.std.proofs.lemmas.List.{length-append}
use Rattle.std.proofs.lemmas.Option.{same_Some}
use Rattle.std.proofs.lemmas.Bool.{not-false, Decides.nat_tests}
use Rattle.stm_history.specs.declared.key_state.KeyState.{KeyState}
use Rattle.stm_history.specs.History.{History, key_now, value_of as value_now}
use Rattle.stm_steps.specs.Values.{written_number}
use Rattle.stm_steps.specs.declared.run.Run.{Run}
use Rattle.stm_steps.specs.declared.run.End.TheVariants.{Done as DoneEnd}
use Rattle.stm_meaning.specs.Leaves.{value_in}
use Rattle.stm_compile.specs.Answers.{state_now}
use Rattle.stm_entries.specs.declared.entry.Entry.{Entry}
use Rattle.stm_entries.specs.Legal.{IsLegal, AreLegal}
use Rattle.stm_entries.specs.Replay.{replay, replay_entry}
use Rattle.stm_entries.specs.Replayed.{Replayed}
use Rattle.stm_entries.proofs.Replaying.{rest_legal}
use Rattle.stm_recipes.specs.Accounts.{transfer_program}
use Rattle.stm_recipes.specs.Slots.{release_program}
use Rattle.stm_recipes.specs.Alone.{deed_of, moved_or_refused, transferred}
use Rattle.stm_recipes.proofs.AccountRuns.{transfer_alone}
use Rattle.stm_recipes.proofs.SlotRuns.{release_alone}
use Rattle.stm_world_laws.specs.Commits.{IsCommitOf}
use Rattle.stm_world_laws.specs.Accounts.{number_of, balance_now, deposits_of}
use Rattle.stm_world_laws.specs.Queues.{all_added, all_taken, Kept}
use Rattle.stm_world_laws.specs.Slots.{IsReservation, is_held, IsHeldBy}
use Rattle.stm_world_laws.specs.WrongEntries.{can_pay, WrongTransfers, WrongDequeues, AllLeaveSlot, WrongReservations}
use Rattle.stm_world_laws.proofs.CommitLemmas.{Committed, committed, now_is_known}
use Rattle.stm_world_laws.proofs.AccountNumbers.{number_is, as_written}
use Rattle.stm_world_laws.proofs.AccountLemmas.{enough_by, number_found, totals_grow_by_deposits}
use Rattle.stm_world_laws.proofs.QueueKeys.{keys_differ}
use Rattle.stm_world_laws.proofs.QueueLemmas.{nothing_to_take, queues_keep_their_items}
use Rattle.stm_world_laws.proofs.SlotLemmas.{reservations_take_free_slots, held_is_held}

-- ---- accounts

-- a transfer that is done could be paid
cannot_pay : (o : Option ℤ) (account : Option KeyState) (from to : List ℕ) (amount : ℕ) (values : List ℕ → List ℕ) (run : Run) → number_of account ≡ o →
    can_pay o amount ≡ false → run.end ≡ DoneEnd → deed_of run ≡ moved_or_refused from to amount values (written_number (value_now account)) → ⊥
cannot_pay None account from to amount values run is short ended deed =
    let found = number_found from to amount values (written_number (value_now account)) run ended deed in
    let both : None ≡ Some found.0 = sym is ∙ as_written.written account found.0 found.1 in
    absurd (cc)
cannot_pay (Some balance) account from to amount values run is short ended deed =
    let enough : int_lt balance (pos amount) ≡ false =
    (enough_by (int_lt balance (pos amount)) from to amount values balance run ended
    (deed ∙ ap (moved_or_refused from to amount values) (number_is account balance is))).0 in
    let lacks : int_lt balance (pos amount) ≡ true = not-false (int_lt balance (pos amount)) short in
    absurd (cc)

pub wrong_transfers : WrongTransfers
wrong_transfers = record {
  out_of_nothing = λ e r from to amount named other short commits legal.
      let h : History = r.history in
      let values : List ℕ → List ℕ = value_in (state_now h) in
      let c : Committed (transfer_program from to amount) r (replay_entry e r) = committed (transfer_program from to amount) e r commits legal in
      let deed : deed_of c.run ≡ transferred from to amount values =
      transfer_alone (state_now h) from to amount (now_is_known h) named other c.run c.alone in
      cannot_pay (balance_now h from) (key_now h from) from to amount values c.run refl short c.is_done deed;
  another_total = λ accounts es r before after are legal of was is other.
      let total : ℤ = before +ℤ deposits_of accounts es r of in
      other (same_Some after total (sym is ∙ totals_grow_by_deposits.grows accounts es r before are legal of was));
}

-- ---- queues

-- what stands in front of others stays in its place
stays_in_place : (front rest : List (List ℕ)) (n : ℕ) (item : List ℕ) → slice_get front n ≡ Some item → slice_get (front ++ rest) n ≡ Some item
stays_in_place [] rest n item at = absurd (cc)
stays_in_place (x ∷ front) rest zero item at = at
stays_in_place (x ∷ front) rest (suc n) item at = stays_in_place front rest n item at

pub wrong_dequeues : WrongDequeues
wrong_dequeues = record {
  from_nothing = λ queue e r named holds dequeues legal. nothing_to_take queue e r [] named legal dequeues holds refl;
  out_of_turn = λ queue es r items n taken due named holds legal of at there differ.
      let k : Kept queue items (all_taken queue es r of) (all_added queue es r of) (replay es r).history =
      queues_keep_their_items queue es r items named legal of holds in
      let is : slice_get (items ++ all_added queue es r of) n ≡ Some taken =
      ap (λ (l : List (List ℕ)). slice_get l n) (sym k.in_order) ∙ stays_in_place (all_taken queue es r of) k.left n taken at in
      differ (same_Some taken due (sym is ∙ there));
  too_many = λ queue es r items named holds legal of more.
      let k : Kept queue items (all_taken queue es r of) (all_added queue es r of) (replay es r).history =
      queues_keep_their_items queue es r items named legal of holds in
      let count : length (items ++ all_added queue es r of) ≡ length (all_taken queue es r of) + length k.left =
      ap length (sym k.in_order) ∙ length-append (all_taken queue es r of) k.left in
      omega (arith, count, more);
}

-- ---- slots

of_held : (slot : List ℕ) (e : Entry) (r : Replayed) → 0 < length slot → is_held slot r ≡ true → IsReservation slot e → IsLegal e r → ⊥
of_held slot e r named held reserves legal =
    let free : is_held slot r ≡ false = (reservations_take_free_slots slot e r reserves named legal).0 in
    absurd (cc)

left_alone : (slot : List ℕ) (es : List Entry) (r : Replayed) → AllLeaveSlot slot es r → key_now (replay es r).history slot ≡ key_now r.history slot
left_alone slot [] r leave = refl
left_alone slot (e ∷ es) r leave = left_alone slot es (replay_entry e r) leave.1 ∙ leave.0

twice : (slot : List ℕ) (first second : Entry) (between : List Entry) (r : Replayed) → 0 < length slot → IsReservation slot first →
    IsReservation slot second → AreLegal (first ∷ between ++ second ∷ []) r → AllLeaveSlot slot between (replay_entry first r) → ⊥
twice slot first second between r named reserves again legal leave =
    let after : Replayed = replay_entry first r in
    let took : IsHeldBy slot reserves.holder reserves.lease after = (reservations_take_free_slots slot first r reserves named legal.0).1 in
    let last : AreLegal (second ∷ []) (replay between after) = rest_legal between (second ∷ []) after legal.1 in
    of_held slot second (replay between after) named
    (ap (λ (s : Option KeyState). is_some s) (left_alone slot between after leave) ∙ held_is_held slot reserves.holder reserves.lease after took)
    again last.0

by_another : (slot holder other : List ℕ) (lease : ℕ) (e : Entry) (r : Replayed) → 0 < length slot → IsHeldBy slot holder lease r → holder ≢ other →
    IsCommitOf (release_program slot other) e → IsLegal e r → ⊥
by_another slot holder other lease e r named held differ commits legal =
    grind (arith, nat_tests, Committed, committed, release_alone, now_is_known, keys_differ)

pub wrong_reservations : WrongReservations
wrong_reservations = record { of_held = of_held; twice = twice; by_another = by_another }
