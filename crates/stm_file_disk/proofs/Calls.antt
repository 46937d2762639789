-- Calls in their order, and what a call that was not made leaves.
use Rattle.std.proofs.Common.{◌≡◌, ◌⊎◌, ℕ, ◌+◌, List, [], ◌∷◌, ◌++◌, map, length, Result, Ok, Err, refl, sym, ap, subst, inl, arith, take_all}
use Rattle.std.proofs.lemmas.List.{reverse-append}
use Rattle.stm_records.specs.Disk.{Elapses, Follows, Torn, Cut, HasCause}
use Rattle.stm_records.specs.declared.fault.DiskFault.{DiskFault}
use Rattle.stm_records.specs.declared.fault.DiskFault.TheVariants.{OutOfMemory, Failed, Full, Damaged}
use Rattle.stm_file_disk.specs.declared.call.Call.{Call}
use Rattle.stm_file_disk.specs.Event.{event_of, events_of}
use Rattle.stm_file_disk.specs.Replay.{replay, LeftSince}

-- the call that was kept last is the newest
pub newest : (calls : List Call) (call : Call) → events_of (calls ++ call ∷ []) ≡ event_of call ∷ events_of calls
newest calls call = ap (λ (l : List Call). map event_of l) (reverse-append calls (call ∷ []))

-- ---- a call that was not made ----

abbrev memory_alone : Result (Unit {0}) DiskFault → ℕ
memory_alone (Ok done) = 1
memory_alone (Err OutOfMemory) = 0
memory_alone (Err fault) = 1

other : (fault : DiskFault) → memory_alone (Err fault) ≡ 1 → Path (Result (Unit {0}) DiskFault) (Err OutOfMemory) (Err fault) → ⊥
other fault is same = let none : 0 ≡ memory_alone (Err fault) = ap memory_alone same in omega (arith, is, none)

module _ (old new : List Call) (same : new ≡ old) where
  pub no_time : Elapses (length (events_of old)) (length (events_of new)) (LeftSince (events_of old)) (LeftSince (events_of new)) (replay (events_of new)).may
  no_time = subst (λ (cs : List Call). Elapses (length (events_of old)) (length (events_of cs)) (LeftSince (events_of old)) (LeftSince (events_of cs)) (replay (events_of cs)).may) (sym same) (record {
    later = omega arith;
    nothing_else = λ t c le left. inl left;
    keeps = λ t c le past. past;
  })

  pub no_write : (at n : ℕ) → Follows (Torn at n) (replay (events_of old)).may (replay (events_of new)).may
  no_write at n = subst (λ (cs : List Call). Follows (Torn at n) (replay (events_of old)).may (replay (events_of cs)).may) (sym same)
      (λ c left. (c, left, record { before = refl; after = refl; no_shorter = omega arith; no_longer = omega arith }))

  pub no_cut : (n : ℕ) → Follows (Cut n) (replay (events_of old)).may (replay (events_of new)).may
  no_cut n = subst (λ (cs : List Call). Follows (Cut n) (replay (events_of old)).may (replay (events_of cs)).may) (sym same)
      (λ c left. (c, left, record { no_shorter = λ le. le; front = take_all (length c) c (omega arith) }))

  pub no_crash : (c : List ℕ) → (replay (events_of new)).may c → (replay (events_of old)).may c
  no_crash c = subst (λ (cs : List Call). (replay (events_of cs)).may c → (replay (events_of old)).may c) (sym same) (λ left. left)

  pub no_rename : (c : List ℕ) → (replay (events_of new)).may c → (replay (events_of old)).may c ⊎ (replay (events_of old)).next_may c
  no_rename c left = inl (no_crash c left)

  pub no_fault : HasCause {T = Unit {0}} (replay (events_of old)).faults (replay (events_of new)).faults (Err OutOfMemory)
  no_fault = subst (λ (cs : List Call). HasCause {T = Unit {0}} (replay (events_of old)).faults (replay (events_of cs)).faults (Err OutOfMemory)) (sym same) (record {
    later = omega arith;
    failed = λ e. absurd (other Failed refl e);
    not_full = λ e. other Full refl e;
    not_damaged = λ at e. other (Damaged at) refl e;
  })
