-- Worlds that agree on some keys since a revision.
--
-- No step of a runner reads the entries, the watchers, the moment or the terms of leases, and no transaction of others does. Of the history a step reads the
-- keys that its program names, at its base or now, and a transaction those that it compares or deletes, as they are now; of the leases both read whether those
-- that they put keys on are live.
use Rattle.std.specs.Prelude.{◌≡◌, ◌≤◌, ℕ, Bool, true, List, Some}
use Rattle.std.specs.List.{AllByRecursion}
use Rattle.stm_history.specs.declared.key_state.ReadAnswer.{ReadAnswer}
use Rattle.stm_history.specs.History.{History, now, key_at}
use Rattle.stm_leases.specs.Live.{is_live_in}
use Rattle.stm_txn.specs.Standing.{Standing}
use Rattle.stm_events.specs.declared.event.WorldEvent.{WorldEvent}
use Rattle.stm_events.specs.declared.event.WorldEvent.TheVariants.{Step}
use Rattle.stm_world.specs.World.{World, Runner, runner_at, step}
use Rattle.stm_narrow.specs.Touching.{IsTouched, KeepsTo}
use Rattle.stm_narrow.specs.Foreign.{event_keeps_to}

-- the counters are the same, and each touched key was the same since the revision
pub record SameSince (touched : List ℕ → Bool) (since : ℕ) (g h : History) : Type 0 where
  pub reached : since ≤ now g
  pub now : now g ≡ now h
  pub keys : (key : List ℕ) → IsTouched touched key → (r : ℕ) → since ≤ r → key_at g key r ≡ key_at h key r

-- neither is compacted above the revision
pub record SameStore (touched : List ℕ → Bool) (leased : ℕ → Bool) (since : ℕ) (s t : Standing) : Type 0 where
  pub history : SameSince touched since s.history t.history
  pub limit : s.limit ≡ t.limit
  pub floors : (s.floor ≤ since) × (t.floor ≤ since)
  pub live : (id : ℕ) → leased id ≡ true → is_live_in s.live id ≡ is_live_in t.live id

-- an answer is about a touched key, at the revision or later
abbrev pub IsReadSince : (List ℕ → Bool) → ℕ → ReadAnswer → Type 0
IsReadSince touched since a = IsTouched touched a.key × (since ≤ a.of_rev)

-- a runner's program keeps to these keys, and so is all that the runner knows
pub record RunsWithin (touched : List ℕ → Bool) (leased : ℕ → Bool) (since : ℕ) (r : Runner) : Type 0 where
  pub program : KeepsTo touched leased r.task.program
  pub reads : AllByRecursion (IsReadSince touched since) r.known.reads
  pub prefetched : AllByRecursion (IsReadSince touched since) r.known.prefetched

-- two worlds agree: their stores do, and the same runners stand in both, which keep to these keys
pub record Agree (touched : List ℕ → Bool) (leased : ℕ → Bool) (since : ℕ) (v w : World) : Type 0 where
  pub store : SameStore touched leased since v.standing w.standing
  pub runners : v.runners ≡ w.runners
  pub within : (id : ℕ) (r : Runner) → runner_at id v.runners ≡ Some r → RunsWithin touched leased since r

-- ---- laws

pub record AgreeingWorldsAreSame : Type 0 where
  pub turned : (touched : List ℕ → Bool) (leased : ℕ → Bool) (since : ℕ) (v w : World) → Agree touched leased since v w → Agree touched leased since w v
  -- a step of a runner is told the same in both, and they agree after it
  pub replies : (touched : List ℕ → Bool) (leased : ℕ → Bool) (since id : ℕ) (v w : World) → Agree touched leased since v w
      → (step (Step id) v).reply ≡ (step (Step id) w).reply
  pub next : (touched : List ℕ → Bool) (leased : ℕ → Bool) (since id : ℕ) (v w : World) → Agree touched leased since v w
      → Agree touched leased since (step (Step id) v).next (step (Step id) w).next
  -- they agree after an event of others that keeps to the same keys
  pub foreign : (touched : List ℕ → Bool) (leased : ℕ → Bool) (since : ℕ) (e : WorldEvent) (v w : World) → event_keeps_to touched leased e ≡ true
      → Agree touched leased since v w → Agree touched leased since (step e v).next (step e w).next
