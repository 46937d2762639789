-- The live leases of a replay, one entry after another.
use Rattle.std.proofs.Common.{◌≡◌, ℕ, zero, suc, List, [], ◌∷◌, take, ◌<◌, length, get_or, sym, ap, subst, arith}
use Rattle.std.specs.BTreeMap.{BTreeMap}
use Rattle.stm_leases.specs.Live.{Live}
use Rattle.stm_entries.specs.declared.entry.Entry.{Entry}
use Rattle.stm_entries.specs.declared.live_leases.LiveLease.{LiveLease}
use Rattle.stm_entries.specs.LiveLeases.{HasLeases}
use Rattle.stm_entries.specs.Replayed.{Replayed}
use Rattle.stm_entries.specs.Replay.{replay, replay_entry}

pub same_leases : (m : BTreeMap ℕ LiveLease) (before after : Live) → after ≡ before → HasLeases m before → HasLeases m after
same_leases m before after same has = subst (λ (l : Live). HasLeases m l) (sym same) has

replay_one : (x e : Entry) (es : List Entry) (r : Replayed) → e ≡ x → replay (take 1 (x ∷ es)) r ≡ replay_entry e r
replay_one x e es r is = ap (λ (y : Entry). replay_entry y r) (sym is)

pub replay_next : (es : List Entry) (i : ℕ) (e : Entry) (r : Replayed) → i < length es → e ≡ get_or es i e
    → replay (take (suc i) es) r ≡ replay_entry e (replay (take i es) r)
replay_next [] i e r within is = absurd (omega arith)
replay_next (x ∷ es) zero e r within is = replay_one x e es r is
replay_next (x ∷ es) (suc i) e r within is = replay_next es i e (replay_entry x r) (omega arith) is
