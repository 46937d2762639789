-- Leases that expire, one after another.
use Rattle.std.proofs.Common.{◌≡◌, ℕ, ◌+◌, List, [], ◌∷◌, take, ◌<◌, length, get_or, sym, ap, ◌∙◌}
use Rattle.std.proofs.lemmas.Option.{slice_get-get_or}
use Rattle.std.specs.FinMap as finmap
use Rattle.stm_outcome.specs.declared.advance.Expired.{Expired}
use Rattle.stm_entries.specs.declared.entry.Entry.{Entry}
use Rattle.stm_entries.specs.declared.entry.Entry.TheVariants.{Expire}
use Rattle.stm_entries.specs.Replayed.{Replayed}
use Rattle.stm_entries.specs.Replay.{replay}
use Rattle.stm_entries.proofs.Replaying.{replay_goes_on}
use Rattle.stm_entries.specs.Entered.{expiries}
use Rattle.stm_check.proofs.Fronts.{mapped_more}

-- one more lease has expired
pub expired_more : (es : List Expired) (i : ℕ) (d : Expired) (r : Replayed) → i < length es →
    finmap.remove (replay (expiries (take i es)) r).live (get_or es i d).id ≡ (replay (expiries (take (i + 1) es)) r).live
expired_more es i d r within =
    sym (ap (λ (x : Replayed). x.live) (replay_goes_on (expiries (take i es)) (Expire (get_or es i d).id ∷ []) r))
    ∙ ap (λ (entries : List Entry). (replay entries r).live)
    (mapped_more (λ (e : Expired). Expire e.id) es i (get_or es i d) (slice_get-get_or es i d within))
