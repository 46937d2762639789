-- The laws of entries, each carried by a function of `src/laws.rt`.
use Rattle.std.specs.Prelude.{◌≡◌, ◌↔◌, List, ◌++◌}
use Rattle.stm_history.specs.declared.change.Change.{Change}
use Rattle.stm_history.specs.History.{History, AreRevisions}
use Rattle.stm_entries.specs.declared.entry.Entry.{Entry}
use Rattle.stm_entries.specs.Replayed.{Replayed}
use Rattle.stm_entries.specs.Replay.{replay}
use Rattle.stm_entries.specs.Legal.{AreLegal}

-- More entries are replayed from where the earlier ones lead.
abbrev pub ReplayGoesOn : Type 0
ReplayGoesOn = (earlier later : List Entry) (r : Replayed) → replay (earlier ++ later) r ≡ replay later (replay earlier r)

-- Entries are legal exactly where a prefix of them is, and the rest from where that leads.
abbrev pub LegalityGoesOn : Type 0
LegalityGoesOn = (earlier later : List Entry) (r : Replayed) → AreLegal (earlier ++ later) r ↔ (AreLegal earlier r × AreLegal later (replay earlier r))

-- revisions were added to a history, each of which changes something and no key twice
pub record AddsTo (before after : History) : Type 0 where
  pub added : List (List Change)
  pub are_revisions : AreRevisions added
  pub opening : after.opening ≡ before.opening
  pub revisions : after.revisions ≡ added ++ before.revisions

-- Whatever is replayed, revisions are only added to the history.
abbrev pub ReplayOnlyAdds : Type 0
ReplayOnlyAdds = (entries : List Entry) (r : Replayed) → AddsTo r.history (replay entries r).history
