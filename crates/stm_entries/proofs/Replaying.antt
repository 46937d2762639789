-- Entries are replayed, and judged, one after another.
use Rattle.std.proofs.Common.{◌≡◌, List, [], ◌∷◌, ◌++◌, refl}
use Rattle.stm_entries.specs.declared.entry.Entry.{Entry}
use Rattle.stm_entries.specs.Replayed.{Replayed}
use Rattle.stm_entries.specs.Replay.{replay, replay_entry}
use Rattle.stm_entries.specs.Legal.{AreLegal}
use Rattle.stm_entries.specs.Laws.{ReplayGoesOn, LegalityGoesOn}

pub replay_goes_on : ReplayGoesOn
replay_goes_on [] later r = refl
replay_goes_on (e ∷ earlier) later r = replay_goes_on earlier later (replay_entry e r)

pub all_legal : (earlier later : List Entry) (r : Replayed) → AreLegal earlier r → AreLegal later (replay earlier r) → AreLegal (earlier ++ later) r
all_legal [] later r front rest = rest
all_legal (e ∷ earlier) later r front rest = (front.0, all_legal earlier later (replay_entry e r) front.1 rest)

pub front_legal : (earlier later : List Entry) (r : Replayed) → AreLegal (earlier ++ later) r → AreLegal earlier r
front_legal [] later r all = tt
front_legal (e ∷ earlier) later r all = (all.0, front_legal earlier later (replay_entry e r) all.1)

pub rest_legal : (earlier later : List Entry) (r : Replayed) → AreLegal (earlier ++ later) r → AreLegal later (replay earlier r)
rest_legal [] later r all = all
rest_legal (e ∷ earlier) later r all = rest_legal earlier later (replay_entry e r) all.1

pub legality_goes_on : LegalityGoesOn
legality_goes_on earlier later r = (
  λ all. (front_legal earlier later r all, rest_legal earlier later r all),
  λ parts. all_legal earlier later r parts.0 parts.1,
)
