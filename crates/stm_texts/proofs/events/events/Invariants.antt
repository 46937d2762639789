use Rattle.std.proofs.Common.{◌≡◌, drop}
use Rattle.serde_json.specs.View.{items_view}
use Rattle.stm_texts.specs.Reading.{events_from}
use Rattle.stm_json.proofs.ListLemmas.{with_front}
use Rattle.stm_texts.proofs.events.events.Given as goal

-- the events so far, and then what is read of the rest
abbrev pub invariant-loop-before : goal.invariant-loop-before
invariant-loop-before l = with_front l.events.items (events_from l.first l.before (items_view (drop l.before l.values))) ≡ events_from l.first 0
    (items_view l.values)
