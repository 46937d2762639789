use Rattle.std.proofs.Common.{◌≡◌, drop}
use Rattle.serde_json.specs.View.{items_view}
use Rattle.stm_json.specs.Parts.{each_from}
use Rattle.stm_json.proofs.ListLemmas.{with_front}
use Rattle.stm_audit.proofs.parts.elements_from.Given as goal

-- those so far, and then what is read of the rest
abbrev pub invariant-loop-index : goal.invariant-loop-index
invariant-loop-index g l =
    with_front l.elements.items (each_from g.T.Readable.reading l.index (items_view (drop l.index l.values)))
    ≡ each_from g.T.Readable.reading l.first (items_view (drop l.first l.values))
