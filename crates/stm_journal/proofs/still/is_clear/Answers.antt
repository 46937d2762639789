use Rattle.std.proofs.Common.{sym, ◌∙◌, ap}
use Rattle.std.proofs.lemmas.List.Elements.{recursion_from_All}
use Rattle.stm_attempt.specs.ReadyRun.{ReadyRun}
use Rattle.stm_journal.specs.Causes.{IsStill, cause_compared}
use Rattle.stm_journal.proofs.StillLemmas.{cause_at, clear_serializable, clear_repeatable}
use Rattle.stm_journal.proofs.still.is_clear.Goals as goal

pub returns-in-Serializable : goal.returns-in-Serializable
returns-in-Serializable c =
    λ stands.
    ap (λ (r : ReadyRun). cause_compared c.args.keys.now.history r) (sym c.ready.view_is)
    ∙ ap (cause_at c.args.keys.now.history c.ready.inside.answers c.ready.inside.writes) c.in-Serializable.is
    ∙ clear_serializable c.args.keys.now.history c.ready.inside.answers c.ready.inside.writes
    (recursion_from_All (IsStill c.args.keys.now.history) c.ready.inside.answers (c.reads_stand.ensures stands))

pub returns-in-RepeatableReads : goal.returns-in-RepeatableReads
returns-in-RepeatableReads c =
    λ stands.
    ap (λ (r : ReadyRun). cause_compared c.args.keys.now.history r) (sym c.ready.view_is)
    ∙ ap (cause_at c.args.keys.now.history c.ready.inside.answers c.ready.inside.writes) c.in-RepeatableReads.is
    ∙ clear_repeatable c.args.keys.now.history c.ready.inside.answers c.ready.inside.writes
    (recursion_from_All (IsStill c.args.keys.now.history) c.ready.inside.answers (c.reads_stand-in-RepeatableReads.ensures stands))
