use Rattle.std.proofs.Common.{◌∙◌, ap, sym, ℕ, List}
use Rattle.stm_history.specs.History.{History}
use Rattle.stm_keys.specs.NextChange.{next_change}
use Rattle.stm_watch.specs.declared.watched.Watched.{Watched}
use Rattle.stm_watch.specs.Walk.{first_above}
use Rattle.stm_watch.proofs.Notifying.{next_of_key, next_of_range}
use Rattle.stm_watch.proofs.pending_revision.next_number.Goals as goal

pub returns-in-Key : goal.returns-in-Key
returns-in-Key c =
    let h : History = c.args.keys.now.history in
    c.next_change.ensures
    ∙ ap (λ (k : List ℕ). next_change h k c.args.above) c.as_str.ensures
    ∙ next_of_key h.opening c.args.above c.in-Key.key h.revisions
    ∙ ap (λ (w : Watched). first_above h w c.args.above) (sym c.in-Key.is)

pub returns-in-Range : goal.returns-in-Range
returns-in-Range c =
    let h : History = c.args.keys.now.history in
    c.next_change_between.ensures
    ∙ next_of_range h.opening c.args.above c.in-Range.first c.in-Range.end h.revisions
    ∙ ap (λ (w : Watched). first_above h w c.args.above) (sym c.in-Range.is)
