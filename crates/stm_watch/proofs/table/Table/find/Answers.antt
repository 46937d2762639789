use Rattle.std.proofs.Common.{◌∙◌, ◌-◌, List, Option, Some, None, ap, cond, eq-eqb, ne_eqb, refl, slice_index_or, subst, sym}
use Rattle.stm_watch.specs.declared.watched.Watcher.{Watcher}
use Rattle.stm_watch.specs.Slots.{IsPlaceOf}
use Rattle.stm_watch.proofs.At.{not_some}
use Rattle.stm_watch.proofs.table.Table.find.Goals as goal

pub returns-then-id-eq0 : goal.returns-then-id-eq0
returns-then-id-eq0 c =
    ap (λ b. cond b None (slice_index_or c.args.self.now (c.args.id - 1) None)) (eq-eqb c.args.id 0 c.if-id-eq0.true)

pub returns-then-has : goal.returns-then-has
returns-then-has c =
    subst (λ (ws : List (Option Watcher)). IsPlaceOf c.args.id ws (Some (c.args.id - 1))) c.self.view_is
    (ne_eqb c.args.id 0 c.if-id-eq0.false, refl, sym c.has.ensures ∙ c.if-has.true)

pub returns-else-has : goal.returns-else-has
returns-else-has c =
    subst (λ (ws : List (Option Watcher)). IsPlaceOf c.args.id ws None) c.self.view_is
    (ap (λ b. cond b None (slice_index_or c.self.inside.slots (c.args.id - 1) None)) (ne_eqb c.args.id 0 c.if-id-eq0.false)
    ∙ not_some (slice_index_or c.self.inside.slots (c.args.id - 1) None) (sym c.has.ensures ∙ c.if-has.false))
