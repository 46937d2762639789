use Rattle.std.proofs.Common.{sym, ap, subst}
use Rattle.stm_visited.specs.Layers.{Reached}
use Rattle.stm_visited.proofs.layer.is_seen_at.Goals as goal

pub returns-then-index-next : goal.returns-then-index-next
returns-then-index-next g c = λ is.
    let one = ap (λ (r : Reached g.row.S-Place.Denot g.row.S-Move.Denot). r.place) c.r.view_is in
    let two = ap (λ (r : Reached g.row.S-Place.Denot g.row.S-Move.Denot). r.place) c.it.view_is in (
      c.index-next-index.result,
      (c.args.index, c.if-index-next.true, sym c.index-next-index.is),
      subst (λ p. g.S.System.Alike c.args.system.now p c.index-next-index.result.place) one
          (subst (λ p. g.S.System.Alike c.args.system.now c.r.inside.place p) two (c.is_alike.ensures is)),
    )
