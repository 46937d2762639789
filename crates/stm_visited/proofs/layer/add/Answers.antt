use Rattle.std.proofs.Common.{sym, ◌∙◌, ap, subst, ◌++◌, ◌∷◌, [], List, Contains}
use Rattle.stm_visited.specs.Layers.{Reached, StandFor}
use Rattle.stm_visited.proofs.SearchLemmas.{appended, left_out}
use Rattle.stm_visited.proofs.layer.add.Goals as goal

pub returns-then-is_seen : goal.returns-then-is_seen
returns-then-is_seen g c = λ rule others stand.
    left_out (g.S.System.steps c.args.system.now rule) (g.S.System.Alike c.args.system.now) (g.met.S.System.respects c.args.system.now rule) c.args.next.now.items others c.args.r stand
    (subst (λ (rs : List (Reached g.row.S-Place.Denot g.row.S-Move.Denot)).
    (it : Reached g.row.S-Place.Denot g.row.S-Move.Denot) × Contains rs it × g.S.System.Alike c.args.system.now c.args.r.place it.place)
    c.as_slice.ensures.value (c.is_seen.ensures c.if-is_seen.true))

pub returns : goal.returns
returns g c = λ rule others stand.
    subst (λ (rs : List (Reached g.row.S-Place.Denot g.row.S-Move.Denot)). StandFor g.row.S-Place.Denot g.row.S-Move.Denot g.row.S-Shown.Denot (g.S.System.steps c.args.system.now rule) rs (others ++ c.args.r ∷ []))
    (sym (c.in_ok-push.ensures.items ∙ ap (λ (it : Reached g.row.S-Place.Denot g.row.S-Move.Denot). c.args.next.now.items ++ it ∷ []) c.in_ok-shared.ensures))
    (appended (g.S.System.steps c.args.system.now rule) c.args.next.now.items others c.args.r stand)
