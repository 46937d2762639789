use Rattle.std.proofs.Common.{◌+◌, sym, subst, ap, arith}
use Rattle.stm_visited.specs.Layers.{Reached, AreEnough}
use Rattle.stm_visited.proofs.SearchLemmas.{made_here, all_made}
use Rattle.stm_visited.proofs.layer.add_moved.Goals as goal

pub returns-in_err-spend-clause-made : goal.returns-in_err-spend-clause-made
returns-in_err-spend-clause-made g c = λ rule.
    let s = g.S.System.steps c.args.system.now rule in
    let few : AreEnough g.row.S-Place.Denot g.row.S-Move.Denot g.row.S-Shown.Denot s c.args.from.now.place c.as_slice-choices.result.now =
    subst (λ p. AreEnough g.row.S-Place.Denot g.row.S-Move.Denot g.row.S-Shown.Denot s p c.as_slice-choices.result.now)
    (ap (λ (r : Reached g.row.S-Place.Denot g.row.S-Move.Denot). r.place) c.from.view_is)
    (subst (AreEnough g.row.S-Place.Denot g.row.S-Move.Denot g.row.S-Shown.Denot s c.from.inside.place) (sym c.as_slice-choices.ensures.value) (c.in_ok-few.ensures rule)) in
    made_here s c.args.from.now c.as_slice-choices.result.now c.loop-chosen.chosen-index c.args.budget.now.left c.spend.new.self.left few
    (omega (arith, c.loop-chosen.invariant.made, c.in_err-spend.ensures.err, c.in_err-spend.ensures.empty)) (omega arith)

pub returns-in_err-r-clause-made : goal.returns-in_err-r-clause-made
returns-in_err-r-clause-made g c = λ rule.
    let s = g.S.System.steps c.args.system.now rule in
    let few : AreEnough g.row.S-Place.Denot g.row.S-Move.Denot g.row.S-Shown.Denot s c.args.from.now.place c.as_slice-choices.result.now =
    subst (λ p. AreEnough g.row.S-Place.Denot g.row.S-Move.Denot g.row.S-Shown.Denot s p c.as_slice-choices.result.now)
    (ap (λ (r : Reached g.row.S-Place.Denot g.row.S-Move.Denot). r.place) c.from.view_is)
    (subst (AreEnough g.row.S-Place.Denot g.row.S-Move.Denot g.row.S-Shown.Denot s c.from.inside.place) (sym c.as_slice-choices.ensures.value) (c.in_ok-few.ensures rule)) in
    made_here s c.args.from.now c.as_slice-choices.result.now (c.loop-chosen.chosen-index + 1) c.args.budget.now.left c.spend.new.self.left few
    (omega (arith, c.loop-chosen.invariant.made, c.in_ok-spend.ensures.ok)) (omega arith)

pub returns-in_err-add-clause-made : goal.returns-in_err-add-clause-made
returns-in_err-add-clause-made g c = λ rule.
    let s = g.S.System.steps c.args.system.now rule in
    let few : AreEnough g.row.S-Place.Denot g.row.S-Move.Denot g.row.S-Shown.Denot s c.args.from.now.place c.as_slice-choices.result.now =
    subst (λ p. AreEnough g.row.S-Place.Denot g.row.S-Move.Denot g.row.S-Shown.Denot s p c.as_slice-choices.result.now)
    (ap (λ (r : Reached g.row.S-Place.Denot g.row.S-Move.Denot). r.place) c.from.view_is)
    (subst (AreEnough g.row.S-Place.Denot g.row.S-Move.Denot g.row.S-Shown.Denot s c.from.inside.place) (sym c.as_slice-choices.ensures.value) (c.in_ok-few.ensures rule)) in
    made_here s c.args.from.now c.as_slice-choices.result.now (c.loop-chosen.chosen-index + 1) c.args.budget.now.left c.spend.new.self.left few
    (omega (arith, c.loop-chosen.invariant.made, c.in_ok-spend.ensures.ok)) (omega arith)

pub returns-clause-made : goal.returns-clause-made
returns-clause-made g c = λ rule.
    let s = g.S.System.steps c.args.system.now rule in
    let few : AreEnough g.row.S-Place.Denot g.row.S-Move.Denot g.row.S-Shown.Denot s c.args.from.now.place c.as_slice-choices.result.now =
    subst (λ p. AreEnough g.row.S-Place.Denot g.row.S-Move.Denot g.row.S-Shown.Denot s p c.as_slice-choices.result.now)
    (ap (λ (r : Reached g.row.S-Place.Denot g.row.S-Move.Denot). r.place) c.from.view_is)
    (subst (AreEnough g.row.S-Place.Denot g.row.S-Move.Denot g.row.S-Shown.Denot s c.from.inside.place) (sym c.as_slice-choices.ensures.value) (c.in_ok-few.ensures rule)) in
    made_here s c.args.from.now c.as_slice-choices.result.now c.loop-chosen.chosen-index c.args.budget.now.left c.loop-chosen.budget.left few
    c.loop-chosen.invariant.made (omega arith)

pub returns-clause-stand : goal.returns-clause-stand
returns-clause-stand g c = λ rule others stand.
    let s = g.S.System.steps c.args.system.now rule in
    let few : AreEnough g.row.S-Place.Denot g.row.S-Move.Denot g.row.S-Shown.Denot s c.args.from.now.place c.as_slice-choices.result.now =
    subst (λ p. AreEnough g.row.S-Place.Denot g.row.S-Move.Denot g.row.S-Shown.Denot s p c.as_slice-choices.result.now)
    (ap (λ (r : Reached g.row.S-Place.Denot g.row.S-Move.Denot). r.place) c.from.view_is)
    (subst (AreEnough g.row.S-Place.Denot g.row.S-Move.Denot g.row.S-Shown.Denot s c.from.inside.place) (sym c.as_slice-choices.ensures.value) (c.in_ok-few.ensures rule)) in
    all_made s others _ c.args.from.now c.as_slice-choices.result.now c.loop-chosen.chosen-index few (omega arith) (c.loop-chosen.invariant.stand rule others stand)
