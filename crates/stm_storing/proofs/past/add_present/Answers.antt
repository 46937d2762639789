use Rattle.std.proofs.Common.{List, ℕ, refl, arith}
use Rattle.stm_history.specs.declared.key_state.KeyState.{KeyState}
use Rattle.stm_storing.proofs.PastKeys.{no_place, place_added, narrowed, present_stand}
use Rattle.stm_storing.proofs.past.add_present.Goals as goal

pub loop-index-init : goal.loop-index-init
loop-index-init c = no_place c.args.keys.now.history c.args.revision (λ (p : List ℕ × KeyState). p.0) c.args.keys.now.present

pub loop-index-preserved : goal.loop-index-preserved
loop-index-preserved c =
    place_added c.args.keys.now.history c.args.revision (λ (p : List ℕ × KeyState). p.0) c.args.keys.now.present c.loop-index.index
    (c.at.result.0.now, c.at.result.1.now) c.at.result.0.now c.at.ensures refl c.loop-index.invariant c.in_ok-add_key_at.ensures

pub returns : goal.returns
returns c =
    narrowed c.args.keys.now.history c.args.revision
    (λ q some.
    let d = present_stand c.args.keys.now.history c.args.keys.now.present c.len-index-end.ensures.listed q some in
    (d.0, d.1, omega (arith, d.2, c.len-index-end.ensures.count, c.loop-index-test.false), d.3, d.4))
    c.loop-index.invariant
