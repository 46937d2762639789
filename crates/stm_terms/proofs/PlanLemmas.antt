-- One look-up less to plan.
use Rattle.std.proofs.Common.{◌≡◌, ℕ, suc, ◌-◌, ◌<◌, List, Ok, refl, ap, arith}
use Rattle.stm_terms.specs.declared.look_ups.Lift.{Lift}
use Rattle.stm_terms.specs.declared.look_ups.LookUp.{LookUp}
use Rattle.stm_terms.specs.LookUps.{planned, plan_by}

pub planned_none : (most : ℕ) (plan : List Lift) (v : ℕ) (ls : List LookUp) → most ≡ 0 → planned most plan v ls ≡ Ok plan
unfolding planned
planned_none most plan v ls none = rw none refl

pub planned_some : (most : ℕ) (plan : List Lift) (v : ℕ) (ls : List LookUp) → 0 < most → planned most plan v ls ≡ plan_by (planned (most - 1)) plan v ls
unfolding planned
planned_some most plan v ls some =
    let e : most ≡ suc (most - 1) = omega arith in
    ap (λ (n : ℕ). planned n plan v ls) e
