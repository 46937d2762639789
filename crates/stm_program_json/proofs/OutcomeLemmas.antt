-- What is known where reading answers a value.
use Rattle.std.proofs.Common.{◌≡◌, ℕ, Option, Some, None, Ok, refl}
use Rattle.serde_json.specs.Data.{Data}
use Rattle.stm_json.specs.Outcome.{within}
use Rattle.stm_program_json.specs.Reading.{Read, one_part, two_parts}
use Rattle.stm_json.proofs.OutcomeLemmas.{bind_ok, within_ok}

pub one_part_ok : {A B : Type 0} (read : ℕ → Data → Read A) (make : A → B) (room : ℕ) (o : Option Data) (y : B × ℕ) → one_part read make room o ≡ Ok y
    → (d : Data) × (x : A × ℕ) × (o ≡ Some d) × (read room d ≡ Ok x) × (y ≡ (make x.0, x.1))
one_part_ok read make room None y h = cc
one_part_ok read make room (Some d) y h =
    let p = bind_ok (within 1 (read room d)) _ y h in
    (d, p.0, refl, within_ok 1 _ _ p.1, cc p.2)

pub two_parts_ok : {A B : Type 0} (read : ℕ → Data → Read A) (make : A → A → B) (room : ℕ) (o : Option (Data × Data)) (z : B × ℕ)
    → two_parts read make room o ≡ Ok z
    → (p : Data × Data) × (x : A × ℕ) × (y : A × ℕ) × (o ≡ Some p) × (read room p.0 ≡ Ok x) × (read x.1 p.1 ≡ Ok y) × (z ≡ (make x.0 y.0, y.1))
two_parts_ok read make room None z h = cc
two_parts_ok read make room (Some p) z h =
    let q = bind_ok (within 1 (read room p.0)) _ z h in
    let r = bind_ok (within 2 (read q.0.1 p.1)) _ z q.2 in
    (p, q.0, r.0, refl, within_ok 1 _ _ q.1, within_ok 2 _ _ r.1, cc r.2)
