-- Steps of reading.
use Rattle.std.proofs.Common.{◌≡◌, ℕ, zero, suc, ◌-◌, ◌<◌, [], refl, arith}
use Rattle.serde_json.specs.Data.{Data}
use Rattle.stm_json.specs.declared.cause.Cause.TheVariants.{TooDeep, TooManyNodes}
use Rattle.stm_json.specs.declared.read_error.ReadError.{ReadError}
use Rattle.stm_json.specs.declared.read_error.ReadError.TheVariants as error
use Rattle.stm_json.specs.Returns.{ReturnsFault}
use Rattle.stm_json.specs.Elements.{worded}
use Rattle.stm_program_json.specs.Reading.{expression_at, expression_body, condition_at, condition_array, statement_at, statement_array, block_by}

-- ---- one level of reading

pub expression_at-deep : (levels room : ℕ) (d : Data) (e : ReadError) → levels ≡ 0 → e ≡ error.Bad (record { place = []; cause = TooDeep })
    → ReturnsFault e (expression_at levels room d)
unfolding expression_at
expression_at-deep levels room d e h is = rw (is, h) refl

pub expression_at-full : (levels room : ℕ) (d : Data) (e : ReadError) → 0 < levels → room ≡ 0 → e ≡ error.Bad (record { place = []; cause = TooManyNodes })
    → ReturnsFault e (expression_at levels room d)
unfolding expression_at
expression_at-full zero room d e h k is = absurd (omega arith)
expression_at-full (suc l) room d e h k is = rw (is, k) refl

pub expression_at-step : (levels room : ℕ) (d : Data) → 0 < levels → 0 < room
    → expression_at levels room d ≡ expression_body (expression_at (levels - 1)) (room - 1) d
unfolding expression_at
expression_at-step zero room d h k = absurd (omega arith)
expression_at-step (suc l) zero d h k = absurd (omega arith)
expression_at-step (suc l) (suc r) d h k =
    let e : suc l - 1 ≡ l = omega arith in
    let f : suc r - 1 ≡ r = omega arith in
    rw (e, f) refl

pub condition_at-deep : (levels room : ℕ) (d : Data) (e : ReadError) → levels ≡ 0 → e ≡ error.Bad (record { place = []; cause = TooDeep })
    → ReturnsFault e (condition_at levels room d)
unfolding condition_at
condition_at-deep levels room d e h is = rw (is, h) refl

pub condition_at-full : (levels room : ℕ) (d : Data) (e : ReadError) → 0 < levels → room ≡ 0 → e ≡ error.Bad (record { place = []; cause = TooManyNodes })
    → ReturnsFault e (condition_at levels room d)
unfolding condition_at
condition_at-full zero room d e h k is = absurd (omega arith)
condition_at-full (suc l) room d e h k is = rw (is, k) refl

pub condition_at-step : (levels room : ℕ) (d : Data) → 0 < levels → 0 < room
    → condition_at levels room d ≡ condition_array (expression_at (levels - 1)) (condition_at (levels - 1)) (room - 1) (worded d)
unfolding condition_at
condition_at-step zero room d h k = absurd (omega arith)
condition_at-step (suc l) zero d h k = absurd (omega arith)
condition_at-step (suc l) (suc r) d h k =
    let e : suc l - 1 ≡ l = omega arith in
    let f : suc r - 1 ≡ r = omega arith in
    rw (e, f) refl

pub statement_at-deep : (levels room : ℕ) (d : Data) (e : ReadError) → levels ≡ 0 → e ≡ error.Bad (record { place = []; cause = TooDeep })
    → ReturnsFault e (statement_at levels room d)
unfolding statement_at
statement_at-deep levels room d e h is = rw (is, h) refl

pub statement_at-full : (levels room : ℕ) (d : Data) (e : ReadError) → 0 < levels → room ≡ 0 → e ≡ error.Bad (record { place = []; cause = TooManyNodes })
    → ReturnsFault e (statement_at levels room d)
unfolding statement_at
statement_at-full zero room d e h k is = absurd (omega arith)
statement_at-full (suc l) room d e h k is = rw (is, k) refl

pub statement_at-step : (levels room : ℕ) (d : Data) → 0 < levels → 0 < room
    → statement_at levels room d ≡ statement_array (expression_at (levels - 1)) (condition_at (levels - 1)) (block_by (statement_at (levels - 1))) (room - 1)
    (worded d)
unfolding statement_at
statement_at-step zero room d h k = absurd (omega arith)
statement_at-step (suc l) zero d h k = absurd (omega arith)
statement_at-step (suc l) (suc r) d h k =
    let e : suc l - 1 ≡ l = omega arith in
    let f : suc r - 1 ≡ r = omega arith in
    rw (e, f) refl
