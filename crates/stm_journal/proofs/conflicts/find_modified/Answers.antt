use Rattle.std.proofs.Common.{◌≡◌, ◌+◌, ◌≤◌, ℕ, List, length, Option, map, refl, ◌∙◌, ap, arith}
use Rattle.stm_history.specs.declared.key_state.KeyState.{KeyState}
use Rattle.stm_history.specs.History.{key_now, mod_of, key_of}
use Rattle.stm_outcome.specs.Compares.{first_failed}
use Rattle.stm_compile.specs.CommitTxn.{is_unmodified}
use Rattle.stm_journal.proofs.FirstFailed.{passed_by, failed_here, none_fails, write_holds, write_fails}
use Rattle.stm_journal.proofs.conflicts.find_modified.Goals as goal

pub loop-place-init : goal.loop-place-init
loop-place-init c =
    let none_before : c.args.before + 0 ≡ c.args.before = omega arith in
    ap (λ (n : ℕ). first_failed (key_now c.args.keys.now.history) n (map (is_unmodified c.args.first) c.args.writes.now)) none_before

-- this one is not modified above
pub loop-place-preserved : goal.loop-place-preserved
loop-place-preserved c =
    let w = c.at-write.result.now in
    let state : List ℕ → Option KeyState = key_now c.args.keys.now.history in
    passed_by state (is_unmodified c.args.first) c.args.writes.now c.args.before c.loop-place.place w
    (first_failed state c.args.before (map (is_unmodified c.args.first) c.args.writes.now)) c.at-write.ensures
    (write_holds (key_of w) c.args.first (state (key_of w)) c.is_unmodified.result c.is_unmodified.ensures c.if-not-is_unmodified.false) c.loop-place.invariant

-- or it is
pub returns-then-not-is_unmodified : goal.returns-then-not-is_unmodified
returns-then-not-is_unmodified c =
    let w = c.at-write.result.now in
    let state : List ℕ → Option KeyState = key_now c.args.keys.now.history in
    let i : ℕ = c.loop-place.place in
    failed_here state (is_unmodified c.args.first) c.args.writes.now c.args.before i w (c.args.before + i) c.modified_now.result
    (first_failed state c.args.before (map (is_unmodified c.args.first) c.args.writes.now)) c.at-write.ensures
    (write_fails (key_of w) c.args.first (state (key_of w)) c.is_unmodified.result c.is_unmodified.ensures c.if-not-is_unmodified.true) refl
    (c.modified_now.ensures ∙ ap (λ (key : List ℕ). mod_of (state key)) c.key.ensures) c.loop-place.invariant

pub returns : goal.returns
returns c =
    let state : List ℕ → Option KeyState = key_now c.args.keys.now.history in
    let all : length c.args.writes.now ≤ c.loop-place.place = omega arith in
    none_fails state (is_unmodified c.args.first) c.args.writes.now c.args.before c.loop-place.place
    (first_failed state c.args.before (map (is_unmodified c.args.first) c.args.writes.now)) all c.loop-place.invariant
