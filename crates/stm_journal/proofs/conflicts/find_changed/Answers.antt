use Rattle.std.proofs.Common.{◌≡◌, ◌+◌, ◌≤◌, ℕ, List, length, Option, map, refl, ◌∙◌, ap, arith}
use Rattle.stm_history.specs.declared.key_state.KeyState.{KeyState}
use Rattle.stm_history.specs.History.{key_now, mod_of}
use Rattle.stm_outcome.specs.Compares.{first_failed}
use Rattle.stm_compile.specs.CommitTxn.{is_as_read}
use Rattle.stm_journal.proofs.FirstFailed.{passed_by, failed_here, none_fails, read_holds, read_fails}
use Rattle.stm_journal.proofs.conflicts.find_changed.Goals as goal

pub loop-place-init : goal.loop-place-init
loop-place-init c = refl

-- this one is as it was read
pub loop-place-preserved : goal.loop-place-preserved
loop-place-preserved c =
    let a = c.at-answer.result.now in
    let state : List ℕ → Option KeyState = key_now c.args.keys.now.history in
    passed_by state is_as_read c.args.answers.now 0 c.loop-place.place a (first_failed state 0 (map is_as_read c.args.answers.now)) c.at-answer.ensures.answer
    (read_holds a.key (mod_of a.kv) (state a.key) c.is_as_read.result c.is_as_read.ensures c.if-not-is_as_read.false) c.loop-place.invariant

-- or it was changed
pub returns-then-not-is_as_read : goal.returns-then-not-is_as_read
returns-then-not-is_as_read c =
    let a = c.at-answer.result.now in
    let state : List ℕ → Option KeyState = key_now c.args.keys.now.history in
    let i : ℕ = c.loop-place.place in
    let place : i ≡ 0 + i = omega arith in
    failed_here state is_as_read c.args.answers.now 0 i a i c.modified_now.result (first_failed state 0 (map is_as_read c.args.answers.now))
    c.at-answer.ensures.answer (read_fails a.key (mod_of a.kv) (state a.key) c.is_as_read.result c.is_as_read.ensures c.if-not-is_as_read.true) place
    (c.modified_now.ensures ∙ ap (λ (key : List ℕ). mod_of (state key)) c.as_str.ensures) c.loop-place.invariant

pub returns : goal.returns
returns c =
    let state : List ℕ → Option KeyState = key_now c.args.keys.now.history in
    let all : length c.args.answers.now ≤ c.loop-place.place = omega arith in
    none_fails state is_as_read c.args.answers.now 0 c.loop-place.place (first_failed state 0 (map is_as_read c.args.answers.now)) all c.loop-place.invariant
