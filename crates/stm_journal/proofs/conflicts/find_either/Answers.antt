use Rattle.std.proofs.Common.{◌≡◌, ◌+◌, ℕ, List, length, Option, map, sym, ◌∙◌, ap, arith}
use Rattle.std.proofs.lemmas.List.{length-map}
use Rattle.stm_history.specs.declared.key_state.KeyState.{KeyState}
use Rattle.stm_history.specs.History.{key_now}
use Rattle.stm_outcome.specs.Compares.{first_failed}
use Rattle.stm_compile.specs.CommitTxn.{first_carried, is_as_read, is_unmodified}
use Rattle.stm_journal.proofs.FirstFailed.{fails_first, fails_after}
use Rattle.stm_journal.proofs.conflicts.find_either.Goals as goal

-- a key that was read was changed
pub returns-in-Some : goal.returns-in-Some
returns-in-Some c =
    let state : List ℕ → Option KeyState = key_now c.args.keys.now.history in
    sym (fails_first state 0 (map is_as_read c.args.answers.now) (map (is_unmodified (first_carried c.args.answers.now)) c.args.writes.now) c.in-Some.failed
    (sym c.find_changed.ensures ∙ c.in-Some.is))

-- none was
pub returns-in-None : goal.returns-in-None
returns-in-None c =
    let state : List ℕ → Option KeyState = key_now c.args.keys.now.history in
    let count : length (map is_as_read c.args.answers.now) ≡ length c.args.answers.now = length-map c.args.answers.now is_as_read in
    let behind : c.len.result ≡ 0 + length (map is_as_read c.args.answers.now) = omega (arith, c.len.ensures, count) in
    c.find_modified.ensures
    ∙ ap (λ (first : ℕ). first_failed state c.len.result (map (is_unmodified first) c.args.writes.now)) c.first_carried.ensures.first
    ∙ sym (fails_after state 0 c.len.result (map is_as_read c.args.answers.now)
    (map (is_unmodified (first_carried c.args.answers.now)) c.args.writes.now) (sym c.find_changed.ensures ∙ c.in-None.is) behind)
