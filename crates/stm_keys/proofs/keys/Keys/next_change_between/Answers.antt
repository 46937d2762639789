use Rattle.std.proofs.Common.{◌≡◌, ◌+◌, ◌<◌, ◌≤◌, ◌∙◌, Bool, List, ℕ, Some, suc, ap, arith, sym}
use Rattle.stm_history.specs.History.{History, now}
use Rattle.stm_keys.specs.Events.{events_of}
use Rattle.stm_keys.specs.NextChange.{changes_any, is_between}
use Rattle.stm_keys.specs.Runs.{is_any_about}
use Rattle.stm_keys.proofs.Ranges.{idle_passed, next_is, nothing_later}
use Rattle.stm_keys.proofs.Within.{any_within}
use Rattle.stm_keys.proofs.keys.Keys.next_change_between.Goals as goal

pub returns-then-is_any_between : goal.returns-then-is_any_between
returns-then-is_any_between c =
    let h : History = c.args.self.now.history in
    let passed : ℕ = c.revisions.passed in
    let passes : List ℕ → Bool = is_between c.args.first.now c.args.end.now in
    let reached : passed < now h = omega (arith, c.revisions-test.true, c.revision.ensures.value) in
    let next : passed + 1 ≡ suc passed = omega arith in
    sym (c.revisions.invariant.reported
    ∙ next_is h.opening passed passes h.revisions c.revisions.invariant.opened reached
    (ap (λ (n : ℕ). is_any_about passes (events_of h n)) (sym next) ∙ sym (any_within c.args.first.now c.args.end.now c.events_within.result.now (events_of h (passed + 1)) c.events_within.ensures) ∙ sym c.is_any_between.ensures
    ∙ c.if-is_any_between.true)
    ∙ ap (λ (n : ℕ). Some n) (sym next))

pub revisions-preserved : goal.revisions-preserved
revisions-preserved c =
    let h : History = c.args.self.now.history in
    let passed : ℕ = c.revisions.passed in
    let passes : List ℕ → Bool = is_between c.args.first.now c.args.end.now in
    record {
      opened = omega (arith, c.revisions.invariant.opened);
      reported = c.revisions.invariant.reported
          ∙ idle_passed h.opening passed (passed + 1) passes h.revisions (omega arith)
          (λ n later reached.
          let same : n ≡ passed + 1 = omega arith in
          ap (λ (m : ℕ). is_any_about passes (events_of h m)) same ∙ sym (any_within c.args.first.now c.args.end.now c.events_within.result.now (events_of h (passed + 1)) c.events_within.ensures) ∙ sym c.is_any_between.ensures
          ∙ c.if-is_any_between.false);
    }

pub returns : goal.returns
returns c =
    let h : History = c.args.self.now.history in
    let past : now h ≤ c.revisions.passed = omega (arith, c.revisions-test.false, c.revision.ensures.value) in
    sym (c.revisions.invariant.reported ∙ nothing_later h.opening c.revisions.passed (changes_any (is_between c.args.first.now c.args.end.now)) h.revisions past)
