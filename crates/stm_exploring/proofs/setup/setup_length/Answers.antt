use Rattle.std.proofs.Common.{◌≡◌, ◌-◌, ℕ, suc, false, List, take, drop, sym, ap, subst, ◌∙◌, arith}
use Rattle.stm_events.specs.declared.event.WorldEvent.{WorldEvent}
use Rattle.stm_schedules.specs.Scenarios.{has_start}
use Rattle.stm_exploring.proofs.AskingLemmas.{LastStart, last_start_at, no_setup}
use Rattle.stm_exploring.proofs.setup.setup_length.Goals as goal

pub returns-then-is_start-clause-front : goal.returns-then-is_start-clause-front
returns-then-is_start-clause-front c =
    let events : List WorldEvent = c.args.events.now in
    let count : ℕ = c.loop-count.count in
    let back : suc (count - 1) ≡ count = omega (arith, c.loop-count-test.true) in
    let none : has_start (drop (suc (count - 1)) events) ≡ false =
    subst (λ (n : ℕ). has_start (drop n events) ≡ false) (sym back) c.loop-count.invariant.none in
    let last : LastStart events (count - 1) =
    last_start_at events (count - 1) c.index-events-count.result (omega (arith, c.loop-count-test.true, c.loop-count.invariant.within))
    c.index-events-count.is (sym c.is_start.ensures ∙ c.if-is_start.true) none in
    ap (λ (n : ℕ). take n events) (sym back) ∙ last.front

pub returns-then-is_start-clause-rest : goal.returns-then-is_start-clause-rest
returns-then-is_start-clause-rest c =
    let events : List WorldEvent = c.args.events.now in
    let count : ℕ = c.loop-count.count in
    let back : suc (count - 1) ≡ count = omega (arith, c.loop-count-test.true) in
    let none : has_start (drop (suc (count - 1)) events) ≡ false =
    subst (λ (n : ℕ). has_start (drop n events) ≡ false) (sym back) c.loop-count.invariant.none in
    let last : LastStart events (count - 1) =
    last_start_at events (count - 1) c.index-events-count.result (omega (arith, c.loop-count-test.true, c.loop-count.invariant.within))
    c.index-events-count.is (sym c.is_start.ensures ∙ c.if-is_start.true) none in
    ap (λ (n : ℕ). drop n events) (sym back) ∙ last.rest

pub returns-clause-front : goal.returns-clause-front
returns-clause-front c =
    let events : List WorldEvent = c.args.events.now in
    let zero_left : c.loop-count.count ≡ 0 = omega (arith, c.loop-count-test.false) in
    let none : has_start events ≡ false = subst (λ (n : ℕ). has_start (drop n events) ≡ false) zero_left c.loop-count.invariant.none in
    sym (no_setup events none).0

pub returns-clause-rest : goal.returns-clause-rest
returns-clause-rest c =
    let events : List WorldEvent = c.args.events.now in
    let zero_left : c.loop-count.count ≡ 0 = omega (arith, c.loop-count-test.false) in
    let none : has_start events ≡ false = subst (λ (n : ℕ). has_start (drop n events) ≡ false) zero_left c.loop-count.invariant.none in
    sym (no_setup events none).1
