use Rattle.std.proofs.Common.{◌≡◌, ◌<◌, length, true, false, arith, rules}
use Rattle.std.proofs.lemmas.Result.{err_from_is_err_and}
use Rattle.stm_source.specs.Events.{is_turn, turns_from}
use Rattle.stm_source.proofs.StepLemmas.{turns_end, turns_fault, turns_more, turns_over}
use Rattle.stm_source.proofs.steps.turns.Goals as goal

pub returns-then-not-is_turn : goal.returns-then-not-is_turn
returns-then-not-is_turn c =
    let n = length c.args.tokens.now in
    let less : c.loop-turn._turn < n = omega arith in
    let none : is_turn c.loop-turn.rest.now ≡ false = search rules in
    turns_end n c.loop-turn._turn c.loop-turn.story c.loop-turn.rest.now (turns_from n c.args.story.now c.args.tokens.now) less none c.loop-turn.invariant

pub returns-in_err-behind : goal.returns-in_err-behind
returns-in_err-behind c =
    let p = err_from_is_err_and c.from_residual.result c.from_residual.ensures.1 in
    let n = length c.args.tokens.now in
    let less : c.loop-turn._turn < n = omega arith in
    let some : is_turn c.loop-turn.rest.now ≡ true = search rules in
    rw (p.1, p.2) (turns_fault c.in_err-behind.field-0.0 n c.loop-turn._turn c.loop-turn.story c.loop-turn.rest.now
    (turns_from n c.args.story.now c.args.tokens.now) less some c.in_err-behind.ensures c.loop-turn.invariant)

pub loop-turn-preserved : goal.loop-turn-preserved
loop-turn-preserved c =
    let n = length c.args.tokens.now in
    let less : c.loop-turn._turn < n = omega arith in
    let some : is_turn c.loop-turn.rest.now ≡ true = search rules in
    turns_more n c.loop-turn._turn c.loop-turn.story c.turn.new.story c.loop-turn.rest.now c.in_ok-behind.behind.now
    (turns_from n c.args.story.now c.args.tokens.now) less some c.in_ok-behind.ensures c.loop-turn.invariant

pub returns : goal.returns
returns c =
    let n = length c.args.tokens.now in
    turns_over n c.loop-turn._turn c.loop-turn.story c.loop-turn.rest.now (turns_from n c.args.story.now c.args.tokens.now) (omega arith) c.loop-turn.invariant
