use Rattle.std.proofs.Common.{◌≡◌, ◌<◌, length, true, false, arith, rules}
use Rattle.std.proofs.lemmas.Result.{err_from_is_err_and}
use Rattle.stm_source.specs.Places.{no_programs, programs_from}
use Rattle.stm_source.specs.Sources.{at_end}
use Rattle.stm_source.proofs.PlaceLemmas.{programs_end, programs_fault, programs_more, programs_over}
use Rattle.stm_source.proofs.places.marked_items.Goals as goal

pub returns-then-at_end : goal.returns-then-at_end
returns-then-at_end c =
    let n = length c.args.tokens.now in
    let less : c.loop-turn._turn < n = omega arith in
    let ended : at_end c.loop-turn.rest.now ≡ true = search rules in
    programs_end c.args.tokens.now n c.loop-turn._turn c.loop-turn.definitions c.loop-turn.story c.loop-turn.programs c.loop-turn.rest.now
    (programs_from c.args.tokens.now n c.args.definitions.now c.args.story.now no_programs c.args.tokens.now) less ended c.loop-turn.invariant

pub returns-in_err-behind : goal.returns-in_err-behind
returns-in_err-behind c =
    let p = err_from_is_err_and c.from_residual.result c.from_residual.ensures.1 in
    let n = length c.args.tokens.now in
    let less : c.loop-turn._turn < n = omega arith in
    let goes : at_end c.loop-turn.rest.now ≡ false = search rules in
    rw (p.1, p.2) (programs_fault c.in_err-behind.field-0.0 c.args.tokens.now n c.loop-turn._turn c.loop-turn.definitions c.loop-turn.story
    c.loop-turn.programs c.loop-turn.rest.now (programs_from c.args.tokens.now n c.args.definitions.now c.args.story.now no_programs c.args.tokens.now) less goes
    c.in_err-behind.ensures c.loop-turn.invariant)

pub loop-turn-preserved : goal.loop-turn-preserved
loop-turn-preserved c =
    let n = length c.args.tokens.now in
    let less : c.loop-turn._turn < n = omega arith in
    let goes : at_end c.loop-turn.rest.now ≡ false = search rules in
    rw (c.in_ok-push_item.ensures, c.next_element-element.ensures) (programs_more c.args.tokens.now n c.loop-turn._turn c.loop-turn.definitions c.item.new.definitions c.loop-turn.story
    c.item.new.story c.loop-turn.programs c.loop-turn.rest.now c.in_ok-behind.behind.now
    (programs_from c.args.tokens.now n c.args.definitions.now c.args.story.now no_programs c.args.tokens.now) less goes c.in_ok-behind.ensures c.loop-turn.invariant)

pub returns : goal.returns
returns c =
    let n = length c.args.tokens.now in
    programs_over c.unexpected.result c.args.tokens.now n c.loop-turn._turn c.loop-turn.definitions c.loop-turn.story c.loop-turn.programs
    c.loop-turn.rest.now (programs_from c.args.tokens.now n c.args.definitions.now c.args.story.now no_programs c.args.tokens.now) (omega arith)
    c.unexpected.ensures c.loop-turn.invariant
