use Rattle.std.proofs.Common.{◌≡◌, ◌<◌, true, Ok, sym, arith}
use Rattle.std.proofs.lemmas.Result.{err_from_is_err_and}
use Rattle.stm_terms.specs.Outcome.{ReturnsFault}
use Rattle.stm_source.specs.Events.{start_one, start_named}
use Rattle.stm_source.proofs.StepLemmas.{starts_fault, starts_more, starts_over}
use Rattle.stm_source.proofs.starts.start_named.Goals as goal

pub returns-in_err-start_one : goal.returns-in_err-start_one
returns-in_err-start_one c =
    let p = err_from_is_err_and c.from_residual-in_err-start_one.result c.from_residual-in_err-start_one.ensures.1 in
    let less : c.loop-done._done < c.args.times = omega arith in
    let total = start_named c.args.at c.args.program.now c.args.options c.args.times c.args.story.now in
    let faulty : ReturnsFault c.in_err-start_one.field-0.0 (start_one c.args.at c.args.program.now c.args.options true c.loop-done.story) =
    rw (sym c.in_ok-program.ensures.cases) c.in_err-start_one.ensures in
    rw (p.1, p.2) (starts_fault c.in_err-start_one.field-0.0 c.args.at c.args.program.now c.args.options c.args.times c.loop-done._done
    c.loop-done.story total less faulty c.loop-done.invariant)

pub loop-done-preserved : goal.loop-done-preserved
loop-done-preserved c =
    let less : c.loop-done._done < c.args.times = omega arith in
    let total = start_named c.args.at c.args.program.now c.args.options c.args.times c.args.story.now in
    let is : start_one c.args.at c.args.program.now c.args.options true c.loop-done.story ≡ Ok c.start_one.new.story =
    rw (sym c.in_ok-program.ensures.cases) c.in_ok-start_one.ensures in
    starts_more c.args.at c.args.program.now c.args.options c.args.times c.loop-done._done c.loop-done.story c.start_one.new.story total less
    is c.loop-done.invariant

pub returns : goal.returns
returns c =
    starts_over c.args.at c.args.program.now c.args.options c.args.times c.loop-done._done c.loop-done.story
    (start_named c.args.at c.args.program.now c.args.options c.args.times c.args.story.now) (omega arith) c.loop-done.invariant
