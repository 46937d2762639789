use Rattle.std.proofs.Common.{◌≡◌, length, arith}
use Rattle.std.proofs.lemmas.Result.{err_from_is_err_and}
use Rattle.stm_report_lines.specs.Bytes.{parts_of}
use Rattle.stm_report_lines.specs.Reading.{lines_from}
use Rattle.stm_report_lines.proofs.LoopLemmas.{goes_on, ends, is_bad}
use Rattle.stm_report_lines.proofs.reading.each_line.Goals as goal

pub returns-in_err-line : goal.returns-in_err-line
returns-in_err-line c =
    let p = err_from_is_err_and c.from_residual.result c.from_residual.ensures.1 in
    let many : c.len.result ≡ length c.loop-part.lines.items = omega (arith, c.len.ensures, c.loop-part.lines.ok) in
    rw (p.1, p.2) (ends c.in_err-line.field-0.0 c.loop-part.lines.items c.loop-part.rest.now c.in-Some.part.now c.in-Some.after.now
    (lines_from 0 (parts_of c.args.bytes.now)) c.len.result many c.in-Some.ensures.0 c.in_err-line.ensures c.loop-part.invariant)

pub loop-part-smaller : goal.loop-part-smaller
loop-part-smaller c = c.in-Some.ensures.1

pub loop-part-preserved : goal.loop-part-preserved
loop-part-preserved c =
    let many : c.len.result ≡ length c.loop-part.lines.items = omega (arith, c.len.ensures, c.loop-part.lines.ok) in
    rw c.in_ok-push.ensures.items (goes_on c.loop-part.lines.items c.loop-part.rest.now c.in-Some.part.now c.in-Some.after.now c.in_ok-line.line
    (lines_from 0 (parts_of c.args.bytes.now)) c.len.result many c.in-Some.ensures.0 c.in_ok-line.ensures c.loop-part.invariant)

pub returns-in_err-rest_at : goal.returns-in_err-rest_at
returns-in_err-rest_at c =
    let p = err_from_is_err_and c.from_residual-in_err-rest_at.result c.from_residual-in_err-rest_at.ensures.1 in
    let many : c.len-2.result ≡ length c.loop-part.lines.items = omega (arith, c.len-2.ensures, c.loop-part.lines.ok) in
    rw (p.1, p.2) (is_bad c.in_err-rest_at.field-0.0 c.loop-part.lines.items c.loop-part.rest.now (lines_from 0 (parts_of c.args.bytes.now))
    c.len-2.result many c.in_default.ensures c.in_err-rest_at.ensures c.loop-part.invariant)
