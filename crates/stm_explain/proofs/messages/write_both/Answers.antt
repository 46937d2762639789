use Rattle.std.proofs.KnownBytes.{Appends-trans}
use Rattle.std.proofs.lemmas.Result.{err_from_is_err_and}
use Rattle.stm_explain.proofs.PieceLemmas.{longer, behind}
use Rattle.stm_explain.proofs.messages.write_both.Goals as goal

pub returns-in_err-write_text : goal.returns-in_err-write_text
returns-in_err-write_text g c =
    let p = err_from_is_err_and c.from_residual.result c.from_residual.ensures.1 in
    let e = c.in_err-write_text.ensures in
    let held = g.E.Sink.held in
    rw p.1 (e.0, longer (held c.args.err.now) (held c.write_text.new.err) c.args.first.now c.args.second.now e.1)

pub returns-in_err-write_text-2 : goal.returns-in_err-write_text-2
returns-in_err-write_text-2 g c =
    let p = err_from_is_err_and c.from_residual-in_err-write_text-2.result c.from_residual-in_err-write_text-2.ensures.1 in
    let e = c.in_err-write_text-2.ensures in
    let held = g.E.Sink.held in
    let first = c.in_ok-write_text.ensures.1 in
    rw p.1 (e.0, behind (held c.args.err.now) (held c.write_text.new.err) (held c.write_text-2.new.err) c.args.first.now c.args.second.now first e.1)

pub returns : goal.returns
returns g c =
    let e = c.in_ok-write_text-2.ensures in
    let held = g.E.Sink.held in
    let first = c.in_ok-write_text.ensures.1 in
    (e.0, Appends-trans (held c.args.err.now) (held c.write_text.new.err) (held c.write_text-2.new.err) c.args.first.now c.args.second.now first e.1)
