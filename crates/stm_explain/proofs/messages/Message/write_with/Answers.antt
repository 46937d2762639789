use Rattle.std.proofs.KnownBytes.{Appends-trans}
use Rattle.std.proofs.lemmas.Result.{err_from_is_err_and}
use Rattle.stm_explain.proofs.PieceLemmas.{longer, behind}
use Rattle.stm_explain.specs.Saying.{text_of}
use Rattle.stm_explain.proofs.messages.Message.write_with.Goals as goal

pub returns-in_err-write : goal.returns-in_err-write
returns-in_err-write g c =
    let p = err_from_is_err_and c.from_residual.result c.from_residual.ensures.1 in
    let e = c.in_err-write.ensures in
    let held = g.E.Sink.held in
    rw p.1 (e.0, longer (held c.args.err.now) (held c.write.new.err) (text_of c.args.self.now) c.args.more.now e.1)

pub returns-in_err-write_text : goal.returns-in_err-write_text
returns-in_err-write_text g c =
    let p = err_from_is_err_and c.from_residual-in_err-write_text.result c.from_residual-in_err-write_text.ensures.1 in
    let e = c.in_err-write_text.ensures in
    let held = g.E.Sink.held in
    let first = c.in_ok-write.ensures.1 in
    rw p.1 (
      e.0,
      behind (held c.args.err.now) (held c.write.new.err) (held c.write_text.new.err) (text_of c.args.self.now) c.args.more.now first e.1,
    )

pub returns : goal.returns
returns g c =
    let e = c.in_ok-write_text.ensures in
    let held = g.E.Sink.held in
    let first = c.in_ok-write.ensures.1 in (
      e.0,
      Appends-trans (held c.args.err.now) (held c.write.new.err) (held c.write_text.new.err) (text_of c.args.self.now) c.args.more.now first e.1,
    )
