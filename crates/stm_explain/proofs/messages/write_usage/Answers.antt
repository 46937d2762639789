use Rattle.std.proofs.Common.{◌++◌, List, ℕ, codes}
use Rattle.std.proofs.KnownBytes.{Appends-trans}
use Rattle.std.proofs.lemmas.Result.{err_from_is_err_and}
use Rattle.stm_explain.proofs.PieceLemmas.{longer, behind}
use Rattle.stm_explain.proofs.messages.write_usage.Goals as goal

abbrev begin : List ℕ
begin = codes "error: "

pub returns-in_err-write_both : goal.returns-in_err-write_both
returns-in_err-write_both g c =
    let p = err_from_is_err_and c.from_residual.result c.from_residual.ensures.1 in
    let e = c.in_err-write_both.ensures in
    let held = g.E.Sink.held in
    rw p.1 (e.0, longer (held c.args.err.now) (held c.write_both.new.err) (begin ++ c.args.wrong.now) c.args.usage.now e.1)

pub returns-in_err-write_text : goal.returns-in_err-write_text
returns-in_err-write_text g c =
    let p = err_from_is_err_and c.from_residual-in_err-write_text.result c.from_residual-in_err-write_text.ensures.1 in
    let e = c.in_err-write_text.ensures in
    let first = c.in_ok-write_both.ensures.1 in
    let held = g.E.Sink.held in
    rw p.1 (
      e.0,
      behind (held c.args.err.now) (held c.write_both.new.err) (held c.write_text.new.err) (begin ++ c.args.wrong.now) c.args.usage.now first e.1,
    )

pub returns : goal.returns
returns g c =
    let e = c.in_ok-write_text.ensures in
    let first = c.in_ok-write_both.ensures.1 in
    let held = g.E.Sink.held in (
      e.0,
      Appends-trans (held c.args.err.now) (held c.write_both.new.err) (held c.write_text.new.err) (begin ++ c.args.wrong.now) c.args.usage.now first e.1,
    )
