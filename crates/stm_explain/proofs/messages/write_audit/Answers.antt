use Rattle.std.proofs.Common.{◌++◌, List, ℕ, codes, decimal}
use Rattle.std.proofs.KnownBytes.{Appends-trans}
use Rattle.std.proofs.lemmas.Result.{err_from_is_err_and}
use Rattle.stm_explain.proofs.PieceLemmas.{longer, behind}
use Rattle.stm_explain.proofs.messages.write_audit.Goals as goal

abbrev begin : List ℕ
begin = codes "stmrun: audit "

abbrev end : List ℕ
end = codes "\n"

pub returns-in_err-write_text : goal.returns-in_err-write_text
returns-in_err-write_text g c =
    let p = err_from_is_err_and c.from_residual.result c.from_residual.ensures.1 in
    let e = c.in_err-write_text.ensures in
    let held = g.E.Sink.held in
    let old = held c.args.err.now in
    let new = held c.write_text.new.err in
    rw p.1 (e.0, longer old new (begin ++ decimal c.args.job) end (longer old new begin (decimal c.args.job) e.1))

pub returns-in_err-write_number : goal.returns-in_err-write_number
returns-in_err-write_number g c =
    let p = err_from_is_err_and c.from_residual-in_err-write_number.result c.from_residual-in_err-write_number.ensures.1 in
    let e = c.in_err-write_number.ensures in
    let held = g.E.Sink.held in
    let old = held c.args.err.now in
    let new = held c.write_number.new.err in
    let named = behind old (held c.write_text.new.err) new begin (decimal c.args.job) c.in_ok-write_text.ensures.1 e.1 in
    rw p.1 ((e.0, longer old new (begin ++ decimal c.args.job) end named))

pub returns-in_err-write_text-2 : goal.returns-in_err-write_text-2
returns-in_err-write_text-2 g c =
    let p = err_from_is_err_and c.from_residual-in_err-write_text-2.result c.from_residual-in_err-write_text-2.ensures.1 in
    let e = c.in_err-write_text-2.ensures in
    let held = g.E.Sink.held in
    let old = held c.args.err.now in
    let two = held c.write_number.new.err in
    let most = Appends-trans old (held c.write_text.new.err) two begin (decimal c.args.job) c.in_ok-write_text.ensures.1 c.in_ok-write_number.ensures.1 in
    rw p.1 (e.0, behind old two (held c.write_text-2.new.err) (begin ++ decimal c.args.job) end most e.1)

pub returns : goal.returns
returns g c =
    let held = g.E.Sink.held in
    let old = held c.args.err.now in
    let two = held c.write_number.new.err in
    let most = Appends-trans old (held c.write_text.new.err) two begin (decimal c.args.job) c.in_ok-write_text.ensures.1 c.in_ok-write_number.ensures.1 in
    let whole = Appends-trans old two (held c.write_text-2.new.err) (begin ++ decimal c.args.job) end most c.in_ok-write_text-2.ensures.1 in
    (c.in_ok-write_text-2.ensures.0, whole)
