use Rattle.std.proofs.Common.{◌++◌, List, ℕ, codes}
use Rattle.std.proofs.KnownBytes.{Appends-trans}
use Rattle.std.proofs.lemmas.Result.{err_from_is_err_and}
use Rattle.stm_json.specs.CauseNames.{cause_name}
use Rattle.stm_explain.proofs.PieceLemmas.{longer, behind, grouped}
use Rattle.stm_explain.proofs.messages.write_bad.Goals as goal

abbrev between : List ℕ
between = codes ": "

abbrev end : List ℕ
end = codes "\n"

pub returns-in_err-write_both : goal.returns-in_err-write_both
returns-in_err-write_both g c =
    let p = err_from_is_err_and c.from_residual.result c.from_residual.ensures.1 in
    let e = rw c.as_str.ensures at c.in_err-write_both.ensures in
    let held = g.E.Sink.held in
    let bad = c.args.bad.now in
    let begin = c.args.begin.now in
    let text = (begin ++ bad.place) ++ (between ++ cause_name bad.cause) in
    let old = held c.args.err.now in
    let new = held c.write_both.new.err in
    let placed = longer old new (begin ++ bad.place) (between ++ cause_name bad.cause) e.1 in
    rw p.1 (rw (grouped begin bad.place between (cause_name bad.cause) end) (e.0, longer old new text end placed))

pub returns-in_err-write_both-2 : goal.returns-in_err-write_both-2
returns-in_err-write_both-2 g c =
    let p = err_from_is_err_and c.from_residual-in_err-write_both-2.result c.from_residual-in_err-write_both-2.ensures.1 in
    let e = rw c.name.ensures at c.in_err-write_both-2.ensures in
    let placed = rw c.as_str.ensures at c.in_ok-write_both.ensures in
    let held = g.E.Sink.held in
    let bad = c.args.bad.now in
    let begin = c.args.begin.now in
    let text = (begin ++ bad.place) ++ (between ++ cause_name bad.cause) in
    let old = held c.args.err.now in
    let new = held c.write_both-2.new.err in
    let named = behind old (held c.write_both.new.err) new (begin ++ bad.place) (between ++ cause_name bad.cause) placed.1 e.1 in
    rw p.1 (rw (grouped begin bad.place between (cause_name bad.cause) end) (e.0, longer old new text end named))

pub returns-in_err-write_text : goal.returns-in_err-write_text
returns-in_err-write_text g c =
    let p = err_from_is_err_and c.from_residual-in_err-write_text.result c.from_residual-in_err-write_text.ensures.1 in
    let placed = rw c.as_str.ensures at c.in_ok-write_both.ensures in
    let named = rw c.name.ensures at c.in_ok-write_both-2.ensures in
    let bad = c.args.bad.now in
    let begin = c.args.begin.now in
    let e = c.in_err-write_text.ensures in
    let front = begin ++ bad.place in
    let back = between ++ cause_name bad.cause in
    let held = g.E.Sink.held in
    let old = held c.args.err.now in
    let two = held c.write_both-2.new.err in
    let most = Appends-trans old (held c.write_both.new.err) two front back placed.1 named.1 in
    rw p.1 (rw (grouped begin bad.place between (cause_name bad.cause) end) (
      e.0,
      behind old two (held c.write_text.new.err) (front ++ back) end most e.1,
    ))

pub returns : goal.returns
returns g c =
    let e = c.in_ok-write_text.ensures in
    let placed = rw c.as_str.ensures at c.in_ok-write_both.ensures in
    let named = rw c.name.ensures at c.in_ok-write_both-2.ensures in
    let bad = c.args.bad.now in
    let begin = c.args.begin.now in
    let front = begin ++ bad.place in
    let back = between ++ cause_name bad.cause in
    let held = g.E.Sink.held in
    let old = held c.args.err.now in
    let new = held c.write_text.new.err in
    let most = Appends-trans old (held c.write_both.new.err) (held c.write_both-2.new.err) front back placed.1 named.1 in
    rw (grouped begin bad.place between (cause_name bad.cause) end) (
      e.0,
      Appends-trans old (held c.write_both-2.new.err) new (front ++ back) end most e.1,
    )
