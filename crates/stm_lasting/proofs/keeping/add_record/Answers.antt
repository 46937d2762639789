use Rattle.std.proofs.Common.{arith}
use Rattle.std.proofs.lemmas.Result.{on_ok_weaker}
use Rattle.stm_lasting.proofs.Moments.{weaker, first_left, first_head, first_alone, nothing, something}
use Rattle.stm_lasting.proofs.keeping.add_record.Goals as goal

pub returns-then-records-eq0-clause-acknowledged : goal.returns-then-records-eq0-clause-acknowledged
returns-then-records-eq0-clause-acknowledged g c =
    let file = g.D.Disk.seen c.args.records.now.disk in
    on_ok_weaker c.checkpoint.result (λ is. (is.0, first_alone file _ c.args.text.now (nothing file (omega (arith, c.requires.end))) is.1)) c.checkpoint.ensures.acknowledged

pub returns-then-records-eq0-clause-any_moment : goal.returns-then-records-eq0-clause-any_moment
returns-then-records-eq0-clause-any_moment g c =
    let file = g.D.Disk.seen c.args.records.now.disk in
    weaker c.checkpoint.ensures.any_moment
    (λ f left. (first_left file c.args.text.now (nothing file (omega (arith, c.requires.end))) f left, first_head file c.args.text.now f left))

pub returns-else-records-eq0-clause-any_moment : goal.returns-else-records-eq0-clause-any_moment
returns-else-records-eq0-clause-any_moment g c =
    let file = g.D.Disk.seen c.args.records.now.disk in
    weaker c.append.ensures.any_moment (λ f left. (left.records, left.head (something file (λ none. omega (arith, none, c.requires.end)))))
