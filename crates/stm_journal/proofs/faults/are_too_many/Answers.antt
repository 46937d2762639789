use Rattle.std.proofs.Common.{◌<◌, ◌≤◌, sym, ◌∙◌, ap, arith}
use Rattle.stm_program.specs.declared.level.Level.{Level}
use Rattle.stm_outcome.specs.Checks.{has_too_many}
use Rattle.stm_compile.specs.CommitTxn.{commit_of}
use Rattle.stm_journal.proofs.WholeFaults.{many_writes, snapshot_count, serializable_count, repeatable_count, committed_count}
use Rattle.stm_journal.proofs.faults.are_too_many.Goals as goal

pub returns-then-written-limit : goal.returns-then-written-limit
returns-then-written-limit c =
    let more : c.args.limit < c.len-written.result = omega (arith, c.if-written-limit.true) in
    sym (many_writes c.args.limit c.args.level c.args.answers.now c.args.writes.now c.len-written.result c.len-written.ensures more)

pub returns-in-SerializableSnapshot : goal.returns-in-SerializableSnapshot
returns-in-SerializableSnapshot c =
    let few : c.len-written.result ≤ c.args.limit = omega (arith, c.if-written-limit.false) in
    snapshot_count c.args.limit c.args.answers.now c.args.writes.now c.len-read.result c.len-written.result c.len-read.ensures c.len-written.ensures few
    ∙ ap (λ (l : Level). has_too_many c.args.limit (commit_of l c.args.answers.now c.args.writes.now)) (sym c.in-SerializableSnapshot.is)

pub returns-in-Serializable : goal.returns-in-Serializable
returns-in-Serializable c =
    let few : c.len-written.result ≤ c.args.limit = omega (arith, c.if-written-limit.false) in
    serializable_count c.args.limit c.args.answers.now c.args.writes.now c.len-read.result c.len-written.result c.len-read.ensures c.len-written.ensures few
    ∙ ap (λ (l : Level). has_too_many c.args.limit (commit_of l c.args.answers.now c.args.writes.now)) (sym c.in-Serializable.is)

pub returns-in-RepeatableReads : goal.returns-in-RepeatableReads
returns-in-RepeatableReads c =
    let few : c.len-written.result ≤ c.args.limit = omega (arith, c.if-written-limit.false) in
    repeatable_count c.args.limit c.args.answers.now c.args.writes.now c.len-read.result c.len-written.result c.len-read.ensures c.len-written.ensures few
    ∙ ap (λ (l : Level). has_too_many c.args.limit (commit_of l c.args.answers.now c.args.writes.now)) (sym c.in-RepeatableReads.is)

pub returns-in-ReadCommitted : goal.returns-in-ReadCommitted
returns-in-ReadCommitted c =
    let few : c.len-written.result ≤ c.args.limit = omega (arith, c.if-written-limit.false) in
    committed_count c.args.limit c.args.answers.now c.args.writes.now c.len-written.result c.len-written.ensures few
    ∙ ap (λ (l : Level). has_too_many c.args.limit (commit_of l c.args.answers.now c.args.writes.now)) (sym c.in-ReadCommitted.is)
