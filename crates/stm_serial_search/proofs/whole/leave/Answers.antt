use Rattle.std.proofs.Common.{◌∙◌, ap, sym, List, []}
use Rattle.stm_program.specs.declared.level.Level.TheVariants.{ReadCommitted}
use Rattle.stm_history.specs.declared.change.Change.{Change}
use Rattle.stm_program.specs.Writes.{latest_writes}
use Rattle.stm_compile.specs.CommitTxn.{commit_of}
use Rattle.stm_events.specs.declared.event.WorldEvent.TheVariants.{Txn}
use Rattle.stm_world.specs.World.{World, step}
use Rattle.stm_serial_search.proofs.WholeRuns.{done_alone, not_done_alone}
use Rattle.stm_serial_search.proofs.whole.leave.Goals as goal

pub returns-then-is_done-clause-store : goal.returns-then-is_done-clause-store
returns-then-is_done-clause-store g c = λ program is.
    ap (λ (w : World). w.standing) c.in_ok-reply.ensures
    ∙ ap (λ (writes : List Change). (step (Txn (commit_of ReadCommitted [] (latest_writes writes))) c.args.world.now).next.standing) c.as_slice.ensures
    ∙ done_alone c.args.world.now program c.args.run.now is (sym c.is_done.ensures ∙ c.if-is_done.true)

pub returns-then-is_done-clause-runners : goal.returns-then-is_done-clause-runners
returns-then-is_done-clause-runners g c = ap (λ (w : World). w.runners) c.in_ok-reply.ensures

pub returns-clause-store : goal.returns-clause-store
returns-clause-store g c = λ program is.
    not_done_alone c.args.world.now.standing program c.args.run.now is (sym c.is_done.ensures ∙ c.if-is_done.false)
