-- `Send` and `Sync` of what the threads of a run are given, type by type: from the expressions of a program up to what is locked and the jobs. A
-- search that goes down from there by itself gives up at the first type that holds itself.
use denote.RattleType.{RattleType}
use Rattle.std.proofs.sync.ledger.Book.TheSendSync as book
use denote.Param.Send.{IsSend, IsSync, struct_send, recorded_send, sendable}
use denote.Struct.Declared.{shape}
use Rattle.std.specs.declared.sync.ledger.Ledger as Ledger
use Rattle.stm_workers.specs.declared.locked.RunOfJobs as RunOfJobs
use Rattle.std.proofs.Crossing.{Arc-send, Arc-sync, Vec-send, Vec-sync}
use Rattle.std.proofs.MapsCrossing.{String-send, String-sync}
use Rattle.stm_program.specs.contracts.expression.Expr as Expr
use Rattle.stm_program.specs.contracts.condition.Cond as Cond
use Rattle.stm_program.specs.contracts.statement.Block as Block
use Rattle.stm_program.specs.contracts.program.Program as Program
use Rattle.stm_program.proofs.expression.Expr.TheLaws.TheKnot.{both_send-Expr, both_sync-Expr}
use Rattle.stm_program.proofs.condition.Cond.TheLaws.TheKnot.{both_send-Cond, both_sync-Cond}
use Rattle.stm_program.proofs.statement.Block.TheLaws.TheKnot.{both_send-Block, both_sync-Block, both_send-Stmt, both_sync-Stmt}
use Rattle.stm_program.specs.contracts.statement.Stmt as Stmt
use Rattle.stm_program.proofs.level.Level.TheSendSync as level
use Rattle.stm_history.proofs.text.Text.TheSendSync as text
use Rattle.stm_history.proofs.sequence.Sequence.TheSendSync as sequence
use Rattle.stm_history.proofs.key_state.ReadAnswer.TheSendSync as answer
use Rattle.stm_steps.proofs.value.Value.TheSendSync as value
use Rattle.stm_steps.proofs.trace_item.TraceItem.TheSendSync as item
use Rattle.stm_outcome.proofs.txn.Txn.TheSendSync as txn
use Rattle.stm_txn.proofs.store.Store.TheSendSync as store
use Rattle.std.proofs.alloc.Global.TheSendSync as heap
use Rattle.stm_entries.specs.contracts.entry.Entry as Entry
use Rattle.stm_journal.specs.contracts.journal.Journal as Journal
use Rattle.stm_hall.specs.contracts.hall.Hall as Hall
use Rattle.stm_job.specs.contracts.job.Job as Job
use Rattle.stm_workers.specs.contracts.locked.Locked as Locked

-- the leaves of a program
ruleset leaves = (text.the_send, text.the_sync, sendable)

-- ---- programs: what a program holds is shared by its copies, so each part is of both kinds

pub expression_send : IsSend Expr.the_row
expression_send =
    both_send-Expr (search leaves depth 12) (search leaves depth 12) (search leaves depth 12) Arc-send (search leaves depth 12)
    (search leaves depth 12) (search leaves depth 12) (search leaves depth 12) Arc-sync (search leaves depth 12)

pub expression_sync : IsSync Expr.the_row
expression_sync =
    both_sync-Expr (search leaves depth 12) (search leaves depth 12) (search leaves depth 12) Arc-send (search leaves depth 12)
    (search leaves depth 12) (search leaves depth 12) (search leaves depth 12) Arc-sync (search leaves depth 12)

-- parts that are shared
ruleset shared = (Arc-send, Arc-sync, expression_send, expression_sync, sendable)

pub condition_send : IsSend Cond.the_row
condition_send = both_send-Cond (search shared depth 12) Arc-send (search shared depth 12) Arc-sync

pub condition_sync : IsSync Cond.the_row
condition_sync = both_sync-Cond (search shared depth 12) Arc-send (search shared depth 12) Arc-sync

ruleset parts = (Arc-send, Arc-sync, expression_send, expression_sync, condition_send, condition_sync, sendable)

pub block_send : IsSend Block.the_row
block_send =
    both_send-Block (λ h s y. Arc-send _ (Vec-send h s) (Vec-sync h y)) (search parts depth 12) (search parts depth 12) (search parts depth 12)
    (search parts depth 12) (λ h s y. Arc-sync _ (Vec-send h s) (Vec-sync h y)) (search parts depth 12) (search parts depth 12)
    (search parts depth 12) (search parts depth 12)

pub block_sync : IsSync Block.the_row
block_sync =
    both_sync-Block (λ h s y. Arc-send _ (Vec-send h s) (Vec-sync h y)) (search parts depth 12) (search parts depth 12) (search parts depth 12)
    (search parts depth 12) (λ h s y. Arc-sync _ (Vec-send h s) (Vec-sync h y)) (search parts depth 12) (search parts depth 12)
    (search parts depth 12) (search parts depth 12)

pub statement_send : IsSend Stmt.the_row
statement_send =
    both_send-Stmt (λ h s y. Arc-send _ (Vec-send h s) (Vec-sync h y)) (search parts depth 12) (search parts depth 12) (search parts depth 12)
    (search parts depth 12) (λ h s y. Arc-sync _ (Vec-send h s) (Vec-sync h y)) (search parts depth 12) (search parts depth 12)
    (search parts depth 12) (search parts depth 12)

pub statement_sync : IsSync Stmt.the_row
statement_sync =
    both_sync-Stmt (λ h s y. Arc-send _ (Vec-send h s) (Vec-sync h y)) (search parts depth 12) (search parts depth 12) (search parts depth 12)
    (search parts depth 12) (λ h s y. Arc-sync _ (Vec-send h s) (Vec-sync h y)) (search parts depth 12) (search parts depth 12)
    (search parts depth 12) (search parts depth 12)

pub program_send : IsSend Program.the_row
program_send = let keys = Vec-send _ String-send in let statements = Vec-send Stmt.the_row statement_send in search (block_send, sendable) depth 12

pub program_sync : IsSync Program.the_row
program_sync = let keys = Vec-sync _ String-sync in let statements = Vec-sync Stmt.the_row statement_sync in search (block_sync, sendable) depth 12

-- ---- what an entry holds

ruleset held = (
  program_send,
  program_sync,
  level.the_field_send,
  level.the_field_sync,
  sequence.the_send,
  sequence.the_sync,
  answer.the_send,
  answer.the_sync,
  answer.the_field_send,
  answer.the_field_sync,
  value.the_send,
  value.the_sync,
  value.the_field_send,
  value.the_field_sync,
  item.the_send,
  item.the_sync,
  item.the_field_send,
  item.the_field_sync,
  txn.the_field_send,
  txn.the_field_sync,
  sendable,
)

pub entry_send : IsSend Entry.the_row
entry_send = search held depth 12

-- ---- the hall, which is kept under a lock, and the jobs, which are read by all

pub journal_send : IsSend Journal.the_row
journal_send = let entries = Vec-send Entry.the_row entry_send in search (store.the_send, sendable) depth 12

pub hall_send : IsSend Hall.the_row
hall_send = search (journal_send, heap.the_field_send, sendable) depth 12

pub job_sync : IsSync Job.the_row
job_sync = search (program_sync, level.the_field_sync, sendable) depth 12

-- ---- what lies under the lock

module _ (R : RattleType) (r : RunOfJobs.Ghosts R.Denot) (l : Ledger.Ghosts R.Denot) where
  -- the hall and the book of commits
  pub locked_send : IsSend (Locked.the_row R r l)
  locked_send =
      recorded_send _ _ _ (Locked.the_type R r l).to_one (struct_send (shape (Locked.the_type R r l)) (hall_send, (book.the_send R l, tt)))
