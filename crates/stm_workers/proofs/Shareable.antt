-- `Send` and `Sync` of what a thread is given: what all workers share, and a worker.
use denote.RattleType.{RattleType}
use denote.Ref.{NamedLft}
use denote.Param.Send.{IsSend, IsSync, struct_send, struct_sync, recorded_send, recorded_sync, sendable}
use denote.Struct.Declared.{shape}
use denote.Struct.Tuple.{TupleAt, type_at}
use mathlib.Core.List.{[], ◌∷◌}
use mir.Syntax.{Sym}
use Rattle.std.specs.declared.sync.ledger.Ledger as Ledger
use Rattle.std.proofs.alloc.Global.TheSendSync as heap
use Rattle.std.proofs.sync.Mutex.TheSendSync as mutex
use Rattle.std.proofs.sync.atomic.AtomicBool.TheSendSync as flag
use Rattle.stm_job.proofs.drawing.table.JobTable.TheSendSync as table
use Rattle.stm_workers.specs.declared.locked.RunOfJobs as RunOfJobs
use Rattle.stm_workers.proofs.Sent.{job_sync, locked_send}
use Rattle.stm_workers.specs.contracts.shared.Shared as Shared

-- what a closure takes with it: two values
pub pair_send : (name : Sym) (A B : RattleType) → IsSend A → IsSend B → IsSend (TupleAt name (A ∷ B ∷ []))
pair_send name A B a b = recorded_send _ _ _ (type_at name (A ∷ B ∷ [])).to_one (struct_send (shape (type_at name (A ∷ B ∷ []))) (a, (b, tt)))

module _ (R : RattleType) (r : RunOfJobs.Ghosts R.Denot) (l : Ledger.Ghosts R.Denot) where
  -- the lock, and what is only read
  pub shared_sync : (a : NamedLft) (W G : RattleType) → IsSync W → IsSync G → IsSync (Shared.the_row a R W G r l)
  shared_sync a W G waits gates =
      recorded_sync _ _ _ (Shared.the_type a R W G r l).to_one
      (struct_sync (shape (Shared.the_type a R W G r l)) (
        search (waits, sendable) depth 8,
        (
          heap.the_field_sync,
          (
            search (mutex.the_sync, locked_send R r l, sendable) depth 8,
            (
              search (table.the_sync, sendable) depth 8,
              (search (job_sync, sendable) depth 8, (search (gates, sendable) depth 8, (search (flag.the_sync, sendable) depth 8, tt))),
            ),
          ),
        ),
      ))
