-- The store that jobs are run on.
--
-- etcd's API reference, "Transaction" and "Lease": each such call is one step of the store, and one that is refused changes nothing. That the
-- calls of a scenario are made before its jobs is our own.
use Rattle.std.specs.Prelude.{List, [], ◌∷◌}
use Rattle.stm_txn.specs.Standing.{Standing, Setup, opening, transacted, granted, kept_alive, revoked, advanced}
use Rattle.stm_events.specs.Replies.{store_after_call}
use Rattle.stm_job_texts.specs.declared.store_call.StoreCall.{StoreCall}
use Rattle.stm_job_texts.specs.declared.store_call.StoreCall.TheVariants.{Txn, Grant, Keep, Revoke, Advance}

-- the store after a call; an advance that is refused on its way leaves ended what had expired
abbrev pub after_call : StoreCall → Standing → Standing
after_call (Txn txn) s = store_after_call s (transacted s txn)
after_call (Grant id ttl) s = store_after_call s (granted s id ttl)
after_call (Keep id) s = store_after_call s (kept_alive s id)
after_call (Revoke id) s = store_after_call s (revoked s id)
after_call (Advance moment) s = (advanced s moment).leaves

-- the store after these calls, in their order
abbrev pub after_calls : List StoreCall → Standing → Standing
after_calls [] s = s
after_calls (call ∷ calls) s = after_calls calls (after_call call s)

-- the store that opens so, empty, and has taken these calls
abbrev pub store_after : Setup → List StoreCall → Standing
store_after start calls = after_calls calls (opening start)
