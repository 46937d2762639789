-- Events of other clients that keep to some keys and leases.
use Rattle.std.specs.Prelude.{ℕ, Bool, false, ◌&&◌, nat_eq, List}
use Rattle.std.specs.List.{list_all}
use Rattle.stm_outcome.specs.declared.txn.Compare.{Compare}
use Rattle.stm_outcome.specs.declared.txn.Op.{Op}
use Rattle.stm_outcome.specs.declared.txn.Op.TheVariants.{Get, Put, Del}
use Rattle.stm_outcome.specs.declared.txn.Txn.{Txn}
use Rattle.stm_events.specs.declared.event.WorldEvent.{WorldEvent}
use Rattle.stm_events.specs.declared.event.WorldEvent.TheVariants as event

-- An operation writes a touched key, and puts it on a lease that passes. A read changes nothing whatever its key is, but one of a past revision may be
-- refused in one store alone.
abbrev pub op_keeps_to : (List ℕ → Bool) → (ℕ → Bool) → Op → Bool
op_keeps_to touched leased (Get key rev) = nat_eq rev 0
op_keeps_to touched leased (Put key value lease) = touched key && leased lease
op_keeps_to touched leased (Del key) = touched key

-- a transaction compares touched keys, and so do its operations keep to them, whichever list runs
abbrev pub txn_keeps_to : (List ℕ → Bool) → (ℕ → Bool) → Txn → Bool
txn_keeps_to touched leased txn =
    list_all (λ (c : Compare). touched c.key) txn.compares && list_all (op_keeps_to touched leased) txn.success
    && list_all (op_keeps_to touched leased) txn.failure

-- Of the events of others, transactions alone.
abbrev pub event_keeps_to : (List ℕ → Bool) → (ℕ → Bool) → WorldEvent → Bool
event_keeps_to touched leased (event.Txn txn) = txn_keeps_to touched leased txn
event_keeps_to touched leased other = false
