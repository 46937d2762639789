-- What threads share of a hall may be shared.
use denote.Param.Send.{IsSync, sendable}
use Rattle.std.proofs.sync.Mutex.TheSendSync as mutex
use Rattle.stm_workers.proofs.Sent.{hall_send}
use Rattle.stm_shared_hall.specs.contracts.turns.SharedHall as SharedHall

pub shared_sync : IsSync SharedHall.the_row
shared_sync = search (mutex.the_sync, hall_send, sendable) depth 12
