-- Why threads were given up.
use Rattle.stm_job.specs.declared.gathered.FaultCause.{FaultCause}
use Rattle.stm_job.specs.declared.gathered.FaultCause.TheVariants.{OutOfMemory, Spawn}
use Rattle.stm_workers.specs.declared.thread_fault.ThreadFault.{ThreadFault}
use Rattle.stm_workers.specs.declared.thread_fault.ThreadFault.TheVariants.{OutOfMemory as NoMemory, Spawn as NoThread}

-- its own cause; an audit has none, since nothing was gathered
abbrev pub cause_of : ThreadFault → FaultCause
cause_of NoMemory = OutOfMemory
cause_of NoThread = Spawn
