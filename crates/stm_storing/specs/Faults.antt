-- What the faults of a world that lasts are called by the program.
use Rattle.stm_lasting.specs.declared.fault.KeptFault.{KeptFault}
use Rattle.stm_lasting.specs.declared.fault.KeptFault.TheVariants as kept
use Rattle.stm_lasting.specs.declared.fault.KeepFault.{KeepFault}
use Rattle.stm_lasting.specs.declared.fault.KeepFault.TheVariants as keep
use Rattle.stm_storing.specs.declared.fault.StoreFault.{StoreFault}
use Rattle.stm_storing.specs.declared.fault.StoreFault.TheVariants.{OutOfMemory, Disk, Full, Damaged, NoScenario, CannotCompact}

abbrev pub opening_fault : KeptFault → StoreFault
opening_fault kept.OutOfMemory = OutOfMemory
opening_fault kept.Failed = Disk
opening_fault (kept.Damaged at) = Damaged at
opening_fault (kept.NoScenario at) = NoScenario at

abbrev pub keeping_fault : KeepFault → StoreFault
keeping_fault keep.OutOfMemory = OutOfMemory
keeping_fault keep.Failed = Disk
keeping_fault keep.Full = Full

-- one of the faults with which a file is not opened
abbrev pub IsOfOpening : StoreFault → Type 0
IsOfOpening OutOfMemory = Unit {0}
IsOfOpening Disk = Unit {0}
IsOfOpening (Damaged at) = Unit {0}
IsOfOpening (NoScenario at) = Unit {0}
IsOfOpening fault = ⊥

-- one of those with which a file that was opened is not written anew
abbrev pub IsOfRewriting : StoreFault → Type 0
IsOfRewriting OutOfMemory = Unit {0}
IsOfRewriting Disk = Unit {0}
IsOfRewriting Full = Unit {0}
IsOfRewriting CannotCompact = Unit {0}
IsOfRewriting fault = ⊥
