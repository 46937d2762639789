-- A refusal and a fault have one name each.
use Rattle.std.proofs.Common.{◌≡◌, arith}
use Rattle.std.proofs.lemmas.Bool.Decides.{nat_tests}
use Rattle.stm_steps.specs.declared.fault.Fault.{Fault}
use Rattle.stm_meaning.specs.Faults.{fault_name}
use Rattle.stm_events.specs.Names.{refusal_name}
use Rattle.stm_report_lines.specs.RefusalNames.{fault_refusal, NamesAgree}
use Rattle.stm_report_lines.proofs.WordLaws.{refusal_named-text, refusal_named-is, fault_named-text, fault_named-is}

faults : (f : Fault) → refusal_name (fault_refusal f) ≡ fault_name f
faults f = grind (arith, nat_tests)

pub names_agree : NamesAgree
names_agree = grind (arith, nat_tests, faults, refusal_named-text, refusal_named-is, fault_named-text, fault_named-is)
