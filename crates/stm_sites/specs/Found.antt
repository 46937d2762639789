-- The fault that a run comes to, and where.
use Rattle.std.specs.Prelude.{Option, None, Some}
use Rattle.stm_program.specs.Syntax.{Block}
use Rattle.stm_steps.specs.declared.stop.Stop.{Stop}
use Rattle.stm_steps.specs.declared.stop.Stop.TheVariants.{Aborted, Faulted, Wants}
use Rattle.stm_steps.specs.Answer.{Lookup}
use Rattle.stm_steps.specs.Session.{fresh}
use Rattle.stm_steps.specs.Outcome.{Outcome, Gives, Stops}
use Rattle.stm_steps.specs.Meaning.{run_block}
use Rattle.stm_sites.specs.declared.site.Site.{Site}
use Rattle.stm_sites.specs.declared.finding.FoundFault.{FoundFault}
use Rattle.stm_sites.specs.Sites.{site_of}

-- the fault that stops a run at a site; none where it is stopped otherwise
abbrev pub fault_stopped : Site → Stop → Option FoundFault
fault_stopped site (Aborted text) = None
fault_stopped site (Faulted fault) = Some (record { fault = fault; site = site })
fault_stopped site (Wants key) = None

abbrev pub fault_by : Site → Outcome (Unit {0}) → Option FoundFault
fault_by site (Gives x s) = None
fault_by site (Stops stop s) = fault_stopped site stop

-- the fault by which a program's run ends, at the site where it stops; none where it ends otherwise
abbrev pub fault_of : Lookup → Block → Option FoundFault
fault_of look program = fault_by (site_of look program) (run_block look program fresh)
