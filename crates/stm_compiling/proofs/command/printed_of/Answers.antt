use Rattle.stm_compiling.proofs.command.printed_of.Goals as goal

pub returns-in-Scenario : goal.returns-in-Scenario
returns-in-Scenario c = rw c.in-Scenario.is c.printed_scenario.ensures

pub returns-in-Program : goal.returns-in-Program
returns-in-Program c = rw c.in-Program.is c.printed_program.ensures
