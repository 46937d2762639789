use Rattle.stm_texts.proofs.NoFloats.{scenario-no_float}
use Rattle.stm_texts.proofs.WrittenScenarios.{scenarios_spell}
use Rattle.stm_texts.proofs.laws.written_scenarios_spell.Goals as goal

pub returns-clause-spell : goal.returns-clause-spell
returns-clause-spell c = scenarios_spell

pub returns-clause-no_float : goal.returns-clause-no_float
returns-clause-no_float c = scenario-no_float
