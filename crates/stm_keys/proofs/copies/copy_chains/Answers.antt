use Rattle.stm_keys.proofs.Copied.{names_copied, versions_copied}
use Rattle.stm_keys.proofs.copies.copy_chains.Goals as goal

pub returns-clause-names : goal.returns-clause-names
returns-clause-names c = names_copied c.args.chains.now.entries c.in_ok-copy.copy.entries c.in_ok-copy.ensures.cases

pub returns-clause-versions : goal.returns-clause-versions
returns-clause-versions c = λ key. versions_copied c.args.chains.now.entries c.in_ok-copy.copy.entries key c.in_ok-copy.ensures.cases
