use Rattle.std.proofs.Common.{rules}
use Rattle.stm_tokens.proofs.NameLemmas.{name_found, no_name}
use Rattle.stm_tokens.proofs.tokens.name_at.Goals as goal

pub returns-in_ok-kind-in-Ok-clause-is : goal.returns-in_ok-kind-in-Ok-clause-is
returns-in_ok-kind-in-Ok-clause-is c =
    rw c.run_length-length.ensures.is
    (name_found c.args.bytes.now c.in-Ok.word.now c.in_ok-kind-in-Ok.kind (search rules) (search rules) (search rules))

pub returns-in-Err-clause-is : goal.returns-in-Err-clause-is
returns-in-Err-clause-is c = no_name c.args.bytes.now _ (search rules) c.in-Err.ensures.cases.0
