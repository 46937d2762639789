use Rattle.std.proofs.Common.{rules}
use Rattle.stm_tokens.proofs.PlainLemmas.{plain_bytes}
use Rattle.stm_tokens.proofs.quoted.plain_text.Goals as goal

pub returns-in-Ok-clause-is : goal.returns-in-Ok-clause-is
returns-in-Ok-clause-is c =
    plain_bytes c.args.bytes.now c.in_ok-first.first.now c.in_ok-first.inner.now c.run_length-length.result c.in-Ok.text.now
    c.in_ok-first.ensures.cases.0 c.run_length-length.ensures.is c.if-first-ne34.false c.if-length-inner.false c.if-inner-length-ne34.false (search rules)
    (search rules)
