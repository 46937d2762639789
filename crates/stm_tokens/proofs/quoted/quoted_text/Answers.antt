use Rattle.std.proofs.Common.{rules, IsTrue}
use Rattle.serde_json.specs.View.{view}
use Rattle.stm_tokens.proofs.QuotedLemmas.{text_in-json, text_in-other}
use Rattle.stm_tokens.proofs.quoted.quoted_text.Goals as goal

pub returns-in-Some : goal.returns-in-Some
returns-in-Some c =
    let e = text_in-json c.args.bytes.now (view c.in-Ok.value) c.in-Ok.ensures.ok.0 c.in-Ok.ensures.ok.1 in search rules

pub returns : goal.returns
returns c =
    let e = text_in-other c.args.bytes.now (c.in-Err.ensures.err (λ m. let t : IsTrue c.is_memory.result = c.is_memory.ensures.1 m in cc)) in search rules
