use Rattle.std.proofs.Common.{◌≡◌, ◌≤◌, ◌∙◌, length, refl, arith}
use Rattle.stm_json.specs.declared.limits.TheConstants.{MOST_BYTES}
use Rattle.stm_tokens.specs.Tokens.{tokens_in}
use Rattle.stm_source.proofs.SourceLemmas.{of_text, of_other_bytes}
use Rattle.stm_source.proofs.sources.read_whole_source.Goals as goal

pub returns-in_ok-tokens-in-Ok : goal.returns-in_ok-tokens-in-Ok
returns-in_ok-tokens-in-Ok c =
    let short : length c.args.source.now ≤ MOST_BYTES = omega arith in
    let is : c.as_slice.result.now ≡ tokens_in c.args.source.now = c.as_slice.ensures.value ∙ c.in_ok-tokens-in-Ok.ensures in
    rw (of_text c.args.source.now c.as_slice.result.now short c.in-Ok.ensures.cases.1 is) c.source_at.ensures

pub returns-in-Err : goal.returns-in-Err
returns-in-Err c =
    let short : length c.args.source.now ≤ MOST_BYTES = omega arith in
    rw (c.fault-in-Err.ensures, of_other_bytes c.args.source.now short c.in-Err.ensures.cases.0, c.valid_up_to.ensures, c.in-Err.ensures.valid_len)
    refl
