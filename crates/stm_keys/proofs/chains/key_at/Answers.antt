use Rattle.std.proofs.Common.{◌∙◌, sym, ap, option_map, Some}
use Rattle.std.specs.Prelude.{string_bytes}
use Rattle.stm_keys.proofs.Steps.{text_at}
use Rattle.stm_keys.proofs.chains.key_at.Goals as goal

pub returns : goal.returns
returns c =
    text_at string_bytes c.args.chains.now.entries c.args.index
    ∙ ap (option_map (λ e. string_bytes e.0)) (sym c.in-Some.ensures.entry)
    ∙ ap Some (sym c.as_str.ensures.value)
