use Rattle.std.proofs.Common.{◌∙◌, sym, ap, option_map, Some}
use Rattle.std.specs.Prelude.{bytes_eq, string_bytes}
use Rattle.std.proofs.lemmas.Map.Made.{lookup_key_passes}
use Rattle.std.proofs.lemmas.Slice.Eq.{bytes_eq-Decides}
use Rattle.stm_keys.proofs.Steps.{text_at}
use Rattle.stm_keys.proofs.chains.find_place.Goals as goal

pub returns-in-Some-clause-named : goal.returns-in-Some-clause-named
returns-in-Some-clause-named c =
    text_at string_bytes c.args.chains.now.entries c.in-Some.index
    ∙ ap (option_map (λ e. string_bytes e.0)) c.in-Some.ensures.entry
    ∙ ap Some (sym ((bytes_eq-Decides c.args.key.now (string_bytes c.in-Some.field-0-1.now)).0
    (lookup_key_passes (λ k. bytes_eq c.args.key.now (string_bytes k)) c.args.chains.now.entries c.in-Some.field-0-1.now
    (sym c.in-Some.ensures.key))))
