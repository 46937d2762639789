use Rattle.std.proofs.Common.{◌≡◌, ◌∙◌, true, rules, Some, sym, ap, option_map}
use Rattle.std.specs.Prelude.{bytes_eq, string_bytes}
use Rattle.std.proofs.lemmas.Map.Made.{lookup_key_passes}
use Rattle.std.proofs.lemmas.Slice.Eq.{bytes_eq-Decides}
use Rattle.stm_keys.proofs.Steps.{text_at}
use Rattle.stm_keys.proofs.chains.find_chain.Goals as goal

pub returns-then-eq-clause-named : goal.returns-then-eq-clause-named
returns-then-eq-clause-named c =
    let same : bytes_eq c.as_str.result.now c.args.key.now ≡ true = search rules in
    text_at string_bytes c.args.chains.now.entries c.args.hint
    ∙ ap (option_map (λ e. string_bytes e.0)) (sym c.in-Some.ensures.entry)
    ∙ ap Some (sym c.as_str.ensures.value ∙ (bytes_eq-Decides c.as_str.result.now c.args.key.now).0 same)

pub returns-in-Some-get_full-clause-named : goal.returns-in-Some-get_full-clause-named
returns-in-Some-get_full-clause-named c =
    text_at string_bytes c.args.chains.now.entries c.in-Some-get_full.index
    ∙ ap (option_map (λ e. string_bytes e.0)) c.in-Some-get_full.ensures.entry
    ∙ ap Some (sym ((bytes_eq-Decides c.args.key.now (string_bytes c.in-Some-get_full.field-0-1.now)).0
    (lookup_key_passes (λ k. bytes_eq c.args.key.now (string_bytes k)) c.args.chains.now.entries c.in-Some-get_full.field-0-1.now
    (sym c.in-Some-get_full.ensures.key))))
