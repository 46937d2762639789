use Rattle.std.proofs.Common.{ℕ, List, [], ◌∷◌, ◌++◌, map, ap, ◌∙◌}
use Rattle.std.specs.Prelude.{string_bytes}
use Rattle.std.proofs.lemmas.List.{map_push}
use Rattle.stm_source.proofs.programs.add_key.Goals as goal

pub returns : goal.returns
returns c =
    ap (map string_bytes) c.in_ok-push.ensures.items ∙ map_push string_bytes c.args.keys.now.items c.in_ok-key.key
    ∙ ap (λ (key : List ℕ). map string_bytes c.args.keys.now.items ++ key ∷ []) c.in_ok-key.ensures.ok
