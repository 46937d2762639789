use Rattle.std.proofs.Common.{◌≡◌, ◌∙◌, ℕ, List, [], ◌∷◌, ◌++◌, map, ap, false}
use Rattle.std.specs.Prelude.{string_bytes, bytes_eq}
use Rattle.std.specs.List.{list_any}
use Rattle.stm_terms.proofs.NameLemmas.{with_new}
use Rattle.stm_terms.proofs.names.Names.push.Goals as goal

pub returns : goal.returns
returns c =
    let name : List ℕ = c.args.name.now in
    let none : list_any (bytes_eq name) (map string_bytes c.self.inside.names.keys) ≡ false =
    ap (λ (l : List (List ℕ)). list_any (bytes_eq name) l) c.self.view_is ∙ c.requires in
    ap (map string_bytes) c.in_ok-insert.ensures.keys
    ∙ with_new c.self.inside.names.keys c.in_ok-name.name name c.in_ok-name.ensures.ok none
    ∙ ap (λ (l : List (List ℕ)). l ++ name ∷ []) c.self.view_is
