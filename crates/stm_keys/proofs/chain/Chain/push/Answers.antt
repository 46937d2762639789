use Rattle.std.proofs.Common.{◌∷◌, [], ◌∙◌, ap, map, reverse, true, List, ℕ}
use Rattle.std.proofs.lemmas.List.{map-append, reverse-append}
use Rattle.stm_keys.specs.declared.chain.Version.{Version}
use Rattle.stm_keys.specs.Chains.{Versions, Chain, with_version, number_of}
use Rattle.stm_keys.proofs.chain.Chain.push.Goals as goal

pub returns : goal.returns
returns c =
    let xs : List Version = c.self.inside.versions.items in
    ap (λ (l : List ℕ). let v : Versions = record { before = c.self.inside.before; numbers = l } in v)
    (ap (λ (l : List Version). reverse (map number_of l)) c.push_back_reserved.ensures.items
    ∙ ap reverse (map-append number_of xs (c.args.version ∷ []))
    ∙ reverse-append (map number_of xs) (number_of c.args.version ∷ []))
    ∙ ap (λ (v : Chain). with_version true (number_of c.args.version) v.versions) c.self.view_is
