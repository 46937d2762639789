use Rattle.std.proofs.Common.{◌∙◌, ◌++◌, ◌∷◌, [], List, ℕ, ap, map, string_bytes}
use Rattle.std.proofs.lemmas.List.{map-append}
use Rattle.stm_journal.proofs.PresentLemmas.{keys_more}
use Rattle.stm_journal.proofs.present.listed_keys.Goals as goal

pub loop-index-preserved : goal.loop-index-preserved
loop-index-preserved c =
    let i = c.loop-index.index in
    ap (map string_bytes) c.in_ok-push.ensures.items
    ∙ map-append string_bytes c.loop-index.listed.items (c.in_ok-from_str.field-0 ∷ [])
    ∙ ap (λ (key : List ℕ). map string_bytes c.loop-index.listed.items ++ key ∷ []) c.in_ok-from_str.ensures.ok
    ∙ ap (λ (keys : List (List ℕ)). keys ++ c.at.result.0.now ∷ []) c.loop-index.invariant
    ∙ keys_more c.args.keys.now.present i (c.at.result.0.now, c.at.result.1.now) c.at.ensures
