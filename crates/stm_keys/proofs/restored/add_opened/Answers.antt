use Rattle.std.proofs.Common.{◌≡◌, ◌∙◌, ◌∷◌, ◌++◌, [], Some, None, ap, map, List, ℕ}
use Rattle.std.specs.Prelude.{string_bytes, string_eq}
use Rattle.std.specs.Map.{keys_of}
use Rattle.std.proofs.lemmas.Map.Text.{hash_map_updates_text}
use Rattle.indexmap.specs.IndexMap.{get_by_text}
use Rattle.indexmap.proofs.CallerLemmas.{insert_entry-new}
use Rattle.stm_keys.specs.Chains.{names_of}
use Rattle.stm_keys.proofs.Steps.{texts_push}
use Rattle.stm_keys.proofs.OpenedChains.{versions_before, written_versions}
use Rattle.stm_keys.proofs.restored.add_opened.Goals as goal

pub returns-clause-versions : goal.returns-clause-versions
returns-clause-versions c = λ k.
    let is : string_bytes c.in_ok-name.name ≡ c.args.key.now = c.in_ok-name.ensures.ok ∙ c.as_str.ensures in
    written_versions (get_by_text c.args.chains.now) (get_by_text c.insert.new.self) (string_bytes c.in_ok-name.name) c.args.key.now c.opened-chain.result
    (versions_before (Some c.args.state.now)) (c.opened-chain.ensures ∙ ap (λ s. versions_before (Some s)) c.in_ok-copy.ensures) is k
    (hash_map_updates_text (string_bytes c.in_ok-name.name) c.args.chains.now c.insert.new.self (Some c.opened-chain.result) c.in_ok-insert.ensures.updates k)

pub returns-clause-names : goal.returns-clause-names
returns-clause-names c =
    let is : string_bytes c.in_ok-name.name ≡ c.args.key.now = c.in_ok-name.ensures.ok ∙ c.as_str.ensures in
    let none : get_by_text c.args.chains.now (string_bytes c.in_ok-name.name) ≡ None = ap (get_by_text c.args.chains.now) is ∙ c.requires in
    let entries : c.insert.new.self.entries ≡ c.args.chains.now.entries ++ (c.in_ok-name.name, c.opened-chain.result) ∷ [] =
    c.in_ok-insert.ensures.entries ∙ insert_entry-new string_eq c.args.chains.now c.in_ok-name.name c.opened-chain.result none in
    ap (λ es. map string_bytes (keys_of es)) entries ∙ texts_push string_bytes c.args.chains.now.entries c.in_ok-name.name c.opened-chain.result
    ∙ ap (λ (l : List ℕ). names_of c.args.chains.now ++ l ∷ []) is
