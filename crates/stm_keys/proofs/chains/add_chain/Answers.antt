use Rattle.std.proofs.Common.{◌≡◌, ◌≤◌, ◌∙◌, ◌∷◌, ◌++◌, [], Some, None, sym, ap, subst, arith, Option, map}
use Rattle.std.specs.Prelude.{string_bytes, string_eq}
use Rattle.std.specs.Map.{keys_of}
use Rattle.std.proofs.lemmas.Map.Text.{hash_map_updates_text}
use Rattle.indexmap.specs.IndexMap.{get_by_text}
use Rattle.indexmap.proofs.CallerLemmas.{insert_entry-new}
use Rattle.stm_keys.specs.Chains.{Chain, versions_in, room_in, KeepsPresent, names_of}
use Rattle.stm_keys.proofs.Order.{keeps_push}
use Rattle.stm_keys.proofs.Steps.{versions_kept, room_grows, texts_push}
use Rattle.stm_keys.proofs.chains.add_chain.Goals as goal

pub returns-clause-versions : goal.returns-clause-versions
returns-clause-versions c =
    let is : string_bytes c.in_ok-text.text ≡ c.args.key.now = c.in_ok-text.ensures.ok ∙ c.as_str.ensures in
    let none : get_by_text c.args.chains.now (string_bytes c.in_ok-text.text) ≡ None = ap (get_by_text c.args.chains.now) is ∙ c.requires in
    versions_kept (get_by_text c.args.chains.now) (get_by_text c.insert.new.self) (string_bytes c.in_ok-text.text) c.in_ok-chain.chain
    (hash_map_updates_text (string_bytes c.in_ok-text.text) c.args.chains.now c.insert.new.self (Some c.in_ok-chain.chain) c.in_ok-insert.ensures.updates)
    (c.in_ok-chain.ensures.empty ∙ sym (ap versions_in none))

pub returns-clause-more : goal.returns-clause-more
returns-clause-more c =
    let is : string_bytes c.in_ok-text.text ≡ c.args.key.now = c.in_ok-text.ensures.ok ∙ c.as_str.ensures in
    let none : get_by_text c.args.chains.now (string_bytes c.in_ok-text.text) ≡ None = ap (get_by_text c.args.chains.now) is ∙ c.requires in
    room_grows (get_by_text c.args.chains.now) (get_by_text c.insert.new.self) (string_bytes c.in_ok-text.text) c.in_ok-chain.chain
    (hash_map_updates_text (string_bytes c.in_ok-text.text) c.args.chains.now c.insert.new.self (Some c.in_ok-chain.chain) c.in_ok-insert.ensures.updates)
    (subst (λ (o : Option Chain). room_in o ≤ c.in_ok-chain.chain.room) (sym none) (omega arith))

pub returns-clause-present : goal.returns-clause-present
returns-clause-present c =
    let is : string_bytes c.in_ok-text.text ≡ c.args.key.now = c.in_ok-text.ensures.ok ∙ c.as_str.ensures in
    let none : get_by_text c.args.chains.now (string_bytes c.in_ok-text.text) ≡ None = ap (get_by_text c.args.chains.now) is ∙ c.requires in
    let entries : c.insert.new.self.entries ≡ c.args.chains.now.entries ++ (c.in_ok-text.text, c.in_ok-chain.chain) ∷ [] =
    c.in_ok-insert.ensures.entries ∙ insert_entry-new string_eq c.args.chains.now c.in_ok-text.text c.in_ok-chain.chain none in
    let names : names_of c.insert.new.self ≡ names_of c.args.chains.now ++ string_bytes c.in_ok-text.text ∷ [] =
    ap (λ es. map string_bytes (keys_of es)) entries ∙ texts_push string_bytes c.args.chains.now.entries c.in_ok-text.text c.in_ok-chain.chain in
    subst (KeepsPresent (λ k. versions_in (get_by_text c.args.chains.now k)) (names_of c.args.chains.now)) (sym names)
    (keeps_push (λ k. versions_in (get_by_text c.args.chains.now k)) (names_of c.args.chains.now) (string_bytes c.in_ok-text.text) (ap versions_in none))
