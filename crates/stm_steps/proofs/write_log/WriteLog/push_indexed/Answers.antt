use Rattle.std.proofs.Common.{◌≡◌, ◌≤◌, ◌-◌, ℕ, List, [], ◌∷◌, ◌++◌, length, Some, sym, ap, ◌∙◌, subst, arith, drop}
use Rattle.std.specs.Prelude.{bytes_eq, string_bytes}
use Rattle.std.specs.Map.{update}
use Rattle.std.proofs.lemmas.List.{drop-append-le, length-drop}
use Rattle.std.proofs.lemmas.Map.Text.{hash_map_updates_text}
use Rattle.indexmap.specs.IndexMap.{get_by_text}
use Rattle.stm_history.specs.declared.change.Change.{Change}
use Rattle.stm_steps.specs.declared.searched.TheConstants.{MOST_SEARCHED}
use Rattle.stm_steps.specs.LastPlaces.{AreLastPlaces}
use Rattle.stm_history.specs.History.{key_of}
use Rattle.stm_steps.proofs.PlaceLemmas.{place_added}
use Rattle.stm_steps.proofs.write_log.WriteLog.push_indexed.Goals as goal

-- the index has the added write's place under its key
pub invariant_of-self-2 : goal.invariant_of-self-2
invariant_of-self-2 c =
    let ws : List Change = c.self.inside.writes.items in
    let many : MOST_SEARCHED ≤ length ws = omega (arith, c.requires, ap (λ (l : List Change). length l) c.self.view_is) in
    let behind : List Change = drop MOST_SEARCHED ws in
    let items : drop MOST_SEARCHED c.push_reserved.new.self.items ≡ behind ++ c.args.write ∷ [] =
    ap (λ (l : List Change). drop MOST_SEARCHED l) (c.push_reserved.ensures.items ∙ ap (λ l. l ++ c.args.write ∷ []) c.in_ok-reserve.ensures.items)
    ∙ drop-append-le MOST_SEARCHED ws (c.args.write ∷ []) many in
    let count : c.len.result - MOST_SEARCHED ≡ length behind =
    omega (arith, c.len.ensures, c.reserve.new.self.ok, ap (λ (l : List Change). length l) c.in_ok-reserve.ensures.items, length-drop MOST_SEARCHED ws) in
    let key_is : string_bytes c.in_ok-key.key ≡ key_of c.args.write = c.in_ok-key.ensures.ok ∙ c.key.ensures in
    subst (λ l. AreLastPlaces l (get_by_text c.insert.new.self)) (sym items)
    (place_added behind c.args.write (get_by_text c.self.inside.last_places) (get_by_text c.insert.new.self) c.self.invariant
    (λ key. hash_map_updates_text (string_bytes c.in_ok-key.key) c.self.inside.last_places c.insert.new.self (Some (c.len.result - MOST_SEARCHED))
    c.in_ok-insert.ensures.updates key
    ∙ ap (λ (n : ℕ). update bytes_eq (get_by_text c.self.inside.last_places) (string_bytes c.in_ok-key.key) (Some n) key) count
    ∙ ap (λ k. update bytes_eq (get_by_text c.self.inside.last_places) k (Some (length behind)) key) key_is))
