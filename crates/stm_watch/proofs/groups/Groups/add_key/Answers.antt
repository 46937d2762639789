use Rattle.std.proofs.Common.{◌≡◌, ◌∙◌, ℕ, List, Option, Some, cond, string_bytes, ap, refl, sym}
use Rattle.std.specs.Map.{lookup}
use Rattle.std.specs.Str.{bytes_eq}
use Rattle.std.proofs.lemmas.Map.Text.{hash_map_updates_text}
use Rattle.std.proofs.lemmas.Slice.Eq.{bytes_eq-Decides}
use Rattle.indexmap.specs.IndexMap.{get_by_text}
use Rattle.stm_watch.specs.Pages.{group_of}
use Rattle.stm_watch.proofs.Entered.{keys_more, watched_key}
use Rattle.stm_watch.proofs.groups.Groups.add_key.Goals as goal

pub returns-in_err-reserve-clause-kept : goal.returns-in_err-reserve-clause-kept
returns-in_err-reserve-clause-kept c = record {
  keys = λ k g is. ap (lookup (λ q. bytes_eq k (string_bytes q))) c.reserve.ensures.entries ∙ is;
  entries = λ ws g e has. has;
}

pub returns-clause-kept : goal.returns-clause-kept
returns-clause-kept c =
    let of_key : List ℕ → Option ℕ = get_by_text c.args.self.now.keys in
    let key : List ℕ = string_bytes c.in_ok-key.key in
    let is = c.in_ok-key.ensures.ok ∙ c.as_str.ensures ∙ c.first_key.ensures in
    let keys : (q : List ℕ) → get_by_text c.insert.new.self q ≡ cond (bytes_eq key q) (Some c.saturating_add-group.result) (of_key q) = λ q. hash_map_updates_text key
    c.reserve.new.self c.insert.new.self (Some c.saturating_add-group.result) c.in-Ok.ensures.updates q
    ∙ ap (λ o. cond (bytes_eq key q) (Some c.saturating_add-group.result) o) (ap (lookup (λ k. bytes_eq q (string_bytes k))) c.reserve.ensures.entries) in
    record {
      keys = keys_more of_key (get_by_text c.insert.new.self) c.saturating_add-group.result key
          (ap of_key is ∙ (watched_key of_key c.args.watched.now c.requires).0) keys;
      entries = λ ws g e has. has;
    }

pub returns-clause-ok : goal.returns-clause-ok
returns-clause-ok c =
    let key : List ℕ = string_bytes c.in_ok-key.key in
    let is = c.in_ok-key.ensures.ok ∙ c.as_str.ensures ∙ c.first_key.ensures in
    ap (group_of (get_by_text c.insert.new.self)) (watched_key (get_by_text c.args.self.now.keys) c.args.watched.now c.requires).1
    ∙ ap (get_by_text c.insert.new.self) (sym is)
    ∙ hash_map_updates_text key c.reserve.new.self c.insert.new.self (Some c.saturating_add-group.result) c.in-Ok.ensures.updates key
    ∙ ap (λ b. cond b (Some c.saturating_add-group.result) (get_by_text c.reserve.new.self key)) ((bytes_eq-Decides key key).1 refl)
