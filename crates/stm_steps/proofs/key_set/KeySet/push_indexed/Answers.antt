use Rattle.std.proofs.Common.{◌≡◌, ◌≤◌, ℕ, List, [], ◌∷◌, ◌++◌, length, sym, ap, ◌∙◌, arith, drop, false}
use Rattle.std.specs.Prelude.{bytes_eq}
use Rattle.std.specs.List.{list_any}
use Rattle.std.proofs.lemmas.List.{drop-append-le}
use Rattle.stm_steps.specs.declared.searched.TheConstants.{MOST_SEARCHED}
use Rattle.stm_steps.specs.Session.{with_key}
use Rattle.stm_steps.proofs.SearchedLemmas.{none_behind_is_it, with_new_key}
use Rattle.stm_steps.proofs.key_set.KeySet.push_indexed.Goals as goal

-- the table has the added key at its end
pub invariant_of-self-2 : goal.invariant_of-self-2
invariant_of-self-2 c =
    let key : List ℕ = c.args.key.now in
    let keys : List (List ℕ) = c.self.inside.keys.items in
    let many : MOST_SEARCHED ≤ length keys = omega (arith, c.requires.place, ap (λ (l : List (List ℕ)). length l) c.self.view_is) in
    let new : list_any (bytes_eq key) keys ≡ false = ap (λ (l : List (List ℕ)). list_any (bytes_eq key) l) c.self.view_is ∙ c.requires.new_key in
    let behind_new : list_any (bytes_eq key) (drop MOST_SEARCHED keys) ≡ false = none_behind_is_it MOST_SEARCHED key keys new in
    let items : c.push_reserved.new.self.items ≡ keys ++ key ∷ [] =
    c.push_reserved.ensures.items ∙ ap (λ (l : List (List ℕ)). l ++ c.in_ok-copy.copy ∷ []) c.in_ok-reserve.ensures.items
    ∙ ap (λ (k : List ℕ). keys ++ k ∷ []) c.in_ok-copy.ensures.cases in
    c.in_ok-insert.ensures.keys
    ∙ ap (λ (k : List ℕ). with_key k c.self.inside.indexed.keys) c.in_ok-indexed.ensures.cases
    ∙ ap (with_key key) c.self.invariant
    ∙ with_new_key key (drop MOST_SEARCHED keys) behind_new
    ∙ sym (drop-append-le MOST_SEARCHED keys (key ∷ []) many)
    ∙ ap (λ (l : List (List ℕ)). drop MOST_SEARCHED l) (sym items)

pub returns-clause-ok : goal.returns-clause-ok
returns-clause-ok c =
    let key : List ℕ = c.args.key.now in
    let keys : List (List ℕ) = c.self.inside.keys.items in
    let new : list_any (bytes_eq key) keys ≡ false = ap (λ (l : List (List ℕ)). list_any (bytes_eq key) l) c.self.view_is ∙ c.requires.new_key in
    c.push_reserved.ensures.items ∙ ap (λ (l : List (List ℕ)). l ++ c.in_ok-copy.copy ∷ []) c.in_ok-reserve.ensures.items
    ∙ ap (λ (k : List ℕ). keys ++ k ∷ []) c.in_ok-copy.ensures.cases
    ∙ sym (with_new_key key keys new)
    ∙ ap (with_key key) c.self.view_is
