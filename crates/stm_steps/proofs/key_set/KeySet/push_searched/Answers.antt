use Rattle.std.proofs.Common.{◌≡◌, ◌<◌, ℕ, List, [], ◌∷◌, ◌++◌, length, sym, ap, ◌∙◌, arith, drop, false}
use Rattle.std.specs.Prelude.{bytes_eq}
use Rattle.std.specs.List.{list_any}
use Rattle.stm_steps.specs.declared.searched.TheConstants.{MOST_SEARCHED}
use Rattle.stm_steps.specs.Session.{with_key}
use Rattle.stm_steps.proofs.SearchedLemmas.{none_behind, with_new_key}
use Rattle.stm_steps.proofs.key_set.KeySet.push_searched.Goals as goal

-- no key comes after those that are searched, before and after
pub invariant_of-self-2 : goal.invariant_of-self-2
invariant_of-self-2 c =
    let keys : List (List ℕ) = c.self.inside.keys.items in
    let few : length keys < MOST_SEARCHED = omega (arith, c.requires.place, ap (λ (l : List (List ℕ)). length l) c.self.view_is) in
    c.self.invariant
    ∙ sym (none_behind MOST_SEARCHED keys c.in_ok-copy.copy few)
    ∙ ap (λ (l : List (List ℕ)). drop MOST_SEARCHED l) (sym c.in_ok-push.ensures.items)

pub returns-clause-ok : goal.returns-clause-ok
returns-clause-ok c =
    let key : List ℕ = c.args.key.now in
    let keys : List (List ℕ) = c.self.inside.keys.items in
    let new : list_any (bytes_eq key) keys ≡ false = ap (λ (l : List (List ℕ)). list_any (bytes_eq key) l) c.self.view_is ∙ c.requires.new_key in
    c.in_ok-push.ensures.items
    ∙ ap (λ (k : List ℕ). keys ++ k ∷ []) c.in_ok-copy.ensures.cases
    ∙ sym (with_new_key key keys new)
    ∙ ap (with_key key) c.self.view_is
