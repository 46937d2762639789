use Rattle.std.proofs.Common.{◌≡◌, ℕ, length, List, sym, ap, ◌∙◌, arith, drop, take}
use Rattle.std.specs.Prelude.{bytes_eq}
use Rattle.std.specs.List.{list_any}
use Rattle.stm_steps.specs.declared.searched.TheConstants.{MOST_SEARCHED}
use Rattle.stm_steps.proofs.SearchedLemmas.{among_first, among_rest}
use Rattle.stm_steps.proofs.key_set.KeySet.is_among_many.Goals as goal

pub split_at-requires : goal.split_at-requires
split_at-requires c =
    omega (arith, c.requires, ap (λ (l : List (List ℕ)). length l) c.self.view_is, ap (λ (l : List (List ℕ)). length l) c.as_slice.ensures.value)

pub returns-then-is_among : goal.returns-then-is_among
returns-then-is_among c =
    let cut : c.split_at.result.0.now ≡ take MOST_SEARCHED c.args.self.now =
    c.split_at.ensures.front ∙ ap (λ (l : List (List ℕ)). take MOST_SEARCHED l) (c.as_slice.ensures.value ∙ c.self.view_is) in
    sym (among_first MOST_SEARCHED (bytes_eq c.args.key.now) c.args.self.now
    (ap (list_any (bytes_eq c.args.key.now)) (sym cut) ∙ sym c.is_among.ensures ∙ c.if-is_among.true))

pub returns : goal.returns
returns c =
    let cut : c.split_at.result.0.now ≡ take MOST_SEARCHED c.args.self.now =
    c.split_at.ensures.front ∙ ap (λ (l : List (List ℕ)). take MOST_SEARCHED l) (c.as_slice.ensures.value ∙ c.self.view_is) in
    c.contains.ensures
    ∙ ap (list_any (bytes_eq c.args.key.now)) c.self.invariant
    ∙ ap (λ (l : List (List ℕ)). list_any (bytes_eq c.args.key.now) (drop MOST_SEARCHED l)) c.self.view_is
    ∙ sym (among_rest MOST_SEARCHED (bytes_eq c.args.key.now) c.args.self.now
    (ap (list_any (bytes_eq c.args.key.now)) (sym cut) ∙ sym c.is_among.ensures ∙ c.if-is_among.false))
