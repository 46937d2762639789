use Rattle.std.proofs.Common.{◌∙◌, sym, ap, map, reverse, option_map, slice_get, length, deque_len, List, ℕ}
use Rattle.std.specs.Prelude.{nat_eq}
use Rattle.stm_keys.specs.declared.chain.Version.{Version}
use Rattle.stm_keys.specs.Chains.{Versions, Chain, without_oldest, number_of}
use Rattle.stm_keys.proofs.Forgetting.{mapped_drop, dropped_first, newest_kept}
use Rattle.stm_keys.proofs.chain.Chain.forget_oldest.Goals as goal

pub invariant_of-self : goal.invariant_of-self
invariant_of-self c =
    let xs : List Version = c.self.inside.versions.items in
    ap (option_map number_of) c.still_newest-self-inside.ensures
    ∙ newest_kept number_of xs c.self.inside.newest (nat_eq (deque_len c.pop_front-oldest.new.self) 0) c.self.invariant
    (ap (λ (l : List Version). nat_eq (length l) 0) (sym c.pop_front-oldest.ensures.rest)
    ∙ ap (λ (n : ℕ). nat_eq n 0) (sym c.pop_front-oldest.new.self.ok.0))
    ∙ ap (λ (l : List Version). slice_get (reverse (map number_of l)) 0) (sym c.pop_front-oldest.ensures.rest)

pub returns : goal.returns
returns c =
    let xs : List Version = c.self.inside.versions.items in
    ap (λ (l : List ℕ). let v : Versions = record { before = c.args.before; numbers = l } in v)
    (ap (λ (l : List Version). reverse (map number_of l)) c.pop_front-oldest.ensures.rest
    ∙ ap reverse (mapped_drop number_of xs) ∙ dropped_first (map number_of xs))
    ∙ ap (λ (k : Chain). let v : Versions = record { before = c.args.before; numbers = without_oldest k.versions.numbers } in v) c.self.view_is
