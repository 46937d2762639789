use Rattle.std.proofs.Common.{◌≡◌, ◌∙◌, ap, sym, subst, map, reverse, option_map, List, Option}
use Rattle.std.specs.Prelude.{slice_get}
use Rattle.stm_history.specs.declared.key_state.KeyState.{KeyState}
use Rattle.stm_keys.specs.declared.chain.Version.{Version}
use Rattle.stm_keys.specs.Chains.{Versions, Chain, number_of}
use Rattle.stm_keys.proofs.chain.ChainClone.clone.Goals as goal

pub invariant_of-result : goal.invariant_of-result
invariant_of-result c =
    subst (λ (xs : List Version). option_map number_of c.self.inside.newest ≡ slice_get (reverse (map number_of xs)) 0) (sym c.in_ok-versions.ensures)
    c.self.invariant

pub returns : goal.returns
returns c =
    record {
      cases =
          ap (λ (o : Option KeyState). let v : Versions = record { before = o; numbers = reverse (map number_of c.in_ok-versions.versions.items) } in v)
          c.in_ok-before.ensures
          ∙ ap (λ (xs : List Version). let v : Versions = record { before = c.self.inside.before; numbers = reverse (map number_of xs) } in v)
          c.in_ok-versions.ensures
          ∙ ap (λ (v : Chain). v.versions) c.self.view_is;
    }
