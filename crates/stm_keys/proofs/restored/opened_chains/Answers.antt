use Rattle.std.proofs.Common.{◌≡◌, ℕ, ◌+◌, List, ◌∷◌, ◌++◌, [], take, Some, sym, ap, ◌∙◌}
use Rattle.std.specs.Prelude.{slice_get}
use Rattle.std.specs.Map.{keys_of}
use Rattle.std.specs.Ordering.{nat_cmp}
use Rattle.std.specs.Cmp.Lexicographic.{slice_cmp}
use Rattle.std.specs.FinMap.{find}
use Rattle.std.proofs.lemmas.List.{take_more, take_all}
use Rattle.std.proofs.lemmas.Option.{slice_get-get_or}
use Rattle.indexmap.specs.IndexMap.{get_by_text}
use Rattle.stm_history.specs.declared.key_state.KeyState.{KeyState}
use Rattle.stm_history.specs.Opening.{States}
use Rattle.stm_keys.specs.Chains.{versions_in}
use Rattle.stm_keys.proofs.OpeningLaws.{not_before}
use Rattle.stm_keys.proofs.OpenedChains.{versions_before, no_chain, one_opened, keys_push}
use Rattle.stm_keys.proofs.restored.opened_chains.Goals as goal

pub add_opened-requires : goal.add_opened-requires
add_opened-requires c =
    let states : States = c.args.states.now in
    let i : ℕ = c.loop-entry.entry-index in
    let e : List ℕ × KeyState = c.entry-item.result in
    let at : slice_get states i ≡ Some e = slice_get-get_or states i e c.loop-entry-test.true ∙ ap Some (sym c.entry-item.is) in
    no_chain c.loop-entry.chains e.0 (take i states) c.loop-entry.invariant.names (not_before states i e c.requires at)

pub loop-entry-preserved : goal.loop-entry-preserved
loop-entry-preserved c =
    let states : States = c.args.states.now in
    let i : ℕ = c.loop-entry.entry-index in
    let e : List ℕ × KeyState = c.entry-item.result in
    let at : slice_get states i ≡ Some e = slice_get-get_or states i e c.loop-entry-test.true ∙ ap Some (sym c.entry-item.is) in
    let more : take (i + 1) states ≡ take i states ++ e ∷ [] =
    take_more states i e c.loop-entry-test.true ∙ ap (λ (x : List ℕ × KeyState). take i states ++ x ∷ []) (sym c.entry-item.is) in
    record {
      versions =
          one_opened (take i states) (take (i + 1) states) e (λ k. versions_in (get_by_text c.loop-entry.chains k))
          (λ k. versions_in (get_by_text c.add_opened.new.chains k)) more (not_before states i e c.requires at) c.loop-entry.invariant.versions
          c.in_ok-add_opened.ensures.versions;
      names =
          c.in_ok-add_opened.ensures.names
          ∙ ap (λ (l : List (List ℕ)). l ++ e.0 ∷ []) c.loop-entry.invariant.names
          ∙ sym (ap keys_of more ∙ keys_push (take i states) e);
    }

pub returns-clause-versions : goal.returns-clause-versions
returns-clause-versions c = λ key.
    c.loop-entry.invariant.versions key
    ∙ ap (λ (s : States). versions_before (find (slice_cmp nat_cmp) key s)) (take_all c.loop-entry.entry-index c.args.states.now c.loop-entry-test.false)

pub returns-clause-names : goal.returns-clause-names
returns-clause-names c = c.loop-entry.invariant.names ∙ ap keys_of (take_all c.loop-entry.entry-index c.args.states.now c.loop-entry-test.false)
