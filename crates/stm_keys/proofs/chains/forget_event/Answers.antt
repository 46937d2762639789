use Rattle.std.proofs.Common.{◌<◌, ◌∙◌, length, sym, subst, List, ℕ}
use Rattle.indexmap.specs.IndexMap.{get_by_text}
use Rattle.stm_keys.specs.Chains.{versions_in, DropsAbsent, names_of}
use Rattle.stm_keys.proofs.Forgetting.{forgotten_at, drops_same}
use Rattle.stm_keys.proofs.chains.forget_event.Goals as goal

pub index_of_versions-index-requires : goal.index_of_versions-index-requires
index_of_versions-index-requires c =
    subst (λ (k : List ℕ). 0 < length (versions_in (get_by_text c.args.chains.now k)).numbers) (sym (c.as_str.ensures ∙ c.key.ensures)) c.requires

pub returns-clause-versions : goal.returns-clause-versions
returns-clause-versions c = λ k.
    c.drop_if_gone.ensures.versions k
    ∙ forgotten_at c.args.event (λ l. versions_in (get_by_text c.args.chains.now l)) (λ l. versions_in (get_by_text c.forget_at.new.chains l))
    c.as_str.result.now c.into_state.result (c.as_str.ensures ∙ c.key.ensures) c.into_state.ensures
    (c.forget_at.ensures.versions c.as_str.result.now c.index_of_versions-index.ensures.named) k

pub returns-clause-present : goal.returns-clause-present
returns-clause-present c =
    subst (λ (names : List (List ℕ)). DropsAbsent (λ k. versions_in (get_by_text c.drop_if_gone.new.chains k)) names (names_of c.drop_if_gone.new.chains))
    c.forget_at.ensures.names
    (drops_same (λ k. versions_in (get_by_text c.forget_at.new.chains k)) (λ k. versions_in (get_by_text c.drop_if_gone.new.chains k))
    (names_of c.forget_at.new.chains) (names_of c.drop_if_gone.new.chains) c.drop_if_gone.ensures.versions c.drop_if_gone.ensures.present)
