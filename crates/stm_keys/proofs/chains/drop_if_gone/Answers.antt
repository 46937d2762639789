use Rattle.std.proofs.Common.{refl, List, ℕ}
use Rattle.indexmap.specs.IndexMap.{get_by_text}
use Rattle.stm_keys.specs.Chains.{versions_in, names_of}
use Rattle.stm_keys.proofs.Forgetting.{gone_versions, gone_names, drops_none}
use Rattle.stm_keys.proofs.chains.drop_if_gone.Goals as goal

pub returns-then-is_gone_at-clause-versions : goal.returns-then-is_gone_at-clause-versions
returns-then-is_gone_at-clause-versions c =
    gone_versions c.args.chains.now c.swap_remove_index-gone.new.self c.args.index c.requires (c.is_gone_at.ensures c.if-is_gone_at.true)
    c.swap_remove_index-gone.result c.swap_remove_index-gone.ensures.entry c.swap_remove_index-gone.ensures.updates

pub returns-then-is_gone_at-clause-present : goal.returns-then-is_gone_at-clause-present
returns-then-is_gone_at-clause-present c =
    gone_names c.args.chains.now c.swap_remove_index-gone.new.self c.args.index c.requires (c.is_gone_at.ensures c.if-is_gone_at.true)
    c.swap_remove_index-gone.result c.swap_remove_index-gone.ensures.entry c.swap_remove_index-gone.ensures.entries

pub returns-else-is_gone_at-clause-present : goal.returns-else-is_gone_at-clause-present
returns-else-is_gone_at-clause-present c =
    drops_none (λ (k : List ℕ). versions_in (get_by_text c.args.chains.now k)) (names_of c.args.chains.now) (names_of c.args.chains.now) refl
