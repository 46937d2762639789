use Rattle.std.proofs.Common.{◌∙◌, ap, sym, map}
use Rattle.std.specs.Prelude.{string_bytes}
use Rattle.indexmap.specs.IndexMap.{get_by_text, with_value_at}
use Rattle.indexmap.proofs.CallerLemmas.{keys-with_value_at, index_map_len-with_value_at}
use Rattle.stm_keys.specs.Chains.{Versions, versions_in, without_oldest}
use Rattle.stm_keys.proofs.Order.{found_under, written_at}
use Rattle.stm_keys.proofs.Steps.{versions_made}
use Rattle.stm_keys.proofs.chains.forget_at.Goals as goal

pub returns-clause-names : goal.returns-clause-names
returns-clause-names c = ap (map string_bytes) (keys-with_value_at c.args.chains.now c.args.index c.forget_oldest.new.self)

pub returns-clause-len : goal.returns-clause-len
returns-clause-len c = index_map_len-with_value_at c.args.chains.now c.args.index c.forget_oldest.new.self

pub returns-clause-versions : goal.returns-clause-versions
returns-clause-versions c = λ key named.
    let e = c.pair_mut-chain.ensures in
    let r = c.pair_mut-chain.result in
    versions_made (get_by_text c.args.chains.now) (get_by_text (with_value_at c.args.chains.now c.args.index c.forget_oldest.new.self)) key
    c.forget_oldest.new.self
    (written_at c.args.chains.now c.args.index r.0.now r.1.now e.unique e.value c.forget_oldest.new.self key named)
    (λ v. record { before = c.args.before; numbers = without_oldest v.numbers })
    (c.forget_oldest.ensures
    ∙ ap (λ o. let v : Versions = record { before = c.args.before; numbers = without_oldest (versions_in o).numbers } in v)
    (sym (found_under c.args.chains.now c.args.index r.0.now r.1.now e.unique e.value key named)))
