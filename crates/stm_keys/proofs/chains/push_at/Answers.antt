use Rattle.std.proofs.Common.{◌<◌, ◌∙◌, ap, true, sym, subst, map, Option}
use Rattle.std.specs.Prelude.{string_bytes}
use Rattle.indexmap.specs.IndexMap.{get_by_text, with_value_at}
use Rattle.indexmap.proofs.CallerLemmas.{keys-with_value_at, index_map_len-with_value_at}
use Rattle.stm_keys.specs.Chains.{Chain, versions_in, room_in, with_version, number_of}
use Rattle.stm_keys.proofs.Order.{named_at, found_at_index, found_under, written_at}
use Rattle.stm_keys.proofs.Steps.{version_added, room_elsewhere}
use Rattle.stm_keys.proofs.chains.push_at.Goals as goal

pub push-requires : goal.push-requires
push-requires c =
    let e = c.pair_mut-chain.ensures in
    let r = c.pair_mut-chain.result in
    subst (λ (o : Option Chain). 0 < room_in o) (found_at_index c.args.chains.now c.args.index r.0.now r.1.now e.unique e.value)
    (c.requires.room (string_bytes r.0.now) (named_at c.args.chains.now c.args.index r.0.now r.1.now e.unique e.value))

pub returns-clause-names : goal.returns-clause-names
returns-clause-names c = ap (map string_bytes) (keys-with_value_at c.args.chains.now c.args.index c.push.new.self)

pub returns-clause-len : goal.returns-clause-len
returns-clause-len c = index_map_len-with_value_at c.args.chains.now c.args.index c.push.new.self

pub returns-clause-versions : goal.returns-clause-versions
returns-clause-versions c = λ key named.
    let e = c.pair_mut-chain.ensures in
    let r = c.pair_mut-chain.result in
    version_added (get_by_text c.args.chains.now) (get_by_text (with_value_at c.args.chains.now c.args.index c.push.new.self)) key c.push.new.self
    (written_at c.args.chains.now c.args.index r.0.now r.1.now e.unique e.value c.push.new.self key named) (number_of c.args.version)
    (c.push.ensures
    ∙ ap (λ o. with_version true (number_of c.args.version) (versions_in o)) (sym (found_under c.args.chains.now c.args.index r.0.now r.1.now e.unique e.value key named)))

pub returns-clause-room : goal.returns-clause-room
returns-clause-room c = λ key named.
    let e = c.pair_mut-chain.ensures in
    let r = c.pair_mut-chain.result in
    room_elsewhere (get_by_text c.args.chains.now) (get_by_text (with_value_at c.args.chains.now c.args.index c.push.new.self)) key c.push.new.self
    (written_at c.args.chains.now c.args.index r.0.now r.1.now e.unique e.value c.push.new.self key named)
