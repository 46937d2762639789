use Rattle.std.proofs.Common.{◌<◌, ◌≤◌, ◌∙◌, refl, ap, sym, subst, cond, map, Option, Some}
use Rattle.std.specs.Prelude.{string_bytes}
use Rattle.std.proofs.lemmas.Slice.Eq.{bytes_eq-Decides}
use Rattle.indexmap.specs.IndexMap.{get_by_text, with_value_at}
use Rattle.indexmap.proofs.CallerLemmas.{keys-with_value_at}
use Rattle.indexmap.proofs.MapLemmas.{OnOk-map}
use Rattle.stm_keys.specs.Chains.{Chain, versions_in, room_in}
use Rattle.stm_keys.proofs.Order.{named_at, found_at_index, written_at}
use Rattle.stm_keys.proofs.Steps.{versions_kept, room_grows}
use Rattle.stm_keys.proofs.chains.make_room_at.Goals as goal

pub returns-clause-names : goal.returns-clause-names
returns-clause-names c = ap (map string_bytes) (keys-with_value_at c.args.chains.now c.args.index c.make_room.new.self)

pub returns-clause-versions : goal.returns-clause-versions
returns-clause-versions c =
    let e = c.pair_mut-chain.ensures in
    let r = c.pair_mut-chain.result in
    let named = named_at c.args.chains.now c.args.index r.0.now r.1.now e.unique e.value in
    versions_kept (get_by_text c.args.chains.now) (get_by_text (with_value_at c.args.chains.now c.args.index c.make_room.new.self)) (string_bytes r.0.now)
    c.make_room.new.self (written_at c.args.chains.now c.args.index r.0.now r.1.now e.unique e.value c.make_room.new.self (string_bytes r.0.now) named)
    (c.make_room.ensures.versions ∙ ap versions_in (sym (found_at_index c.args.chains.now c.args.index r.0.now r.1.now e.unique e.value)))

pub returns-clause-more : goal.returns-clause-more
returns-clause-more c =
    let e = c.pair_mut-chain.ensures in
    let r = c.pair_mut-chain.result in
    let named = named_at c.args.chains.now c.args.index r.0.now r.1.now e.unique e.value in
    room_grows (get_by_text c.args.chains.now) (get_by_text (with_value_at c.args.chains.now c.args.index c.make_room.new.self)) (string_bytes r.0.now)
    c.make_room.new.self (written_at c.args.chains.now c.args.index r.0.now r.1.now e.unique e.value c.make_room.new.self (string_bytes r.0.now) named)
    (subst (λ (o : Option Chain). room_in o ≤ c.make_room.new.self.room)
    (sym (found_at_index c.args.chains.now c.args.index r.0.now r.1.now e.unique e.value)) c.make_room.ensures.more)

pub returns-clause-room : goal.returns-clause-room
returns-clause-room c =
    let e = c.pair_mut-chain.ensures in
    let r = c.pair_mut-chain.result in
    let w : Chain = c.make_room.new.self in
    OnOk-map c.make_room.result _ _ (λ room key named. subst (λ (o : Option Chain). 0 < room_in o)
    (sym (written_at c.args.chains.now c.args.index r.0.now r.1.now e.unique e.value w key named key
    ∙ ap (λ b. cond b (Some w) (get_by_text c.args.chains.now key)) ((bytes_eq-Decides key key).1 refl))) room)
    c.make_room.ensures.room
