use Rattle.std.proofs.Common.{map, take, string_bytes}
use Rattle.stm_journal.specs.PresentKeys.{is_listed}
use Rattle.stm_journal.proofs.StateLemmas.{one_key_seen, all_keys_seen}
use Rattle.stm_journal.proofs.state.state_of.Goals as goal

pub loop-key-preserved : goal.loop-key-preserved
loop-key-preserved c =
    let texts = c.as_slice-key-items.result.now in
    let i = c.loop-key.key-index in
    one_key_seen c.args.keys.now.history texts i c.key-item.result c.as_str.result.now c.add_key.new.state c.loop-key-test.true c.key-item.is
    c.as_str.ensures.value (c.in_ok-add_key.ensures (λ q. is_listed q (map string_bytes (take i texts))) c.loop-key.invariant)

pub returns : goal.returns
returns c =
    all_keys_seen c.args.keys.now.history c.as_slice-key-items.result.now c.in_ok-present.present.items c.loop-key.key-index c.loop-key.state
    c.loop-key-test.false c.as_slice-key-items.ensures.value c.in_ok-present.ensures.present c.loop-key.invariant
