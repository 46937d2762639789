use Rattle.std.proofs.Common.{◌∙◌, ◌++◌, List, ℕ, refl, ap, map, string_bytes}
use Rattle.stm_history.specs.History.{key_now}
use Rattle.stm_check.specs.StoreLines.{key_lines_of, key_lines}
use Rattle.stm_check.proofs.FinalLemmas.{one_key_line, all_key_lines}
use Rattle.stm_check.proofs.finals.add_keys.Goals as goal

pub loop-key-init : goal.loop-key-init
loop-key-init c = refl

pub loop-key-preserved : goal.loop-key-preserved
loop-key-preserved c =
    let h = c.args.keys.now.history in
    let texts = c.as_slice-key-items.result.now in
    one_key_line h texts c.loop-key.key-index c.key-item.result c.loop-key.lines.items c.add_key.new.lines.items
    (c.args.lines.now.items ++ key_lines h (map string_bytes texts)) c.loop-key-test.true c.key-item.is
    (c.in_ok-add_key.ensures ∙ ap (λ (key : List ℕ). c.loop-key.lines.items ++ key_lines_of key (key_now h key)) c.as_str.ensures.value)
    c.loop-key.invariant

pub returns : goal.returns
returns c =
    all_key_lines c.args.keys.now.history c.as_slice-key-items.result.now c.loop-key.key-index c.args.lines.now.items c.loop-key.lines.items
    c.loop-key-test.false (ap (map string_bytes) c.as_slice-key-items.ensures.value ∙ c.in_ok-present.ensures.computed) c.loop-key.invariant
