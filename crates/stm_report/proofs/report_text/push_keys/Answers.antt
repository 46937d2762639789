use Rattle.std.proofs.Common.{◌++◌, map, refl, string_bytes}
use Rattle.stm_check.specs.StoreLines.{key_lines}
use Rattle.stm_report.specs.Forms.{formed_text}
use Rattle.stm_report.proofs.LineLoops.{next_key, all_keys}
use Rattle.stm_report.proofs.report_text.push_keys.Goals as goal

pub loop-key-init : goal.loop-key-init
loop-key-init c = refl

pub loop-key-preserved : goal.loop-key-preserved
loop-key-preserved c =
    rw (c.in_ok-push_key.ensures, c.as_str.ensures.value) (next_key c.args.form (string_bytes c.loop-key.text)
    (string_bytes c.args.text.now ++ formed_text c.args.form (key_lines c.args.store.now.standing.history (map string_bytes c.args.keys.now)))
    c.args.store.now.standing.history c.args.keys.now c.loop-key.key-index c.key-item.result c.loop-key-test.true c.key-item.is c.loop-key.invariant)

pub returns : goal.returns
returns c =
    all_keys c.args.form (string_bytes c.args.text.now) (string_bytes c.loop-key.text) c.args.store.now.standing.history c.args.keys.now c.loop-key.key-index
    c.loop-key-test.false c.loop-key.invariant
