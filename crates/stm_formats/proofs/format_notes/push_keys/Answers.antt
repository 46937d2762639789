use Rattle.std.proofs.Common.{◌++◌, map, refl, string_bytes}
use Rattle.stm_formats.specs.FormatNotes.{key_notes}
use Rattle.stm_formats.proofs.FormatLoops.{next_note, all_notes}
use Rattle.stm_formats.proofs.format_notes.push_keys.Goals as goal

pub loop-key-init : goal.loop-key-init
loop-key-init c = refl

pub loop-key-preserved : goal.loop-key-preserved
loop-key-preserved c =
    rw (c.in_ok-push_key.ensures, c.as_str.ensures.value) (next_note c.args.most c.args.above c.loop-key.notes.items
    (c.args.notes.now.items ++ key_notes c.args.most c.args.above c.args.store.now.standing.history (map string_bytes c.args.keys.now))
    c.args.store.now.standing.history c.args.keys.now c.loop-key.key-index c.key-item.result c.loop-key-test.true c.key-item.is c.loop-key.invariant)

pub returns : goal.returns
returns c =
    all_notes c.args.most c.args.above c.args.notes.now.items c.loop-key.notes.items c.args.store.now.standing.history c.args.keys.now c.loop-key.key-index
    c.loop-key-test.false c.loop-key.invariant
