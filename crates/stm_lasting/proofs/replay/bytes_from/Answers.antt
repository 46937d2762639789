use Rattle.std.proofs.Common.{sym, arith}
use Rattle.std.proofs.lemmas.List.{take_rest, drop_all}
use Rattle.stm_lasting.proofs.replay.bytes_from.Goals as goal

pub returns-then-at-bytes : goal.returns-then-at-bytes
returns-then-at-bytes c = sym (drop_all c.args.at c.args.bytes.now (omega arith))

pub returns : goal.returns
returns c = take_rest c.args.bytes.now c.args.at
