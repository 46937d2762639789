use Rattle.std.proofs.Common.{sym, arith}
use Rattle.std.proofs.lemmas.List.{take_all}
use Rattle.stm_lasting.proofs.replay.first_bytes.Goals as goal

pub returns-then-len-bytes : goal.returns-then-len-bytes
returns-then-len-bytes c = sym (take_all c.args.len c.args.bytes.now (omega arith))
