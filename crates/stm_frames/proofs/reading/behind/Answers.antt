use Rattle.std.proofs.lemmas.List.{take_rest}
use Rattle.stm_frames.proofs.reading.behind.Goals as goal

pub returns : goal.returns
returns c = take_rest c.args.bytes.now c.args.at
