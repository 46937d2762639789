use Rattle.stm_watch.proofs.Copied.{copy_finds}
use Rattle.stm_watch.proofs.copies.copy_keys.Goals as goal

pub returns : goal.returns
returns c = λ key. copy_finds c.args.keys.now.entries c.in_ok-copy.copy.entries key c.in_ok-copy.ensures.cases
