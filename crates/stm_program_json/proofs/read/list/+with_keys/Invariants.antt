use Rattle.std.proofs.Common.{length}
use Rattle.stm_program_json.proofs.read.list.+with_keys.Given as goal

abbrev pub decreases-with_keys : goal.decreases-with_keys
decreases-with_keys l = length l.values.now
