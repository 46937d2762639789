use Rattle.std.proofs.Common.{◌+◌, ◌*◌}
use Rattle.stm_source.proofs.starts.+read_options.Given as goal

abbrev pub decreases-more_options : goal.decreases-more_options
decreases-more_options l = 2 * l.more

abbrev pub decreases-next_option : goal.decreases-next_option
decreases-next_option l = 2 * l.more + 1
