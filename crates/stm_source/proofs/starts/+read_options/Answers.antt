use Rattle.std.proofs.Common.{◌<◌, arith}
use Rattle.stm_source.proofs.StepLemmas.{options_none, options_some}
use Rattle.stm_source.proofs.starts.+read_options.Goals as goal

pub more_options-returns-then-more-eq0 : goal.more_options-returns-then-more-eq0
more_options-returns-then-more-eq0 t c = options_none c.args.more c.args.options c.args.story.now c.args.tokens.now c.if-more-eq0.true

pub more_options-returns : goal.more_options-returns
more_options-returns t c =
    let some : 0 < c.args.more = omega arith in
    rw (options_some c.args.more c.args.options c.args.story.now c.args.tokens.now some) c.next_option.ensures
