use Rattle.std.proofs.Common.{◌∙◌}
use Rattle.stm_attempt.proofs.EnteringLemmas.{after_wanted, after_reads, after_gone, extends_further, after_end}
use Rattle.stm_attempt.proofs.progress.come_on.Goals as goal

pub returns-in_err-found-clause-settles : goal.returns-in_err-found-clause-settles
returns-in_err-found-clause-settles c =
    after_gone c.args.program.now c.args.reads.now c.enter.new.reads c.args.prefetched.now c.come_after_list.new.reads c.enter.ensures.gone
    (c.in_ok-due.ensures.due ∙ c.if-due.false) c.come_after_list.ensures.extends c.come_after_list.ensures.settles

pub returns-in_err-found-clause-extends : goal.returns-in_err-found-clause-extends
returns-in_err-found-clause-extends c =
    extends_further c.args.reads.now c.enter.new.reads c.come_after_list.new.reads c.enter.ensures.extends c.come_after_list.ensures.extends

pub returns-clause-settles : goal.returns-clause-settles
returns-clause-settles c =
    after_gone c.args.program.now c.args.reads.now c.enter.new.reads c.args.prefetched.now c.come_after_list.new.reads c.enter.ensures.gone
    (c.in_ok-due.ensures.due ∙ c.if-due.false) c.come_after_list.ensures.extends c.come_after_list.ensures.settles

pub returns-clause-extends : goal.returns-clause-extends
returns-clause-extends c =
    extends_further c.args.reads.now c.enter.new.reads c.come_after_list.new.reads c.enter.ensures.extends c.come_after_list.ensures.extends

pub returns-clause-reads : goal.returns-clause-reads
returns-clause-reads c =
    after_reads c.args.program.now c.args.reads.now c.enter.new.reads c.args.prefetched.now c.come_after_list.new.reads c.enter.ensures.gone
    (c.in_ok-due.ensures.due ∙ c.if-due.false) c.in_ok-found.ensures.reads

pub returns-clause-at_end : goal.returns-clause-at_end
returns-clause-at_end c =
    λ none.
    after_end c.args.program.now c.args.level c.args.reads.now c.enter.new.reads c.args.prefetched.now c.come_after_list.new.reads c.enter.ensures.gone
    (c.in_ok-due.ensures.due ∙ c.if-due.false) c.in_ok-found.ensures.reads

pub returns-clause-next : goal.returns-clause-next
returns-clause-next c =
    after_wanted c.args.program.now c.args.level c.args.reads.now c.enter.new.reads c.args.prefetched.now c.in_ok-found.found c.enter.ensures.gone
    (c.in_ok-due.ensures.due ∙ c.if-due.false) c.in_ok-found.ensures.next
