use Rattle.std.proofs.Common.{◌∙◌, sym, ap}
use Rattle.std.specs.Prelude.{ℕ}
use Rattle.stm_attempt.specs.declared.next.Next.TheVariants.{Fetch}
use Rattle.stm_attempt.specs.Settled.{run_on}
use Rattle.stm_attempt.proofs.ProgressLemmas.{fetch_is, next_of_settled}
use Rattle.stm_attempt.proofs.progress.come_after_list.Goals as goal

pub returns-in_err-begin-clause-come : goal.returns-in_err-begin-clause-come
returns-in_err-begin-clause-come c = c.begin.ensures.come c.args.reads.now c.requires.come

pub returns-in_err-wanted-clause-come : goal.returns-in_err-wanted-clause-come
returns-in_err-wanted-clause-come c = c.come_to_fetch.ensures.come c.args.program.now (c.begin.ensures.come c.args.reads.now c.requires.come)

pub returns-in_err-wanted-clause-settles : goal.returns-in_err-wanted-clause-settles
returns-in_err-wanted-clause-settles c = c.come_to_fetch.ensures.settles c.args.program.now (c.begin.ensures.come c.args.reads.now c.requires.come)

pub returns-in-Some-clause-come : goal.returns-in-Some-clause-come
returns-in-Some-clause-come c = c.come_to_fetch.ensures.come c.args.program.now (c.begin.ensures.come c.args.reads.now c.requires.come)

pub returns-in-Some-clause-settles : goal.returns-in-Some-clause-settles
returns-in-Some-clause-settles c = c.come_to_fetch.ensures.settles c.args.program.now (c.begin.ensures.come c.args.reads.now c.requires.come)

pub returns-in-Some-clause-reads : goal.returns-in-Some-clause-reads
returns-in-Some-clause-reads c = c.in_ok-wanted.ensures.reads c.args.program.now (c.begin.ensures.come c.args.reads.now c.requires.come)

pub returns-in-Some-clause-next : goal.returns-in-Some-clause-next
returns-in-Some-clause-next c =
    next_of_settled c.args.program.now c.args.level c.args.reads.now c.args.prefetched.now c.come_to_fetch.new.reads _
    (c.in_ok-wanted.ensures.reads c.args.program.now (c.begin.ensures.come c.args.reads.now c.requires.come))
    (ap (λ (n : ℕ). Fetch c.in-Some.key n) c.fetch_revision-at.ensures
    ∙ fetch_is c.args.program.now c.args.level c.come_to_fetch.new.reads (run_on c.args.program.now c.come_to_fetch.new.reads) c.in-Some.key
    (sym c.in-Some.is ∙ c.in_ok-wanted.ensures.key c.args.program.now (c.begin.ensures.come c.args.reads.now c.requires.come)))

pub returns-in-None-clause-come : goal.returns-in-None-clause-come
returns-in-None-clause-come c = c.come_to_fetch.ensures.come c.args.program.now (c.begin.ensures.come c.args.reads.now c.requires.come)

pub returns-in-None-clause-settles : goal.returns-in-None-clause-settles
returns-in-None-clause-settles c = c.come_to_fetch.ensures.settles c.args.program.now (c.begin.ensures.come c.args.reads.now c.requires.come)

pub returns-in-None-clause-reads : goal.returns-in-None-clause-reads
returns-in-None-clause-reads c = c.in_ok-wanted.ensures.reads c.args.program.now (c.begin.ensures.come c.args.reads.now c.requires.come)

pub returns-in-None-clause-ended : goal.returns-in-None-clause-ended
returns-in-None-clause-ended c = λ _. c.in_ok-wanted.ensures.ended c.in-None.is
