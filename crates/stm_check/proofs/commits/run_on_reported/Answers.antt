use Rattle.std.proofs.Common.{subst}
use Rattle.std.proofs.lemmas.Result.{IfOk-weaker}
use Rattle.stm_meaning.specs.Answer.{Lookup}
use Rattle.stm_events.specs.Replies.{reads_in}
use Rattle.stm_check.specs.Runs.{IsRunOn}
use Rattle.stm_check.proofs.LookupLemmas.{same_look_up}
use Rattle.stm_check.proofs.CommitLemmas.{found_by_keys}
use Rattle.stm_check.proofs.commits.run_on_reported.Goals as goal

pub returns : goal.returns
returns c =
    let h = c.args.keys.now.history in
    let answers = c.args.answers.now in
    let program = c.args.runner.now.program in
    IfOk-weaker c.run_on_reads-run.result _ _ (λ found on. found_by_keys c.args.runner.now.level h program answers found c.requires.level
    (c.are_truly_reported.ensures.0 c.if-not-are_truly_reported.false)
    (subst (λ (look : Lookup). IsRunOn look program answers found) (same_look_up c.in_ok-reads.reads (reads_in h answers) c.in_ok-reads.ensures) on))
    c.run_on_reads-run.ensures
