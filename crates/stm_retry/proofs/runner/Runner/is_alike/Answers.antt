use Rattle.std.proofs.Common.{◌≡◌, sym, ap, ◌∙◌, subst}
use Rattle.stm_alike.specs.Levelled.{reads_seen}
use Rattle.stm_alike.specs.Seen.{seen_runner}
use Rattle.stm_retry.specs.RunnerView.{RunnerView}
use Rattle.stm_retry.proofs.AlikeLemmas.{runners_alike}
use Rattle.stm_retry.proofs.runner.Runner.is_alike.Goals as goal

pub returns : goal.returns
returns c = λ is.
    sym (ap (λ (v : RunnerView). seen_runner v.runner) c.self.view_is)
    ∙ runners_alike c.self.inside.program c.other.inside.program c.self.inside.level c.other.inside.level c.self.inside.limit c.other.inside.limit
    c.self.inside.failures c.other.inside.failures c.self.inside.attempt.known.reads c.other.inside.attempt.known.reads
    c.self.inside.attempt.known.prefetched c.other.inside.attempt.known.prefetched
    (c.is_same_program.ensures is) (c.is_same_level.ensures c.if-not-is_same_level.false) c.if-self-other-2.false c.if-self-other.false
    (ap (reads_seen c.self.inside.level c.self.inside.attempt.known.prefetched) (sym c.reads.ensures)
    ∙ subst (λ ps. reads_seen c.self.inside.level ps c.reads.result.now ≡ reads_seen c.self.inside.level ps c.reads-2.result.now) c.prefetched-3.ensures
    (c.are_seen_alike.ensures c.if-not-are_seen_alike.false)
    ∙ ap (reads_seen c.self.inside.level c.self.inside.attempt.known.prefetched) c.reads-2.ensures)
    (sym c.prefetched.ensures ∙ c.are_same_answers.ensures c.if-not-are_same_answers.false ∙ c.prefetched-2.ensures)
    ∙ ap (λ (v : RunnerView). seen_runner v.runner) c.other.view_is
