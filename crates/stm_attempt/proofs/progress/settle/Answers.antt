use Rattle.std.proofs.Common.{◌≡◌, ◌∙◌, refl, sym, ap, List}
use Rattle.std.specs.Prelude.{ℕ, Option, Some}
use Rattle.stm_machine.specs.State.{key_asked}
use Rattle.stm_attempt.specs.Known.{serving}
use Rattle.stm_attempt.specs.Settled.{answer_for}
use Rattle.stm_attempt.proofs.ProgressLemmas.{still_finishes, finishes_with_more, taken_is_new, taken_is_read, taken_settles, nothing_added, one_added}
use Rattle.stm_attempt.proofs.progress.settle.Goals as goal

pub answers-init : goal.answers-init
answers-init c =
    record { finishes = λ program start. start; settles = λ program start. refl; extends = nothing_added c.args.reads.now c.args.reads.now refl }

pub add-requires-clause-new_key : goal.add-requires-clause-new_key
add-requires-clause-new_key c =
    taken_is_new c.answers.reads c.args.prefetched.now c.run.new.self c.in-Some.answer c.in_ok-run.ensures.stands
    (sym c.in-Some.is ∙ c.in_ok-taken.ensures.answer
    ∙ ap (λ (o : Option (List ℕ)). answer_for o (serving c.answers.reads c.args.prefetched.now)) c.wanted.ensures)

pub answers-smaller : goal.answers-smaller
answers-smaller c =
    taken_is_read c.answers.reads c.add.new.self c.args.prefetched.now c.run.new.self c.in-Some.answer c.in_ok-run.ensures.stands
    (sym c.in-Some.is ∙ c.in_ok-taken.ensures.answer
    ∙ ap (λ (o : Option (List ℕ)). answer_for o (serving c.answers.reads c.args.prefetched.now)) c.wanted.ensures)
    c.in_ok-add-in-Some.ensures.ok

pub answers-preserved : goal.answers-preserved
answers-preserved c =
    let found : Some c.in-Some.answer ≡ answer_for (key_asked c.run.new.self.focus) (serving c.answers.reads c.args.prefetched.now) =
    sym c.in-Some.is ∙ c.in_ok-taken.ensures.answer
    ∙ ap (λ (o : Option (List ℕ)). answer_for o (serving c.answers.reads c.args.prefetched.now)) c.wanted.ensures in
    record {
      finishes = λ program start.
          finishes_with_more program c.answers.reads c.add.new.self c.in-Some.answer c.run.new.self c.in_ok-add-in-Some.ensures.ok
          (still_finishes program c.answers.reads c.answers.machine c.run.new.self (c.answers.invariant.finishes program start) c.run.ensures.finish);
      settles = λ program start.
          taken_settles program c.answers.reads c.add.new.self c.args.prefetched.now c.run.new.self c.in-Some.answer
          (still_finishes program c.answers.reads c.answers.machine c.run.new.self (c.answers.invariant.finishes program start) c.run.ensures.finish)
          c.in_ok-run.ensures.stands found c.in_ok-add-in-Some.ensures.ok
          ∙ c.answers.invariant.settles program start;
      extends = one_added c.args.reads.now c.answers.reads c.add.new.self c.in-Some.answer c.answers.invariant.extends c.in_ok-add-in-Some.ensures.ok;
    }
