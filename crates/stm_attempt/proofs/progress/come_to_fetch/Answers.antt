use Rattle.std.proofs.Common.{rules, ◌≡◌, ◌∙◌, refl, sym, ap, subst, List}
use Rattle.std.specs.Prelude.{ℕ, Some}
use Rattle.stm_machine.specs.State.{key_asked}
use Rattle.stm_attempt.specs.declared.progress.Progress.{Progress}
use Rattle.stm_attempt.specs.Progress.{HasCome, HasEnded}
use Rattle.stm_attempt.proofs.ProgressLemmas.{nothing_added, ended_by, end_is_settled, end_wants_nothing, wanted_by, none_settles, kept_come, kept_end}
use Rattle.stm_attempt.proofs.progress.come_to_fetch.Goals as goal

pub returns-then-has_ended : goal.returns-then-has_ended
returns-then-has_ended c =
    let ended : HasEnded c.args.progress.now = ended_by c.args.progress.now (sym c.has_ended.ensures ∙ c.if-has_ended.true) in
    record {
      come = λ program come. come;
      settles = λ program come. refl;
      extends = nothing_added c.args.reads.now c.args.reads.now refl;
      reads = λ program come. sym (end_is_settled program c.args.reads.now c.args.prefetched.now c.args.progress.now ended come);
      key = λ program come. end_wants_nothing program c.args.reads.now c.args.progress.now ended come;
      ended = λ none. ended;
    }

pub returns-in_err-settle-clause-come : goal.returns-in_err-settle-clause-come
returns-in_err-settle-clause-come c =
    λ program come. c.settle.ensures.finishes program (subst (λ (p : Progress). HasCome program c.args.reads.now p) c.in-Started.is come)

pub returns-in_err-clone-clause-come : goal.returns-in_err-clone-clause-come
returns-in_err-clone-clause-come c =
    λ program come. c.settle.ensures.finishes program (subst (λ (p : Progress). HasCome program c.args.reads.now p) c.in-Started.is come)

pub returns-in-Some-clause-come : goal.returns-in-Some-clause-come
returns-in-Some-clause-come c =
    λ program come. c.settle.ensures.finishes program (subst (λ (p : Progress). HasCome program c.args.reads.now p) c.in-Started.is come)

pub returns-in-Some-clause-reads : goal.returns-in-Some-clause-reads
returns-in-Some-clause-reads c =
    λ program come.
    sym
    (none_settles program c.settle.new.reads c.args.prefetched.now c.settle.new.machine
    (c.settle.ensures.finishes program (subst (λ (p : Progress). HasCome program c.args.reads.now p) c.in-Started.is come))
    c.in_ok-settle.ensures.stands (sym c.in_ok-settle.ensures.settled))
    ∙ c.settle.ensures.settles program (subst (λ (p : Progress). HasCome program c.args.reads.now p) c.in-Started.is come)

pub returns-in-Some-clause-key : goal.returns-in-Some-clause-key
returns-in-Some-clause-key c =
    let copied : c.in_ok-clone.field-0 ≡ c.in-Some.key.now = search rules in
    λ program come.
    ap (λ (k : List ℕ). Some k) copied
    ∙ c.in-Some.ensures
    ∙ sym
    (wanted_by program c.settle.new.reads c.settle.new.machine (key_asked c.settle.new.machine.focus)
    (c.settle.ensures.finishes program (subst (λ (p : Progress). HasCome program c.args.reads.now p) c.in-Started.is come))
    c.in_ok-settle.ensures.stands refl)

pub returns-clause-come : goal.returns-clause-come
returns-clause-come c =
    λ program come.
    kept_come program c.settle.new.reads c.settle.new.machine c.end_run.new.progress
    (c.settle.ensures.finishes program (subst (λ (p : Progress). HasCome program c.args.reads.now p) c.in-Started.is come))
    c.in_ok-settle.ensures.stands c.in_default-wanted.ensures c.end_run.ensures

pub returns-clause-reads : goal.returns-clause-reads
returns-clause-reads c =
    λ program come.
    sym
    (none_settles program c.settle.new.reads c.args.prefetched.now c.settle.new.machine
    (c.settle.ensures.finishes program (subst (λ (p : Progress). HasCome program c.args.reads.now p) c.in-Started.is come))
    c.in_ok-settle.ensures.stands (sym c.in_ok-settle.ensures.settled))
    ∙ c.settle.ensures.settles program (subst (λ (p : Progress). HasCome program c.args.reads.now p) c.in-Started.is come)

pub returns-clause-key : goal.returns-clause-key
returns-clause-key c =
    λ program come.
    c.in_default-wanted.ensures
    ∙ sym
    (wanted_by program c.settle.new.reads c.settle.new.machine (key_asked c.settle.new.machine.focus)
    (c.settle.ensures.finishes program (subst (λ (p : Progress). HasCome program c.args.reads.now p) c.in-Started.is come))
    c.in_ok-settle.ensures.stands refl)

pub returns-clause-ended : goal.returns-clause-ended
returns-clause-ended c =
    λ none.
    kept_end c.settle.new.reads c.settle.new.machine c.end_run.new.progress c.in_ok-settle.ensures.stands c.in_default-wanted.ensures c.end_run.ensures
