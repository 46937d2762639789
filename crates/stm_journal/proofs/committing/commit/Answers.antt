use Rattle.std.proofs.Common.{◌∙◌, List, Result, IfOk, sym, ap, subst}
use Rattle.stm_txn.specs.Standing.{Standing}
use Rattle.stm_entries.specs.declared.entry.Entry.{Entry}
use Rattle.stm_attempt.specs.ReadyRun.{ReadyRun, IsRunOnItsAnswers}
use Rattle.stm_journal.specs.declared.verdict.Verdict.{Verdict}
use Rattle.stm_journal.specs.declared.refusal.CommitRefusal.{CommitRefusal}
use Rattle.stm_journal.specs.Causes.{cause_of, IsClear}
use Rattle.stm_journal.specs.Verdicts.{taken_by_store, SendsAs, CommitsAs, CanGoOn}
use Rattle.stm_journal.proofs.CauseLemmas.{without_cause, commits_as_taken, goes_on_by, turned_there}
use Rattle.stm_journal.proofs.committing.commit.Goals as goal

-- nothing turns it down
pub make-requires-clause-clear : goal.make-requires-clause-clear
make-requires-clause-clear c =
    let s : Standing = c.args.store.now.standing in
    let clear = without_cause s c.args.prepared (sym c.find_cause.ensures.cause ∙ c.in-None.is) in
    subst (IsClear s) (sym c.into_attempt-ready.ensures) (record { right = clear.right; compared = clear.compared })

pub make-requires-clause-run : goal.make-requires-clause-run
make-requires-clause-run c = subst IsRunOnItsAnswers (sym c.into_attempt-ready.ensures) c.find_cause.ensures.run

pub returns-in-None-clause-verdict : goal.returns-in-None-clause-verdict
returns-in-None-clause-verdict c =
    let s : Standing = c.args.store.now.standing in
    let es : List Entry = c.args.entries.now.items in
    subst (λ (r : Result Verdict CommitRefusal). CommitsAs c.args.prepared r s es c.make.new.store.standing c.make.new.entries.items) (sym c.of_store.ensures)
    (commits_as_taken s c.make.new.store.standing es c.make.new.entries.items c.args.prepared c.make.result (sym c.find_cause.ensures.cause ∙ c.in-None.is)
    (subst (λ (r : ReadyRun). SendsAs (λ journal. taken_by_store journal r) c.make.result s es c.make.new.store.standing c.make.new.entries.items)
    c.into_attempt-ready.ensures c.make.ensures.verdict))

pub returns-in-None-clause-answers : goal.returns-in-None-clause-answers
returns-in-None-clause-answers c =
    subst (λ (r : Result Verdict CommitRefusal). IfOk r CanGoOn) (sym c.of_store.ensures) (goes_on_by c.make.result c.make.ensures.answers)

-- a cause was found
pub turn_down-reported-requires : goal.turn_down-reported-requires
turn_down-reported-requires c =
    ap (cause_of c.args.store.now.standing) c.attempt.ensures
    ∙ sym c.find_cause.ensures.cause
    ∙ c.in-Some.is

pub returns-in-Some-clause-verdict : goal.returns-in-Some-clause-verdict
returns-in-Some-clause-verdict c =
    turned_there c.args.store.now.standing c.args.entries.now.items c.args.prepared c.attempt.result.now c.turn_down-reported.result c.turn_down-reported.ensures.verdict
    c.attempt.ensures
