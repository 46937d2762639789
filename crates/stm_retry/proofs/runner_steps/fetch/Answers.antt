use Rattle.std.proofs.Common.{◌≡◌, ◌⊎◌, ◌∙◌, ℕ, List, Some, Ok, Err, ap, subst}
use Rattle.stm_outcome.specs.declared.refusal.Refusal.TheVariants.{OutOfMemory}
use Rattle.stm_txn.specs.Standing.{Standing}
use Rattle.stm_journal.specs.Fetched.{fetch_reported}
use Rattle.stm_retry.proofs.StepLemmas.{fetched_key, fetch_answers, fetch_answers_leaves, fetch_refused, fetch_refused_leaves}
use Rattle.stm_retry.proofs.runner_steps.fetch.Goals as goal

-- the answer is of the key that the runner waits for
pub take_answer-requires-clause-asked : goal.take_answer-requires-clause-asked
take_answer-requires-clause-asked c =
    let s : Standing = c.args.journal.now.standing in
    let reported = subst (λ (k : List ℕ). fetch_reported s k c.args.at ≡ Ok c.in-Ok.answer) c.as_str.ensures c.in-Ok.ensures.reported in
    c.requires.asked ∙ ap (λ (k : List ℕ). Some k) (fetched_key s c.args.key c.args.at c.in-Ok.answer reported)

pub returns-in-Ok-clause-reported : goal.returns-in-Ok-clause-reported
returns-in-Ok-clause-reported c =
    let s : Standing = c.args.journal.now.standing in
    let reported = subst (λ (k : List ℕ). fetch_reported s k c.args.at ≡ Ok c.in-Ok.answer) c.as_str.ensures c.in-Ok.ensures.reported in
    fetch_answers s c.args.id c.args.key c.args.at c.in-Ok.answer c.take_answer.result reported c.take_answer.ensures.reported

pub returns-in-Ok-clause-ok : goal.returns-in-Ok-clause-ok
returns-in-Ok-clause-ok c =
    let s : Standing = c.args.journal.now.standing in
    let reported = subst (λ (k : List ℕ). fetch_reported s k c.args.at ≡ Ok c.in-Ok.answer) c.as_str.ensures c.in-Ok.ensures.reported in
    fetch_answers_leaves s c.args.key c.args.at c.in-Ok.answer c.args.runner.now.runner c.take_answer.new.runner.runner c.take_answer.result reported
    c.take_answer.ensures.ok

-- the store refused it
pub returns-in-Err-clause-reported : goal.returns-in-Err-clause-reported
returns-in-Err-clause-reported c =
    let s : Standing = c.args.journal.now.standing in
    let reported =
    subst (λ (k : List ℕ). (c.in-Err.cause ≡ OutOfMemory) ⊎ (fetch_reported s k c.args.at ≡ Err c.in-Err.cause)) c.as_str.ensures c.in-Err.ensures.reported in
    fetch_refused s c.args.id c.args.key c.args.at c.in-Err.cause c.end_refused.result reported c.end_refused.ensures.reported c.end_refused.ensures.refused

pub returns-in-Err-clause-ok : goal.returns-in-Err-clause-ok
returns-in-Err-clause-ok c =
    let s : Standing = c.args.journal.now.standing in
    let reported =
    subst (λ (k : List ℕ). (c.in-Err.cause ≡ OutOfMemory) ⊎ (fetch_reported s k c.args.at ≡ Err c.in-Err.cause)) c.as_str.ensures c.in-Err.ensures.reported in
    fetch_refused_leaves s c.args.key c.args.at c.in-Err.cause c.args.runner.now.runner c.end_refused.result reported c.end_refused.ensures.refused
