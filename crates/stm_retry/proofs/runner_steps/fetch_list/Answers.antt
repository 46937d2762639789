use Rattle.std.proofs.Common.{◌≡◌, ◌∙◌, ℕ, List, Some, ap}
use Rattle.stm_history.specs.History.{History, now}
use Rattle.stm_txn.specs.Standing.{Standing}
use Rattle.stm_retry.proofs.StepLemmas.{listed_keys, listed_show_one, list_answers, list_answers_leaves, list_refused, list_refused_leaves}
use Rattle.stm_retry.proofs.runner_steps.fetch_list.Goals as goal

-- the answers are of the keys that the runner waits for
pub take_answers-requires-clause-asked : goal.take_answers-requires-clause-asked
take_answers-requires-clause-asked c =
    let s : Standing = c.args.journal.now.standing in
    c.requires.asked ∙ ap (λ (l : List (List ℕ)). Some l) (listed_keys s c.args.keys.now c.in-Ok.answers.items c.in-Ok.ensures.reported)

pub take_answers-requires-clause-one_revision : goal.take_answers-requires-clause-one_revision
take_answers-requires-clause-one_revision c =
    let s : Standing = c.args.journal.now.standing in
    listed_show_one s c.args.keys.now c.in-Ok.answers.items c.in-Ok.ensures.reported

pub returns-in-Ok-clause-reported : goal.returns-in-Ok-clause-reported
returns-in-Ok-clause-reported c =
    let s : Standing = c.args.journal.now.standing in
    let counts : c.revision-revision.result ≡ now s.history =
    c.revision-revision.ensures.value ∙ ap (λ (h : History). now h) (c.keys.ensures.history ∙ ap (λ (x : Standing). x.history) c.store.ensures) in
    list_answers s c.args.id c.revision-revision.result c.args.keys.now c.in-Ok.answers.items c.take_answers.result counts c.in-Ok.ensures.reported
    c.take_answers.ensures.reported

pub returns-in-Ok-clause-ok : goal.returns-in-Ok-clause-ok
returns-in-Ok-clause-ok c =
    let s : Standing = c.args.journal.now.standing in
    list_answers_leaves s c.args.keys.now c.in-Ok.answers.items c.args.runner.now.runner c.take_answers.new.runner.runner c.take_answers.result
    c.in-Ok.ensures.reported c.take_answers.ensures.ok

-- the store refused it
pub returns-in-Err-clause-reported : goal.returns-in-Err-clause-reported
returns-in-Err-clause-reported c =
    let s : Standing = c.args.journal.now.standing in
    list_refused s c.args.id c.args.keys.now c.in-Err.cause c.end_refused.result c.in-Err.ensures.refused c.end_refused.ensures.reported
    c.end_refused.ensures.refused

pub returns-in-Err-clause-ok : goal.returns-in-Err-clause-ok
returns-in-Err-clause-ok c =
    let s : Standing = c.args.journal.now.standing in
    list_refused_leaves s c.args.keys.now c.in-Err.cause c.args.runner.now.runner c.end_refused.result c.in-Err.ensures.refused
    c.end_refused.ensures.refused
