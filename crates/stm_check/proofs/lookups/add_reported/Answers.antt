use Rattle.std.proofs.Common.{◌∙◌, ◌++◌, ◌∷◌, [], List, Option, is_some, sym, ap}
use Rattle.stm_history.specs.declared.key_state.ReadAnswer.{ReadAnswer}
use Rattle.stm_compile.specs.Answers.{answer_in}
use Rattle.stm_events.specs.Replies.{read_in}
use Rattle.stm_check.proofs.LookupLemmas.{added, left_out, none_found}
use Rattle.stm_check.proofs.lookups.add_reported.Goals as goal

pub returns-then-is_known : goal.returns-then-is_known
returns-then-is_known c = λ so_far same key.
    let a = c.args.answer.now in
    same key ∙ left_out key so_far (read_in c.args.keys.now.history a)
    (ap (λ (o : Option ReadAnswer). is_some o) (sym (same a.key)) ∙ sym c.is_known.ensures ∙ c.if-is_known.true)

pub add-requires-clause-new_key : goal.add-requires-clause-new_key
add-requires-clause-new_key c =
    let reads : List ReadAnswer = c.args.reads.now in
    ap (λ (r : ReadAnswer). answer_in r.key reads) c.in_ok-read.ensures.read
    ∙ none_found (answer_in c.args.answer.now.key reads) (sym c.is_known.ensures ∙ c.if-is_known.false)

pub returns : goal.returns
returns c = λ so_far same key.
    let reads : List ReadAnswer = c.args.reads.now in
    ap (λ (l : List ReadAnswer). answer_in key l) (c.in_ok-add.ensures.ok ∙ ap (λ (r : ReadAnswer). reads ++ r ∷ []) c.in_ok-read.ensures.read)
    ∙ added key reads so_far (read_in c.args.keys.now.history c.args.answer.now) (same key)
