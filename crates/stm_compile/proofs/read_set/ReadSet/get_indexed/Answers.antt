use Rattle.std.proofs.Common.{◌≡◌, ◌<◌, length, List, sym, ap, ◌∙◌, arith, drop}
use Rattle.std.specs.Prelude.{slice_get}
use Rattle.stm_history.specs.declared.key_state.ReadAnswer.{ReadAnswer}
use Rattle.stm_compile.specs.declared.read_set.TheConstants.{MOST_SEARCHED}
use Rattle.stm_compile.specs.Places.{answer_at}
use Rattle.stm_compile.specs.Answers.{answer_in}
use Rattle.stm_compile.proofs.read_set.ReadSet.get_indexed.Goals as goal

pub split_at-requires : goal.split_at-requires
split_at-requires c =
    omega (arith, c.requires, ap (λ (l : List ReadAnswer). length l) c.self.view_is, ap (λ (l : List ReadAnswer). length l) c.as_slice.ensures.value)

-- what the index has under the key is the place of its answer
pub answer_at-requires : goal.answer_at-requires
answer_at-requires c =
    let behind : List ReadAnswer = drop MOST_SEARCHED c.self.inside.answers.items in
    let cut : c.split_at.result.1.now ≡ behind =
    c.split_at.ensures.back ∙ ap (λ (l : List ReadAnswer). drop MOST_SEARCHED l) c.as_slice.ensures.value in
    let within : c.in_ok-place.field-0.now < length behind =
    c.self.invariant.1.placed.within c.args.key.now c.in_ok-place.field-0.now (sym c.in_ok-place.ensures.value) in
    omega (arith, within, ap (λ (l : List ReadAnswer). length l) cut)

pub returns : goal.returns
returns c =
    let behind : List ReadAnswer = drop MOST_SEARCHED c.self.inside.answers.items in
    let cut : c.split_at.result.1.now ≡ behind =
    c.split_at.ensures.back ∙ ap (λ (l : List ReadAnswer). drop MOST_SEARCHED l) c.as_slice.ensures.value in
    sym c.answer_at.ensures
    ∙ ap (λ (l : List ReadAnswer). slice_get l c.in_ok-place.field-0.now) cut
    ∙ ap (λ place. answer_at behind place) c.in_ok-place.ensures.value
    ∙ c.self.invariant.1.placed.answer c.args.key.now
    ∙ ap (λ (answers : List ReadAnswer). answer_in c.args.key.now (drop MOST_SEARCHED answers)) c.self.view_is
