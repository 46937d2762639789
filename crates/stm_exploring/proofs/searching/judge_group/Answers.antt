use Rattle.std.proofs.Common.{List, length, ap, ◌∙◌, subst}
use Rattle.std.proofs.lemmas.List.{length-map}
use Rattle.stm_program.specs.Syntax.{ProgramTree}
use Rattle.stm_exploring.specs.declared.rules.Rule.{Rule}
use Rattle.stm_exploring.specs.declared.judging.Searched.{Searched}
use Rattle.stm_exploring.specs.Beginnings.{place_at}
use Rattle.stm_exploring.specs.Judging.{AreFoundEach, IsFoundWhen}
use Rattle.stm_serial_search.proofs.Judges.{as_many}
use Rattle.stm_exploring.proofs.AnswerLemmas.{each_found}
use Rattle.stm_exploring.proofs.searching.judge_group.Goals as goal

pub push_answers-requires : goal.push_answers-requires
push_answers-requires g c =
    let at : Searched = c.args.at.now in
    let each = each_found c.args.when at.waits.now c.as_slice.result.now (place_at at) at.ends.now c.in_ok-found.found.items c.in_ok-found.ensures in
    record {
      when = c.requires.when;
      each = as_many (λ rule. IsFoundWhen c.args.when at.waits.now rule (place_at at) at.ends.now) c.as_slice.result.now c.in_ok-found.found.items each
          ∙ ap length (c.as_slice.ensures.value ∙ c.in_ok-asked.ensures) ∙ length-map c.args.rules.now (λ (rule : Rule). rule.program);
    }

pub returns : goal.returns
returns g c = λ before so_far.
    let at : Searched = c.args.at.now in
    let each = each_found c.args.when at.waits.now c.as_slice.result.now (place_at at) at.ends.now c.in_ok-found.found.items c.in_ok-found.ensures in
    c.in_ok-push_answers.ensures at.waits.now (place_at at) at.ends.now before
    (subst (λ (programs : List ProgramTree). AreFoundEach c.args.when at.waits.now programs (place_at at) at.ends.now c.in_ok-found.found.items)
    (c.as_slice.ensures.value ∙ c.in_ok-asked.ensures) each) so_far
