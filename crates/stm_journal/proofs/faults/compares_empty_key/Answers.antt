use Rattle.std.proofs.Common.{◌&&◌, Bool, sym, ◌∙◌, ap}
use Rattle.stm_journal.proofs.WholeFaults.{reads_nothing}
use Rattle.stm_journal.proofs.faults.compares_empty_key.Goals as goal

-- nothing is compared
pub returns-then-not-is_comparing : goal.returns-then-not-is_comparing
returns-then-not-is_comparing c =
    sym (ap (λ (b : Bool). b && reads_nothing c.args.answers.now) (sym c.is_comparing.ensures ∙ c.if-not-is_comparing.true))

pub returns : goal.returns
returns c =
    c.is_one_of_empty_key.ensures
    ∙ ap reads_nothing c.as_slice.ensures.answers
    ∙ sym (ap (λ (b : Bool). b && reads_nothing c.args.answers.now) (sym c.is_comparing.ensures ∙ c.if-not-is_comparing.false))
