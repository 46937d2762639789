use Rattle.std.proofs.Common.{List, length, sym, ap, ◌∙◌, subst}
use Rattle.stm_program.specs.Syntax.{ProgramTree}
use Rattle.stm_schedules.specs.Keeping.{AllKeep}
use Rattle.stm_serial_search.specs.Search.{keep_all}
use Rattle.stm_serial_search.specs.Replaying.{AreJudged, IsJudged, undecided}
use Rattle.stm_serial_search.specs.declared.judging.Judged.{Judged}
use Rattle.stm_serial_search.proofs.Judges.{as_many, others_always}
use Rattle.stm_serial_search.proofs.judging.decide_some.Goals as goal

pub undecided-requires : goal.undecided-requires
undecided-requires g c =
    ap length c.as_slice.ensures.value
    ∙ as_many (λ rule. IsJudged rule (record { world = c.args.world.now; others = c.args.others.now })) c.args.rules.now c.args.judged.now.items c.requires.judged

pub returns-in-None : goal.returns-in-None
returns-in-None g c =
    let rules = c.args.rules.now in
    let judged : List Judged = c.args.judged.now.items in
    let left = c.as_slice-2.ensures.value ∙ c.in_ok-left.ensures ∙ ap (undecided rules) c.as_slice.ensures.value in
    let kept = subst (λ (rs : List ProgramTree). AllKeep (keep_all rs) (record { world = c.args.world.now; others = c.args.others.now })) left
    (c.in_ok-find_bad_order.ensures.none c.in-None.is c.requires.enough) in
    subst (AreJudged rules (record { world = c.args.world.now; others = c.args.others.now })) (sym c.keep_others.ensures)
    (others_always rules (record { world = c.args.world.now; others = c.args.others.now }) judged kept c.requires.judged)
