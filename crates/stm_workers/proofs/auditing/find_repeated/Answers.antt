use Rattle.std.proofs.Common.{◌≡◌, ℕ, Bool, List, length, false, replicate, get_or, sym, ◌∙◌, ap, arith}
use Rattle.std.proofs.lemmas.List.{get_or-replicate, length-replicate}
use Rattle.stm_job.specs.declared.job_end.JobEnd.{JobEnd}
use Rattle.stm_workers.specs.Marks.{IsNewAt}
use Rattle.stm_workers.proofs.AuditLemmas.{marked_more, new_there, not_new_there, next_place, all_new}
use Rattle.stm_workers.proofs.auditing.find_repeated.Goals as goal

-- nothing is marked yet
pub loop-place-init : goal.loop-place-init
loop-place-init c =
    let none : c.in_ok-marks.marks.items ≡ replicate c.args.entries false = c.in_ok-marks.ensures.items_if_clones_equal (λ y is. is) in
    record {
      many = ap (λ (l : List Bool). length l) none ∙ length-replicate c.args.entries false;
      marked = λ index low. ap (λ (l : List Bool). get_or l index false) none ∙ get_or-replicate c.args.entries index false false low;
      new = λ p below. absurd (omega arith);
    }

pub loop-place-preserved : goal.loop-place-preserved
loop-place-preserved c =
    let ends : List JobEnd = c.args.ends.now in
    let i = c.loop-place.invariant in
    let end : JobEnd = c.end_at.result.now in
    record {
      many = c.mark.ensures.length ∙ i.many;
      marked = marked_more ends c.loop-place.place c.args.entries end c.loop-place.marks.items c.mark.new.marks.items c.end_at.ensures i.many i.marked
          c.mark.ensures.marks;
      new = next_place (λ (p : ℕ). IsNewAt ends p) c.loop-place.place i.new
          (new_there ends c.loop-place.place c.args.entries end c.loop-place.marks.items c.end_at.ensures i.marked c.requires
          (sym c.mark.ensures.reported ∙ c.if-mark.false));
    }

-- this entry was named before
pub returns-then-mark-clause-fault : goal.returns-then-mark-clause-fault
returns-then-mark-clause-fault c =
    let ends : List JobEnd = c.args.ends.now in
    let i = c.loop-place.invariant in (
      omega arith,
      not_new_there ends c.loop-place.place c.args.entries c.end_at.result.now c.loop-place.marks.items c.end_at.ensures i.marked c.requires
          (sym c.mark.ensures.reported ∙ c.if-mark.true),
    )

pub returns-clause-clear : goal.returns-clause-clear
returns-clause-clear c = all_new c.args.ends.now (λ p below. c.loop-place.invariant.new p (omega (arith, below)))
