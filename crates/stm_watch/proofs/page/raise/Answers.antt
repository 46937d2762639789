use Rattle.std.proofs.Common.{ℕ, List, ◌∙◌, ap, sym}
use Rattle.std.specs.Cmp.Lexicographic.{slice_cmp}
use Rattle.std.specs.Ordering.{nat_cmp, is_le, is_gt}
use Rattle.stm_watch.proofs.Ordered.{le_itself, le_from_gt}
use Rattle.stm_watch.proofs.page.raise.Goals as goal

pub returns-in_err-bound-clause-above : goal.returns-in_err-bound-clause-above
returns-in_err-bound-clause-above c = le_itself c.args.bound.now

pub returns-in_ok-bound-clause-above : goal.returns-in_ok-bound-clause-above
returns-in_ok-bound-clause-above c =
    ap (λ (k : List ℕ). is_le (slice_cmp nat_cmp c.args.bound.now k)) c.in_ok-bound.ensures.cases
    ∙ le_from_gt c.args.key.now c.args.bound.now (sym (c.is_gt.ensures ∙ ap is_gt c.cmp.ensures) ∙ c.if-is_gt.true)

pub returns-in_ok-bound-clause-ok : goal.returns-in_ok-bound-clause-ok
returns-in_ok-bound-clause-ok c =
    ap (λ (k : List ℕ). is_le (slice_cmp nat_cmp c.args.key.now k)) c.in_ok-bound.ensures.cases ∙ le_itself c.args.key.now

pub returns-else-is_gt-clause-above : goal.returns-else-is_gt-clause-above
returns-else-is_gt-clause-above c = le_itself c.args.bound.now
