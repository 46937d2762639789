use Rattle.std.proofs.Common.{ℕ, List, ◌∙◌, ap, sym}
use Rattle.std.specs.Cmp.Lexicographic.{slice_cmp}
use Rattle.std.specs.Ordering.{nat_cmp, is_le, is_lt}
use Rattle.stm_watch.proofs.Ordered.{le_itself, le_turned}
use Rattle.stm_watch.proofs.page.lower.Goals as goal

pub returns-in_err-bound-clause-below : goal.returns-in_err-bound-clause-below
returns-in_err-bound-clause-below c = le_itself c.args.bound.now

pub returns-in_ok-bound-clause-ok : goal.returns-in_ok-bound-clause-ok
returns-in_ok-bound-clause-ok c =
    ap (λ (k : List ℕ). is_le (slice_cmp nat_cmp k c.args.key.now)) c.in_ok-bound.ensures.cases ∙ le_itself c.args.key.now

pub returns-else-is_lt-clause-below : goal.returns-else-is_lt-clause-below
returns-else-is_lt-clause-below c = le_itself c.args.bound.now

pub returns-else-is_lt-clause-ok : goal.returns-else-is_lt-clause-ok
returns-else-is_lt-clause-ok c = le_turned c.args.key.now c.args.bound.now (sym (c.is_lt.ensures ∙ ap is_lt c.cmp.ensures) ∙ c.if-is_lt.false)
