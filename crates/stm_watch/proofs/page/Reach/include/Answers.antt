use Rattle.std.proofs.Common.{inl, inr}
use Rattle.std.proofs.lemmas.Result.{on_ok_weaker}
use Rattle.stm_watch.proofs.Ordered.{le_itself}
use Rattle.stm_watch.proofs.page.Reach.include.Goals as goal

pub returns-then-seen-revision-clause-kept : goal.returns-then-seen-revision-clause-kept
returns-then-seen-revision-clause-kept c ws e met w at idle = elim (met w at idle) [ inl le ↦ inl le | inr inside ↦ inr (c.include.ensures.kept e inside) ]

pub returns-then-seen-revision-clause-ok : goal.returns-then-seen-revision-clause-ok
returns-then-seen-revision-clause-ok c =
    on_ok_weaker c.include.result
    (λ included ws seen w at idle.
    inr (included c.args.entry.now (record { low = le_itself c.args.entry.now.first; high = le_itself c.args.entry.now.end }))) c.include.ensures.ok
