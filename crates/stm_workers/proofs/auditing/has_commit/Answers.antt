use Rattle.std.proofs.Common.{◌≡◌, Option, true, ◌↔◌, sym, subst, arith}
use Rattle.stm_entries.specs.declared.entry.Entry.{Entry}
use Rattle.stm_workers.specs.Ends.{IsCommitOf}
use Rattle.stm_workers.proofs.AuditLemmas.{first_of_two_fails, second_of_two_fails, second_of_two_decides, nothing_after}
use Rattle.stm_workers.proofs.auditing.has_commit.Goals as goal

-- it was there before
pub returns-then-index-begun : goal.returns-then-index-begun
returns-then-index-begun c = first_of_two_fails _ _ (λ late. omega (arith, late, c.if-index-begun.true))

-- it is not there
pub returns-then-index-entries : goal.returns-then-index-entries
returns-then-index-entries c =
    second_of_two_fails _ _ (nothing_after c.args.job.now c.args.after c.args.entries.now c.args.index (omega (arith, c.if-index-entries.true)))

pub returns : goal.returns
returns c =
    second_of_two_decides _ _ _ (omega (arith, c.if-index-begun.false))
    (subst (λ (o : Option Entry). (c.is_commit_of.result ≡ true) ↔ IsCommitOf c.args.job.now c.args.after o) (sym c.entry_at.ensures)
    c.is_commit_of.ensures)
