use Rattle.std.proofs.Common.{◌≡◌, Some, true, false, ◌↔◌, sym, subst}
use Rattle.stm_entries.specs.declared.entry.Entry.{Entry}
use Rattle.stm_workers.specs.Ends.{IsCommitOf}
use Rattle.stm_workers.proofs.AuditLemmas.{first_fails, second_fails}
use Rattle.stm_workers.proofs.auditing.is_commit_of.Goals as goal

-- it is one of another program
pub returns-then-not-is_same : goal.returns-then-not-is_same
returns-then-not-is_same c =
    subst (λ (e : Entry). (false ≡ true) ↔ IsCommitOf c.args.job.now c.args.after (Some e)) (sym c.in-Program.is)
    (first_fails _ _ _ _ c.is_same.ensures c.if-not-is_same.true)

-- or at another level
pub returns-then-not-is_same-2 : goal.returns-then-not-is_same-2
returns-then-not-is_same-2 c =
    subst (λ (e : Entry). (false ≡ true) ↔ IsCommitOf c.args.job.now c.args.after (Some e)) (sym c.in-Program.is)
    (second_fails _ _ _ _ c.is_same-in-Program.ensures c.if-not-is_same-2.true)
