use Rattle.std.proofs.Common.{◌≡◌, ◌+◌, [], drop, map}
use Rattle.stm_audit.specs.Audit.{audit_from}
use Rattle.stm_audit.proofs.AuditLemmas.{onto}
use Rattle.stm_audit.proofs.auditing.audit_each.Given as goal

-- what was found so far, and then what the rest comes to
abbrev pub invariant-loop-index : goal.invariant-loop-index
invariant-loop-index l =
    onto l.findings.items (audit_from l.known l.store.standing (map (λ c. c.now) l.made.items) (l.index + 1) (drop l.index l.commits))
    ≡ audit_from l.known l.fn.store.standing [] 1 l.commits
