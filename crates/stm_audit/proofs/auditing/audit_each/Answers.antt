use Rattle.std.proofs.Common.{◌∙◌, [], map, sym, arith}
use Rattle.std.proofs.lemmas.List.{drop_all}
use Rattle.stm_audit.specs.Audit.{audit_from}
use Rattle.stm_audit.proofs.AuditLemmas.{goes_on, stops, ends}
use Rattle.stm_audit.proofs.auditing.audit_each.Goals as goal

pub loop-index-preserved : goal.loop-index-preserved
loop-index-preserved c =
    let fits = c.if-not-fits.false in
    rw (c.in_ok-fits.ensures.store fits, c.in_ok-fits.ensures.made fits, c.in_ok-fits.ensures.found fits) (goes_on c.args.known c.loop-index.store.standing
    (map (λ x. x.now) c.loop-index.made.items) c.loop-index.findings.items c.args.commits.now c.loop-index.index
    c.index-commits-index.result (audit_from c.args.known c.args.store.now.standing [] 1 c.args.commits.now) c.loop-index-test.true c.index-commits-index.is
    (sym c.in_ok-fits.ensures.reached ∙ fits) c.loop-index.invariant)

pub returns-then-not-fits : goal.returns-then-not-fits
returns-then-not-fits c =
    let off = c.if-not-fits.true in
    rw (c.of.ensures, c.in_ok-fits.ensures.off off) (stops c.args.known c.loop-index.store.standing
    (map (λ x. x.now) c.loop-index.made.items) c.loop-index.findings.items c.args.commits.now c.loop-index.index
    c.index-commits-index.result (audit_from c.args.known c.args.store.now.standing [] 1 c.args.commits.now) c.loop-index-test.true c.index-commits-index.is
    (sym c.in_ok-fits.ensures.reached ∙ off) c.loop-index.invariant)

pub returns : goal.returns
returns c =
    rw c.of-2.ensures (ends c.args.known c.loop-index.store.standing (map (λ x. x.now) c.loop-index.made.items) c.loop-index.findings.items c.args.commits.now
    c.loop-index.index (audit_from c.args.known c.args.store.now.standing [] 1 c.args.commits.now)
    (drop_all c.loop-index.index c.args.commits.now (omega arith)) c.loop-index.invariant)
