use Rattle.std.proofs.Common.{nat_eq, sym, ◌∙◌}
use Rattle.indexmap.specs.IndexMap.{get}
use Rattle.stm_leases.proofs.DueLaws.{first_due_is_next}
use Rattle.stm_leases.proofs.Seen.{live-now}
use Rattle.stm_leases.proofs.Timed.{first_is_next, none_before_first, none_of_none}
use Rattle.stm_leases.proofs.table.Leases.next_due.Goals as goal

pub returns-in_err-first : goal.returns-in_err-first
returns-in_err-first c =
    c.from_residual.ensures ∙ sym ((first_due_is_next.none c.args.self.now.live c.args.now).1
    (none_of_none c.args.self.now.live (get nat_eq c.self.inside.leases) c.self.inside.due c.self.invariant.timed
    (live-now c.self.inside.leases c.self.inside.attached _ _ c.self.view_is) c.args.now c.ranges.now.fits c.in_err-first.ensures))

pub returns-then-first-now : goal.returns-then-first-now
returns-then-first-now c =
    sym ((first_due_is_next.none c.args.self.now.live c.args.now).1
    (none_before_first c.args.self.now.live (get nat_eq c.self.inside.leases) c.self.inside.due c.self.invariant.timed
    (live-now c.self.inside.leases c.self.inside.attached _ _ c.self.view_is) c.args.now c.ranges.now.fits
    c.in_ok-first.first c.in_ok-first.ensures c.if-first-now.true))

pub returns : goal.returns
returns c =
    sym ((first_due_is_next.next c.args.self.now.live c.args.now c.in_ok-first.first.id).1
    (first_is_next c.args.self.now.live (get nat_eq c.self.inside.leases) c.self.inside.due c.self.invariant.timed
    (live-now c.self.inside.leases c.self.inside.attached _ _ c.self.view_is) c.args.now c.ranges.now.fits
    c.in_ok-first.first c.in_ok-first.ensures c.if-first-now.false))
