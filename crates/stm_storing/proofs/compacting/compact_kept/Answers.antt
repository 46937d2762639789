use Rattle.std.proofs.Common.{◌≤◌, inl, inr, refl, ap, subst, ◌∙◌}
use Rattle.std.proofs.lemmas.Result.{err_from_is_err_and}
use Rattle.stm_history.specs.History.{now}
use Rattle.stm_txn.specs.Standing.{Standing}
use Rattle.stm_lasting.proofs.Moments.{weaker}
use Rattle.stm_storing.specs.Compacting.{asked_floor, IsAskedToCome, IsAskedCompacted, CanBeAsked}
use Rattle.stm_storing.specs.Faults.{IsOfOpening, IsOfRewriting}
use Rattle.stm_storing.proofs.CompactLemmas.{shows_itself, has_compacted, then_compacted}
use Rattle.stm_storing.proofs.compacting.compact_kept.Goals as goal

pub returns-in_err-floor-clause-any_moment : goal.returns-in_err-floor-clause-any_moment
returns-in_err-floor-clause-any_moment g c = weaker c.opened.ensures.any_moment (λ f alike. inl alike)

pub returns-in_err-kept-clause-any_moment : goal.returns-in_err-kept-clause-any_moment
returns-in_err-kept-clause-any_moment g c = weaker c.opened.ensures.any_moment (λ f alike. inl alike)

pub returns-then-is_lowest-clause-compacted : goal.returns-then-is_lowest-clause-compacted
returns-then-is_lowest-clause-compacted g c =
    let before = c.in_ok-kept.kept.world in
    has_compacted c.args.asked (g.D.Disk.seen c.args.records.now.disk) (g.D.Disk.seen c.opened.new.records.disk) before c.in_ok-floor.floor
    c.in_ok-kept.ensures.opens.opens (c.in_ok-floor.ensures.asked ∙ ap (asked_floor c.args.asked) c.store.ensures.standing)
    (subst (CanBeAsked c.args.asked) c.store.ensures.standing c.in_ok-floor.ensures.readable)
    (before, c.in_ok-kept.ensures.opens.kept, shows_itself c.in_ok-floor.floor before, c.is_lowest.ensures.lowest c.if-is_lowest.true)
    (inr (c.is_lowest.ensures.lowest c.if-is_lowest.true, refl))

pub returns-then-is_lowest-clause-any_moment : goal.returns-then-is_lowest-clause-any_moment
returns-then-is_lowest-clause-any_moment g c = weaker c.opened.ensures.any_moment (λ f alike. inl alike)

pub returns-then-is_busy-clause-any_moment : goal.returns-then-is_busy-clause-any_moment
returns-then-is_busy-clause-any_moment g c = weaker c.opened.ensures.any_moment (λ f alike. inl alike)

pub compact_at-requires-clause-kept : goal.compact_at-requires-clause-kept
compact_at-requires-clause-kept g c = c.in_ok-kept.ensures.opens.kept

pub compact_at-requires-clause-positive : goal.compact_at-requires-clause-positive
compact_at-requires-clause-positive g c = c.is_lowest.ensures.positive c.if-is_lowest.false

pub compact_at-requires-clause-reached : goal.compact_at-requires-clause-reached
compact_at-requires-clause-reached g c =
    subst (λ (s : Standing). c.in_ok-floor.floor ≤ now s.history) c.store.ensures.standing c.in_ok-floor.ensures.within

pub returns-in_err-compact_at-clause-any_moment : goal.returns-in_err-compact_at-clause-any_moment
returns-in_err-compact_at-clause-any_moment g c =
    then_compacted c.args.asked c.in_ok-kept.kept.world c.in_ok-floor.floor c.in_ok-kept.ensures.opens (c.is_busy.ensures c.if-is_busy.false)
    (c.in_ok-floor.ensures.asked ∙ ap (asked_floor c.args.asked) c.store.ensures.standing) c.opened.ensures.any_moment c.compact_at.ensures.any_moment

pub returns-clause-compacted : goal.returns-clause-compacted
returns-clause-compacted g c =
    has_compacted c.args.asked (g.D.Disk.seen c.args.records.now.disk) (g.D.Disk.seen c.compact_at.new.records.disk) c.in_ok-kept.kept.world c.in_ok-floor.floor
    c.in_ok-kept.ensures.opens.opens (c.in_ok-floor.ensures.asked ∙ ap (asked_floor c.args.asked) c.store.ensures.standing)
    (subst (CanBeAsked c.args.asked) c.store.ensures.standing c.in_ok-floor.ensures.readable) c.in_ok-compact_at.ensures.same
    (inl record { quiet = c.is_busy.ensures c.if-is_busy.false; one = c.in_ok-compact_at.ensures.count })

pub returns-clause-any_moment : goal.returns-clause-any_moment
returns-clause-any_moment g c =
    then_compacted c.args.asked c.in_ok-kept.kept.world c.in_ok-floor.floor c.in_ok-kept.ensures.opens (c.is_busy.ensures c.if-is_busy.false)
    (c.in_ok-floor.ensures.asked ∙ ap (asked_floor c.args.asked) c.store.ensures.standing) c.opened.ensures.any_moment c.compact_at.ensures.any_moment

pub returns-in_err-kept-clause-future : goal.returns-in_err-kept-clause-future
returns-in_err-kept-clause-future g c =
    let p = err_from_is_err_and c.from_residual.result c.from_residual.ensures.1 in
    rw (p.1, p.2) (λ is. absurd (subst IsOfOpening is c.in_err-kept.ensures.opening))

pub returns-in_err-kept-clause-old : goal.returns-in_err-kept-clause-old
returns-in_err-kept-clause-old g c =
    let p = err_from_is_err_and c.from_residual.result c.from_residual.ensures.1 in
    rw (p.1, p.2) (λ is. absurd (subst IsOfOpening is c.in_err-kept.ensures.opening))

pub returns-in_err-kept-clause-cannot : goal.returns-in_err-kept-clause-cannot
returns-in_err-kept-clause-cannot g c =
    let p = err_from_is_err_and c.from_residual.result c.from_residual.ensures.1 in
    rw (p.1, p.2) (λ is. absurd (subst IsOfOpening is c.in_err-kept.ensures.opening))

pub returns-in_err-floor-clause-future : goal.returns-in_err-floor-clause-future
returns-in_err-floor-clause-future g c =
    let p = err_from_is_err_and c.from_residual-in_err-floor.result c.from_residual-in_err-floor.ensures.1 in
    rw (p.1, p.2) (λ is.
    (c.in_ok-kept.kept.world, c.in_ok-kept.ensures.opens.opens, subst (IsAskedToCome c.args.asked) c.store.ensures.standing (c.in_err-floor.ensures.future is)))

pub returns-in_err-floor-clause-old : goal.returns-in_err-floor-clause-old
returns-in_err-floor-clause-old g c =
    let p = err_from_is_err_and c.from_residual-in_err-floor.result c.from_residual-in_err-floor.ensures.1 in
    rw (p.1, p.2) (λ is.
    (c.in_ok-kept.kept.world, c.in_ok-kept.ensures.opens.opens, subst (IsAskedCompacted c.args.asked) c.store.ensures.standing (c.in_err-floor.ensures.compacted is)))

pub returns-in_err-compact_at-clause-future : goal.returns-in_err-compact_at-clause-future
returns-in_err-compact_at-clause-future g c =
    let p = err_from_is_err_and c.from_residual-in_err-compact_at.result c.from_residual-in_err-compact_at.ensures.1 in
    rw (p.1, p.2) (λ is. absurd (subst IsOfRewriting is c.in_err-compact_at.ensures.rewriting))

pub returns-in_err-compact_at-clause-old : goal.returns-in_err-compact_at-clause-old
returns-in_err-compact_at-clause-old g c =
    let p = err_from_is_err_and c.from_residual-in_err-compact_at.result c.from_residual-in_err-compact_at.ensures.1 in
    rw (p.1, p.2) (λ is. absurd (subst IsOfRewriting is c.in_err-compact_at.ensures.rewriting))

pub returns-then-is_busy-clause-cannot : goal.returns-then-is_busy-clause-cannot
returns-then-is_busy-clause-cannot g c = λ is.
    (c.in_ok-kept.kept.world, c.in_ok-kept.ensures.opens.opens, subst (CanBeAsked c.args.asked) c.store.ensures.standing c.in_ok-floor.ensures.readable)

pub returns-in_err-compact_at-clause-cannot : goal.returns-in_err-compact_at-clause-cannot
returns-in_err-compact_at-clause-cannot g c =
    let p = err_from_is_err_and c.from_residual-in_err-compact_at.result c.from_residual-in_err-compact_at.ensures.1 in
    rw (p.1, p.2) (λ is.
    (c.in_ok-kept.kept.world, c.in_ok-kept.ensures.opens.opens, subst (CanBeAsked c.args.asked) c.store.ensures.standing c.in_ok-floor.ensures.readable))
