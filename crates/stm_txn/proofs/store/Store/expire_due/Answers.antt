use Rattle.std.proofs.Common.{◌≡◌, ◌∙◌, suc, Some, sym, subst, arith, List}
use Rattle.std.specs.FinMap as finmap
use Rattle.stm_leases.specs.LeaseLog.{LogItem}
use Rattle.stm_leases.specs.Leases.{StandsFor}
use Rattle.stm_leases.specs.DueFirst.{first_due}
use Rattle.stm_outcome.specs.declared.advance.Expired.{Expired}
use Rattle.stm_outcome.specs.Numbers.{AllExpiredFit}
use Rattle.stm_txn.specs.Standing.{Standing, Advance, expire_all, after, with_expiries, expired_in, IsCutShort, HasCome}
use Rattle.stm_txn.specs.Store.{StoreView}
use Rattle.stm_txn.proofs.Ending.{due_lives, ended_fewer, one_more_expired, one_more_logged, cut_short}
use Rattle.stm_txn.proofs.Coming.{one_more_come}
use Rattle.stm_txn.proofs.Fitting.{AllExpiredFit-push}
use Rattle.stm_txn.proofs.store.Store.expire_due.Goals as goal

pub expire-requires : goal.expire-requires
expire-requires c =
    let s : Standing = c.loop-id.self.standing in
    due_lives s.live s.moment c.in-Some.id (sym c.next_due.ensures ∙ c.in-Some.is)

pub loop-id-preserved : goal.loop-id-preserved
loop-id-preserved c =
    let first : Standing = c.args.self.now.standing in
    let s : Standing = c.loop-id.self.standing in
    let next : Standing = c.expire.new.self.standing in
    let due : first_due s.live s.moment ≡ Some c.in-Some.id = sym c.next_due.ensures ∙ c.in-Some.is in
    record {
      so_far = subst (λ (l : List Expired). expire_all first ≡ after l (expire_all next)) (sym c.in-Ok.ensures.noted)
          (one_more_expired (expire_all first) c.loop-id.expired.items s next c.in-Some.id c.loop-id.invariant.so_far due c.in-Ok.ensures.ok);
      logged = subst (λ (l : List Expired). (log : List LogItem) → StandsFor first.live log →
          StandsFor next.live (with_expiries l log)) (sym c.in-Ok.ensures.noted)
          (one_more_logged first s next c.in-Some.id c.loop-id.expired.items c.in-Ok.ensures.ok c.loop-id.invariant.logged);
      come = subst (λ (l : List Expired). HasCome first l next) (sym c.in-Ok.ensures.noted)
          (one_more_come first s next c.in-Some.id c.loop-id.expired.items c.loop-id.invariant.come due c.in-Ok.ensures.ok);
      fit = subst AllExpiredFit (sym c.in-Ok.ensures.noted)
          (AllExpiredFit-push c.loop-id.expired.items (expired_in c.in-Some.id next) c.loop-id.invariant.fit c.in-Ok.ensures.numbers);
      opened = c.expire.ensures.opened ∙ c.loop-id.invariant.opened;
    }

pub loop-id-smaller : goal.loop-id-smaller
loop-id-smaller c =
    let s : Standing = c.loop-id.self.standing in
    let next : Standing = c.expire.new.self.standing in
    let fewer : finmap.len s.live ≡ suc (finmap.len next.live) = ended_fewer s next c.in-Some.id (sym c.next_due.ensures ∙ c.in-Some.is) c.in-Ok.ensures.ok in
    omega arith

pub returns-in-Err-clause-refused : goal.returns-in-Err-clause-refused
returns-in-Err-clause-refused c =
    let whole : Advance = expire_all c.args.self.now.standing in
    let s : Standing = c.loop-id.self.standing in
    let cut : IsCutShort whole c.loop-id.expired.items c.in-Err.cause s =
    cut_short whole c.loop-id.expired.items s c.in-Some.id c.in-Err.cause c.loop-id.invariant.so_far
    (sym c.next_due.ensures ∙ c.in-Some.is) c.in-Err.ensures.refused in
    subst (λ (l : List Expired). IsCutShort whole l c.in-Err.cause c.expire.new.self.standing) (sym (c.of.ensures ∙ c.in-Err.ensures.same))
    (subst (λ (v : StoreView). IsCutShort whole c.loop-id.expired.items c.in-Err.cause v.standing) (sym c.in-Err.ensures.err) cut)

pub returns-in-Err-clause-numbers_so_far : goal.returns-in-Err-clause-numbers_so_far
returns-in-Err-clause-numbers_so_far c = subst AllExpiredFit (sym (c.of.ensures ∙ c.in-Err.ensures.same)) c.loop-id.invariant.fit

pub returns-in-Err-clause-come_so_far : goal.returns-in-Err-clause-come_so_far
returns-in-Err-clause-come_so_far c =
    let first : Standing = c.args.self.now.standing in
    subst (λ (l : List Expired). HasCome first l c.expire.new.self.standing) (sym (c.of.ensures ∙ c.in-Err.ensures.same))
    (subst (λ (v : StoreView). HasCome first c.loop-id.expired.items v.standing) (sym c.in-Err.ensures.err) c.loop-id.invariant.come)
