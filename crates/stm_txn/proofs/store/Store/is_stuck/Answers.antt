use Rattle.std.proofs.Common.{◌≡◌, ◌∙◌, sym, ap, true}
use Rattle.std.specs.Prelude.{nat_eq, ◌&&◌, ◌↔◌, IsTrue}
use Rattle.std.proofs.lemmas.Bool.{eq-eqb}
use Rattle.stm_history.specs.declared.revisions.TheConstants.{HIGHEST_REVISION}
use Rattle.stm_history.specs.History.{History, now}
use Rattle.stm_leases.specs.Leases.{lease_of}
use Rattle.stm_leases.specs.AttachedKeys.{HasKeys}
use Rattle.stm_txn.specs.LeaseKeys.{deletions_of}
use Rattle.stm_txn.specs.Leasing.{lease_now}
use Rattle.stm_outcome.specs.Outcome.{is_used_up}
use Rattle.stm_txn.specs.Store.{StoreView}
use Rattle.stm_txn.proofs.Ending.{stuck}
use Rattle.stm_txn.proofs.store.Store.is_stuck.Goals as goal

pub returns-then-is_highest : goal.returns-then-is_highest
returns-then-is_highest c =
    let h : History = c.self.inside.keys.history in
    let reports : IsTrue c.has_keys.result ↔ HasKeys (lease_now h) c.args.id = (
      (λ is. let key : HasKeys (lease_of c.self.inside.leases) c.args.id = c.has_keys.ensures.0 is in (key.0, sym (c.self.invariant.0 key.0) ∙ key.1)),
      (λ key. c.has_keys.ensures.1 (key.0, c.self.invariant.0 key.0 ∙ key.1)),
    ) in
    let highest : nat_eq (now h) HIGHEST_REVISION ≡ true = eq-eqb (now h) HIGHEST_REVISION (sym c.revision-is_highest.ensures.value ∙ c.if-is_highest.true) in
    sym (ap (λ b. b && c.has_keys.result) highest)
    ∙ stuck h c.args.id c.has_keys.result reports
    ∙ ap (λ (s : StoreView). is_used_up s.standing.history (deletions_of s.standing.history c.args.id)) c.self.view_is
