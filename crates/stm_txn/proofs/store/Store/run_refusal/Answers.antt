use Rattle.std.proofs.Common.{◌≡◌, ◌∙◌, [], false, sym, ap, subst}
use Rattle.stm_outcome.specs.Branches.{branch_refusal}
use Rattle.stm_outcome.specs.LookUps.{changes_copied, outcome_copied}
use Rattle.stm_outcome.specs.Outcome.{is_used_up}
use Rattle.stm_outcome.specs.Terms.{most_operations}
use Rattle.stm_txn.specs.Standing.{terms_of, refusal_of}
use Rattle.stm_txn.specs.Store.{StoreView}
use Rattle.stm_txn.proofs.Limits.{same_refusal, same_copied}
use Rattle.stm_txn.proofs.store.Store.run_refusal.Goals as goal

pub returns-clause-allowed : goal.returns-clause-allowed
returns-clause-allowed c = λ none.
    sym (ap (λ (v : StoreView). branch_refusal (terms_of v.standing) c.args.ops.now) c.self.view_is)
    ∙ sym (same_refusal most_operations c.self.inside.limit c.self.inside.keys.floor c.self.inside.keys.history c.self.inside.leases.live c.args.ops.now)
    ∙ c.find_run_refusal.ensures.allowed none

pub returns-clause-room : goal.returns-clause-room
returns-clause-room c = λ none.
    subst (λ (v : StoreView). is_used_up v.standing.history (changes_copied v.standing.history [] c.args.ops.now) ≡ false) c.self.view_is
    (c.find_run_refusal.ensures.room none)

pub returns-clause-refusal : goal.returns-clause-refusal
returns-clause-refusal c = λ failed.
    c.find_run_refusal.ensures.refusal failed
    ∙ ap refusal_of (same_copied most_operations c.self.inside.limit c.self.inside.keys.floor c.self.inside.keys.history c.self.inside.leases.live failed c.args.ops.now)
    ∙ ap (λ (v : StoreView). refusal_of (outcome_copied (terms_of v.standing) failed c.args.ops.now)) c.self.view_is
