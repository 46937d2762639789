use Rattle.std.proofs.Common.{ap, ◌∙◌}
use Rattle.stm_txn.specs.Standing.{Standing, at_revision, opening}
use Rattle.stm_txn.proofs.store.Store.with_revision.Goals as goal

pub returns-clause-standing : goal.returns-clause-standing
returns-clause-standing c =
    c.opened.ensures.standing ∙ ap (λ n. (let s : Standing = record (opening (at_revision c.args.start)) { limit = n } in s)) c.highest.ensures
