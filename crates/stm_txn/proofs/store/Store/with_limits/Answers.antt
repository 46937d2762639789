use Rattle.std.proofs.Common.{ap, ◌∙◌}
use Rattle.stm_txn.specs.Standing.{Standing, at_revision, opening}
use Rattle.stm_txn.proofs.Limits.{opens_with_limit}
use Rattle.stm_txn.proofs.store.Store.with_limits.Goals as goal

pub returns-clause-standing : goal.returns-clause-standing
returns-clause-standing c =
    c.opened.ensures.standing
    ∙ ap (λ n. (let s : Standing = record (opening (at_revision c.args.start)) { limit = n } in s)) c.new-limit.ensures
    ∙ opens_with_limit c.args.start c.args.operations c.requires.few

pub returns-clause-limit : goal.returns-clause-limit
returns-clause-limit c = ap (λ (s : Standing). s.limit) c.opened.ensures.standing ∙ c.new-limit.ensures
