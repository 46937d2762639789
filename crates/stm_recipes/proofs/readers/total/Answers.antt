use Rattle.std.proofs.Common.{◌+◌, ◌*◌, ◌^◌, drop, map, sym, ◌∙◌, ap, subst, Some, to_z}
use Rattle.std.specs.Prelude.{ℤ, pos, neg_ℤ, ◌+ℤ◌, ◌≤ℤ◌}
use Rattle.std.proofs.lemmas.Int.{to_z-of_z}
use mir.Syntax.{w64, w128}
use Rattle.stm_recipes.specs.Accounts.{sum_of, total_of}
use Rattle.stm_recipes.proofs.ReaderLemmas.{total_of-next, balance_fits, above-next, below-next}
use Rattle.stm_recipes.proofs.readers.total.Goals as goal

pub loop-account-preserved : goal.loop-account-preserved
loop-account-preserved c =
    let i = c.loop-account.account-index in
    let x = c.in_ok-balance.balance in
    let read = to_z-of_z w64 x (balance_fits _ x c.in_ok-balance.ensures) in
    let sum = to_z-of_z w128 c.with_balance-sum.result (record { sfits = c.with_balance-sum.type_inv }) ∙ c.with_balance-sum.ensures.added in
    let s = to_z w128 c.loop-account.sum-bits in
    let before = c.loop-account.invariant in
    let more = c.with_balance-sum.ensures in
    record {
      reported =
          ap (λ z. sum_of (Some z) (total_of c.args.state.now (map (λ account. account.now) (drop (i + 1) c.args.accounts.now)))) (sum ∙ ap (λ z. s +ℤ z) read)
          ∙ total_of-next c.args.state.now (λ account. account.now) c.args.accounts.now i _ s x c.loop-account-test.true c.in_ok-balance.ensures
          ∙ before.reported;
      above = subst (λ (z : ℤ). neg_ℤ (pos (2 ^ 63 * (i + 1))) ≤ℤ z) (sym sum) (above-next i s _ before.above more.above);
      below = subst (λ (z : ℤ). z ≤ℤ pos (2 ^ 63 * (i + 1))) (sym sum) (below-next i s _ before.below more.below);
    }
