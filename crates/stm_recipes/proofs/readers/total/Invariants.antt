use Rattle.std.proofs.Common.{◌≡◌, ◌*◌, ◌^◌, drop, map, Some}
use Rattle.std.specs.Prelude.{pos, neg_ℤ, ◌≤ℤ◌}
use Rattle.stm_recipes.specs.Accounts.{sum_of, total_of}
use Rattle.stm_recipes.proofs.readers.total.Given as goal

-- the sum so far and the accounts that are left are the total, and each account adds a number of 64 bits
abbrev pub invariant-loop-account : goal.invariant-loop-account
invariant-loop-account l = record {
  reported : sum_of (Some l.sum) (total_of l.state (map (λ account. account.now) (drop l.account-index l.accounts)))
      ≡ total_of l.state (map (λ account. account.now) l.accounts);
  above : neg_ℤ (pos (2 ^ 63 * l.account-index)) ≤ℤ l.sum;
  below : l.sum ≤ℤ pos (2 ^ 63 * l.account-index);
}
