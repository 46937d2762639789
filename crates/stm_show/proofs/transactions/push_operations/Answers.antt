use Rattle.std.proofs.Common.{◌≡◌, ◌++◌, ℕ, List, OnOk, subst, string_bytes}
use Rattle.stm_show.proofs.Lists.{some_operations}
use Rattle.stm_show.proofs.transactions.push_operations.Goals as goal

pub returns-in-len1-up : goal.returns-in-len1-up
returns-in-len1-up c =
    let holds : List ℕ → Type 0 = λ text. OnOk c.push_filled.result (string_bytes c.push_filled.new.out ≡ string_bytes c.args.out.now ++ text) in
    subst holds (some_operations c.args.operations.now c.in-len1-up.len_at_least) c.push_filled.ensures
