-- Accounts over entries: one entry moves the sum by what it deposits, and so do all.
use Rattle.std.proofs.Common.{◌≡◌, ℕ, ◌+◌, ◌<◌, List, [], ◌∷◌, length, Option, Some, None, Bool, true, false, cond, Ok, Err, refl, sym, ◌∙◌, ap, subst, arith}
use Rattle.std.proofs.Common.{inl, inr, codes}
use Rattle.std.specs.Prelude.{ℤ, pos, ◌+ℤ◌, ◌-ℤ◌, bytes_eq, int_lt, if◌then◌else◌, Result}
use Rattle.std.specs.List.{AllByRecursion}
use Rattle.std.specs.Fmt.{signed_decimal}
use Rattle.std.proofs.lemmas.Int.{ints}
use Rattle.std.proofs.lemmas.Bool.Decides.{nat_tests}
use Rattle.stm_history.specs.declared.key_state.KeyState.{KeyState}
use Rattle.stm_history.specs.History.{History, now, key_now, value_of as value_now, after_change}
use Rattle.stm_history.specs.declared.change.Change.{Change}
use Rattle.stm_history.specs.declared.change.Change.TheVariants.{Put}
use Rattle.stm_program.specs.Writes.{last_write}
use Rattle.stm_program.proofs.WriteLemmas.{bytes_eq-same, bytes_eq-self, or_else, last_write-one}
use Rattle.stm_steps.specs.declared.fault.Fault.{Fault}
use Rattle.stm_steps.specs.declared.fault.Fault.TheVariants.{Overflow}
use Rattle.stm_steps.specs.Values.{written_number, is_in_range}
use Rattle.stm_steps.specs.declared.run.Run.{Run}
use Rattle.stm_steps.specs.declared.run.End.TheVariants.{Done as DoneEnd}
use Rattle.stm_steps.specs.declared.state.StateEntry.{StateEntry}
use Rattle.stm_meaning.specs.Leaves.{value_in, value_after}
use Rattle.stm_compile.specs.Answers.{state_now}
use Rattle.stm_journal.specs.StateOf.{IsStateOf, entry_now}
use Rattle.stm_entries.specs.declared.entry.Entry.{Entry}
use Rattle.stm_entries.specs.Legal.{IsLegal, AreLegal}
use Rattle.stm_entries.specs.Replay.{replay, replay_entry}
use Rattle.stm_entries.specs.Replayed.{Replayed}
use Rattle.stm_recipes.specs.Accounts.{transfer_program, deposit_program, balance_of, sum_of, total_of}
use Rattle.stm_recipes.specs.Alone.{deed_of, aborted, put_number, put_added, or_zero, moved, moved_or_refused, transferred}
use Rattle.stm_recipes.proofs.AccountRuns.{transfer_alone, deposit_alone, written_in_range, difference_in_range}
use Rattle.stm_world_laws.specs.Accounts.{number_of, balance_now, sum_over, total_now, AreAccounts, IsAmong, IsTransfer, IsDeposit}
use Rattle.stm_world_laws.specs.Accounts.{IsOfAccounts, Transfers, Deposits, Leaves, AreOfAccounts, amount_of, deposits_of, TotalsGrowByDeposits}
use Rattle.stm_world_laws.specs.Accounts.{counted_total, CountedTotals}
use Rattle.stm_world_laws.proofs.CommitLemmas.{Committed, committed, now_is_known}
use Rattle.stm_world_laws.proofs.KeyLemmas.{last_write-cons, change_by, left_of_key}
use Rattle.stm_world_laws.proofs.AccountNumbers.{read_back, number_is, Reading, as_written, as_counted}
use Rattle.stm_world_laws.proofs.SumLemmas.{HasParts, parts_of, has_balance, sums_agree, sum_moves}

named : (accounts : List (List ℕ)) (account : List ℕ) → AreAccounts accounts → IsAmong account accounts → 0 < length account
named [] account are among = absurd among
named (a ∷ accounts) account are (inl same) = subst (λ (q : List ℕ). 0 < length q) same are.0
named (a ∷ accounts) account are (inr later) = named accounts account are.2 later

-- ---- what a commit leaves of an account

abbrev pub read_of : Reading → History → List ℕ → Option ℤ
read_of n h key = n.number (key_now h key)

abbrev pub sum_of_all : Reading → History → List (List ℕ) → Option ℤ
sum_of_all n h accounts = sum_over (read_of n h) accounts

abbrev balance_by : Reading → History → Option Change → List ℕ → Option ℤ
balance_by n h o key = n.number (after_change (now h + 1) (change_by h o) (key_now h key))

-- a commit that wrote this
record Wrote (n : Reading) (before after : Replayed) (writes : List Change) : Type 0 where
  balances : (key : List ℕ) → read_of n after.history key ≡ balance_by n before.history (last_write key writes) key

wrote : (n : Reading) (before after : Replayed) (run : Run) (writes : List Change) → ((key : List ℕ) →
    read_of n after.history key ≡ balance_by n before.history (last_write key run.writes) key) → run.writes ≡ writes → Wrote n before after writes
wrote n before after run writes left is = grind (arith, nat_tests)

-- ---- a deposit

record Deposited (account : List ℕ) (sum : ℤ) (run : Run) : Type 0 where
  fits : is_in_range sum ≡ true
  writes : run.writes ≡ Put account (signed_decimal sum) 0 ∷ []

deposited_by : (fits : Bool) (account : List ℕ) (sum : ℤ) (run : Run) → is_in_range sum ≡ fits → run.end ≡ DoneEnd →
    deed_of run ≡ put_number account [] (if fits then Ok sum else Err Overflow) → Deposited account sum run
deposited_by fits account sum run is ended deed = grind (arith, nat_tests)

deposit_moves : (n : Reading) (accounts : List (List ℕ)) (e : Entry) (r : Replayed) (total : ℤ) → AreAccounts accounts → IsLegal e r → (d : IsDeposit accounts e) →
    sum_of_all n r.history accounts ≡ Some total → sum_of_all n (replay_entry e r).history accounts ≡ Some (total +ℤ pos d.amount)
deposit_moves n accounts e r total are legal d sums =
    let h : History = r.history in
    let after : Replayed = replay_entry e r in
    let account : List ℕ = d.account in
    let has = has_balance (read_of n h) accounts account total sums d.among in
    let was : ℤ = has.0 in
    let sum : ℤ = was +ℤ pos d.amount in
    let c : Committed (deposit_program account d.amount) r after = committed (deposit_program account d.amount) e r d.commits legal in
    let holds : written_number (or_zero (value_now (key_now h account))) ≡ Ok was =
    n.added_to (key_now h account) was has.1 in
    let deed : deed_of c.run ≡ put_added account d.amount [] (written_number (or_zero (value_now (key_now h account)))) =
    deposit_alone (state_now h) account d.amount (now_is_known h) (named accounts account are d.among) c.run c.alone in
    let x : Deposited account sum c.run =
    deposited_by (is_in_range sum) account sum c.run refl c.is_done (deed ∙ ap (put_added account d.amount []) holds) in
    let w : Wrote n r after (Put account (signed_decimal sum) 0 ∷ []) =
    wrote n r after c.run (Put account (signed_decimal sum) 0 ∷ [])
    (λ key. ap (λ (x : History). read_of n x key) c.left ∙ ap n.number (left_of_key h c.run.writes key)) x.writes in
    let of_key : (key : List ℕ) → read_of n after.history key ≡ balance_by n h (cond (bytes_eq account key) (Some (Put account (signed_decimal sum) 0)) None) key =
    λ key. w.balances key ∙ ap (λ (o : Option Change). balance_by n h o key) (last_write-one key (Put account (signed_decimal sum) 0)) in
    let own : read_of n after.history account ≡ Some sum =
    of_key account ∙ ap (λ b. balance_by n h (cond b (Some (Put account (signed_decimal sum) 0)) None) account) (bytes_eq-self account)
    ∙ n.put (now h + 1) sum (key_now h account) x.fits in
    let others : (a : List ℕ) → bytes_eq account a ≡ false → read_of n after.history a ≡ read_of n h a =
    λ a other. of_key a ∙ ap (λ b. balance_by n h (cond b (Some (Put account (signed_decimal sum) 0)) None) a) other in
    let grows : total +ℤ (sum -ℤ was) ≡ total +ℤ pos d.amount = omega (arith, ints) in
    sum_moves (read_of n h) (read_of n after.history) accounts account was sum total are d.among has.1 own others sums ∙ ap (λ z. Some z) grows

-- ---- a transfer

-- a run that is done has paid: what the paying account has less, and what the paid one has then
record Paid (from to : List ℕ) (less sum : ℤ) (run : Run) : Type 0 where
  fits : is_in_range sum ≡ true
  writes : run.writes ≡ Put from (signed_decimal less) 0 ∷ Put to (signed_decimal sum) 0 ∷ []

-- there was enough
pub enough_by : (short : Bool) (from to : List ℕ) (amount : ℕ) (values : List ℕ → List ℕ) (balance : ℤ) (run : Run) → run.end ≡ DoneEnd →
    deed_of run ≡ (if short then aborted (codes "insufficient") else moved from to amount values balance) →
    (short ≡ false) × (deed_of run ≡ moved from to amount values balance)
enough_by short from to amount values balance run ended deed = grind (arith, nat_tests)

-- what the paid account is seen to hold: the paying one is written before
seen_by_payee : (from to : List ℕ) (less : ℤ) (values : List ℕ → List ℕ) →
    value_after (Put from (signed_decimal less) 0 ∷ []) values to ≡ cond (bytes_eq from to) (signed_decimal less) (values to)
seen_by_payee from to less values = grind (arith, nat_tests, last_write-one)

-- a transfer that is done, where the paid account is seen with this number
paid_with : (from to : List ℕ) (amount : ℕ) (values : List ℕ → List ℕ) (balance seen : ℤ) (run : Run) → run.end ≡ DoneEnd →
    deed_of run ≡ moved from to amount values balance →
    written_number (cond (bytes_eq from to) (signed_decimal (balance -ℤ pos amount)) (values to)) ≡ Ok seen →
    Paid from to (balance -ℤ pos amount) (seen +ℤ pos amount) run
paid_with from to amount values balance seen run ended deed holds = grind (arith, nat_tests, seen_by_payee)

-- the last write of a key among those of a transfer
abbrev transfer_write : List ℕ → List ℕ → ℤ → ℤ → List ℕ → Option Change
transfer_write from to less sum key =
    or_else (cond (bytes_eq to key) (Some (Put to (signed_decimal sum) 0)) None) (cond (bytes_eq from key) (Some (Put from (signed_decimal less) 0)) None)

-- what a transfer leaves of each account
record Moved (n : Reading) (from to : List ℕ) (less sum : ℤ) (before after : Replayed) : Type 0 where
  fits : is_in_range sum ≡ true
  balances : (key : List ℕ) → read_of n after.history key ≡ balance_by n before.history (transfer_write from to less sum key) key

moved_as : (n : Reading) (from to : List ℕ) (less sum : ℤ) (before after : Replayed) (run : Run) → Paid from to less sum run → ((key : List ℕ) →
    read_of n after.history key ≡ balance_by n before.history (last_write key run.writes) key) → Moved n from to less sum before after
moved_as n from to less sum before after run p left = grind (arith, nat_tests, wrote, last_write-cons, or_else, last_write-one)

-- the paid account has the sum
payee_has : (n : Reading) (from to : List ℕ) (less sum : ℤ) (before after : Replayed) → Moved n from to less sum before after → read_of n after.history to ≡ Some sum
payee_has n from to less sum before after m = grind (arith, nat_tests, or_else, bytes_eq-self)

-- one account pays another
pays_another : (n : Reading) (accounts : List (List ℕ)) (from to : List ℕ) (amount : ℕ) (balance other total : ℤ) (before after : Replayed) → AreAccounts accounts →
    IsAmong from accounts → IsAmong to accounts → bytes_eq from to ≡ false → is_in_range (balance -ℤ pos amount) ≡ true →
    read_of n before.history from ≡ Some balance → read_of n before.history to ≡ Some other →
    Moved n from to (balance -ℤ pos amount) (other +ℤ pos amount) before after → sum_of_all n before.history accounts ≡ Some total →
    sum_of_all n after.history accounts ≡ Some total
pays_another n accounts from to amount balance other total before after are paying paid apart less_fits has_from has_to m sums =
    let h : History = before.history in
    let less : ℤ = balance -ℤ pos amount in
    let sum : ℤ = other +ℤ pos amount in
    let between : List ℕ → Option ℤ = λ key. cond (bytes_eq from key) (Some less) (read_of n h key) in
    let first : sum_over between accounts ≡ Some (total +ℤ (less -ℤ balance)) =
    sum_moves (read_of n h) between accounts from balance less total are paying has_from
    (ap (λ b. cond b (Some less) (read_of n h from)) (bytes_eq-self from))
    (λ a other_key. ap (λ b. cond b (Some less) (read_of n h a)) other_key) sums in
    let to_between : between to ≡ Some other = ap (λ b. cond b (Some less) (read_of n h to)) apart ∙ has_to in
    let others : (a : List ℕ) → bytes_eq to a ≡ false → read_of n after.history a ≡ between a =
    λ a other_key. m.balances a
    ∙ ap (λ b. balance_by n h (or_else (cond b (Some (Put to (signed_decimal sum) 0)) None) (cond (bytes_eq from a) (Some (Put from (signed_decimal less) 0)) None)) a) other_key
    ∙ payer_by h from less a (bytes_eq from a) less_fits in
    let back : total +ℤ (less -ℤ balance) +ℤ (sum -ℤ other) ≡ total = omega (arith, ints) in
    sum_moves between (read_of n after.history) accounts to other sum (total +ℤ (less -ℤ balance)) are paid to_between
    (payee_has n from to less sum before after m) others first
    ∙ ap (λ z. Some z) back
  where
    payer_by : (h : History) (from : List ℕ) (less : ℤ) (a : List ℕ) (b : Bool) → is_in_range less ≡ true →
        balance_by n h (or_else None (cond b (Some (Put from (signed_decimal less) 0)) None)) a ≡ cond b (Some less) (read_of n h a)
    payer_by h from less a true fits = n.put (now h + 1) less (key_now h a) fits
    payer_by h from less a false fits = refl

-- an account pays itself
pays_itself : (n : Reading) (accounts : List (List ℕ)) (from to : List ℕ) (less balance total : ℤ) (before after : Replayed) → AreAccounts accounts →
    IsAmong to accounts → from ≡ to → read_of n before.history to ≡ Some balance → Moved n from to less balance before after →
    sum_of_all n before.history accounts ≡ Some total → sum_of_all n after.history accounts ≡ Some total
pays_itself n accounts from to less balance total before after are paid same has m sums =
    let h : History = before.history in
    let others : (a : List ℕ) → bytes_eq to a ≡ false → read_of n after.history a ≡ read_of n h a =
    λ a other_key. m.balances a
    ∙ ap (λ b. balance_by n h (or_else (cond b (Some (Put to (signed_decimal balance) 0)) None) (cond (bytes_eq from a) (Some (Put from (signed_decimal less) 0)) None)) a) other_key
    ∙ ap (λ b. balance_by n h (or_else None (cond b (Some (Put from (signed_decimal less) 0)) None)) a) (ap (λ q. bytes_eq q a) same ∙ other_key) in
    let back : total +ℤ (balance -ℤ balance) ≡ total = omega (arith, ints) in
    sum_moves (read_of n h) (read_of n after.history) accounts to balance balance total are paid has (payee_has n from to less balance before after m) others sums
    ∙ ap (λ z. Some z) back

-- a run that is done has found a number
pub number_found : (from to : List ℕ) (amount : ℕ) (values : List ℕ → List ℕ) (r : Result ℤ Fault) (run : Run) → run.end ≡ DoneEnd →
    deed_of run ≡ moved_or_refused from to amount values r → (z : ℤ) × (r ≡ Ok z)
number_found from to amount values r run ended deed = grind (arith, nat_tests)

number_added : (key : List ℕ) (amount : ℕ) (writes : List Change) (r : Result ℤ Fault) (run : Run) → run.end ≡ DoneEnd →
    deed_of run ≡ put_added key amount writes r → (z : ℤ) × (r ≡ Ok z)
number_added key amount writes r run ended deed = grind (arith, nat_tests)

-- one account or two
transfer_by : (n : Reading) (accounts : List (List ℕ)) (from to : List ℕ) (amount : ℕ) (balance total : ℤ) (before after : Replayed) (run : Run) (one : Bool) →
    bytes_eq from to ≡ one → AreAccounts accounts → IsAmong from accounts → IsAmong to accounts → is_in_range balance ≡ true →
    is_in_range (balance -ℤ pos amount) ≡ true → read_of n before.history from ≡ Some balance →
    run.end ≡ DoneEnd → deed_of run ≡ moved from to amount (value_in (state_now before.history)) balance →
    ((key : List ℕ) → read_of n after.history key ≡ balance_by n before.history (last_write key run.writes) key) →
    sum_of_all n before.history accounts ≡ Some total → sum_of_all n after.history accounts ≡ Some total
transfer_by n accounts from to amount balance total before after run true one are paying paid fits less_fits has_from ended deed left sums =
    let less : ℤ = balance -ℤ pos amount in
    let values : List ℕ → List ℕ = value_in (state_now before.history) in
    let holds : written_number (cond (bytes_eq from to) (signed_decimal less) (values to)) ≡ Ok less =
    ap (λ b. written_number (cond b (signed_decimal less) (values to))) one ∙ read_back less less_fits in
    let p : Paid from to less (less +ℤ pos amount) run = paid_with from to amount values balance less run ended deed holds in
    let back : less +ℤ pos amount ≡ balance = omega (arith, ints) in
    let same : from ≡ to = bytes_eq-same from to one in
    let has : read_of n before.history to ≡ Some balance = ap (read_of n before.history) (sym same) ∙ has_from in
    pays_itself n accounts from to less balance total before after are paid same has
    (subst (λ z. Moved n from to less z before after) back (moved_as n from to less (less +ℤ pos amount) before after run p left)) sums
transfer_by n accounts from to amount balance total before after run false apart are paying paid fits less_fits has_from ended deed left sums =
    let less : ℤ = balance -ℤ pos amount in
    let values : List ℕ → List ℕ = value_in (state_now before.history) in
    let writes : List Change = Put from (signed_decimal less) 0 ∷ [] in
    let payee = number_added to amount writes (written_number (value_after writes values to)) run ended deed in
    let other : ℤ = payee.0 in
    let holds : written_number (cond (bytes_eq from to) (signed_decimal less) (values to)) ≡ Ok other =
    ap written_number (sym (seen_by_payee from to less values)) ∙ payee.1 in
    let number : written_number (values to) ≡ Ok other =
    ap (λ b. written_number (cond b (signed_decimal less) (values to))) (sym apart) ∙ holds in
    let p : Paid from to less (other +ℤ pos amount) run = paid_with from to amount values balance other run ended deed holds in
    pays_another n accounts from to amount balance other total before after are paying paid apart less_fits has_from
    (n.written (key_now before.history to) other number) (moved_as n from to less (other +ℤ pos amount) before after run p left) sums

transfer_stays : (n : Reading) (accounts : List (List ℕ)) (e : Entry) (r : Replayed) (total : ℤ) → AreAccounts accounts → IsLegal e r → IsTransfer accounts e →
    sum_of_all n r.history accounts ≡ Some total → sum_of_all n (replay_entry e r).history accounts ≡ Some total
transfer_stays n accounts e r total are legal t sums =
    let h : History = r.history in
    let after : Replayed = replay_entry e r in
    let values : List ℕ → List ℕ = value_in (state_now h) in
    let c : Committed (transfer_program t.from t.to t.amount) r after = committed (transfer_program t.from t.to t.amount) e r t.commits legal in
    let deed : deed_of c.run ≡ transferred t.from t.to t.amount values =
    transfer_alone (state_now h) t.from t.to t.amount (now_is_known h) (named accounts t.from are t.paying) (named accounts t.to are t.paid) c.run c.alone in
    let payer = number_found t.from t.to t.amount values (written_number (values t.from)) c.run c.is_done deed in
    let enough = enough_by (int_lt payer.0 (pos t.amount)) t.from t.to t.amount values payer.0 c.run c.is_done
    (deed ∙ ap (moved_or_refused t.from t.to t.amount values) payer.1) in
    let fits : is_in_range payer.0 ≡ true = written_in_range (values t.from) payer.0 payer.1 in
    transfer_by n accounts t.from t.to t.amount payer.0 total r after c.run (bytes_eq t.from t.to) refl are t.paying t.paid fits
    (difference_in_range payer.0 t.amount fits enough.0) (n.written (key_now h t.from) payer.0 payer.1) c.is_done enough.1
    (λ key. ap (λ (x : History). read_of n x key) c.left ∙ ap n.number (left_of_key h c.run.writes key)) sums

-- ---- all entries

same_balances : (n : Reading) (accounts : List (List ℕ)) (before after : History) → AllByRecursion (λ account. key_now after account ≡ key_now before account) accounts →
    AllByRecursion (λ account. read_of n after account ≡ read_of n before account) accounts
same_balances n [] before after all = tt
same_balances n (a ∷ accounts) before after all = (ap n.number all.0, same_balances n accounts before after all.1)

entry_moves : (n : Reading) (accounts : List (List ℕ)) (e : Entry) (r : Replayed) (total : ℤ) → AreAccounts accounts → IsLegal e r → (of : IsOfAccounts accounts e r) →
    sum_of_all n r.history accounts ≡ Some total → sum_of_all n (replay_entry e r).history accounts ≡ Some (total +ℤ pos (amount_of accounts e r of))
entry_moves n accounts e r total are legal (Transfers t) sums =
    let same : total ≡ total +ℤ pos 0 = omega (arith, ints) in
    transfer_stays n accounts e r total are legal t sums ∙ ap (λ z. Some z) same
entry_moves n accounts e r total are legal (Deposits d) sums = deposit_moves n accounts e r total are legal d sums
entry_moves n accounts e r total are legal (Leaves leaves) sums =
    let same : total ≡ total +ℤ pos 0 = omega (arith, ints) in
    sums_agree (read_of n r.history) (read_of n (replay_entry e r).history) accounts (same_balances n accounts r.history (replay_entry e r).history leaves)
    ∙ sums ∙ ap (λ z. Some z) same

entries_move : (n : Reading) (accounts : List (List ℕ)) (es : List Entry) (r : Replayed) (total : ℤ) → AreAccounts accounts → AreLegal es r →
    (of : AreOfAccounts accounts es r) → sum_of_all n r.history accounts ≡ Some total →
    sum_of_all n (replay es r).history accounts ≡ Some (total +ℤ deposits_of accounts es r of)
entries_move n accounts [] r total are legal of sums =
    let same : total ≡ total +ℤ pos 0 = omega (arith, ints) in
    sums ∙ ap (λ z. Some z) same
entries_move n accounts (e ∷ es) r total are legal of sums =
    let more : ℤ = pos (amount_of accounts e r of.0) in
    let later : ℤ = deposits_of accounts es (replay_entry e r) of.1 in
    let adds : total +ℤ more +ℤ later ≡ total +ℤ (more +ℤ later) = omega (arith, ints) in
    entries_move n accounts es (replay_entry e r) (total +ℤ more) are legal.1 of.1 (entry_moves n accounts e r total are legal.0 of.0 sums)
    ∙ ap (λ z. Some z) adds

-- ---- the total of a state

balance_of_state : (key : List ℕ) (s : Option KeyState) → balance_of (entry_now key s) ≡ number_of s
balance_of_state key s = grind (arith, nat_tests)

total_of_state : (h : History) (entries : List StateEntry) (accounts : List (List ℕ)) → IsStateOf h entries → total_of entries accounts ≡ total_now h accounts
total_of_state h entries [] is = refl
total_of_state h entries (a ∷ accounts) is = grind (arith, nat_tests, balance_of_state, total_of_state h entries accounts is)

pub totals_grow_by_deposits : TotalsGrowByDeposits
totals_grow_by_deposits = record { grows = entries_move as_written; is_total = total_of_state }

-- where each account has a number, it counts as that
counted_as_written : (h : History) (accounts : List (List ℕ)) (total : ℤ) → total_now h accounts ≡ Some total → counted_total h accounts ≡ Some total
counted_as_written h [] total sums = sums
counted_as_written h (a ∷ accounts) total sums =
    let p : HasParts (balance_now h a) (total_now h accounts) total = parts_of (balance_now h a) (total_now h accounts) total sums in
    ap (λ o. sum_of o (counted_total h accounts)) (as_counted.written (key_now h a) p.here (number_is (key_now h a) p.here p.first_is))
    ∙ ap (sum_of (Some p.here)) (counted_as_written h accounts p.others p.rest_is) ∙ ap (λ z. Some z) p.adds

pub counted_totals : CountedTotals
counted_totals = record { grow = entries_move as_counted; are_totals = counted_as_written }
