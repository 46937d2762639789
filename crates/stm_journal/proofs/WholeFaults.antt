-- What is wrong with the transaction of a commit as a whole: its number of operations, or an empty key that was read.
use Rattle.std.proofs.Common.{◌≡◌, ℕ, ◌+◌, ◌-◌, ◌<◌, ◌≤◌, ◌||◌, ◌&&◌, List, [], ◌∷◌, ◌++◌, map, length, Bool, true, false, cond, Option, Some, None, refl}
use Rattle.std.proofs.Common.{sym, ◌∙◌, ap, arith, length-append}
use Rattle.std.proofs.lemmas.Bool.{ne_eqb, lt-ltb, le-ltb, ltb-true, ltb-false, Decides.nat_tests}
use Rattle.std.proofs.lemmas.List.{length-map}
use Rattle.std.proofs.lemmas.List.Elements.{recursion_from_All}
use Rattle.std.specs.Prelude.{nat_lt, bytes_eq}
use Rattle.std.specs.List.{list_any, AllByRecursion}
use Rattle.stm_history.specs.declared.change.Change.{Change}
use Rattle.stm_history.specs.declared.key_state.ReadAnswer.{ReadAnswer}
use Rattle.stm_history.specs.History.{key_of, change_of, HasDistinctKeys}
use Rattle.stm_program.specs.declared.level.Level.{Level}
use Rattle.stm_program.specs.declared.level.Level.TheVariants.{SerializableSnapshot, Serializable, RepeatableReads, ReadCommitted}
use Rattle.stm_program.proofs.LatestLemmas.{latest_writes-distinct}
use Rattle.stm_meaning.proofs.RunKeyLaws.{keys_are_not_empty}
use Rattle.stm_outcome.specs.declared.txn.Compare.{Compare}
use Rattle.stm_outcome.specs.declared.txn.Txn.{Txn}
use Rattle.stm_outcome.specs.declared.txn.Op.{Op}
use Rattle.stm_outcome.specs.declared.refusal.Refusal.{Refusal}
use Rattle.stm_outcome.specs.declared.refusal.Refusal.TheVariants.{TooManyOps, EmptyKey, DuplicateKey}
use Rattle.stm_outcome.specs.Operations.{key_of_op, clash}
use Rattle.stm_outcome.specs.Checks.{is_empty_key, has_too_many, has_empty_key, has_clash, fault_of}
use Rattle.stm_outcome.specs.Commits.{read_now}
use Rattle.stm_outcome.specs.Effect.{op_of}
use Rattle.stm_outcome.proofs.Branching.{apart_case, apart_back}
use Rattle.stm_program.specs.Levels.{is_comparing}
use Rattle.stm_compile.specs.CommitTxn.{is_as_read, is_unmodified, compares_of, commit_of}
use Rattle.stm_compile.proofs.OutcomeLemmas.{changes_are_distinct}
use Rattle.stm_attempt.specs.ReadyRun.{ReadyRun, IsRunOnItsAnswers}
use Rattle.stm_journal.specs.Verdicts.{txn_of}

-- ---- three tests

second_true : (a b c : Bool) → b ≡ true → (a || b || c) ≡ true
second_true a b c is = grind (arith, nat_tests)

none_true : (a b c : Bool) → a ≡ false → b ≡ false → c ≡ false → (a || b || c) ≡ false
none_true a b c p q r = ap (λ (x : Bool). x || b || c) p ∙ ap (λ (x : Bool). false || x || c) q ∙ ap (λ (x : Bool). false || false || x) r

as_first : (a b c e : Bool) → a ≡ e → b ≡ false → c ≡ false → (a || b || c) ≡ e
as_first a b c e p q r = grind (arith, nat_tests)

as_both : (a b c e : Bool) → a ≡ e → b ≡ false → c ≡ e → (a || b || c) ≡ e
as_both a b c e p q r = grind (arith, nat_tests)

-- ---- the writes of a ready attempt are named, and stand apart

has_bytes : (key : List ℕ) → 0 < length key → is_empty_key key ≡ false
has_bytes key more = ne_eqb (length key) 0 (λ (is : length key ≡ 0). omega arith)

write_named : (w : Change) → 0 < length (key_of w) → is_empty_key (key_of_op (op_of w)) ≡ false
write_named w more = grind (arith, nat_tests, has_bytes)

abbrev names_nothing : Op → Bool
names_nothing op = is_empty_key (key_of_op op)

writes_named : (ws : List Change) → AllByRecursion (λ w. 0 < length (key_of w)) ws → list_any names_nothing (map op_of ws) ≡ false
writes_named [] named = refl
writes_named (w ∷ ws) named = ap (λ b. b || list_any names_nothing (map op_of ws)) (write_named w named.0) ∙ writes_named ws named.1

write_apart : (w later : Change) → bytes_eq (key_of later) (key_of w) ≡ false → clash (op_of w) (op_of later) ≡ false
write_apart w later apart = grind (arith, nat_tests, apart_back)

none_clash : (w : Change) (ws : List Change) → change_of (key_of w) ws ≡ None → list_any (clash (op_of w)) (map op_of ws) ≡ false
none_clash w [] absent = refl
none_clash w (x ∷ xs) absent =
    let split : (bytes_eq (key_of x) (key_of w) ≡ false) × (change_of (key_of w) xs ≡ None) =
    apart_case (bytes_eq (key_of x) (key_of w)) x (change_of (key_of w) xs) absent in
    ap (λ b. b || list_any (clash (op_of w)) (map op_of xs)) (write_apart w x split.0) ∙ none_clash w xs split.1

changes_apart : (ws : List Change) → HasDistinctKeys ws → has_clash (map op_of ws) ≡ false
changes_apart [] distinct = refl
changes_apart (w ∷ ws) distinct = ap (λ b. b || has_clash (map op_of ws)) (none_clash w ws distinct.0) ∙ changes_apart ws distinct.1

-- so no two writes of a ready attempt clash
pub writes_stand_apart : (ready : ReadyRun) → IsRunOnItsAnswers ready → has_clash (map op_of ready.writes) ≡ false
writes_stand_apart ready kept = grind (arith, nat_tests, changes_apart, changes_are_distinct, latest_writes-distinct)

-- ---- the keys that were read

-- some answer is of the empty key
abbrev pub reads_nothing : List ReadAnswer → Bool
reads_nothing answers = list_any (λ (a : ReadAnswer). is_empty_key a.key) answers

compared_reads : (answers : List ReadAnswer) → list_any (λ (c : Compare). is_empty_key c.key) (map is_as_read answers) ≡ reads_nothing answers
compared_reads [] = refl
compared_reads (a ∷ answers) = ap (λ b. is_empty_key a.key || b) (compared_reads answers)

reads_again : (answers : List ReadAnswer) → list_any names_nothing (map read_now (map (λ (a : ReadAnswer). a.key) answers)) ≡ reads_nothing answers
reads_again [] = refl
reads_again (a ∷ answers) = ap (λ b. is_empty_key a.key || b) (reads_again answers)

reads_apart : (keys : List (List ℕ)) → has_clash (map read_now keys) ≡ false
reads_apart [] = refl
reads_apart (key ∷ keys) = ap (λ b. b || has_clash (map read_now keys)) (none keys) ∙ reads_apart keys
  where
    none : (others : List (List ℕ)) → list_any (clash (read_now key)) (map read_now others) ≡ false
    none [] = refl
    none (other ∷ others) = none others

-- ---- how many operations there are

read_compares : (reads : List ReadAnswer) (r : ℕ) → r ≡ length reads → length (map is_as_read reads) ≡ r
read_compares reads r is = length-map reads is_as_read ∙ sym is

snapshot_compares : (reads : List ReadAnswer) (writes : List Change) (r w : ℕ) → r ≡ length reads → w ≡ length writes →
    length (compares_of SerializableSnapshot reads writes) ≡ r + w
snapshot_compares reads writes r w read written = grind (arith, nat_tests, length-map, length-append)

rereads_count : (reads : List ReadAnswer) (r : ℕ) → r ≡ length reads → length (map read_now (map (λ (a : ReadAnswer). a.key) reads)) ≡ r
rereads_count reads r is = length-map (map (λ (a : ReadAnswer). a.key) reads) read_now ∙ length-map reads (λ (a : ReadAnswer). a.key) ∙ sym is

writes_count : (writes : List Change) (w : ℕ) → w ≡ length writes → length (map op_of writes) ≡ w
writes_count writes w is = length-map writes op_of ∙ sym is

-- more writes than a transaction may have
pub many_writes : (limit : ℕ) (level : Level) (reads : List ReadAnswer) (writes : List Change) (w : ℕ) → w ≡ length writes → limit < w →
    has_too_many limit (commit_of level reads writes) ≡ true
many_writes limit level reads writes w is more = grind (arith, nat_tests, second_true, writes_count, lt-ltb)

by_sum : (limit r w : ℕ) (b : Bool) → nat_lt limit (r + w) ≡ b → w ≤ limit → nat_lt (limit - w) r ≡ (b || nat_lt limit w || nat_lt limit r)
by_sum limit r w b is few = grind (arith, nat_tests, ltb-true, lt-ltb, ltb-false, le-ltb, none_true)

three_numbers : (limit : ℕ) (txn : Txn) (a b c : ℕ) → length txn.compares ≡ a → length txn.success ≡ b → length txn.failure ≡ c →
    has_too_many limit txn ≡ (nat_lt limit a || nat_lt limit b || nat_lt limit c)
three_numbers limit txn a b c p q r = grind (arith, nat_tests)

pub snapshot_count : (limit : ℕ) (reads : List ReadAnswer) (writes : List Change) (r w : ℕ) → r ≡ length reads → w ≡ length writes → w ≤ limit →
    nat_lt (limit - w) r ≡ has_too_many limit (commit_of SerializableSnapshot reads writes)
snapshot_count limit reads writes r w read written few = grind (arith, nat_tests, by_sum, three_numbers, snapshot_compares, writes_count, rereads_count)

pub serializable_count : (limit : ℕ) (reads : List ReadAnswer) (writes : List Change) (r w : ℕ) → r ≡ length reads → w ≡ length writes → w ≤ limit →
    nat_lt limit r ≡ has_too_many limit (commit_of Serializable reads writes)
serializable_count limit reads writes r w read written few =
    grind (arith, nat_tests, as_both, le-ltb, three_numbers, read_compares, writes_count, rereads_count)

pub repeatable_count : (limit : ℕ) (reads : List ReadAnswer) (writes : List Change) (r w : ℕ) → r ≡ length reads → w ≡ length writes → w ≤ limit →
    nat_lt limit r ≡ has_too_many limit (commit_of RepeatableReads reads writes)
repeatable_count limit reads writes r w read written few = grind (arith, nat_tests, as_first, le-ltb, three_numbers, read_compares, writes_count)

pub committed_count : (limit : ℕ) (reads : List ReadAnswer) (writes : List Change) (w : ℕ) → w ≡ length writes → w ≤ limit →
    false ≡ has_too_many limit (commit_of ReadCommitted reads writes)
committed_count limit reads writes w written few = grind (arith, nat_tests, three_numbers, writes_count, none_true, le-ltb)

-- where nothing is wrong, the compares are within the limit; at SerializableSnapshot they are those of what was read and of what is written
not_too_many : (b : Bool) (rest : Option Refusal) → cond b (Some TooManyOps) rest ≡ None → b ≡ false
not_too_many b rest is = grind (arith, nat_tests)

pub compares_within : (limit : ℕ) (txn : Txn) → fault_of limit txn ≡ None → length txn.compares ≤ limit
compares_within limit txn is = grind (arith, nat_tests, not_too_many, ltb-false)

pub few_compares : (limit : ℕ) (reads : List ReadAnswer) (writes : List Change) → length (compares_of SerializableSnapshot reads writes) ≤ limit →
    length reads + length writes ≤ limit
few_compares limit reads writes below = omega (arith, below, snapshot_compares reads writes (length reads) (length writes) refl refl)

-- ---- an empty key

-- a key that is written is not compared as an empty one
compared_writes : (first : ℕ) (ws : List Change) → AllByRecursion (λ w. 0 < length (key_of w)) ws →
    list_any (λ (c : Compare). is_empty_key c.key) (map (is_unmodified first) ws) ≡ false
compared_writes first [] named = refl
compared_writes first (w ∷ ws) named = grind (arith, nat_tests, has_bytes, compared_writes first ws named.1)

compared_before : (reads : List ReadAnswer) (rest : List Compare) → list_any (λ (c : Compare). is_empty_key c.key) rest ≡ false →
    list_any (λ (c : Compare). is_empty_key c.key) (map is_as_read reads ++ rest) ≡ reads_nothing reads
compared_before [] rest none = none
compared_before (a ∷ reads) rest none = ap (λ b. is_empty_key a.key || b) (compared_before reads rest none)

pub empty_by : (level : Level) (reads : List ReadAnswer) (writes : List Change) → AllByRecursion (λ w. 0 < length (key_of w)) writes →
    has_empty_key (commit_of level reads writes) ≡ (is_comparing level && reads_nothing reads)
empty_by level reads writes named =
    grind (arith, nat_tests, as_both, compared_before, compared_writes, writes_named, reads_again, compared_reads, as_first, none_true)

-- ---- what is wrong

pub fault_many : (limit : ℕ) (txn : Txn) → has_too_many limit txn ≡ true → fault_of limit txn ≡ Some TooManyOps
fault_many limit txn many = grind (arith, nat_tests)

fault_few : (limit : ℕ) (txn : Txn) → has_too_many limit txn ≡ false →
    fault_of limit txn ≡ cond (has_empty_key txn) (Some EmptyKey) (cond (has_clash txn.success || has_clash txn.failure) (Some DuplicateKey) None)
fault_few limit txn few = grind (arith, nat_tests)

pub fault_empty : (limit : ℕ) (txn : Txn) → has_too_many limit txn ≡ false → has_empty_key txn ≡ true → fault_of limit txn ≡ Some EmptyKey
fault_empty limit txn few empty = grind (arith, nat_tests, fault_few)

-- the keys of a ready attempt's writes
pub named_of_ready : (ready : ReadyRun) → IsRunOnItsAnswers ready → AllByRecursion (λ w. 0 < length (key_of w)) ready.writes
named_of_ready ready kept = grind (arith, nat_tests, recursion_from_All, keys_are_not_empty)

-- its keys are named but where one that was read is not
pub ready_names : (ready : ReadyRun) → IsRunOnItsAnswers ready → has_empty_key (txn_of ready) ≡ (is_comparing ready.level && reads_nothing ready.answers)
ready_names ready kept = empty_by ready.level ready.answers ready.writes (named_of_ready ready kept)

pub ready_right : (limit : ℕ) (ready : ReadyRun) → IsRunOnItsAnswers ready → has_too_many limit (txn_of ready) ≡ false →
    has_empty_key (txn_of ready) ≡ false → fault_of limit (txn_of ready) ≡ None
ready_right limit ready kept few named = grind (arith, nat_tests, writes_stand_apart, reads_apart, fault_few)
