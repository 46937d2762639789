-- A transaction that data spell is read.
use Rattle.std.proofs.Common.{◌≡◌, ℕ, List, Ok, refl, ap, ◌∙◌, arith}
use Rattle.std.proofs.lemmas.Bool.Decides.{nat_tests}
use Rattle.serde_json.specs.Data.{Data, string}
use Rattle.stm_history.specs.declared.revisions.TheConstants.{HIGHEST_NUMBER}
use Rattle.stm_outcome.specs.declared.txn.Compare.{Compare}
use Rattle.stm_outcome.specs.declared.txn.Op.{Op}
use Rattle.stm_outcome.specs.declared.txn.Op.TheVariants.{Get, Put, Del}
use Rattle.stm_outcome.specs.declared.txn.Target.{Target}
use Rattle.stm_outcome.specs.declared.txn.Target.TheVariants.{Version, Create, Mod, Lease, Value}
use Rattle.stm_outcome.specs.declared.txn.Txn.{Txn}
use Rattle.stm_txn_json.specs.declared.words.TargetWord.{TargetWord}
use Rattle.stm_txn_json.specs.declared.words.TargetWord.TheVariants as word
use Rattle.stm_txn_json.specs.Words.{target_named}
use Rattle.stm_txn_json.specs.Grammar.{SpellsTarget, SpellsCompare, SpellsOperation, SpellsTxn}
use Rattle.stm_json.specs.Parts.{text_of}
use Rattle.stm_txn_json.specs.Reading.{target_of, compare_of, operation_of, compares_of, operations_of, txn_of}
use Rattle.stm_txn_json.proofs.WordLemmas.{target_named-text}
use Rattle.stm_json.proofs.PartLemmas.{text_reads, up_to_reads}
use Rattle.stm_txn_json.proofs.PartLemmas.{order_reads}
use Rattle.stm_json.proofs.ListLemmas.{each_reads}

-- ---- compares

target_reads : (w : List ℕ) (d : Data) (t : Target) → SpellsTarget w d t → (x : TargetWord) × (target_named w ≡ Ok x) × (target_of x d ≡ Ok t)
target_reads w d (Version n) (is, s) =
    let e = up_to_reads HIGHEST_NUMBER d n (omega arith) s in
    (word.Version, ap target_named is ∙ target_named-text word.Version, rw e refl)
target_reads w d (Create n) (is, s) =
    let e = up_to_reads HIGHEST_NUMBER d n (omega arith) s in
    (word.Create, ap target_named is ∙ target_named-text word.Create, rw e refl)
target_reads w d (Mod n) (is, s) =
    let e = up_to_reads HIGHEST_NUMBER d n (omega arith) s in
    (word.Mod, ap target_named is ∙ target_named-text word.Mod, rw e refl)
target_reads w d (Lease n) (is, s) =
    let e = up_to_reads HIGHEST_NUMBER d n (omega arith) s in
    (word.Lease, ap target_named is ∙ target_named-text word.Lease, rw e refl)
target_reads w d (Value s) (is, t) =
    let e = text_reads d s t in
    (word.Value, ap target_named is ∙ target_named-text word.Value, rw e refl)

compare_reads : (d : Data) (c : Compare) → SpellsCompare d c → compare_of d ≡ Ok c
unfolding compare_of
compare_reads d c h3 = grind (arith, nat_tests, target_reads, text_reads, order_reads)

-- ---- operations

operation_reads : (d : Data) (x : Op) → SpellsOperation d x → operation_of d ≡ Ok x
unfolding operation_of
operation_reads d (Get key rev) (a, is, s) =
    let k : text_of (string key) ≡ Ok key = text_reads (string key) key refl in
    let n = up_to_reads HIGHEST_NUMBER a rev (omega arith) s in
    ap operation_of is ∙ rw (k, n) refl
operation_reads d (Put key value lease) (a, is, s) =
    let k : text_of (string key) ≡ Ok key = text_reads (string key) key refl in
    let v : text_of (string value) ≡ Ok value = text_reads (string value) value refl in
    let n = up_to_reads HIGHEST_NUMBER a lease (omega arith) s in
    ap operation_of is ∙ rw (k, v, n) refl
operation_reads d (Del key) is =
    let k : text_of (string key) ≡ Ok key = text_reads (string key) key refl in
    ap operation_of is ∙ rw k refl

-- ---- transactions

pub txn_reads : (d : Data) (t : Txn) → SpellsTxn d t → txn_of d ≡ Ok t
unfolding txn_of compares_of operations_of
txn_reads d t (a, b, c, is, compares, success, failure) =
    let x = each_reads compare_of SpellsCompare compare_reads 0 a t.compares compares in
    let y = each_reads operation_of SpellsOperation operation_reads 0 b t.success success in
    let z = each_reads operation_of SpellsOperation operation_reads 0 c t.failure failure in
    ap txn_of is ∙ rw x (rw y (rw z refl))
