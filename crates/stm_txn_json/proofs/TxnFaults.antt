-- The first fault of a transaction is the fault that reading it answers.
use Rattle.std.proofs.Common.{◌≡◌, ℕ, List, [], ◌∷◌, Bool, true, false, cond, Option, Some, None, Ok, refl, arith}
use Rattle.std.proofs.lemmas.Bool.Decides.{nat_tests}
use Rattle.serde_json.specs.Data.{Data, string, array, Items, no_items, item}
use Rattle.serde_json.specs.Find.{as_str}
use Rattle.stm_history.specs.declared.revisions.TheConstants.{HIGHEST_NUMBER}
use Rattle.stm_json.specs.declared.cause.Cause.TheVariants.{Shape}
use Rattle.stm_json.specs.Outcome.{bad, ◌>>=◌}
use Rattle.stm_json.specs.Elements.{one_of, two_of, three_of, number_up_to}
use Rattle.stm_outcome.specs.declared.txn.Compare.{Compare}
use Rattle.stm_outcome.specs.declared.txn.Op.{Op}
use Rattle.stm_outcome.specs.declared.txn.Op.TheVariants.{Put}
use Rattle.stm_outcome.specs.declared.txn.Order.{Order}
use Rattle.stm_outcome.specs.declared.txn.Target.TheVariants.{Version, Create, Mod, Lease, Value}
use Rattle.stm_txn_json.specs.declared.words.TargetWord.{TargetWord}
use Rattle.stm_txn_json.specs.declared.words.TargetWord.TheVariants as word
use Rattle.stm_json.specs.Parts.{on_text, text_of}
use Rattle.stm_txn_json.specs.Words.{order_named, target_named}
use Rattle.stm_txn_json.specs.Reading.{order_of, target_of, compare_parts, compare_of, get_of, put_of, del_of, operation_of}
use Rattle.stm_txn_json.specs.Reading.{compares_of, operations_of, txn_parts, txn_of}
use Rattle.stm_json.specs.Faults.{Sort, AnyText, WordOf, at, word_faults, faults_by, sorted_faults, worded_faults, list_faults, first_of, any_number}
use Rattle.stm_txn_json.specs.FirstFault.{order_words, compare_table, operation_table, txn_sorts, txn_faults, first_fault}
use Rattle.stm_json.proofs.FaultLemmas.{fault_of, wrong_is, part_then, made, text_faulted, list_faulted, number_reported}

-- ---- compares

order_reported : (p : List ℕ) (o : Option (List ℕ)) → first_of (word_faults order_words p o) ≡ fault_of p (on_text order_named o)
unfolding order_named
order_reported p o = grind (arith, nat_tests, wrong_is)

order_faulted : (p : List ℕ) (d : Data) → first_of (faults_by (WordOf order_words) p d) ≡ fault_of p (order_of d)
unfolding order_of
order_faulted p d = order_reported p (as_str d)

-- the sort of the compare's side
abbrev side_sort : TargetWord → Sort
side_sort word.Value = AnyText
side_sort _ = any_number

target_faulted : (p : List ℕ) (w : TargetWord) (d : Data) → first_of (faults_by (side_sort w) p d) ≡ fault_of p (target_of w d)
target_faulted p word.Version d = made p (number_up_to HIGHEST_NUMBER d) Version (faults_by any_number p d) (number_reported p d)
target_faulted p word.Create d = made p (number_up_to HIGHEST_NUMBER d) Create (faults_by any_number p d) (number_reported p d)
target_faulted p word.Mod d = made p (number_up_to HIGHEST_NUMBER d) Mod (faults_by any_number p d) (number_reported p d)
target_faulted p word.Lease d = made p (number_up_to HIGHEST_NUMBER d) Lease (faults_by any_number p d) (number_reported p d)
target_faulted p word.Value d = made p (text_of d) Value (faults_by AnyText p d) (text_faulted p d)

abbrev compare_sorts : TargetWord → List Sort
compare_sorts w = AnyText ∷ WordOf order_words ∷ side_sort w ∷ []

compare_faulted : (p : List ℕ) (w : TargetWord) (ds : Items)
    → first_of (sorted_faults p (Some (compare_sorts w)) ds) ≡ fault_of p (compare_parts w (three_of ds))
compare_faulted p w no_items = wrong_is p Shape (compare_parts w None) refl
compare_faulted p w (item a no_items) = wrong_is p Shape (compare_parts w None) refl
compare_faulted p w (item a (item b no_items)) = wrong_is p Shape (compare_parts w None) refl
compare_faulted p w (item a (item b (item c no_items))) =
    part_then p 1 (text_of a) _ (faults_by AnyText (at p 1) a) _ (text_faulted (at p 1) a) (λ (key : List ℕ).
    part_then p 2 (order_of b) _ (faults_by (WordOf order_words) (at p 2) b) _ (order_faulted (at p 2) b) (λ (order : Order).
    part_then p 3 (target_of w c) (λ target. Ok (record { key = key; target = target; order = order })) (faults_by (side_sort w) (at p 3) c) []
    (target_faulted (at p 3) w c) (λ target. refl)))
compare_faulted p w (item a (item b (item c (item d ds)))) = wrong_is p Shape (compare_parts w None) refl

compare_tested : (p : List ℕ) (ds : Items) (version create modified lease value : Bool)
    → first_of (sorted_faults p
    (cond version (Some (compare_sorts word.Version)) (cond create (Some (compare_sorts word.Create)) (cond modified (Some (compare_sorts word.Mod))
    (cond lease (Some (compare_sorts word.Lease)) (cond value (Some (compare_sorts word.Value)) None))))) ds)
    ≡ fault_of p (cond version (Ok word.Version) (cond create (Ok word.Create) (cond modified (Ok word.Mod) (cond lease (Ok word.Lease)
    (cond value (Ok word.Value) (bad Shape))))) >>= λ w. compare_parts w (three_of ds))
compare_tested p ds version create modified lease value = grind (arith, nat_tests, compare_faulted, wrong_is)

compare_reported : (p : List ℕ) (d : Data) → first_of (worded_faults compare_table p d) ≡ fault_of p (compare_of d)
unfolding compare_of target_named
compare_reported p (array (item (string w) ds)) = grind (arith, nat_tests, compare_tested)
compare_reported p _ = wrong_is {A = Compare} p Shape (bad Shape) refl

-- ---- operations

abbrev get_sorts : List Sort
get_sorts = AnyText ∷ any_number ∷ []

abbrev put_sorts : List Sort
put_sorts = AnyText ∷ AnyText ∷ any_number ∷ []

abbrev del_sorts : List Sort
del_sorts = AnyText ∷ []

get_faulted : (p : List ℕ) (ds : Items) → first_of (sorted_faults p (Some get_sorts) ds) ≡ fault_of p (get_of (two_of ds))
get_faulted p no_items = wrong_is p Shape (get_of None) refl
get_faulted p (item a no_items) = wrong_is p Shape (get_of None) refl
get_faulted p (item a (item b no_items)) = grind (arith, nat_tests, part_then, text_faulted, number_reported)
get_faulted p (item a (item b (item c ds))) = wrong_is p Shape (get_of None) refl

put_faulted : (p : List ℕ) (ds : Items) → first_of (sorted_faults p (Some put_sorts) ds) ≡ fault_of p (put_of (three_of ds))
put_faulted p no_items = wrong_is p Shape (put_of None) refl
put_faulted p (item a no_items) = wrong_is p Shape (put_of None) refl
put_faulted p (item a (item b no_items)) = wrong_is p Shape (put_of None) refl
put_faulted p (item a (item b (item c no_items))) =
    part_then p 1 (text_of a) _ (faults_by AnyText (at p 1) a) _ (text_faulted (at p 1) a) (λ (key : List ℕ).
    part_then p 2 (text_of b) _ (faults_by AnyText (at p 2) b) _ (text_faulted (at p 2) b) (λ (value : List ℕ).
    part_then p 3 (number_up_to HIGHEST_NUMBER c) (λ lease. Ok (Put key value lease)) (faults_by any_number (at p 3) c) []
    (number_reported (at p 3) c) (λ lease. refl)))
put_faulted p (item a (item b (item c (item d ds)))) = wrong_is p Shape (put_of None) refl

del_faulted : (p : List ℕ) (ds : Items) → first_of (sorted_faults p (Some del_sorts) ds) ≡ fault_of p (del_of (one_of ds))
del_faulted p no_items = wrong_is p Shape (del_of None) refl
del_faulted p (item a no_items) = grind (arith, nat_tests, part_then, text_faulted)
del_faulted p (item a (item b ds)) = wrong_is p Shape (del_of None) refl

operation_tested : (p : List ℕ) (ds : Items) (gets puts dels : Bool)
    → first_of (sorted_faults p (cond gets (Some get_sorts) (cond puts (Some put_sorts) (cond dels (Some del_sorts) None))) ds)
    ≡ fault_of p (cond gets (get_of (two_of ds)) (cond puts (put_of (three_of ds)) (cond dels (del_of (one_of ds)) (bad Shape))))
operation_tested p ds true puts dels = get_faulted p ds
operation_tested p ds false true dels = put_faulted p ds
operation_tested p ds false false true = del_faulted p ds
operation_tested p ds false false false = wrong_is {A = Op} p Shape (bad Shape) refl

-- ---- transactions

compares_faulted : (p : List ℕ) (d : Data) → first_of (list_faults compare_table p d) ≡ fault_of p (compares_of d)
unfolding compares_of
compares_faulted p d = list_faulted compare_table compare_of compare_reported p d

operations_faulted : (p : List ℕ) (d : Data) → first_of (list_faults operation_table p d) ≡ fault_of p (operations_of d)
unfolding operation_of operations_of
operations_faulted p d = grind (arith, nat_tests, list_faulted, operation_tested, wrong_is)

lists_faulted : (p : List ℕ) (ds : Items) → first_of (sorted_faults p (Some txn_sorts) ds) ≡ fault_of p (txn_parts (three_of ds))
lists_faulted p no_items = wrong_is p Shape (txn_parts None) refl
lists_faulted p (item a no_items) = wrong_is p Shape (txn_parts None) refl
lists_faulted p (item a (item b no_items)) = wrong_is p Shape (txn_parts None) refl
lists_faulted p (item a (item b (item c no_items))) =
    part_then p 1 (compares_of a) _ (list_faults compare_table (at p 1) a) _ (compares_faulted (at p 1) a) (λ (compares : List Compare).
    part_then p 2 (operations_of b) _ (list_faults operation_table (at p 2) b) _ (operations_faulted (at p 2) b) (λ (success : List Op).
    part_then p 3 (operations_of c) (λ failure. Ok (record { compares = compares; success = success; failure = failure }))
    (list_faults operation_table (at p 3) c) [] (operations_faulted (at p 3) c) (λ failure. refl)))
lists_faulted p (item a (item b (item c (item d ds)))) = wrong_is p Shape (txn_parts None) refl

pub txn_faulted : (p : List ℕ) (d : Data) → first_of (txn_faults p d) ≡ fault_of p (txn_of d)
unfolding txn_of
txn_faulted p d = grind (arith, nat_tests, wrong_is, lists_faulted)

-- the first fault is that which reading answers, if it does
pub first_fault-is : (d : Data) → first_fault d ≡ fault_of [] (txn_of d)
unfolding first_fault
first_fault-is d = txn_faulted [] d
