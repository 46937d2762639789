-- What is read of a transaction is spelled by the data.
use Rattle.std.proofs.Common.{◌≡◌, ℕ, List, [], ◌∷◌, Bool, cond, Option, Some, None, Ok, refl, ap, subst, ◌∙◌, codes, arith}
use Rattle.std.proofs.lemmas.Slice.Eq.{bytes_eq-Decides}
use Rattle.std.proofs.lemmas.Bool.Decides.{nat_tests}
use Rattle.serde_json.specs.Data.{Data, string, array, Items}
use Rattle.stm_json.specs.declared.cause.Cause.TheVariants.{Shape}
use Rattle.stm_json.specs.Outcome.{bad, within}
use Rattle.stm_json.specs.Elements.{worded, one_of, two_of, three_of}
use Rattle.stm_json.proofs.OutcomeLemmas.{bind_ok, within_ok}
use Rattle.stm_json.proofs.ElementLemmas.{one_of-is, two_of-is, three_of-is}
use Rattle.stm_outcome.specs.declared.txn.Compare.{Compare}
use Rattle.stm_outcome.specs.declared.txn.Op.{Op}
use Rattle.stm_outcome.specs.declared.txn.Order.{Order}
use Rattle.stm_outcome.specs.declared.txn.Target.{Target}
use Rattle.stm_outcome.specs.declared.txn.Txn.{Txn}
use Rattle.stm_txn_json.specs.declared.words.TargetWord.{TargetWord}
use Rattle.stm_json.specs.Parts.{same, spelled, SpellsEach, text_of}
use Rattle.stm_txn_json.specs.Grammar.{order_text, SpellsTarget, SpellsCompare, SpellsOperation, SpellsTxn}
use Rattle.stm_txn_json.specs.Reading.{order_of, target_of, compare_parts, compare_worded, compare_of, get_of, put_of, del_of, operation_worded}
use Rattle.stm_txn_json.specs.Reading.{operation_of, compares_of, operations_of, txn_parts, txn_worded, txn_of}
use Rattle.stm_txn_json.proofs.WordLemmas.{target_text, target_named-is}
use Rattle.stm_json.proofs.PartLemmas.{text_of-is, up_to_is, word_and}
use Rattle.stm_txn_json.proofs.PartLemmas.{order_of-is}
use Rattle.stm_json.proofs.ListLemmas.{list_sound}

-- ---- compares

target_sound : (w : TargetWord) (d : Data) (t : Target) → target_of w d ≡ Ok t → SpellsTarget (target_text w) d t
target_sound w d t h = grind (arith, nat_tests, bind_ok, up_to_is, text_of-is)

abbrev compare_with : List ℕ → Order → Target → Compare
compare_with key order target = record { key = key; target = target; order = order }

parts_sound : (d : Data) (p : List ℕ × Items) (w : TargetWord) (o : Option (Data × Data × Data)) (c : Compare) → worded d ≡ Some p
    → p.0 ≡ target_text w → three_of p.1 ≡ o → compare_parts w o ≡ Ok c → SpellsCompare d c
parts_sound d p w None c is word three h = cc
parts_sound d p w (Some q) c is word three h =
    let key = bind_ok (within 1 (text_of q.0)) _ c h in
    let order = bind_ok (within 2 (order_of q.1)) _ c key.2 in
    let target = bind_ok (within 3 (target_of w q.2)) _ c order.2 in
    let made : compare_with key.0 order.0 target.0 ≡ c = cc target.2 in
    let first : q.0 ≡ string key.0 = text_of-is q.0 key.0 (within_ok 1 _ _ key.1) in
    let second : q.1 ≡ string (order_text order.0) = order_of-is q.1 order.0 (within_ok 2 _ _ order.1) in
    subst (SpellsCompare d) made (
      target_text w,
      q.2,
      word_and d p (target_text w) (q.0 ∷ q.1 ∷ q.2 ∷ []) is word (three_of-is p.1 q three)
          ∙ ap (λ (a : Data). spelled (target_text w) (a ∷ q.1 ∷ q.2 ∷ [])) first
          ∙ ap (λ (b : Data). spelled (target_text w) (string key.0 ∷ b ∷ q.2 ∷ [])) second,
      target_sound w q.2 target.0 (within_ok 3 _ _ target.1),
    )

compare_array : (d : Data) (o : Option (List ℕ × Items)) (c : Compare) → worded d ≡ o → compare_worded o ≡ Ok c → SpellsCompare d c
compare_array d o c is h = grind (arith, nat_tests, bind_ok, parts_sound, target_named-is)

pub compare_sound : (d : Data) (c : Compare) → compare_of d ≡ Ok c → SpellsCompare d c
unfolding compare_of
compare_sound d c h = compare_array d (worded d) c refl h

-- ---- operations

put_sound : (d : Data) (p : List ℕ × Items) (o : Option (Data × Data × Data)) (x : Op) → worded d ≡ Some p → p.0 ≡ codes "put" → three_of p.1 ≡ o
    → put_of o ≡ Ok x → SpellsOperation d x
put_sound d p o x is word three h = grind (arith, nat_tests, bind_ok, text_of-is, within_ok, word_and, three_of-is, up_to_is)

del_sound : (d : Data) (p : List ℕ × Items) (o : Option Data) (x : Op) → worded d ≡ Some p → p.0 ≡ codes "del" → one_of p.1 ≡ o → del_of o ≡ Ok x
    → SpellsOperation d x
del_sound d p o x is word one h = grind (arith, nat_tests, bind_ok, text_of-is, within_ok, word_and, one_of-is)

operation_word : (d : Data) (p : List ℕ × Items) (x : Op) (gets puts dels : Bool) → worded d ≡ Some p → same p.0 (codes "get") ≡ gets
    → same p.0 (codes "put") ≡ puts → same p.0 (codes "del") ≡ dels
    → cond gets (get_of (two_of p.1)) (cond puts (put_of (three_of p.1)) (cond dels (del_of (one_of p.1)) (bad Shape))) ≡ Ok x → SpellsOperation d x
operation_word d p x gets puts dels is g u l h =
    grind (arith, nat_tests, bytes_eq-Decides, put_sound, del_sound, bind_ok, text_of-is, within_ok, word_and, two_of-is, up_to_is)

operation_array : (d : Data) (o : Option (List ℕ × Items)) (x : Op) → worded d ≡ o → operation_worded o ≡ Ok x → SpellsOperation d x
operation_array d o x is h = grind (arith, nat_tests, operation_word)

pub operation_sound : (d : Data) (x : Op) → operation_of d ≡ Ok x → SpellsOperation d x
unfolding operation_of
operation_sound d x h = operation_array d (worded d) x refl h

-- ---- transactions

compares_sound : (d : Data) (cs : List Compare) → compares_of d ≡ Ok cs → (ds : Items) × (d ≡ array ds) × SpellsEach SpellsCompare ds cs
unfolding compares_of
compares_sound d cs h = list_sound compare_of SpellsCompare compare_sound d cs h

operations_sound : (d : Data) (xs : List Op) → operations_of d ≡ Ok xs → (ds : Items) × (d ≡ array ds) × SpellsEach SpellsOperation ds xs
unfolding operations_of
operations_sound d xs h = list_sound operation_of SpellsOperation operation_sound d xs h

abbrev txn_with : List Compare → List Op → List Op → Txn
txn_with compares success failure = record { compares = compares; success = success; failure = failure }

lists_sound : (d : Data) (p : List ℕ × Items) (o : Option (Data × Data × Data)) (t : Txn) → worded d ≡ Some p → p.0 ≡ codes "txn" → three_of p.1 ≡ o
    → txn_parts o ≡ Ok t → SpellsTxn d t
lists_sound d p o t is word three h = grind (arith, nat_tests, bind_ok, compares_sound, within_ok, operations_sound, word_and, three_of-is)

txn_array : (d : Data) (o : Option (List ℕ × Items)) (t : Txn) → worded d ≡ o → txn_worded o ≡ Ok t → SpellsTxn d t
txn_array d o t is h = grind (arith, nat_tests, lists_sound, bytes_eq-Decides)

pub txn_sound : (d : Data) (t : Txn) → txn_of d ≡ Ok t → SpellsTxn d t
unfolding txn_of
txn_sound d t h = txn_array d (worded d) t refl h
