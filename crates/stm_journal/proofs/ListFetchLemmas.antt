-- What the transaction that fetches a list comes to.
use Rattle.std.proofs.Common.{◌≡◌, inl, ℕ, ◌<◌, Bool, true, false, cond, List, [], ◌∷◌, ◌++◌, ◌+◌, length, map, take, get_or, Option, Some, None}
use Rattle.std.proofs.Common.{Ok, Err, refl, sym, ◌∙◌, ap, subst, arith}
use Rattle.std.specs.Prelude.{◌||◌, nat_lt, IfErr, Result}
use Rattle.std.specs.List.{list_any}
use Rattle.std.proofs.lemmas.Bool.{ne_eqb, le-ltb, Decides.nat_tests}
use Rattle.std.proofs.lemmas.List.{take_more}
use Rattle.stm_history.specs.declared.key_state.ReadAnswer.{ReadAnswer}
use Rattle.stm_history.specs.History.{History, now}
use Rattle.stm_history.proofs.HistoryLaws.{last_revision_is_now}
use Rattle.stm_outcome.specs.declared.txn.Op.{Op}
use Rattle.stm_outcome.specs.declared.txn.Txn.{Txn}
use Rattle.stm_outcome.specs.declared.answer.OpAnswer.{OpAnswer}
use Rattle.stm_outcome.specs.declared.answer.OpAnswer.TheVariants.{Get as GetAnswer}
use Rattle.stm_outcome.specs.declared.answer.TxnAnswer.{TxnAnswer}
use Rattle.stm_outcome.specs.declared.refusal.Refusal.{Refusal}
use Rattle.stm_outcome.specs.declared.refusal.Refusal.TheVariants.{TooManyOps}
use Rattle.stm_outcome.specs.Operations.{key_of_op, clash}
use Rattle.stm_outcome.specs.Checks.{has_too_many, is_empty_key, has_clash, fault_of}
use Rattle.stm_outcome.specs.Outcome.{outcome}
use Rattle.stm_outcome.specs.Commits.{read_op, read_out, read_now, reads_now, shown, AreReached, AreNamed}
use Rattle.stm_outcome.specs.Terms.{Terms}
use Rattle.stm_outcome.proofs.Applying.{reads_change_nothing}
use Rattle.stm_txn.specs.Standing.{Standing, Step, IsRefusalOf, step_of, transacted, terms_of}
use Rattle.stm_compile.specs.Answers.{answer_now}
use Rattle.stm_journal.specs.Reads.{reads_in}
use Rattle.stm_journal.specs.Fetched.{fetch_all_of, fetch_all_reported, IsRefusalOfAll, only_reads, ListIsOneTransaction}
use Rattle.stm_journal.proofs.ReadLemmas.{all_reads}

-- ---- the whole transaction

as_many : (keys : List (List ℕ)) → length (map read_op (reads_now keys)) ≡ length keys
as_many [] = refl
as_many (key ∷ keys) = let rest = as_many keys in omega (arith, rest)

around : (first last b : Bool) → first ≡ false → last ≡ false → (first || b || last) ≡ b
around first last b none end = grind (arith, nat_tests)

number_is : (limit : ℕ) (keys : List (List ℕ)) → has_too_many limit (fetch_all_of keys) ≡ nat_lt limit (length keys)
number_is limit keys = grind (arith, nat_tests, around, as_many, le-ltb)

all_named : (keys : List (List ℕ)) → AreNamed keys → list_any (λ (op : Op). is_empty_key (key_of_op op)) (map read_op (reads_now keys)) ≡ false
all_named [] named = refl
all_named (key ∷ keys) named = grind (arith, nat_tests, ne_eqb, all_named keys named.1)

read_clashes : (key : List ℕ) (keys : List (List ℕ)) → list_any (clash (read_op (record { key = key; rev = 0 }))) (map read_op (reads_now keys)) ≡ false
read_clashes key [] = refl
read_clashes key (k ∷ keys) = read_clashes key keys

none_clash : (keys : List (List ℕ)) → has_clash (map read_op (reads_now keys)) ≡ false
none_clash [] = refl
none_clash (key ∷ keys) = ap (λ (b : Bool). b || has_clash (map read_op (reads_now keys))) (read_clashes key keys) ∙ none_clash keys

fault_is : (limit : ℕ) (keys : List (List ℕ)) → AreNamed keys → fault_of limit (fetch_all_of keys) ≡ cond (nat_lt limit (length keys)) (Some TooManyOps) None
fault_is limit keys named = grind (arith, nat_tests, all_named, none_clash, number_is)

-- ---- what it comes to

reached : (terms : Terms) (keys : List (List ℕ)) → AreReached terms (reads_now keys)
reached terms [] = tt
reached terms (key ∷ keys) = (omega arith, refl, reached terms keys)

shown_now : (h : History) (keys : List (List ℕ)) → map (shown h) (reads_now keys) ≡ map (λ a. GetAnswer a) (map (answer_now h) keys)
shown_now h [] = refl
shown_now h (key ∷ keys) = grind (arith, nat_tests, last_revision_is_now, shown_now h keys)

reads_push : (keys : List (List ℕ)) (key : List ℕ) → map read_op (reads_now (keys ++ key ∷ [])) ≡ map read_op (reads_now keys) ++ read_now key ∷ []
reads_push [] key = refl
reads_push (k ∷ keys) key = ap (λ (later : List Op). read_now k ∷ later) (reads_push keys key)

-- one key more is read
pub one_more_read : (keys : List (List ℕ)) (i : ℕ) (key : List ℕ) (ops after : List Op) (op : Op) → i < length keys → key ≡ get_or keys i key
    → ops ≡ map read_op (reads_now (take i keys)) → op ≡ read_now key → after ≡ ops ++ op ∷ [] → after ≡ map read_op (reads_now (take (i + 1) keys))
one_more_read keys i key ops after op below at so_far is pushed =
    let more : take (i + 1) keys ≡ take i keys ++ key ∷ [] =
    take_more keys i key below ∙ ap (λ (k : List ℕ). take i keys ++ k ∷ []) (sym at) in
    pushed ∙ ap (λ (l : List Op). l ++ op ∷ []) so_far ∙ ap (λ (o : Op). map read_op (reads_now (take i keys)) ++ o ∷ []) is
    ∙ sym (reads_push (take i keys) key) ∙ ap (λ (ks : List (List ℕ)). map read_op (reads_now ks)) (sym more)

-- in any store
pub all_come : (terms : Terms) (keys : List (List ℕ)) → AreNamed keys → nat_lt terms.limit (length keys) ≡ false
    → outcome terms (fetch_all_of keys) ≡ Ok (read_out terms.history None (reads_now keys))
all_come terms keys named few =
    reads_change_nothing terms (fetch_all_of keys) (reads_now keys) refl refl
    (fault_is terms.limit keys named ∙ ap (λ (b : Bool). (let o : Option Refusal = cond b (Some TooManyOps) None in o)) few) (reached terms keys)

pub too_many_come : (terms : Terms) (keys : List (List ℕ)) → AreNamed keys → nat_lt terms.limit (length keys) ≡ true
    → outcome terms (fetch_all_of keys) ≡ Err TooManyOps
too_many_come terms keys named many = grind (arith, nat_tests, fault_is)

pub reads_shown : (h : History) (keys : List (List ℕ)) → reads_in (map (shown h) (reads_now keys)) ≡ map (answer_now h) keys
reads_shown h keys = ap reads_in (shown_now h keys) ∙ all_reads (map (answer_now h) keys)

step_alone : Standing → List (List ℕ) → Step TxnAnswer
step_alone s keys = record { answer = (read_out s.history None (reads_now keys)).answer; next = s }

all_come_to : (s : Standing) (keys : List (List ℕ)) (txn : Txn) → txn ≡ fetch_all_of keys → AreNamed keys → nat_lt s.limit (length keys) ≡ false
    → transacted s txn ≡ Ok (step_alone s keys)
unfolding step_alone
all_come_to s keys txn is named few =
    ap (transacted s) is
    ∙ ap (step_of s)
    (reads_change_nothing (terms_of s) (fetch_all_of keys) (reads_now keys) refl refl
    (fault_is s.limit keys named ∙ ap (λ (b : Bool). (let o : Option Refusal = cond b (Some TooManyOps) None in o)) few) (reached (terms_of s) keys))

too_many_come_to : (s : Standing) (keys : List (List ℕ)) (txn : Txn) → txn ≡ fetch_all_of keys → AreNamed keys → nat_lt s.limit (length keys) ≡ true
    → transacted s txn ≡ Err TooManyOps
too_many_come_to s keys txn is named many = grind (arith, nat_tests, fault_is)

-- ---- the transaction is the fetch

reported_by : (s : Standing) (keys : List (List ℕ)) (many : Bool) → nat_lt s.limit (length keys) ≡ many
    → fetch_all_reported s keys ≡ cond many (Err TooManyOps) (Ok (map (answer_now s.history) keys))
reported_by s keys many is = ap (λ (b : Bool). (let r : Result (List ReadAnswer) Refusal = cond b (Err TooManyOps) (Ok (map (answer_now s.history) keys)) in r)) is

-- reads in the form of a transaction's answers
abbrev answered : Standing → List OpAnswer → Step TxnAnswer
answered s answers = record { answer = record { succeeded = true; revision = now s.history; answers = answers; failed = None }; next = s }

read_alone : (s : Standing) (keys : List (List ℕ)) → nat_lt s.limit (length keys) ≡ false → Ok (step_alone s keys) ≡ only_reads s (fetch_all_reported s keys)
unfolding step_alone
read_alone s keys few = grind (arith, nat_tests, shown_now, reported_by)

list_by : (s : Standing) (keys : List (List ℕ)) (many : Bool) → nat_lt s.limit (length keys) ≡ many → AreNamed keys
    → transacted s (fetch_all_of keys) ≡ only_reads s (fetch_all_reported s keys)
list_by s keys true many named =
    too_many_come_to s keys (fetch_all_of keys) refl named many ∙ ap (only_reads s) (sym (reported_by s keys true many))
list_by s keys false few named = all_come_to s keys (fetch_all_of keys) refl named few ∙ read_alone s keys few

pub list_is_one_transaction : ListIsOneTransaction
list_is_one_transaction s keys named = list_by s keys (nat_lt s.limit (length keys)) refl named

-- ---- what was returned

pub record AreRead (s after : Standing) (keys : List (List ℕ)) (answers : List OpAnswer) : Type 0 where
  pub reported : fetch_all_reported s keys ≡ Ok (reads_in answers)
  pub unchanged : after ≡ s

read_by : (s after : Standing) (keys : List (List ℕ)) (txn : Txn) (answer : TxnAnswer) (many : Bool) → nat_lt s.limit (length keys) ≡ many
    → txn ≡ fetch_all_of keys → AreNamed keys → transacted s txn ≡ Ok record { answer = answer; next = after } → AreRead s after keys answer.answers
unfolding step_alone
read_by s after keys txn answer true many is named step =
    let both : Err TooManyOps ≡ Ok (let x : Step TxnAnswer = record { answer = answer; next = after } in x) =
    sym (too_many_come_to s keys txn is named many) ∙ step in
    absurd (cc both)
read_by s after keys txn answer false few is named step =
    let given : Step TxnAnswer = record { answer = answer; next = after } in
    let same : step_alone s keys ≡ given = cc (all_come_to s keys txn is named few) in
    let answers : map (λ a. GetAnswer a) (map (answer_now s.history) keys) ≡ answer.answers =
    sym (shown_now s.history keys) ∙ ap (λ (x : Step TxnAnswer). x.answer.answers) same in
    record {
      reported = ap (λ (b : Bool). cond b (Err TooManyOps) (Ok (map (answer_now s.history) keys))) few
          ∙ ap (λ (reads : List ReadAnswer). (let r : Result (List ReadAnswer) Refusal = Ok reads in r))
          (sym (all_reads (map (answer_now s.history) keys)) ∙ ap reads_in answers);
      unchanged = sym (ap (λ (x : Step TxnAnswer). x.next) same);
    }

pub are_read : (s after : Standing) (keys : List (List ℕ)) (txn : Txn) (answer : TxnAnswer) → txn ≡ fetch_all_of keys → AreNamed keys
    → transacted s txn ≡ Ok record { answer = answer; next = after } → AreRead s after keys answer.answers
are_read s after keys txn answer is named step = read_by s after keys txn answer (nat_lt s.limit (length keys)) refl is named step

refused_by : (s : Standing) (keys : List (List ℕ)) (txn : Txn) (cause : Refusal) (many : Bool) → nat_lt s.limit (length keys) ≡ many
    → txn ≡ fetch_all_of keys → AreNamed keys → IsRefusalOf (transacted s txn) cause → IsRefusalOfAll s keys cause
unfolding step_alone
refused_by s keys txn cause true many is named refused = grind (arith, nat_tests, too_many_come_to)
refused_by s keys txn cause false few is named refused = inl (subst (λ o. IsRefusalOf o cause) (all_come_to s keys txn is named few) refused)

pub all_refused : (s : Standing) (keys : List (List ℕ)) (txn : Txn) (cause : Refusal) → txn ≡ fetch_all_of keys → AreNamed keys
    → IsRefusalOf (transacted s txn) cause → IsRefusalOfAll s keys cause
all_refused s keys txn cause is named refused = refused_by s keys txn cause (nat_lt s.limit (length keys)) refl is named refused

-- the reads of the answer that are returned
pub all_reported : (s after : Standing) (keys : List (List ℕ)) (answers : List OpAnswer) (reads : List ReadAnswer) → AreRead s after keys answers
    → reads ≡ reads_in answers → fetch_all_reported s keys ≡ Ok reads
all_reported s after keys answers reads x same = x.reported ∙ ap (λ (l : List ReadAnswer). (let r : Result (List ReadAnswer) Refusal = Ok l in r)) (sym same)

-- the exit of a refusal
pub refused_with_all : {A : Type 0} (s : Standing) (keys : List (List ℕ)) (result : Result A Refusal) (given cause : Refusal) → result ≡ Err given
    → given ≡ cause → IsRefusalOfAll s keys cause → IfErr result (IsRefusalOfAll s keys)
refused_with_all {A = A} s keys result given cause is same reported = grind (arith, nat_tests)
