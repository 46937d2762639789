-- What the statements of the recipes come to, each over a look-up that knows every key.
use Rattle.std.proofs.Common.{◌≡◌, ℕ, ◌<◌, List, [], ◌∷◌, length, refl, sym, ◌∙◌, ap}
use Rattle.std.specs.Prelude.{ℤ, pos, Result, Ok, Err}
use Rattle.std.specs.Fmt.{signed_decimal}
use Rattle.stm_program.specs.Syntax.{Expression, Block, Text, Number, Variable, Get, Arithmetic, TextOf, NumOf, Put, End, Then}
use Rattle.stm_program.specs.declared.operator.Operator.TheVariants.{Add}
use Rattle.stm_history.specs.declared.change.Change.TheVariants.{Put as PutWrite, Del}
use Rattle.stm_steps.specs.declared.value.Value.{Value}
use Rattle.stm_steps.specs.declared.value.Value.TheVariants.{Text as TextValue, Number as NumberValue}
use Rattle.stm_steps.specs.declared.fault.Fault.{Fault}
use Rattle.stm_steps.specs.declared.stop.Stop.TheVariants.{Faulted as FaultedStop}
use Rattle.stm_steps.specs.declared.run.Answered.{Answered}
use Rattle.stm_steps.specs.declared.run.Answered.TheVariants.{Ended, Wants}
use Rattle.stm_steps.specs.Answer.{Lookup}
use Rattle.stm_steps.specs.Values.{key_in, put_of, del_of, num_of, text_of, arithmetic, computed, as_number, written_number, equal}
use Rattle.stm_steps.specs.Session.{Session, with_variable, with_write}
use Rattle.stm_steps.specs.Outcome.{Outcome, Gives, Stops, and_then, given}
use Rattle.stm_meaning.specs.Meaning.{evaluate, holds, run_statement, run_block, run_over, answered, get_key, rev_key}
use Rattle.stm_meaning.specs.Laws.{KnowsEachKey}
use Rattle.stm_meaning.specs.Leaves.{value_in, mod_rev_in, value_after, trace_after_get, reads_after_get, trace_after_rev, reads_after_rev}
use Rattle.stm_meaning.proofs.LeafLaws.{get_gives, rev_gives, texts_are_keys}
use Rattle.stm_recipes.specs.Accounts.{read_text, zero_if_empty, put_sum}
use Rattle.stm_recipes.specs.Alone.{Deed, deed_of, done, Does, put_number, put_added, or_zero}

-- ---- what a run did

abbrev pub deed_in : Answered → Deed
deed_in (Ended run) = deed_of run
deed_in (Wants key trace) = done []

-- what a run did that ended with such an outcome
abbrev pub reported : Outcome (Unit {0}) → Deed
reported outcome = deed_in (answered outcome)

pub does : (look : Lookup) (program : Block) (deed : Deed) → deed_in (run_over look program) ≡ deed → Does look program deed
does look program deed e run ended = sym (ap deed_in ended) ∙ e

-- ---- keys

pub is_key : (key : List ℕ) → 0 < length key → key_in (TextValue key) ≡ Ok key
is_key key long = (texts_are_keys key [] 0 long).0

pub is_put : (key value : List ℕ) (lease : ℕ) → 0 < length key → put_of (TextValue key) (TextValue value) lease ≡ Ok (PutWrite key value lease)
is_put key value lease long = (texts_are_keys key value lease long).1

pub is_deletion : (key : List ℕ) → 0 < length key → del_of (TextValue key) ≡ Ok (Del key)
is_deletion key long = (texts_are_keys key [] 0 long).2

-- ---- reads

abbrev pub after_get : Lookup → List ℕ → Session → Session
after_get look key s = record s { trace = trace_after_get look key s; reads = reads_after_get key s }

abbrev pub after_rev : Lookup → List ℕ → Session → Session
after_rev look key s = record s { trace = trace_after_rev look key s; reads = reads_after_rev key s }

pub gotten : (look : Lookup) → KnowsEachKey look → (key : List ℕ) (s : Session) → 0 < length key →
    and_then (given (key_in (TextValue key)) s) (get_key look) ≡ Gives (TextValue (value_after s.writes (value_in look) key)) (after_get look key s)
gotten look knows key s long = ap (λ r. and_then (given r s) (get_key look)) (is_key key long) ∙ get_gives look knows key s

pub text_of_key : (look : Lookup) → KnowsEachKey look → (key : List ℕ) (s : Session) → 0 < length key →
    evaluate look (Get (Text key)) s ≡ Gives (TextValue (value_after s.writes (value_in look) key)) (after_get look key s)
unfolding evaluate
text_of_key look knows key s long = gotten look knows key s long

pub number_of_key : (look : Lookup) → KnowsEachKey look → (key : List ℕ) (s : Session) → 0 < length key →
    evaluate look (NumOf (Get (Text key))) s ≡ given (as_number (written_number (value_after s.writes (value_in look) key))) (after_get look key s)
unfolding evaluate num_of
number_of_key look knows key s long = ap (λ o. and_then o (λ x. given (num_of x))) (gotten look knows key s long)

pub rev_of_key : (look : Lookup) → KnowsEachKey look → (key : List ℕ) (s : Session) → 0 < length key →
    and_then (given (key_in (TextValue key)) s) (rev_key look) ≡ Gives (NumberValue (pos (mod_rev_in look key))) (after_rev look key s)
rev_of_key look knows key s long = ap (λ r. and_then (given r s) (rev_key look)) (is_key key long) ∙ rev_gives look knows key s

-- ---- puts of numbers

-- a number is put as the value of a key, or the run ends
abbrev pub number_put : List ℕ → Result ℤ Fault → Session → Outcome (Unit {0})
number_put key (Ok z) s = Gives tt (with_write (PutWrite key (signed_decimal z) 0) s)
number_put key (Err fault) s = Stops (FaultedStop fault) s

abbrev put_value : List ℕ → Value → Session → Outcome (Unit {0})
put_value key y s = and_then (given (put_of (TextValue key) y 0) s) (λ w t. Gives tt (with_write w t))

pub number_is_put : (key : List ℕ) (r : Result ℤ Fault) (s : Session) → 0 < length key →
    and_then (and_then (given (as_number r) s) (λ x. given (text_of x))) (put_value key) ≡ number_put key r s
unfolding text_of
number_is_put key (Ok z) s long = ap (λ r. and_then (given r s) (λ w t. Gives tt (with_write w t))) (is_put key (signed_decimal z) 0 long)
number_is_put key (Err fault) s long = refl

-- an amount is added to a number, and the sum put
abbrev pub sum_put : List ℕ → ℕ → Result ℤ Fault → Session → Outcome (Unit {0})
sum_put key amount (Ok number) s = number_put key (computed Add number (pos amount)) s
sum_put key amount (Err fault) s = Stops (FaultedStop fault) s

abbrev plus : ℕ → Outcome Value → Outcome Value
plus amount o = and_then o (λ x t. given (arithmetic Add x (NumberValue (pos amount))) t)

sum_is_put : (key : List ℕ) (amount : ℕ) (r : Result ℤ Fault) (s : Session) → 0 < length key →
    and_then (and_then (plus amount (given (as_number r) s)) (λ x. given (text_of x))) (put_value key) ≡ sum_put key amount r s
unfolding arithmetic
sum_is_put key amount (Ok number) s long = number_is_put key (computed Add number (pos amount)) s long
sum_is_put key amount (Err fault) s long = refl

-- a put of a sum, by what its number comes to
pub put_of_sum : (look : Lookup) (key : List ℕ) (amount : ℕ) (e : Expression) (r : Result ℤ Fault) (s t : Session) → 0 < length key →
    evaluate look e s ≡ given (as_number r) t →
    run_statement look (Put (Text key) (TextOf (Arithmetic Add e (Number (pos amount)))) 0) s ≡ sum_put key amount r t
unfolding run_block evaluate
put_of_sum look key amount e r s t long is =
    ap (λ o. and_then (and_then (plus amount o) (λ x. given (text_of x))) (put_value key)) is ∙ sum_is_put key amount r t long

-- ---- the end of a run that puts a sum

-- a session in which nothing was emitted
abbrev pub silent : Session → Session
silent s = record s { output = [] }

reported_number : (look : Lookup) (key : List ℕ) (r : Result ℤ Fault) (s : Session) →
    reported (and_then (number_put key r (silent s)) (λ _. run_block look End)) ≡ put_number key s.writes r
unfolding run_block
reported_number look key (Ok z) s = refl
reported_number look key (Err fault) s = refl

pub reported_sum : (look : Lookup) (key : List ℕ) (amount : ℕ) (r : Result ℤ Fault) (s : Session) →
    reported (and_then (sum_put key amount r (silent s)) (λ _. run_block look End)) ≡ put_added key amount s.writes r
unfolding computed
reported_sum look key amount (Ok number) s = reported_number look key (computed Add number (pos amount)) s
reported_sum look key amount (Err fault) s = refl

-- ---- counters

abbrev pub holding : Value → List Value → Session → Session
holding x rest s = record s { variables = x ∷ rest }

abbrev pub holding_two : Value → Value → List Value → Session → Session
holding_two x y rest s = record s { variables = x ∷ y ∷ rest }

-- an empty text counts as "0"
pub zero_for_empty : (look : Lookup) (v : List ℕ) (rest : List Value) (s : Session) (more : Block) →
    run_block look (Then (zero_if_empty 0) more) (holding (TextValue v) rest s) ≡ run_block look more (holding (TextValue (or_zero v)) rest s)
unfolding run_block holds evaluate equal
zero_for_empty look [] rest s more = refl
zero_for_empty look (c ∷ cs) rest s more = refl

pub zero_for_second : (look : Lookup) (x : Value) (v : List ℕ) (rest : List Value) (s : Session) (more : Block) →
    run_block look (Then (zero_if_empty 1) more) (holding_two x (TextValue v) rest s) ≡ run_block look more (holding_two x (TextValue (or_zero v)) rest s)
unfolding run_block holds evaluate equal
zero_for_second look x [] rest s more = refl
zero_for_second look x (c ∷ cs) rest s more = refl

-- what a key holds is read, and counts as "0" where it is empty
pub count_read : (look : Lookup) → KnowsEachKey look → (key : List ℕ) (x : Value) (rest : List Value) (s : Session) (more : Block) → 0 < length key →
    run_block look (Then (read_text 0 key) (Then (zero_if_empty 0) more)) (holding x rest s) ≡ run_block look more
    (holding (TextValue (or_zero (value_after s.writes (value_in look) key))) rest (after_get look key (holding x rest s)))
unfolding run_block
count_read look knows key x rest s more long =
    ap (λ o. and_then (and_then o (λ y t. Gives tt (with_variable 0 y t))) (λ _. run_block look (Then (zero_if_empty 0) more)))
    (text_of_key look knows key (holding x rest s) long)
    ∙ zero_for_empty look (value_after s.writes (value_in look) key) rest (after_get look key (holding x rest s)) more

pub second_read : (look : Lookup) → KnowsEachKey look → (key : List ℕ) (x y : Value) (rest : List Value) (s : Session) (more : Block) → 0 < length key →
    run_block look (Then (read_text 1 key) (Then (zero_if_empty 1) more)) (holding_two x y rest s) ≡ run_block look more
    (holding_two x (TextValue (or_zero (value_after s.writes (value_in look) key))) rest (after_get look key (holding_two x y rest s)))
unfolding run_block
second_read look knows key x y rest s more long =
    ap (λ o. and_then (and_then o (λ z t. Gives tt (with_variable 1 z t))) (λ _. run_block look (Then (zero_if_empty 1) more)))
    (text_of_key look knows key (holding_two x y rest s) long)
    ∙ zero_for_second look x (value_after s.writes (value_in look) key) rest (after_get look key (holding_two x y rest s)) more

-- the sum of the first variable and an amount is put
pub sum_of_first : (look : Lookup) (key : List ℕ) (amount : ℕ) (t : List ℕ) (rest : List Value) (s : Session) → 0 < length key →
    run_statement look (put_sum key amount) (holding (TextValue t) rest s) ≡ sum_put key amount (written_number t) (holding (TextValue t) rest s)
unfolding evaluate num_of
sum_of_first look key amount t rest s long =
    put_of_sum look key amount (NumOf (Variable 0)) (written_number t) (holding (TextValue t) rest s) (holding (TextValue t) rest s) long refl

-- a run that ends with such a sum
pub last_sum : (look : Lookup) (key : List ℕ) (amount : ℕ) (t : List ℕ) (rest : List Value) (s : Session) → 0 < length key →
    reported (run_block look (Then (put_sum key amount) End) (holding (TextValue t) rest (silent s))) ≡ put_added key amount s.writes (written_number t)
unfolding run_block
last_sum look key amount t rest s long =
    ap (λ o. reported (and_then o (λ _. run_block look End))) (sum_of_first look key amount t rest (silent s) long)
    ∙ reported_sum look key amount (written_number t) (holding (TextValue t) rest s)
