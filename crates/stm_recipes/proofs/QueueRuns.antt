-- The runs that add an item to a queue and take one.
use Rattle.std.proofs.Common.{◌≡◌, ℕ, ◌<◌, ◌+◌, Bool, true, false, List, [], ◌∷◌, ◌++◌, length, replicate, refl, ◌∙◌, ap, arith, length-append}
use Rattle.std.specs.Prelude.{ℤ, pos, Result, Ok, Err, codes, nat_le, bytes_eq, if◌then◌else◌}
use Rattle.stm_program.specs.Syntax.{Block, Text, Abort, End, Then}
use Rattle.stm_program.specs.Writes.{last_write}
use Rattle.stm_program.specs.declared.operator.Operator.TheVariants.{Add}
use Rattle.stm_history.specs.declared.change.Change.TheVariants.{Put as PutWrite, Del as DelWrite}
use Rattle.stm_steps.specs.declared.value.Value.{Value}
use Rattle.stm_steps.specs.declared.value.Value.TheVariants.{Text as TextValue, Number as NumberValue}
use Rattle.stm_steps.specs.declared.fault.Fault.{Fault}
use Rattle.stm_steps.specs.declared.fault.Fault.TheVariants.{TextTooLong}
use Rattle.stm_steps.specs.Answer.{Lookup}
use Rattle.stm_steps.specs.Values.{put_of, computed, written_number, equal, concatenated, longest_text, text_in}
use Rattle.stm_steps.specs.Session.{Session, fresh, with_variable, with_write, with_output}
use Rattle.stm_steps.specs.Outcome.{Gives, and_then, given}
use Rattle.stm_meaning.specs.Meaning.{evaluate, holds, branch, run_block, run_over}
use Rattle.stm_meaning.specs.Laws.{KnowsEachKey}
use Rattle.stm_meaning.specs.Leaves.{value_in}
use Rattle.stm_recipes.specs.Names.{head_key, tail_key, items_key}
use Rattle.stm_recipes.specs.Accounts.{read_text, zero_if_empty, put_sum}
use Rattle.stm_recipes.specs.Queues.{put_item, enqueue_program, refuse_empty, name_item, emit_item, delete_item, dequeue_program}
use Rattle.stm_recipes.specs.Alone.{aborted, faulted, put_number, put_added, or_zero, put_at, enqueued, emitting, taken_at, taken_or_refused, dequeued}
use Rattle.stm_recipes.specs.Alone.{EnqueueAlone, DequeueAlone}
use Rattle.stm_recipes.proofs.Steps.{deed_in, reported, does, after_get, gotten, number_put, sum_put, is_put, is_deletion, holding, holding_two}
use Rattle.stm_recipes.proofs.Steps.{count_read, second_read, sum_of_first, last_sum}

-- nothing was emitted, and nothing written
abbrev blank : Session → Session
blank s = record s { output = []; writes = [] }

-- the variables after the second
abbrev others : List Value
others = replicate 14 (NumberValue (pos 0))

-- with more after it a name is not empty
long_before : (queue rest : List ℕ) → 0 < length queue → 0 < length (queue ++ rest)
long_before queue rest long = omega (arith, length-append queue rest)

-- ---- enqueue

item_placed : (look : Lookup) (queue item number : List ℕ) (b : Bool) (rest : List Value) (s : Session) → 0 < length queue →
    reported (and_then (and_then (given (if b then Ok (TextValue (items_key queue ++ number)) else Err TextTooLong)
    (holding (TextValue number) rest (blank s)))
    (λ x t. and_then (given (put_of x (TextValue item) 0) t) (λ w u. Gives (tt {0}) (with_write w u))))
    (λ _. run_block look (Then (put_sum (tail_key queue) 1) End)))
    ≡ (if b then put_added (tail_key queue) 1 (PutWrite (items_key queue ++ number) item 0 ∷ []) (written_number number) else faulted TextTooLong [])
item_placed look queue item number true rest s long =
    ap (λ r. reported (and_then (and_then (given r (holding (TextValue number) rest (blank s))) (λ w t. Gives (tt {0}) (with_write w t)))
    (λ _. run_block look (Then (put_sum (tail_key queue) 1) End))))
    (is_put (items_key queue ++ number) item 0 (long_before (items_key queue) number (long_before queue (codes "/") long)))
    ∙ last_sum look (tail_key queue) 1 number rest (with_write (PutWrite (items_key queue ++ number) item 0) (blank s)) (long_before queue (codes "/tail") long)
item_placed look queue item number false rest s long = refl

item_put : (look : Lookup) (queue item number : List ℕ) (rest : List Value) (s : Session) → 0 < length queue →
    reported (run_block look (Then (put_item queue item) (Then (put_sum (tail_key queue) 1) End)) (holding (TextValue number) rest (blank s)))
    ≡ put_at queue item number
unfolding run_block evaluate concatenated
item_put look queue item number rest s long =
    item_placed look queue item number (nat_le (length (items_key queue) + length number) longest_text) rest s long

enqueue_runs : (look : Lookup) → KnowsEachKey look → (queue item : List ℕ) → 0 < length queue →
    deed_in (run_over look (enqueue_program queue item)) ≡ enqueued queue item (value_in look)
unfolding run_over enqueue_program fresh last_write
enqueue_runs look knows queue item long =
    ap reported (count_read look knows (tail_key queue) (NumberValue (pos 0)) (NumberValue (pos 0) ∷ others) fresh
    (Then (put_item queue item) (Then (put_sum (tail_key queue) 1) End)) (long_before queue (codes "/tail") long))
    ∙ item_put look queue item (or_zero (value_in look (tail_key queue))) (NumberValue (pos 0) ∷ others) (after_get look (tail_key queue) fresh) long

pub enqueue_alone : EnqueueAlone
enqueue_alone look queue item knows long =
    does look (enqueue_program queue item) (enqueued queue item (value_in look)) (enqueue_runs look knows queue item long)

-- ---- dequeue

-- a session in which one text was emitted
abbrev reporting : List ℕ → Session → Session
reporting item s = record s { output = TextValue item ∷ [] }

reported_number : (look : Lookup) (item key : List ℕ) (r : Result ℤ Fault) (s : Session) →
    reported (and_then (number_put key r (reporting item s)) (λ _. run_block look End)) ≡ emitting item (put_number key s.writes r)
unfolding run_block
reported_number look item key (Ok z) s = refl
reported_number look item key (Err fault) s = refl

reported_sum : (look : Lookup) (item key : List ℕ) (amount : ℕ) (r : Result ℤ Fault) (s : Session) →
    reported (and_then (sum_put key amount r (reporting item s)) (λ _. run_block look End)) ≡ emitting item (put_added key amount s.writes r)
unfolding computed
reported_sum look item key amount (Ok number) s = reported_number look item key (computed Add number (pos amount)) s
reported_sum look item key amount (Err fault) s = refl

module _ (look : Lookup) (knows : KnowsEachKey look) (queue : List ℕ) (long : 0 < length queue) where
  abbrev advancing : Block
  advancing = Then (put_sum (head_key queue) 1) End

  abbrev deleting : Block
  deleting = Then delete_item advancing

  abbrev emitting_first : Block
  emitting_first = Then emit_item deleting

  abbrev naming : Block
  naming = Then (name_item queue) emitting_first

  abbrev testing : Block
  testing = Then refuse_empty naming

  advanced : (item number : List ℕ) (rest : List Value) (s : Session) →
      reported (run_block look advancing (holding (TextValue number) rest (reporting item s)))
      ≡ emitting item (put_added (head_key queue) 1 s.writes (written_number number))
  unfolding run_block
  advanced item number rest s =
      ap (λ o. reported (and_then o (λ _. run_block look End)))
      (sum_of_first look (head_key queue) 1 number rest (reporting item s) (long_before queue (codes "/head") long))
      ∙ reported_sum look item (head_key queue) 1 (written_number number) (holding (TextValue number) rest s)

  -- the place of the first item is in the third variable
  deleted : (item number place : List ℕ) (y : Value) (rest : List Value) (s : Session) → 0 < length place →
      reported (run_block look deleting (holding (TextValue number) (y ∷ TextValue place ∷ rest) (reporting item (record s { writes = [] }))))
      ≡ emitting item (put_added (head_key queue) 1 (DelWrite place ∷ []) (written_number number))
  unfolding run_block evaluate
  deleted item number place y rest s full =
      ap (λ r. reported (and_then (and_then (given r (holding (TextValue number) (y ∷ TextValue place ∷ rest) (reporting item (record s { writes = [] }))))
      (λ w t. Gives (tt {0}) (with_write w t))) (λ _. run_block look advancing))) (is_deletion place full)
      ∙ advanced item number (y ∷ TextValue place ∷ rest) (record s { writes = DelWrite place ∷ [] })

  emitted : (number place : List ℕ) (y : Value) (rest : List Value) (s : Session) → 0 < length place →
      reported (run_block look emitting_first (holding (TextValue number) (y ∷ TextValue place ∷ rest) (blank s)))
      ≡ emitting (value_in look place) (put_added (head_key queue) 1 (DelWrite place ∷ []) (written_number number))
  unfolding run_block evaluate last_write
  emitted number place y rest s full =
      let before = holding (TextValue number) (y ∷ TextValue place ∷ rest) (blank s) in
      ap (λ o. reported (and_then (and_then o (λ x t. Gives (tt {0}) (with_output x t))) (λ _. run_block look deleting))) (gotten look knows place before full)
      ∙ deleted (value_in look place) number place y rest (after_get look place before) full

  named : (number : List ℕ) (b : Bool) (y z : Value) (rest : List Value) (s : Session) →
      reported (and_then (and_then (given (if b then Ok (TextValue (items_key queue ++ number)) else Err TextTooLong)
      (holding (TextValue number) (y ∷ z ∷ rest) (blank s))) (λ x t. Gives (tt {0}) (with_variable 2 x t))) (λ _. run_block look emitting_first))
      ≡ (if b then emitting (value_in look (items_key queue ++ number))
      (put_added (head_key queue) 1 (DelWrite (items_key queue ++ number) ∷ []) (written_number number)) else faulted TextTooLong [])
  named number true y z rest s =
      emitted number (items_key queue ++ number) y rest s (long_before (items_key queue) number (long_before queue (codes "/") long))
  named number false y z rest s = refl

  tested : (number : List ℕ) (b : Bool) (y z : Value) (rest : List Value) (s : Session) →
      reported (and_then (branch (run_block look (Then (Abort (Text (codes "empty"))) End)) (run_block look End) b
      (holding (TextValue number) (y ∷ z ∷ rest) (blank s))) (λ _. run_block look naming))
      ≡ (if b then aborted (codes "empty") else taken_at queue (value_in look) number)
  unfolding run_block evaluate concatenated text_in
  tested number true y z rest s = refl
  tested number false y z rest s = named number (nat_le (length (items_key queue) + length number) longest_text) y z rest s

  compared : (head tail : List ℕ) (z : Value) (rest : List Value) (s : Session) →
      reported (run_block look testing (holding_two (TextValue head) (TextValue tail) (z ∷ rest) (blank s))) ≡ taken_or_refused queue (value_in look) head tail
  unfolding run_block holds evaluate equal
  compared head tail z rest s = tested head (bytes_eq head tail) (TextValue tail) z rest s

  dequeue_runs : deed_in (run_over look (dequeue_program queue)) ≡ dequeued queue (value_in look)
  unfolding run_over dequeue_program fresh last_write
  dequeue_runs =
      let zero = NumberValue (pos 0) in
      let head = or_zero (value_in look (head_key queue)) in
      let read = after_get look (head_key queue) fresh in
      let both = after_get look (tail_key queue) (holding_two (TextValue head) zero others read) in
      ap reported (count_read look knows (head_key queue) zero (zero ∷ others) fresh
      (Then (read_text 1 (tail_key queue)) (Then (zero_if_empty 1) testing)) (long_before queue (codes "/head") long))
      ∙ ap reported (second_read look knows (tail_key queue) (TextValue head) zero others read testing (long_before queue (codes "/tail") long))
      ∙ compared head (or_zero (value_in look (tail_key queue))) zero (replicate 13 zero) both

pub dequeue_alone : DequeueAlone
dequeue_alone look queue knows long =
    does look (dequeue_program queue) (dequeued queue (value_in look)) (dequeue_runs look knows queue long)
