-- What the recipes do alone. Each is said by cases on what its keys hold, for any look-up that knows every key, such as a state.
use Rattle.std.specs.Prelude.{◌≡◌, ℕ, ◌<◌, ◌+◌, nat_le, nat_eq, bytes_eq, int_lt, if◌then◌else◌, ℤ, pos, ◌+ℤ◌, ◌-ℤ◌, List, [], ◌∷◌, ◌++◌, length, codes}
use Rattle.std.specs.Prelude.{Result, Ok, Err, true, false}
use Rattle.std.specs.Fmt.{signed_decimal}
use Rattle.stm_program.specs.Syntax.{Block}
use Rattle.stm_history.specs.declared.change.Change.{Change}
use Rattle.stm_history.specs.declared.change.Change.TheVariants.{Put, Del}
use Rattle.stm_steps.specs.declared.fault.Fault.{Fault}
use Rattle.stm_steps.specs.declared.fault.Fault.TheVariants.{Overflow, TextTooLong}
use Rattle.stm_steps.specs.declared.value.Value.{Value}
use Rattle.stm_steps.specs.declared.value.Value.TheVariants.{Text}
use Rattle.stm_steps.specs.declared.run.End.{End}
use Rattle.stm_steps.specs.declared.run.End.TheVariants.{Done, Aborted, Faulted}
use Rattle.stm_steps.specs.declared.run.Run.{Run}
use Rattle.stm_steps.specs.declared.run.Answered.TheVariants.{Ended}
use Rattle.stm_steps.specs.Answer.{Lookup}
use Rattle.stm_steps.specs.Values.{written_number, number_or, is_in_range, longest_text}
use Rattle.stm_meaning.specs.Meaning.{run_over}
use Rattle.stm_meaning.specs.Laws.{KnowsEachKey}
use Rattle.stm_meaning.specs.Leaves.{value_in, mod_rev_in, value_after}
use Rattle.stm_recipes.specs.Names.{head_key, tail_key, items_key}
use Rattle.stm_recipes.specs.Accounts.{transfer_program, deposit_program}
use Rattle.stm_recipes.specs.Queues.{enqueue_program, dequeue_program}
use Rattle.stm_recipes.specs.Slots.{reserve_program, release_program}

-- what a run does: its end, what it emits and what it writes
pub record Deed : Type 0 where
  pub end : End
  pub output : List Value
  pub writes : List Change

abbrev pub deed_of : Run → Deed
deed_of run = record { end = run.end; output = run.output; writes = run.writes }

abbrev pub done : List Change → Deed
done writes = record { end = Done; output = []; writes = writes }

-- no recipe aborts after a write
abbrev pub aborted : List ℕ → Deed
aborted cause = record { end = Aborted cause; output = []; writes = [] }

-- a fault ends the run, with the writes that were made until then
abbrev pub faulted : Fault → List Change → Deed
faulted fault writes = record { end = Faulted fault; output = []; writes = writes }

-- whenever the program is run over the look-up, it does this
abbrev pub Does : Lookup → Block → Deed → Type 0
Does look program deed = (run : Run) → run_over look program ≡ Ended run → deed_of run ≡ deed

-- ---- sums

-- after these writes a sum is put as the value of a key, or it is out of range
abbrev pub put_number : List ℕ → List Change → Result ℤ Fault → Deed
put_number key writes (Ok sum) = done (writes ++ Put key (signed_decimal sum) 0 ∷ [])
put_number key writes (Err fault) = faulted fault writes

-- after these writes an amount is added to a number, or there is no number
abbrev pub put_added : List ℕ → ℕ → List Change → Result ℤ Fault → Deed
put_added key amount writes (Ok number) = put_number key writes (number_or Overflow (number +ℤ pos amount))
put_added key amount writes (Err fault) = faulted fault writes

-- what counts for an absent key, or for one with an empty value
abbrev pub or_zero : List ℕ → List ℕ
or_zero [] = codes "0"
or_zero (c ∷ cs) = c ∷ cs

-- ---- accounts

-- the first account has at least the amount; the second is looked at after the first is written
abbrev pub moved : List ℕ → List ℕ → ℕ → (List ℕ → List ℕ) → ℤ → Deed
moved from to amount values balance =
    let writes = Put from (signed_decimal (balance -ℤ pos amount)) 0 ∷ [] in
    put_added to amount writes (written_number (value_after writes values to))

abbrev pub moved_or_refused : List ℕ → List ℕ → ℕ → (List ℕ → List ℕ) → Result ℤ Fault → Deed
moved_or_refused from to amount values (Ok balance) =
    if int_lt balance (pos amount) then aborted (codes "insufficient") else moved from to amount values balance
moved_or_refused from to amount values (Err fault) = faulted fault []

abbrev pub transferred : List ℕ → List ℕ → ℕ → (List ℕ → List ℕ) → Deed
transferred from to amount values = moved_or_refused from to amount values (written_number (values from))

abbrev pub deposited : List ℕ → ℕ → (List ℕ → List ℕ) → Deed
deposited account amount values = put_added account amount [] (written_number (or_zero (values account)))

-- ---- queues

-- the item is put under the number that the tail has, and the tail is raised by one
abbrev pub put_at : List ℕ → List ℕ → List ℕ → Deed
put_at queue item number =
    if nat_le (length (items_key queue) + length number) longest_text
    then put_added (tail_key queue) 1 (Put (items_key queue ++ number) item 0 ∷ []) (written_number number)
    else faulted TextTooLong []

abbrev pub enqueued : List ℕ → List ℕ → (List ℕ → List ℕ) → Deed
enqueued queue item values = put_at queue item (or_zero (values (tail_key queue)))

abbrev pub emitting : List ℕ → Deed → Deed
emitting item deed = record deed { output = Text item ∷ [] }

-- the item under the number that the head has is emitted and deleted, and the head is raised by one
abbrev pub taken_at : List ℕ → (List ℕ → List ℕ) → List ℕ → Deed
taken_at queue values number =
    if nat_le (length (items_key queue) + length number) longest_text
    then emitting (values (items_key queue ++ number)) (put_added (head_key queue) 1 (Del (items_key queue ++ number) ∷ []) (written_number number))
    else faulted TextTooLong []

abbrev pub taken_or_refused : List ℕ → (List ℕ → List ℕ) → List ℕ → List ℕ → Deed
taken_or_refused queue values head tail = if bytes_eq head tail then aborted (codes "empty") else taken_at queue values head

abbrev pub dequeued : List ℕ → (List ℕ → List ℕ) → Deed
dequeued queue values = taken_or_refused queue values (or_zero (values (head_key queue))) (or_zero (values (tail_key queue)))

-- ---- slots

abbrev pub reserved : List ℕ → List ℕ → ℕ → (List ℕ → ℕ) → Deed
reserved slot holder lease mod_revs = if nat_eq (mod_revs slot) 0 then done (Put slot holder lease ∷ []) else aborted (codes "held")

abbrev pub released : List ℕ → List ℕ → (List ℕ → List ℕ) → Deed
released slot holder values = if bytes_eq (values slot) holder then done (Del slot ∷ []) else aborted (codes "not held")

-- ---- laws

abbrev pub TransferAlone : Type 0
TransferAlone = (look : Lookup) (from to : List ℕ) (amount : ℕ) → KnowsEachKey look → 0 < length from → 0 < length to →
    Does look (transfer_program from to amount) (transferred from to amount (value_in look))

abbrev pub DepositAlone : Type 0
DepositAlone = (look : Lookup) (account : List ℕ) (amount : ℕ) → KnowsEachKey look → 0 < length account →
    Does look (deposit_program account amount) (deposited account amount (value_in look))

abbrev pub ReserveAlone : Type 0
ReserveAlone = (look : Lookup) (slot holder : List ℕ) (lease : ℕ) → KnowsEachKey look → 0 < length slot →
    Does look (reserve_program slot holder lease) (reserved slot holder lease (mod_rev_in look))

abbrev pub ReleaseAlone : Type 0
ReleaseAlone = (look : Lookup) (slot holder : List ℕ) → KnowsEachKey look → 0 < length slot →
    Does look (release_program slot holder) (released slot holder (value_in look))

abbrev pub EnqueueAlone : Type 0
EnqueueAlone = (look : Lookup) (queue item : List ℕ) → KnowsEachKey look → 0 < length queue →
    Does look (enqueue_program queue item) (enqueued queue item (value_in look))

abbrev pub DequeueAlone : Type 0
DequeueAlone = (look : Lookup) (queue : List ℕ) → KnowsEachKey look → 0 < length queue →
    Does look (dequeue_program queue) (dequeued queue (value_in look))

-- ---- transfers that can be paid

-- one account pays another: both sums are put
abbrev pub PaysAnother : Type 0
PaysAnother = (from to : List ℕ) (amount : ℕ) (values : List ℕ → List ℕ) (balance other : ℤ) →
    bytes_eq from to ≡ false → written_number (values from) ≡ Ok balance → written_number (values to) ≡ Ok other →
    int_lt balance (pos amount) ≡ false → is_in_range (other +ℤ pos amount) ≡ true →
    transferred from to amount values
    ≡ done (Put from (signed_decimal (balance -ℤ pos amount)) 0 ∷ Put to (signed_decimal (other +ℤ pos amount)) 0 ∷ [])

-- an account that pays itself ends with the number that it had
abbrev pub PaysItself : Type 0
PaysItself = (account : List ℕ) (amount : ℕ) (values : List ℕ → List ℕ) (balance : ℤ) →
    written_number (values account) ≡ Ok balance → int_lt balance (pos amount) ≡ false →
    transferred account account amount values
    ≡ done (Put account (signed_decimal (balance -ℤ pos amount)) 0 ∷ Put account (signed_decimal balance) 0 ∷ [])
