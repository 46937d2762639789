-- Queues: items under the numbers from a head up to a tail. The programs that add and take an item, each as it would stand in the function
-- that `clientv3/concurrency` has under "STM", and the items of a queue.
use Rattle.std.specs.Prelude.{ℕ, ◌+◌, ◌-◌, nat_le, suc, zero, pos, negsuc, ℤ, List, [], ◌∷◌, ◌++◌, codes, Option, None, Some, option_map, if◌then◌else◌}
use Rattle.std.specs.Prelude.{Result, Ok, Err}
use Rattle.std.specs.Fmt.{decimal}
use Rattle.stm_program.specs.Syntax.{Expression, Statement, Block, Text, Variable, Get, Cat, Equal, Set, Put, Del, If, Emit, Abort, End, Then}
use Rattle.stm_steps.specs.declared.fault.Fault.{Fault}
use Rattle.stm_steps.specs.declared.state.StateEntry.{StateEntry}
use Rattle.stm_steps.specs.States.{find_entry}
use Rattle.stm_steps.specs.Values.{written_number}
use Rattle.stm_recipes.specs.Names.{head_key, tail_key, items_key}
use Rattle.stm_recipes.specs.Accounts.{read_text, zero_if_empty, put_sum}

-- ---- enqueue

-- the key of the item whose number was read
abbrev pub item_place : List ℕ → Expression
item_place queue = Cat (Text (items_key queue)) (Variable 0)

abbrev pub put_item : List ℕ → List ℕ → Statement
put_item queue item = Put (item_place queue) (Text item) 0

unfoldable pub enqueue_program : List ℕ → List ℕ → Block
enqueue_program queue item =
    Then (read_text 0 (tail_key queue)) (Then (zero_if_empty 0) (Then (put_item queue item) (Then (put_sum (tail_key queue) 1) End)))

-- ---- dequeue

abbrev pub refuse_empty : Statement
refuse_empty = If (Equal (Variable 0) (Variable 1)) (Then (Abort (Text (codes "empty"))) End) End

abbrev pub name_item : List ℕ → Statement
name_item queue = Set 2 (item_place queue)

abbrev pub emit_item : Statement
emit_item = Emit (Get (Variable 2))

abbrev pub delete_item : Statement
delete_item = Del (Variable 2)

unfoldable pub dequeue_program : List ℕ → Block
dequeue_program queue =
    Then (read_text 0 (head_key queue)) (Then (zero_if_empty 0) (Then (read_text 1 (tail_key queue)) (Then (zero_if_empty 1)
    (Then refuse_empty (Then (name_item queue) (Then emit_item (Then delete_item (Then (put_sum (head_key queue) 1) End))))))))

-- ---- the items of a queue

abbrev pub number_or_none : Result ℤ Fault → Option ℕ
number_or_none (Ok (pos n)) = Some n
number_or_none (Ok (negsuc n)) = None
number_or_none (Err fault) = None

-- head and tail are 0 where they are absent
abbrev pub mark_of : Option StateEntry → Option ℕ
mark_of None = Some 0
mark_of (Some e) = number_or_none (written_number e.value)

-- the item of a number, where there is one
abbrev pub item_at : List StateEntry → List ℕ → ℕ → Option (List ℕ)
item_at entries queue number = option_map (λ e. e.value) (find_entry (items_key queue ++ decimal number) entries)

abbrev pub item_before : Option (List ℕ) → Option (List (List ℕ)) → Option (List (List ℕ))
item_before None rest = None
item_before (Some item) None = None
item_before (Some item) (Some items) = Some (item ∷ items)

-- this many items, from a number on
abbrev pub items_from : List StateEntry → List ℕ → ℕ → ℕ → Option (List (List ℕ))
items_from entries queue first zero = Some []
items_from entries queue first (suc left) = item_before (item_at entries queue first) (items_from entries queue (first + 1) left)

abbrev pub items_between : List StateEntry → List ℕ → Option ℕ → Option ℕ → Option (List (List ℕ))
items_between entries queue None tail = None
items_between entries queue (Some head) None = None
items_between entries queue (Some head) (Some tail) = if nat_le head tail then items_from entries queue head (tail - head) else None

-- the items from head up to the one before tail; none where one of these is no number or negative, head is above tail, or an item
-- between is absent
abbrev pub queue_items_of : List StateEntry → List ℕ → Option (List (List ℕ))
queue_items_of entries queue = items_between entries queue (mark_of (find_entry (head_key queue) entries)) (mark_of (find_entry (tail_key queue) entries))
