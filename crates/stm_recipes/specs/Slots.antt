-- Slots: keys that one holder at a time may have. The programs that reserve and release a slot, each as it would stand in the function
-- that `clientv3/concurrency` has under "STM", and who holds a slot.
use Rattle.std.specs.Prelude.{ℕ, pos, List, codes, Option, option_map}
use Rattle.stm_program.specs.Syntax.{Statement, Block, Text, Number, Get, Rev, Equal, Put, Del, If, Abort, End, Then}
use Rattle.stm_steps.specs.declared.state.StateEntry.{StateEntry}
use Rattle.stm_steps.specs.States.{find_entry}

-- ---- reserve

-- a slot that is held was modified at some revision
abbrev pub refuse_held : List ℕ → Statement
refuse_held slot = If (Equal (Rev (Text slot)) (Number (pos 0))) End (Then (Abort (Text (codes "held"))) End)

-- the slot is the holder's, on a lease (0 for none)
abbrev pub hold : List ℕ → List ℕ → ℕ → Statement
hold slot holder lease = Put (Text slot) (Text holder) lease

unfoldable pub reserve_program : List ℕ → List ℕ → ℕ → Block
reserve_program slot holder lease = Then (refuse_held slot) (Then (hold slot holder lease) End)

-- ---- release

-- the slot is let go by its holder alone
abbrev pub let_go : List ℕ → List ℕ → Statement
let_go slot holder = If (Equal (Get (Text slot)) (Text holder)) (Then (Del (Text slot)) End) (Then (Abort (Text (codes "not held"))) End)

unfoldable pub release_program : List ℕ → List ℕ → Block
release_program slot holder = Then (let_go slot holder) End

-- ---- who holds a slot

abbrev pub holder_in : List StateEntry → List ℕ → Option (List ℕ)
holder_in entries slot = option_map (λ e. e.value) (find_entry slot entries)
