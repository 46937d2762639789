-- Where a statement may leave its block, and how statements end.
use Rattle.std.specs.Prelude.{ℕ, Bool, true, false, Option, Some, None, Ok, if◌then◌else◌}
use Rattle.stm_tokens.specs.declared.token.Word.{Word}
use Rattle.stm_tokens.specs.declared.token.Word.TheVariants as word
use Rattle.stm_tokens.specs.Same.{same_word}
use Rattle.stm_terms.specs.declared.faults.SourceCause.{SourceCause}
use Rattle.stm_terms.specs.declared.faults.SourceCause.TheVariants as cause
use Rattle.stm_terms.specs.Outcome.{Outcome, bad}
use Rattle.stm_leaving.specs.Source as tree
use Rattle.stm_leaving.specs.Source.{Source}
use Rattle.stm_source.specs.declared.leaving.Around.{Around}
use Rattle.stm_source.specs.declared.leaving.Loops.{Loops}
use Rattle.stm_source.specs.declared.leaving.Loops.TheVariants.{Program, Items, Turns, ItemsOfTurns}
use Rattle.stm_source.specs.declared.leaving.Leave.{Leave}
use Rattle.stm_source.specs.declared.leaving.Leave.TheVariants.{Return, Break, Continue}
use Rattle.stm_source.specs.declared.leaving.Ending.{Ending}
use Rattle.stm_source.specs.declared.leaving.Ending.TheVariants.{GoesOn, Leaves, Aborts}

-- nothing may stand behind it; behind an `abort` something may
abbrev pub is_left : Ending → Bool
is_left GoesOn = false
is_left Leaves = true
is_left Aborts = false

-- a choice ends where both of its blocks do
abbrev pub choice_ending : Ending → Ending → Ending
choice_ending GoesOn other = GoesOn
choice_ending Aborts other = other
choice_ending Leaves GoesOn = GoesOn
choice_ending Leaves Leaves = Leaves
choice_ending Leaves Aborts = Leaves

abbrev pub around_all : Bool → Around
around_all marks = record { loops = Program; marks = marks }

abbrev pub in_turns : Around → Around
in_turns around = record { loops = Turns; marks = around.marks }

abbrev pub items_in : Loops → Loops
items_in Program = Items
items_in Items = Items
items_in Turns = ItemsOfTurns
items_in ItemsOfTurns = ItemsOfTurns

abbrev pub in_items : Around → Around
in_items around = record { loops = items_in around.loops; marks = around.marks }

abbrev pub leave_word : Word → Option Leave
leave_word w =
    if same_word w word.Return then Some Return
    else (if same_word w word.Break then Some Break
    else (if same_word w word.Continue then Some Continue
    else None))

-- a `break` and a `continue` stand in a loop, and no `return` and no `break` leaves a counted loop
abbrev pub leave_fault : Loops → Leave → Option SourceCause
leave_fault Program Return = None
leave_fault Items Return = None
leave_fault Turns Return = Some cause.Return
leave_fault ItemsOfTurns Return = Some cause.Return
leave_fault Program Break = Some cause.Syntax
leave_fault Items Break = None
leave_fault Turns Break = Some cause.Return
leave_fault ItemsOfTurns Break = None
leave_fault Program Continue = Some cause.Syntax
leave_fault Items Continue = None
leave_fault Turns Continue = None
leave_fault ItemsOfTurns Continue = None

abbrev pub part_of : Leave → Source
part_of Return = tree.Return
part_of Break = tree.Break
part_of Continue = tree.Continue

abbrev pub leaving_by : Leave → ℕ → Option SourceCause → Outcome Source
leaving_by leave at (Some c) = bad at c
leaving_by leave at None = Ok (part_of leave)

-- it begins at a byte
abbrev pub leaving_part : Around → Leave → ℕ → Outcome Source
leaving_part around leave at = leaving_by leave at (leave_fault around.loops leave)
