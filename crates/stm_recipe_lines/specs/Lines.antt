-- The line of a recipe: its program as compact JSON.
use Rattle.std.specs.Prelude.{ℕ, ◌≤◌, List, [], ◌∷◌, ◌++◌}
use Rattle.serde_json.specs.Data.{Data}
use Rattle.serde_json.specs.Written.{compact_text}
use Rattle.stm_program.specs.Syntax.{Block, of_statements}
use Rattle.stm_program.specs.declared.limits.TheConstants.{MAX_LEASE}
use Rattle.stm_program_json.specs.Writing.{written_program}
use Rattle.stm_recipes.specs.Names.{IsName}
use Rattle.stm_recipes.specs.Accounts.{transfer_program, deposit_program}
use Rattle.stm_recipes.specs.Queues.{enqueue_program, dequeue_program}
use Rattle.stm_recipes.specs.Slots.{reserve_program, release_program}
use Rattle.stm_recipe_lines.specs.declared.recipe.Recipe.{Recipe}
use Rattle.stm_recipe_lines.specs.declared.recipe.Recipe.TheVariants.{Transfer, Deposit, Enqueue, Dequeue, ReserveSlot, ReleaseSlot}

-- the arguments are such as the recipe takes: texts of 1 to 1024 bytes, and a lease of the language or none
abbrev pub Fits : Recipe → Type 0
Fits (Transfer from to amount) = IsName from.now × IsName to.now
Fits (Deposit account amount) = IsName account.now
Fits (Enqueue queue item) = IsName queue.now × IsName item.now
Fits (Dequeue queue) = IsName queue.now
Fits (ReserveSlot slot holder lease) = IsName slot.now × IsName holder.now × (lease ≤ MAX_LEASE)
Fits (ReleaseSlot slot holder) = IsName slot.now × IsName holder.now

-- the statements of the recipe's program
abbrev pub statements_of : Recipe → Block
statements_of (Transfer from to amount) = transfer_program from.now to.now amount
statements_of (Deposit account amount) = deposit_program account.now amount
statements_of (Enqueue queue item) = enqueue_program queue.now item.now
statements_of (Dequeue queue) = dequeue_program queue.now
statements_of (ReserveSlot slot holder lease) = reserve_program slot.now holder.now lease
statements_of (ReleaseSlot slot holder) = release_program slot.now holder.now

-- a line is compact JSON and a line feed
abbrev pub line_text : Data → List ℕ
line_text d = compact_text d ++ 10 ∷ []

-- the line of a recipe is that of its program, in the one spelling that programs have
unfoldable pub line_of : Recipe → List ℕ
line_of recipe = line_text (written_program (of_statements (statements_of recipe)))
