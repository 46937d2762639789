-- What is said of words that spell no recipe: what is allowed.
use Rattle.std.specs.Prelude.{ℕ, List, codes}
use Rattle.stm_recipe_lines.specs.declared.words.RecipeKind.{RecipeKind}
use Rattle.stm_recipe_lines.specs.declared.words.RecipeKind.TheVariants.{Transfer, Deposit, Enqueue, Dequeue, ReserveSlot, ReleaseSlot}
use Rattle.stm_recipe_lines.specs.declared.words.Argument.{Argument}
use Rattle.stm_recipe_lines.specs.declared.words.Argument.TheVariants.{From, To, Account, Queue, Item, Slot, Holder}
use Rattle.stm_recipe_lines.specs.declared.words.WordsFault.{WordsFault}
use Rattle.stm_recipe_lines.specs.declared.words.WordsFault.TheVariants.{UnknownName, Count, Text, Amount, Lease}

abbrev pub arguments_text : RecipeKind → List ℕ
arguments_text Transfer = codes "transfer takes FROM TO AMOUNT"
arguments_text Deposit = codes "deposit takes ACCOUNT AMOUNT"
arguments_text Enqueue = codes "enqueue takes QUEUE ITEM"
arguments_text Dequeue = codes "dequeue takes QUEUE"
arguments_text ReserveSlot = codes "reserve_slot takes SLOT HOLDER LEASE"
arguments_text ReleaseSlot = codes "release_slot takes SLOT HOLDER"

abbrev pub wanted_text : Argument → List ℕ
wanted_text From = codes "FROM has to have 1 to 1024 bytes"
wanted_text To = codes "TO has to have 1 to 1024 bytes"
wanted_text Account = codes "ACCOUNT has to have 1 to 1024 bytes"
wanted_text Queue = codes "QUEUE has to have 1 to 1024 bytes"
wanted_text Item = codes "ITEM has to have 1 to 1024 bytes"
wanted_text Slot = codes "SLOT has to have 1 to 1024 bytes"
wanted_text Holder = codes "HOLDER has to have 1 to 1024 bytes"

abbrev pub fault_text : WordsFault → List ℕ
fault_text UnknownName = codes "NAME has to be transfer, deposit, enqueue, dequeue, reserve_slot or release_slot"
fault_text (Count kind) = arguments_text kind
fault_text (Text argument) = wanted_text argument
fault_text Amount = codes "AMOUNT has to be a whole number from 0 to 4294967295"
fault_text Lease = codes "LEASE has to be a whole number from 0 to 9223372036854775807, 0 for no lease"
