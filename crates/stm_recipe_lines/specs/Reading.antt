-- The recipe that words spell, or what is wrong with them first.
use Rattle.std.specs.Prelude.{ℕ, nat_lt, nat_le, Bool, ◌&&◌, if◌then◌else◌, List, length, Option, None, Some, Result, Ok, Err, codes}
use Rattle.std.specs.Borrow.{Bor}
use Rattle.std.specs.Str.{all_ascii_digits, bytes_eq}
use Rattle.std.specs.Str.Parse.{digits_value, without_leading_plus}
use Rattle.stm_program.specs.declared.limits.TheConstants.{MAX_LEASE}
use Rattle.stm_recipes.specs.declared.names.TheConstants.{MAX_NAME}
use Rattle.stm_recipe_lines.specs.declared.recipe.Recipe.{Recipe}
use Rattle.stm_recipe_lines.specs.declared.recipe.Recipe.TheVariants.{Transfer, Deposit, Enqueue, Dequeue, ReserveSlot, ReleaseSlot}
use Rattle.stm_recipe_lines.specs.declared.words.RecipeKind.{RecipeKind}
use Rattle.stm_recipe_lines.specs.declared.words.RecipeKind.TheVariants as kind
use Rattle.stm_recipe_lines.specs.declared.words.Argument.{Argument}
use Rattle.stm_recipe_lines.specs.declared.words.Argument.TheVariants.{From, To, Account, Queue, Item, Slot, Holder}
use Rattle.stm_recipe_lines.specs.declared.words.WordsFault.{WordsFault}
use Rattle.stm_recipe_lines.specs.declared.words.WordsFault.TheVariants.{UnknownName, Count, Text, Amount, Lease}
use Rattle.stm_recipe_lines.specs.declared.words.RecipeWords.{RecipeWords}

-- a word of a command line
abbrev pub Word : Type 0
Word = Bor (List ℕ)

-- the next step, where nothing was wrong so far
abbrev pub and_then : {A B : Type 0} → Result A WordsFault → (A → Result B WordsFault) → Result B WordsFault
and_then (Ok x) step = step x
and_then (Err fault) step = Err fault

-- ---- names

unfoldable pub recipe_named : List ℕ → Option RecipeKind
recipe_named name =
    if bytes_eq name (codes "transfer") then Some kind.Transfer
    else (if bytes_eq name (codes "deposit") then Some kind.Deposit
    else (if bytes_eq name (codes "enqueue") then Some kind.Enqueue
    else (if bytes_eq name (codes "dequeue") then Some kind.Dequeue
    else (if bytes_eq name (codes "reserve_slot") then Some kind.ReserveSlot
    else (if bytes_eq name (codes "release_slot") then Some kind.ReleaseSlot
    else None)))))

-- ---- arguments

-- a text of 1 to 1024 bytes
unfoldable pub text_in : Argument → Word → Result Word WordsFault
text_in argument word = if nat_lt 0 (length word.now) && nat_le (length word.now) MAX_NAME then Ok word else Err (Text argument)

-- one decimal digit or more, and nothing else; zeros may lead
abbrev pub is_numeral : List ℕ → Bool
is_numeral digits = nat_lt 0 (length digits) && all_ascii_digits digits

abbrev pub up_to : ℕ → WordsFault → ℕ → Result ℕ WordsFault
up_to most fault number = if nat_le number most then Ok number else Err fault

-- the number that digits write, where it is at most this
abbrev pub number_of : ℕ → WordsFault → List ℕ → Result ℕ WordsFault
number_of most fault digits = if is_numeral digits then up_to most fault (digits_value 10 digits) else Err fault

-- a `+` may stand before the digits
unfoldable pub amount_in : List ℕ → Result ℕ WordsFault
amount_in word = number_of 4294967295 Amount (without_leading_plus word)

unfoldable pub lease_in : List ℕ → Result ℕ WordsFault
lease_in word = number_of MAX_LEASE Lease (without_leading_plus word)

-- ---- a recipe's arguments, in their order

unfoldable pub transfer_of : Word → Word → List ℕ → Result Recipe WordsFault
transfer_of from to amount =
    and_then (text_in From from) (λ payer. and_then (text_in To to) (λ paid. and_then (amount_in amount) (λ number. Ok (Transfer payer paid number))))

unfoldable pub deposit_of : Word → List ℕ → Result Recipe WordsFault
deposit_of account amount = and_then (text_in Account account) (λ paid. and_then (amount_in amount) (λ number. Ok (Deposit paid number)))

unfoldable pub enqueue_of : Word → Word → Result Recipe WordsFault
enqueue_of queue item = and_then (text_in Queue queue) (λ name. and_then (text_in Item item) (λ text. Ok (Enqueue name text)))

unfoldable pub dequeue_of : Word → Result Recipe WordsFault
dequeue_of queue = and_then (text_in Queue queue) (λ name. Ok (Dequeue name))

unfoldable pub reserve_of : Word → Word → List ℕ → Result Recipe WordsFault
reserve_of slot holder lease =
    and_then (text_in Slot slot) (λ key. and_then (text_in Holder holder) (λ name. and_then (lease_in lease) (λ number. Ok (ReserveSlot key name number))))

unfoldable pub release_of : Word → Word → Result Recipe WordsFault
release_of slot holder = and_then (text_in Slot slot) (λ key. and_then (text_in Holder holder) (λ name. Ok (ReleaseSlot key name)))

-- ---- how many there are

unfoldable pub transfer_in : Option Word → Option Word → Option Word → Result Recipe WordsFault
transfer_in (Some from) (Some to) (Some amount) = transfer_of from to amount.now
transfer_in (Some from) (Some to) None = Err (Count kind.Transfer)
transfer_in (Some from) None third = Err (Count kind.Transfer)
transfer_in None second third = Err (Count kind.Transfer)

unfoldable pub deposit_in : Option Word → Option Word → Option Word → Result Recipe WordsFault
deposit_in (Some account) (Some amount) None = deposit_of account amount.now
deposit_in (Some account) (Some amount) (Some more) = Err (Count kind.Deposit)
deposit_in (Some account) None third = Err (Count kind.Deposit)
deposit_in None second third = Err (Count kind.Deposit)

unfoldable pub enqueue_in : Option Word → Option Word → Option Word → Result Recipe WordsFault
enqueue_in (Some queue) (Some item) None = enqueue_of queue item
enqueue_in (Some queue) (Some item) (Some more) = Err (Count kind.Enqueue)
enqueue_in (Some queue) None third = Err (Count kind.Enqueue)
enqueue_in None second third = Err (Count kind.Enqueue)

unfoldable pub dequeue_in : Option Word → Option Word → Option Word → Result Recipe WordsFault
dequeue_in (Some queue) None None = dequeue_of queue
dequeue_in (Some queue) None (Some more) = Err (Count kind.Dequeue)
dequeue_in (Some queue) (Some more) third = Err (Count kind.Dequeue)
dequeue_in None second third = Err (Count kind.Dequeue)

unfoldable pub reserve_in : Option Word → Option Word → Option Word → Result Recipe WordsFault
reserve_in (Some slot) (Some holder) (Some lease) = reserve_of slot holder lease.now
reserve_in (Some slot) (Some holder) None = Err (Count kind.ReserveSlot)
reserve_in (Some slot) None third = Err (Count kind.ReserveSlot)
reserve_in None second third = Err (Count kind.ReserveSlot)

unfoldable pub release_in : Option Word → Option Word → Option Word → Result Recipe WordsFault
release_in (Some slot) (Some holder) None = release_of slot holder
release_in (Some slot) (Some holder) (Some more) = Err (Count kind.ReleaseSlot)
release_in (Some slot) None third = Err (Count kind.ReleaseSlot)
release_in None second third = Err (Count kind.ReleaseSlot)

-- ---- the words

unfoldable pub recipe_of : Option RecipeKind → RecipeWords → Result Recipe WordsFault
recipe_of None words = Err UnknownName
recipe_of (Some kind.Transfer) words = transfer_in words.first words.second words.third
recipe_of (Some kind.Deposit) words = deposit_in words.first words.second words.third
recipe_of (Some kind.Enqueue) words = enqueue_in words.first words.second words.third
recipe_of (Some kind.Dequeue) words = dequeue_in words.first words.second words.third
recipe_of (Some kind.ReserveSlot) words = reserve_in words.first words.second words.third
recipe_of (Some kind.ReleaseSlot) words = release_in words.first words.second words.third

-- the name is looked at first, then how many arguments there are, then these in their order
abbrev pub recipe_in : RecipeWords → Result Recipe WordsFault
recipe_in words = recipe_of (recipe_named words.name.now) words
