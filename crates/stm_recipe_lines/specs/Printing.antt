-- What printing a recipe does: from the words that name it to its line in a sink.
use Rattle.std.specs.Prelude.{◌≡◌, ℕ, List, Bool, true, false, Option, Result, Ok, Err}
use Rattle.std.specs.Io.KnownBytes.{Appends, Keeps}
use Rattle.stm_devices.specs.Transfers.{WritesFront}
use Rattle.stm_recipe_lines.specs.declared.printing.RecipeFault.{RecipeFault}
use Rattle.stm_recipe_lines.specs.declared.printing.RecipeFault.TheVariants.{OutOfMemory, Words, Write}
use Rattle.stm_recipe_lines.specs.declared.recipe.Recipe.{Recipe}
use Rattle.stm_recipe_lines.specs.declared.words.WordsFault.{WordsFault}
use Rattle.stm_recipe_lines.specs.Lines.{line_of}

-- what writing a recipe's line does: what the sink held before and holds, whether it has failed then, and the answer
abbrev pub Writes : {A : Type 0} → Recipe → Option (List ℕ) → Option (List ℕ) → Bool → Result A RecipeFault → Type 0
Writes recipe before after failed (Ok u) = (failed ≡ false) × Appends before after (line_of recipe)
Writes recipe before after failed (Err OutOfMemory) = (failed ≡ false) × Keeps before after
Writes recipe before after failed (Err Write) = (failed ≡ true) × WritesFront before after (line_of recipe)
Writes recipe before after failed (Err (Words fault)) = ⊥

-- the same of words, by what was read of them: a recipe's line, or what is wrong, and nothing written
abbrev pub Prints : {A : Type 0} → Result Recipe WordsFault → Option (List ℕ) → Option (List ℕ) → Bool → Result A RecipeFault → Type 0
Prints (Ok recipe) before after failed result = Writes recipe before after failed result
Prints (Err fault) before after failed result = (result ≡ Err (Words fault)) × (failed ≡ false) × Keeps before after
