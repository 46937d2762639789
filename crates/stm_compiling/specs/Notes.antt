-- What is said of that for which a scenario has no place.
use Rattle.std.specs.Prelude.{ℕ, List, ◌++◌, map, Bool, if◌then◌else◌, codes, decimal}
use Rattle.stm_program_source.specs.Texts.{joined}
use Rattle.stm_source.specs.declared.story.Wait.{Wait}
use Rattle.stm_source.specs.declared.story.Rule.{Rule}

-- the word with which it begins
abbrev pub rule_word : Bool → List ℕ
rule_word is_final = if is_final then codes "finally " else codes "rule "

abbrev pub unasked : List ℕ → List ℕ → List ℕ
unasked word name = codes "stmrun: " ++ word ++ name ++ codes " is not asked\n"

-- a rule that is not asked
abbrev pub rule_note : Rule → List ℕ
rule_note rule = unasked (rule_word rule.is_final) rule.name

-- a runner that begins behind the end of another one, where nothing makes it wait
abbrev pub wait_note : Wait → List ℕ
wait_note wait = codes "stmrun: runner " ++ decimal wait.runner ++ codes " does not wait for runner " ++ decimal wait.ended ++ codes "\n"

-- one line for each, in their order
abbrev pub notes_of : List Rule → List Wait → List ℕ
notes_of rules waits = joined (map rule_note rules) ++ joined (map wait_note waits)
