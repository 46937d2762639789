-- The topics of help that are about no command.
use Rattle.std.specs.Prelude.{ℕ, List, [], ◌∷◌, Option, None, Some, if◌then◌else◌, bytes_eq, codes}
use Rattle.stm_arguments.specs.declared.topics.Topic.{Topic}
use Rattle.stm_arguments.specs.declared.topics.Topic.TheVariants.{Language, Formats, Causes}

-- the topic of this name
abbrev pub topic_called : List ℕ → Option Topic
topic_called name =
    if bytes_eq name (codes "language") then Some Language
    else (if bytes_eq name (codes "stm") then Some Language
    else (if bytes_eq name (codes "source") then Some Language
    else (if bytes_eq name (codes "formats") then Some Formats
    else (if bytes_eq name (codes "causes") then Some Causes
    else None))))

-- the topic that a word and a name ask for
abbrev pub topic_by : List ℕ → List ℕ → Option Topic
topic_by word name = if bytes_eq word (codes "help") then topic_called name else None

-- the topic that a command line asks for, whose first word is the program's name
abbrev pub topic_named : List (List ℕ) → Option Topic
topic_named (program ∷ word ∷ name ∷ []) = topic_by word name
topic_named _ = None
