-- The levels of a command line.
use Rattle.std.specs.Prelude.{◌≡◌, List, ℕ, bytes_eq, if◌then◌else◌, Option, None, Some, codes, option_map}
use Rattle.stm_program.specs.declared.level.Level.{Level}
use Rattle.stm_program.specs.declared.level.Level.TheVariants.{SerializableSnapshot, Serializable, RepeatableReads, ReadCommitted}
use Rattle.stm_arguments.specs.declared.levels.Levels.{Levels}
use Rattle.stm_arguments.specs.declared.levels.Levels.TheVariants.{Own, One, All}

-- the level of a name
abbrev pub level_named : List ℕ → Option Level
level_named name =
    if bytes_eq name (codes "SerializableSnapshot") then Some SerializableSnapshot
    else (if bytes_eq name (codes "Serializable") then Some Serializable
    else (if bytes_eq name (codes "RepeatableReads") then Some RepeatableReads
    else (if bytes_eq name (codes "ReadCommitted") then Some ReadCommitted
    else None)))

-- the level that a word names, SerializableSnapshot where there is none
abbrev pub LevelAt : Option (List ℕ) → Level → Type 0
LevelAt None level = level ≡ SerializableSnapshot
LevelAt (Some name) level = level_named name ≡ Some level

-- the levels of a name: that of a level, or all
abbrev pub levels_named : List ℕ → Option Levels
levels_named name = if bytes_eq name (codes "all") then Some All else option_map One (level_named name)

-- the levels that a word names, each start's own where there is none
abbrev pub LevelsAt : Option (List ℕ) → Levels → Type 0
LevelsAt None levels = levels ≡ Own
LevelsAt (Some name) levels = levels_named name ≡ Some levels
