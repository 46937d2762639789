-- What a command line asks for, by what `clap` has found in it: rows, each with the name of an argument and the words that stand there.
use Rattle.std.specs.Prelude.{◌≡◌, ◌≤◌, List, [], ◌∷◌, Bool, true, false, ◌||◌, bytes_eq, Option, None, Some, codes, map, option_map, string_bytes, unwrap_or}
use Rattle.std.specs.Borrow.{Bor}
use Rattle.clap.specs.Words.{Row, Text, all_of, first_of, subcommand_rows_of}
use Rattle.clap.specs.declared.parser.matches.ArgMatches.{ArgMatches}
use Rattle.stm_recipe_lines.specs.declared.words.RecipeWords.{RecipeWords}
use Rattle.stm_arguments.specs.Levels.{LevelAt, LevelsAt}
use Rattle.stm_arguments.specs.Numbers.{AttemptsAt, BudgetAt, NumberAt, RunsAt, WidthAt}
use Rattle.stm_arguments.specs.declared.numbers.TheConstants.{MOST_WORKERS}
use Rattle.stm_arguments.specs.declared.arguments.Asked.{Asked}
use Rattle.stm_arguments.specs.declared.arguments.Asked.TheVariants.{Script, Check, Threads, Recipe, Explore, Audit, Show, Compile, Run, Store}
use Rattle.stm_arguments.specs.declared.auditing.AuditWords.{AuditWords}
use Rattle.stm_arguments.specs.declared.checking.CheckWords.{CheckWords}
use Rattle.stm_arguments.specs.declared.compiling.CompileWords.{CompileWords}
use Rattle.stm_arguments.specs.declared.exploring.ExploreWords.{ExploreWords}
use Rattle.stm_arguments.specs.declared.running.RunWords.{RunWords}
use Rattle.stm_arguments.specs.declared.scripting.ScriptWords.{ScriptWords}
use Rattle.stm_arguments.specs.declared.showing.ShowWords.{ShowWords}
use Rattle.stm_arguments.specs.declared.storing.StoreWords.{StoreWords}
use Rattle.stm_arguments.specs.declared.storing.Shown.{Shown}
use Rattle.stm_arguments.specs.declared.storing.Shown.TheVariants.{Compacted, Now, At, Since, Whole}
use Rattle.stm_arguments.specs.declared.storing.Which.{Which}
use Rattle.stm_arguments.specs.declared.storing.Which.TheVariants.{All, Key, Range}
use Rattle.stm_arguments.specs.declared.threading.ThreadsWords.{ThreadsWords}

-- the flag is set of which this word, if any, was found
abbrev pub is_set : Option Text → Bool
is_set None = false
is_set (Some text) = bytes_eq text (codes "true") || bytes_eq text (codes "always")

-- the words of an argument that may be there several times
abbrev pub words_at : Text → List Row → List Text
words_at name rows = unwrap_or (all_of name rows) []

-- this is the word of an argument, if it has one
abbrev pub HasWord : List Row → Text → Option (Bor Text) → Type 0
HasWord rows name word = option_map (λ w. w.now) word ≡ first_of name rows

-- this is whether the flag is set
abbrev pub HasFlag : List Row → Text → Bool → Type 0
HasFlag rows name flag = flag ≡ is_set (first_of name rows)

abbrev pub IsScript : List Row → ScriptWords → Type 0
IsScript rows words =
    HasWord rows (codes "store") words.store × HasWord rows (codes "FILE") words.scenario × HasWord rows (codes "format") words.format
    × WidthAt (first_of (codes "width") rows) words.width × HasFlag rows (codes "explain") words.explain

abbrev pub IsCheck : List Row → CheckWords → Type 0
IsCheck rows words =
    HasWord rows (codes "SCENARIO") (Some words.scenario) × HasWord rows (codes "REPORT") (Some words.report)
    × HasFlag rows (codes "whole") words.whole × HasFlag rows (codes "explain") words.explain

abbrev pub IsThreads : List Row → ThreadsWords → Type 0
IsThreads rows words =
    HasWord rows (codes "store") words.store × HasWord rows (codes "FILE") words.scenario × NumberAt (first_of (codes "workers") rows) words.workers
    × (1 ≤ words.workers) × (words.workers ≤ MOST_WORKERS)
    × HasFlag rows (codes "ends") words.ends × RunsAt (first_of (codes "repeat") rows) words.repeat
    × HasWord rows (codes "format") words.format × HasFlag rows (codes "explain") words.explain

abbrev pub IsRecipe : List Row → RecipeWords → Type 0
IsRecipe rows words =
    HasWord rows (codes "NAME") (Some words.name) × HasWord rows (codes "FIRST") words.first
    × HasWord rows (codes "SECOND") words.second × HasWord rows (codes "THIRD") words.third

abbrev pub IsExplore : List Row → ExploreWords → Type 0
IsExplore rows words =
    HasWord rows (codes "SCENARIO") (Some words.scenario) × (map (λ w. w.now) words.keeps.items ≡ words_at (codes "keeps") rows)
    × LevelsAt (first_of (codes "level") rows) words.levels × BudgetAt (first_of (codes "budget") rows) words.budget
    × HasWord rows (codes "after") words.after × HasFlag rows (codes "witness") words.witness × HasFlag rows (codes "serial") words.serial
    × HasFlag rows (codes "strict") words.strict × HasWord rows (codes "format") words.format × WidthAt (first_of (codes "width") rows) words.width
    × HasFlag rows (codes "explain") words.explain

abbrev pub IsAudit : List Row → AuditWords → Type 0
IsAudit rows words =
    HasWord rows (codes "FILE") words.trace × HasWord rows (codes "format") words.format × HasFlag rows (codes "explain") words.explain

abbrev pub IsShow : List Row → ShowWords → Type 0
IsShow rows words =
    HasWord rows (codes "FILE") words.input × HasFlag rows (codes "program") words.program × HasFlag rows (codes "explain") words.explain

-- with the arguments of the program behind its name
abbrev pub IsCompile : List Row → List Text → CompileWords → Type 0
IsCompile rows arguments words =
    HasWord rows (codes "FILE") words.source × HasWord rows (codes "NAME") words.program × (map string_bytes words.arguments.now ≡ arguments)
    × HasFlag rows (codes "explain") words.explain

abbrev pub IsRun : List Row → List Text → RunWords → Type 0
IsRun rows arguments words =
    HasWord rows (codes "store") (Some words.store) × HasWord rows (codes "FILE") words.input × HasWord rows (codes "NAME") words.program
    × (map string_bytes words.arguments.now ≡ arguments) × LevelAt (first_of (codes "level") rows) words.level
    × AttemptsAt (first_of (codes "attempts") rows) words.attempts × HasFlag rows (codes "explain") words.explain

-- the two keys of a range
abbrev pub range_in : List Text → Option (Text × Text)
range_in (first ∷ end ∷ []) = Some (first, end)
range_in _ = None

-- one key, else the keys of a range, else all
abbrev pub IsWhich : List Row → Which → Type 0
IsWhich rows (Key key) = HasWord rows (codes "key") (Some key)
IsWhich rows (Range first end) = (first_of (codes "key") rows ≡ None) × (range_in (words_at (codes "range") rows) ≡ Some (first.now, end.now))
IsWhich rows All = (first_of (codes "key") rows ≡ None) × (range_in (words_at (codes "range") rows) ≡ None)

-- whether the file is whole, else the keys at a revision, else the events since one, else what there is now
abbrev pub IsShown : List Row → Shown → Type 0
IsShown rows Whole = is_set (first_of (codes "check") rows) ≡ true
IsShown rows (Compacted from) =
    (is_set (first_of (codes "check") rows) ≡ false) × (is_set (first_of (codes "compact") rows) ≡ true) × HasWord rows (codes "since") from
IsShown rows (At revision) =
    (is_set (first_of (codes "check") rows) ≡ false) × (is_set (first_of (codes "compact") rows) ≡ false) × HasWord rows (codes "at") (Some revision)
IsShown rows (Since revision which) =
    (is_set (first_of (codes "check") rows) ≡ false) × (is_set (first_of (codes "compact") rows) ≡ false) × (first_of (codes "at") rows ≡ None)
    × HasWord rows (codes "since") (Some revision) × IsWhich rows which
IsShown rows Now =
    (is_set (first_of (codes "check") rows) ≡ false) × (is_set (first_of (codes "compact") rows) ≡ false) × (first_of (codes "at") rows ≡ None)
    × (first_of (codes "since") rows ≡ None)

abbrev pub IsStore : List Row → StoreWords → Type 0
IsStore rows words =
    HasWord rows (codes "FILE") (Some words.store) × HasWord rows (codes "format") words.format × IsShown rows words.shown

-- a command of this name, with what was found of it and the arguments of a program behind it, asks for this
abbrev pub AsksAt : Text → List Row → List Text → Asked → Type 0
AsksAt name rows arguments (Script words) = (name ≡ codes "script") × IsScript rows words
AsksAt name rows arguments (Check words) = (name ≡ codes "check") × IsCheck rows words
AsksAt name rows arguments (Threads words) = (name ≡ codes "threads") × IsThreads rows words
AsksAt name rows arguments (Recipe words) = (name ≡ codes "recipe") × IsRecipe rows words
AsksAt name rows arguments (Explore words) = (name ≡ codes "explore") × IsExplore rows words
AsksAt name rows arguments (Audit words) = (name ≡ codes "audit") × IsAudit rows words
AsksAt name rows arguments (Show words) = (name ≡ codes "show") × IsShow rows words
AsksAt name rows arguments (Compile words) = (name ≡ codes "compile") × IsCompile rows arguments words
AsksAt name rows arguments (Run words) = (name ≡ codes "run") × IsRun rows arguments words
AsksAt name rows arguments (Store words) = (name ≡ codes "store") × IsStore rows words

-- the same, of the command that was found, with its name
abbrev pub AsksBy : Option (Text × List Row) → List Text → Asked → Type 0
AsksBy None arguments asked = ⊥
AsksBy (Some named) arguments asked = AsksAt named.0 named.1 arguments asked

-- this is asked for by something that `clap` may find in a command line
abbrev pub IsAsked : List Text → Asked → Type 0
IsAsked arguments asked = (found : ArgMatches) × AsksBy (subcommand_rows_of found) arguments asked
