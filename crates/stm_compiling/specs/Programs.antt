-- A rule of a source, by its name, or a program, by its name and its arguments: what the source has with one more line behind it, which starts the program.
use Rattle.std.specs.Prelude.{ℕ, suc, ◌+◌, ◌-◌, List, [], ◌∷◌, ◌++◌, length, map, take, drop, Bool, true, false, ◌&&◌, nat_eq, nat_le, nat_lt, bytes_eq, if◌then◌else◌, find, Option, Some, None, Ok, Err, codes, slice_get}
use Rattle.json.specs.Print.{quoted}
use Rattle.stm_events.specs.declared.event.WorldEvent.{WorldEvent}
use Rattle.stm_events.specs.declared.event.WorldEvent.TheVariants.{Start}
use Rattle.stm_program_json.specs.Writing.{written_program}
use Rattle.stm_program_source.specs.Texts.{separated}
use Rattle.stm_report_lines.specs.Text.{line_text}
use Rattle.stm_source.specs.Sources.{scenario_in}
use Rattle.stm_source.specs.declared.story.Rule.{Rule}
use Rattle.stm_source.specs.Wanted.{kinds_wanted}
use Rattle.stm_terms.specs.declared.kinds.Kind.{Kind}
use Rattle.stm_terms.specs.declared.kinds.Kind.TheVariants as wanted
use Rattle.stm_terms.specs.Outcome.{Outcome, bad, ◌>>=◌}
use Rattle.stm_terms.specs.declared.faults.SourceCause.TheVariants as cause
use Rattle.stm_tokens.specs.Numbers.{number_length, value_from}
use Rattle.stm_tokens.specs.Tokens.{tokens_in}
use Rattle.stm_tokens.specs.declared.token.Token.{Token}
use Rattle.stm_tokens.specs.declared.token.TokenKind.{TokenKind}
use Rattle.stm_tokens.specs.declared.token.TokenKind.TheVariants as kind
use Rattle.stm_compiling.specs.Wholes.{rules_in}

-- ---- arguments, as they stand in a source

-- the digits are a number as a source has it, from one to another
abbrev pub is_number_in : ℕ → ℕ → List ℕ → Bool
is_number_in least most digits =
    nat_lt 0 (length digits)
    && (nat_eq (number_length digits) (length digits) && (nat_le least (value_from 0 digits) && nat_le (value_from 0 digits) most))

-- a whole number of 64 bits, by its spelling (45: `-`)
abbrev pub is_whole : List ℕ → Bool
is_whole [] = false
is_whole (b ∷ bs) = if nat_eq b 45 then is_number_in 1 9223372036854775808 bs else is_number_in 0 9223372036854775807 (b ∷ bs)

-- a number where it is spelled as one, else a text
abbrev pub argument : List ℕ → List ℕ
argument word = if is_whole word then word else quoted word

-- how many words stand before the first `--text`
abbrev pub before_mark : List (List ℕ) → ℕ
before_mark [] = 0
before_mark (w ∷ ws) = if bytes_eq w (codes "--text") then 0 else suc (before_mark ws)

-- a text where it has to be one
abbrev pub argument_of : Option Kind → List ℕ → List ℕ
argument_of (Some wanted.Text) word = quoted word
argument_of (Some wanted.Number) word = argument word
argument_of (Some wanted.Either) word = argument word
argument_of None word = argument word

-- words from a place on, of which these have to be of these kinds
abbrev pub arguments_from : List Kind → ℕ → List (List ℕ) → List (List ℕ)
arguments_from kinds place [] = []
arguments_from kinds place (w ∷ ws) = argument_of (slice_get kinds place) w ∷ arguments_from kinds (place + 1) ws

-- behind `--text` each word is a text
abbrev pub arguments : List Kind → List (List ℕ) → List (List ℕ)
arguments kinds words = arguments_from kinds 0 (take (before_mark words) words) ++ map quoted (drop (before_mark words + 1) words)

-- ---- the program

-- the end of a source's last line (10: LF), where it has none
abbrev pub end_by : Option ℕ → List ℕ
end_by None = []
end_by (Some b) = if nat_eq b 10 then [] else codes "\n"

abbrev pub end_of : List ℕ → List ℕ
end_of source = end_by (slice_get source (length source - 1))

-- the line that starts a program whose arguments have to be of these kinds
abbrev pub start_line : List Kind → List ℕ → List (List ℕ) → List ℕ
start_line kinds name words = codes "start " ++ name ++ codes "(" ++ separated (codes ", ") (arguments kinds words) ++ codes ")\n"

abbrev pub started : List ℕ → List ℕ → List (List ℕ) → List ℕ
started source name words = (source ++ end_of source) ++ start_line (kinds_wanted source name) name words

-- where that line begins
abbrev pub start_at : List ℕ → ℕ
start_at source = length source + length (end_of source)

abbrev pub is_name_token : TokenKind → Bool
is_name_token (kind.Name name) = true
is_name_token _ = false

abbrev pub is_one_name : List Token → Bool
is_one_name (t ∷ (e ∷ [])) = is_name_token t.kind
is_one_name _ = false

abbrev pub is_name : List ℕ → Bool
is_name name = is_one_name (tokens_in name)

-- the line of a program that is started
abbrev pub line_of_start : ℕ → Option WorldEvent → Outcome (List ℕ)
line_of_start at (Some (Start program level limit)) = Ok (line_text (written_program program))
line_of_start at _ = bad at cause.Syntax

-- the line of the program that the last line of a text starts, where it has a name; that line begins at a byte, and the name 6 bytes behind it
abbrev pub line_behind : ℕ → List ℕ → List ℕ → Outcome (List ℕ)
line_behind at name text =
    (if is_name name then scenario_in text else bad (at + 6) cause.Name) >>= λ s. line_of_start at (slice_get s.events (length s.events - 1))

-- the rule of a name, where there is one
abbrev pub rule_named : List ℕ → List Rule → Option Rule
rule_named name rules = find (λ r. bytes_eq r.name name) rules

-- the line of a rule, which takes no arguments: else it is the name that is wrong in the last line of a text, which begins at a byte
abbrev pub line_of_rule : ℕ → Rule → List (List ℕ) → Outcome (List ℕ)
line_of_rule at rule words =
    if nat_eq (length (arguments [] words)) 0 then Ok (line_text (written_program rule.program)) else bad (at + 6) cause.Arguments

abbrev pub line_by : Option Rule → ℕ → List ℕ → List (List ℕ) → List ℕ → Outcome (List ℕ)
line_by (Some rule) at name words text = line_of_rule at rule words
line_by None at name words text = line_behind at name text

-- the line of a rule, or else of the program that the last line of a text starts
abbrev pub line_named : ℕ → List Rule → List ℕ → List (List ℕ) → List ℕ → Outcome (List ℕ)
line_named at rules name words text = line_by (rule_named name rules) at name words text

-- The rule or program of a name as one line of compact JSON; of a program, the last start of the source with one more line behind it. The source's own
-- fault comes first.
abbrev pub program_line_in : List ℕ → List ℕ → List (List ℕ) → Outcome (List ℕ)
program_line_in source name words = rules_in source >>= λ rules. line_named (start_at source) rules name words (started source name words)

-- the text in which its fault stands: the source, where that has one, else it with the line behind it
abbrev pub text_read : {A : Type 0} → Outcome A → List ℕ → List ℕ → List ℕ
text_read (Err fault) source longer = source
text_read (Ok rules) source longer = longer
