-- A program in braces: the list of keys that it may begin with, and its statements.
use Rattle.std.specs.Prelude.{ℕ, zero, suc, ◌-◌, List, [], ◌∷◌, ◌++◌, length, not, ◌||◌, bytes_eq, nat_eq, nat_le, nat_lt, if◌then◌else◌, Option, Some, None, Result, Ok, Err}
use Rattle.std.specs.List.{list_any}
use Rattle.stm_tokens.specs.declared.token.Token.{Token}
use Rattle.stm_tokens.specs.declared.token.Symbol.TheVariants as symbol
use Rattle.stm_tokens.specs.declared.token.Word.TheVariants as word
use Rattle.stm_program.specs.declared.limits.TheConstants.{MAX_DEPTH, MAX_NODES, MAX_PREFETCH, MAX_TEXT}
use Rattle.stm_program.specs.Limits.{list_fits}
use Rattle.stm_program.specs.Syntax.{Block, ProgramTree}
use Rattle.stm_terms.specs.declared.faults.SourceCause.{SourceCause}
use Rattle.stm_terms.specs.declared.faults.SourceCause.TheVariants as cause
use Rattle.stm_terms.specs.declared.limits.TheConstants.{MOST_BRACKETS, MOST_KEPT}
use Rattle.stm_terms.specs.declared.scope.Scope.{Scope}
use Rattle.stm_terms.specs.Outcome.{Outcome, Read, bad, ◌>>=◌}
use Rattle.stm_terms.specs.Cursor.{place, unexpected, after_symbol, after_word, expect_symbol, skip_semicolon}
use Rattle.stm_terms.specs.declared.arguments.Arguments.{Arguments}
use Rattle.stm_terms.specs.declared.arguments.GivenText.{GivenText}
use Rattle.stm_terms.specs.Literals.{text_given}
use Rattle.stm_terms.specs.Room.{block_room}
use Rattle.stm_terms.specs.Scope.{numbered_from}
use Rattle.stm_source.specs.declared.programs.Look.{Look}
use Rattle.stm_leaving.specs.Source.{Sources}
use Rattle.stm_leaving.specs.Closed.{nothing, closed}
use Rattle.stm_leaving.specs.Written.{is_too_long}
use Rattle.stm_source.specs.Kept.{parts_left}
use Rattle.stm_source.specs.Leaving.{around_all}
use Rattle.stm_source.specs.Statements.{statements_at}

-- ---- the list

-- that a key may come after these; it begins at a byte
abbrev pub known_key : List (List ℕ) → ℕ → List ℕ → Outcome (Unit {0})
known_key keys at key =
    if nat_lt MAX_TEXT (length key) then bad at cause.TooLong
    else (if nat_eq (length key) 0 || list_any (bytes_eq key) keys then bad at cause.Key
    else Ok tt)

-- the same of a key that is not known where a parameter stands for it that may be either
abbrev pub new_key : List (List ℕ) → ℕ → Option (List ℕ) → Outcome (Unit {0})
new_key keys at None = Ok tt
new_key keys at (Some key) = known_key keys at key

abbrev pub key_behind : List (List ℕ) → ℕ → GivenText → List Token → Read (Option (List ℕ))
key_behind keys at key rest =
    if nat_le MAX_PREFETCH (length keys) then bad at cause.TooMany
    else (new_key keys key.at key.text >>= λ u. Ok (key.text, rest))

abbrev pub key_at : Scope → List (List ℕ) → List Token → Read (Option (List ℕ))
key_at scope keys tokens = text_given scope tokens >>= λ x. key_behind keys (place tokens) x.0 x.1

abbrev pub with_key : List (List ℕ) → Option (List ℕ) → List (List ℕ)
with_key keys None = keys
with_key keys (Some key) = keys ++ key ∷ []

abbrev pub keys_behind : (List (List ℕ) → List Token → Read (List (List ℕ))) → List (List ℕ) → List Token → Option (List Token) → Read (List (List ℕ))
keys_behind more keys tokens (Some rest) = more keys rest
keys_behind more keys tokens None = expect_symbol symbol.RightParenthesis tokens >>= λ rest. Ok (keys, rest)

-- keys after these, at most so many
unfoldable pub keys_from : Scope → ℕ → List (List ℕ) → List Token → Read (List (List ℕ))
keys_from scope zero keys tokens = Err (unexpected tokens)
keys_from scope (suc more) keys tokens =
    key_at scope keys tokens >>= λ x. keys_behind (keys_from scope more) (with_key keys x.0) x.1 (after_symbol symbol.Comma x.1)

abbrev pub list_behind : Scope → List Token → Option (List Token) → Read (List (List ℕ))
list_behind scope tokens None = Ok ([], tokens)
list_behind scope tokens (Some rest) =
    expect_symbol symbol.LeftParenthesis rest >>= λ inner. keys_from scope (length inner) [] inner >>= λ x. Ok (x.0, skip_semicolon x.1)

-- the keys of the list, none where there is no list
abbrev pub list_at : Scope → List Token → Read (List (List ℕ))
list_at scope tokens = list_behind scope tokens (after_word word.Prefetch tokens)

-- ---- the program

abbrev pub program_by : ℕ → List (List ℕ) → Block → Result ℕ SourceCause → Outcome ProgramTree
program_by at keys statements (Err c) = bad at c
program_by at keys statements (Ok left) =
    if list_fits keys then Ok (record { statements = statements; prefetch = keys }) else bad at cause.Key

-- the program of a list and of its statements, if these are not too deep and not too many; it begins at a byte
abbrev pub program_in_room : ℕ → List (List ℕ) → Block → Outcome ProgramTree
program_in_room at keys statements = program_by at keys statements (block_room MAX_DEPTH MAX_NODES statements)

-- the same of statements of a source: what follows a statement goes into the branches that come to it. Those that are never reached are counted, too
abbrev pub program_of : ℕ → List (List ℕ) → Sources → Outcome ProgramTree
program_of at keys parts =
    if is_too_long MAX_NODES parts then bad at cause.TooManyNodes
    else (program_in_room at keys (closed parts nothing) >>= λ p. if nat_eq (parts_left MOST_KEPT parts) 0 then bad at cause.TooManyNodes else Ok p)

-- no name of a variable is in sight at its beginning
abbrev pub first_scope : Arguments → Look → List Token → Scope
first_scope arguments look tokens = record {
  numbered = numbered_from 0 tokens;
  takes_else = not (numbered_from 0 tokens);
  names = [];
  kinds = [];
  looks_at_kinds = look.at_kinds;
  kinds_at = look.kinds_at;
  program = look.program;
  room = MOST_KEPT;
  items = [];
  arguments = arguments;
  constants = look.constants;
  runners = look.runners;
}

-- the list and the statements of a program in braces, and the tokens behind it
abbrev pub parts_at : Look → Arguments → List Token → Outcome (List (List ℕ) × Sources × List Token)
parts_at look arguments tokens =
    expect_symbol symbol.LeftBrace tokens >>= λ inner.
    list_at (first_scope arguments look inner) inner >>= λ keys.
    statements_at (MOST_BRACKETS - 1) (around_all look.marks) (first_scope arguments look inner) keys.1 >>= λ b. Ok (keys.0, b.0, b.2)

-- a program in braces
abbrev pub program_at : Look → Arguments → List Token → Read ProgramTree
program_at look arguments tokens = parts_at look arguments tokens >>= λ p. program_of look.program p.0 p.1 >>= λ q. Ok (q, p.2)
