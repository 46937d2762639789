-- A source: the scenario that it spells, or its first fault.
use Rattle.std.specs.Prelude.{ℕ, zero, suc, List, [], ◌∷◌, length, Bool, true, false, Option, Some, None, Ok, Err, nat_lt, if◌then◌else◌}
use Rattle.std.specs.Str.{is_utf8}
use Rattle.std.specs.Str.Lossy.{utf8_valid_len}
use Rattle.stm_json.specs.declared.limits.TheConstants.{MOST_BYTES}
use Rattle.stm_tokens.specs.Tokens.{tokens_in}
use Rattle.stm_tokens.specs.declared.token.Token.{Token}
use Rattle.stm_tokens.specs.declared.token.Word.TheVariants as word
use Rattle.stm_tokens.specs.declared.token.TokenKind.{TokenKind}
use Rattle.stm_tokens.specs.declared.token.TokenKind.TheVariants as kind
use Rattle.stm_texts.specs.declared.scenario.Scenario.{Scenario}
use Rattle.stm_terms.specs.declared.faults.SourceCause.TheVariants as cause
use Rattle.stm_source.specs.declared.definitions.Definitions.{Definitions}
use Rattle.stm_source.specs.declared.sources.Source.{Source}
use Rattle.stm_source.specs.declared.story.Story.{Story}
use Rattle.stm_source.specs.declared.story.TheConstants.{MOST_BULK}
use Rattle.stm_source.specs.declared.words.EventWord.{EventWord}
use Rattle.stm_terms.specs.Outcome.{Outcome, bad, ◌>>=◌}
use Rattle.stm_terms.specs.Cursor.{unexpected, after_word, next_name}
use Rattle.stm_terms.specs.Constants.{no_constants}
use Rattle.stm_source.specs.Constants.{define_constant_at}
use Rattle.stm_source.specs.Definitions.{define_at}
use Rattle.stm_source.specs.Events.{event_at}
use Rattle.stm_source.specs.Rules.{rule_at}
use Rattle.stm_source.specs.Words.{event_word}

abbrev pub is_end : TokenKind → Bool
is_end kind.End = true
is_end _ = false

abbrev pub at_end : List Token → Bool
at_end [] = false
at_end (t ∷ ts) = is_end t.kind

-- `all` are the tokens of the whole source
abbrev pub worded : List Token → Definitions → Story → List Token → List Token → Option EventWord → Outcome (Story × List Token)
worded all definitions story tokens rest None = Err (unexpected tokens)
worded all definitions story tokens rest (Some w) = event_at all definitions story w tokens rest

abbrev pub event_item_by : List Token → Definitions → Story → List Token → Option (List ℕ × List Token) → Outcome (Story × List Token)
event_item_by all definitions story tokens None = Err (unexpected tokens)
event_item_by all definitions story tokens (Some p) = worded all definitions story tokens p.1 (event_word p.0)

abbrev pub event_item_at : List Token → Definitions → Story → List Token → Outcome (Story × List Token)
event_item_at all definitions story tokens = event_item_by all definitions story tokens (next_name tokens)

-- what an item leaves, and the tokens behind it
abbrev pub Item : Type 0
Item = Outcome (Definitions × Story × List Token)

abbrev pub item_by : List Token → Definitions → Story → List Token → Option (List Token) → Option (List Token) → Option (List Token) → Option (List Token) → Item
item_by all definitions story tokens (Some rest) program rule final = define_constant_at definitions rest >>= λ d. Ok (d.0, story, d.1)
item_by all definitions story tokens None (Some rest) rule final = define_at definitions rest >>= λ d. Ok (d.0, story, d.1)
item_by all definitions story tokens None None (Some rest) final = rule_at all definitions story false rest
item_by all definitions story tokens None None None (Some rest) = rule_at all definitions story true rest
item_by all definitions story tokens None None None None = event_item_at all definitions story tokens >>= λ e. Ok (definitions, e.0, e.1)

abbrev pub item_at : List Token → Definitions → Story → List Token → Item
item_at all definitions story tokens =
    item_by all definitions story tokens (after_word word.Let tokens) (after_word word.Program tokens) (after_word word.Rule tokens)
    (after_word word.Finally tokens)

-- what the items that are left define and add, at most so many
unfoldable pub items_from : List Token → ℕ → Definitions → Story → List Token → Outcome (Definitions × Story)
items_from all zero definitions story tokens = Err (unexpected tokens)
items_from all (suc more) definitions story tokens =
    if at_end tokens then Ok (definitions, story) else (item_at all definitions story tokens >>= λ x. items_from all more x.0 x.1 x.2)

abbrev pub no_definitions : Definitions
no_definitions = record { names = []; meanings = []; constants = no_constants; room = MOST_BULK }

abbrev pub empty_story : Story
empty_story = record {
  opening = None;
  has_events = false;
  events = [];
  runners = 0;
  names = [];
  numbers = [];
  waits = [];
  rules = [];
  room = MOST_BULK;
  event_room = MOST_BULK;
}

abbrev pub as_source : Story → Source
as_source story = record {
  scenario = record { opening = story.opening; events = story.events };
  rules = story.rules;
  waits = story.waits;
  names = story.names;
  numbers = story.numbers;
}

-- what tokens spell
unfoldable pub source_at : List Token → Outcome Source
source_at tokens = items_from tokens (length tokens) no_definitions empty_story tokens >>= λ x. Ok (as_source x.1)

-- what bytes spell
unfoldable pub source_in : List ℕ → Outcome Source
source_in bytes =
    if nat_lt MOST_BYTES (length bytes) then bad 0 cause.TooLong
    else (if is_utf8 bytes then source_at (tokens_in bytes) else bad (utf8_valid_len bytes) cause.NotUtf8)

-- the scenario that they spell
unfoldable pub scenario_in : List ℕ → Outcome Scenario
scenario_in bytes = source_in bytes >>= λ s. Ok s.scenario
