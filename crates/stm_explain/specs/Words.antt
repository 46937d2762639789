-- The words that explanations say are allowed, beside those that the readers know.
use Rattle.std.specs.Prelude.{◌≡◌, ℕ, List, [], ◌∷◌, Bool, false, ◌||◌, map, is_some, is_ok, codes, Some}
use Rattle.serde_json.specs.Data.{Data, Items}
use Rattle.stm_json.specs.Outcome.{bad}
use Rattle.stm_json.specs.declared.cause.Cause.TheVariants.{Shape}
use Rattle.stm_program_json.specs.Words.{statement_word, expression_word, condition_word}
use Rattle.stm_json.specs.Parts.{same}
use Rattle.stm_txn_json.specs.Words.{order_named, target_named}
use Rattle.stm_txn_json.specs.Reading.{operation_worded}
use Rattle.stm_texts.specs.Reading.{level_named, event_worded}
use Rattle.stm_explain.specs.declared.forms.TheConstants.{LEVELS, ORDERS, EVENTS, FIRST_ELEMENTS, STATEMENTS, EXPRESSIONS, CONDITIONS, COMPARES, OPERATIONS}

-- a word is one of these
abbrev pub is_among : List ℕ → List (List ℕ) → Bool
is_among word [] = false
is_among word (w ∷ ws) = same word w || is_among word ws

abbrev pub level_words : List (List ℕ)
level_words = map (λ form. form.0.now) LEVELS

abbrev pub order_words : List (List ℕ)
order_words = map (λ form. form.0.now) ORDERS

abbrev pub event_words : List (List ℕ)
event_words = map (λ form. form.0.now) EVENTS

abbrev pub statement_words : List (List ℕ)
statement_words = map (λ form. form.0.now) STATEMENTS

abbrev pub first_words : List (List ℕ)
first_words = map (λ form. form.0.now) FIRST_ELEMENTS

abbrev pub expression_words : List (List ℕ)
expression_words = map (λ form. form.0.now) EXPRESSIONS

abbrev pub condition_words : List (List ℕ)
condition_words = map (λ form. form.0.now) CONDITIONS

abbrev pub compare_words : List (List ℕ)
compare_words = map (λ form. form.0.now) COMPARES

abbrev pub operation_words : List (List ℕ)
operation_words = map (λ form. form.0.now) OPERATIONS

-- each table of words that stand in programs, that of their first elements among them, and those of levels, of orders and of compares, has exactly those
-- that the reader knows
abbrev pub TablesAreTheReaders : Type 0
TablesAreTheReaders =
    ((word : List ℕ) → is_some (statement_word word) ≡ is_among word statement_words)
    × ((word : List ℕ) → is_some (expression_word word) ≡ is_among word expression_words)
    × ((word : List ℕ) → is_some (condition_word word) ≡ is_among word condition_words)
    × ((word : List ℕ) → (same word (codes "prefetch") || is_some (statement_word word)) ≡ is_among word first_words)
    × ((word : List ℕ) → is_ok (level_named word) ≡ is_among word level_words)
    × ((word : List ℕ) → is_ok (order_named word) ≡ is_among word order_words)
    × ((word : List ℕ) → is_ok (target_named word) ≡ is_among word compare_words)

-- a word that is not in the tables of events and of operations begins none
abbrev pub OthersAreRefused : Type 0
OthersAreRefused =
    ((d : Data) (word : List ℕ) (ds : Items) → is_among word event_words ≡ false → event_worded d (Some (word, ds)) ≡ bad Shape)
    × ((word : List ℕ) (ds : Items) → is_among word operation_words ≡ false → operation_worded (Some (word, ds)) ≡ bad Shape)
