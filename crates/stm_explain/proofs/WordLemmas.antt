-- The tables of words have the words that the readers know.
use Rattle.std.proofs.Common.{◌≡◌, ◌||◌, ℕ, List, Bool, true, false, cond, true≢false, is_some, is_ok, Some, arith, codes, refl}
use Rattle.std.proofs.lemmas.Bool.Decides.{nat_tests}
use Rattle.serde_json.specs.Data.{Data, Items}
use Rattle.stm_json.specs.Outcome.{bad}
use Rattle.stm_json.specs.declared.cause.Cause.TheVariants.{Shape}
use Rattle.stm_program_json.specs.Words.{statement_word, expression_word, condition_word}
use Rattle.stm_json.specs.Parts.{same}
use Rattle.stm_txn_json.specs.Words.{order_named, target_named}
use Rattle.stm_txn_json.specs.Reading.{operation_worded}
use Rattle.stm_texts.specs.Reading.{level_named, event_worded, watcher_event}
use Rattle.stm_explain.specs.Words.{TablesAreTheReaders, OthersAreRefused, is_among, level_words, order_words, event_words, statement_words, first_words}
use Rattle.stm_explain.specs.Words.{expression_words, condition_words, compare_words, operation_words}

statements : (word : List ℕ) → is_some (statement_word word) ≡ is_among word statement_words
unfolding statement_word
statements word = grind (arith, nat_tests)

expressions : (word : List ℕ) → is_some (expression_word word) ≡ is_among word expression_words
unfolding expression_word
expressions word = grind (arith, nat_tests)

conditions : (word : List ℕ) → is_some (condition_word word) ≡ is_among word condition_words
unfolding condition_word
conditions word = grind (arith, nat_tests)

levels : (word : List ℕ) → is_ok (level_named word) ≡ is_among word level_words
unfolding level_named
levels word = grind (arith, nat_tests)

orders : (word : List ℕ) → is_ok (order_named word) ≡ is_among word order_words
unfolding order_named
orders word = grind (arith, nat_tests)

compares : (word : List ℕ) → is_ok (target_named word) ≡ is_among word compare_words
unfolding target_named
compares word = grind (arith, nat_tests)

firsts : (word : List ℕ) → (same word (codes "prefetch") || is_some (statement_word word)) ≡ is_among word first_words
unfolding statement_word
firsts word = grind (arith, nat_tests)

pub tables : TablesAreTheReaders
tables = (statements, expressions, conditions, firsts, levels, orders, compares)

other : {A : Type 0} (b among : Bool) (x o e : A) → (among ≡ false → o ≡ e) → (b || among) ≡ false → cond b x o ≡ e
other true among x o e rest none = absurd (true≢false none)
other false among x o e rest none = rest none

events : (d : Data) (word : List ℕ) (ds : Items) → is_among word event_words ≡ false → event_worded d (Some (word, ds)) ≡ bad Shape
unfolding watcher_event
events d word ds =
    other (same word (codes "start")) _ _ _ _
    (other (same word (codes "step")) _ _ _ _
    (other (same word (codes "txn")) _ _ _ _
    (other (same word (codes "grant")) _ _ _ _
    (other (same word (codes "keep")) _ _ _ _
    (other (same word (codes "revoke")) _ _ _ _
    (other (same word (codes "advance")) _ _ _ _
    (other (same word (codes "compact")) _ _ _ _
    (other (same word (codes "watch_key")) _ _ _ _
    (other (same word (codes "watch_range")) _ _ _ _
    (other (same word (codes "poll")) _ _ _ _
    (other (same word (codes "cancel")) _ _ _ _ (λ none. refl))))))))))))

operations : (word : List ℕ) (ds : Items) → is_among word operation_words ≡ false → operation_worded (Some (word, ds)) ≡ bad Shape
operations word ds none = grind (arith, nat_tests)

pub others : OthersAreRefused
others = (events, operations)
