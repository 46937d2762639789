-- Laws of the formats.
use Rattle.std.specs.Prelude.{◌≡◌, ℕ, List, [], ◌∷◌, ◌+◌, ◌||◌, length, map, Bool, false, None, if◌then◌else◌, nat_eq, Result}
use Rattle.stm_history.specs.History.{History}
use Rattle.stm_events.specs.declared.event.WorldEvent.{WorldEvent}
use Rattle.stm_events.specs.declared.reply.Reply.{Reply}
use Rattle.stm_events.specs.declared.refusal.Denied.{Denied}
use Rattle.stm_world.specs.World.{World, replies_to}
use Rattle.stm_formats.specs.declared.format_keys.Cuts.{Cuts}
use Rattle.stm_formats.specs.declared.format_label.RunnerLabel.{RunnerLabel}
use Rattle.stm_formats.specs.FormatKeys.{key_words}
use Rattle.stm_formats.specs.FormatEscaped.{escaped}
use Rattle.stm_formats.specs.FormatRows.{rows_of, AreNumbered}
use Rattle.stm_report.specs.Forms.{object_line}
use Rattle.stm_report.specs.Report.{event_lines}
use Rattle.stm_formats.specs.FormatText.{rows_text}

-- A run has one row for each event, and they are numbered in its order from 1.
abbrev pub OneRowAnEvent : Type 0
OneRowAnEvent =
    (cuts : Cuts) (labels : List RunnerLabel) (h : History) (before : ℕ) (events : List WorldEvent) (w : World) →
    (length (rows_of cuts labels h before 1 events (replies_to events w)) ≡ length events) × AreNumbered 1 (rows_of cuts labels h before 1 events (replies_to events w))

-- and one object for each event
abbrev pub OneObjectAnEvent : Type 0
OneObjectAnEvent = (events : List WorldEvent) (w : World) → length (map object_line (event_lines 1 (replies_to events w))) ≡ length events

abbrev pub has : ℕ → List ℕ → Bool
has b [] = false
has b (x ∷ xs) = nat_eq x b || has b xs

-- how often a byte stands in a text
abbrev pub count : ℕ → List ℕ → ℕ
count b [] = 0
count b (x ∷ xs) = if nat_eq x b then count b xs + 1 else count b xs

-- Without a width, rows have as many line feeds as there are rows: the words of a row have none.
abbrev pub OneLineARow : Type 0
OneLineARow = (cuts : Cuts) (labels : List RunnerLabel) (places : List ℕ) (n : ℕ) (h : History) (before : ℕ) (events : List WorldEvent) (replies : List (Result Reply Denied)) →
    count 10 (rows_text None places (rows_of cuts labels h before n events replies)) ≡ length (rows_of cuts labels h before n events replies)

-- Two keys that rows show alike are the same key, whichever keys the report has.
abbrev pub KeysApart : Type 0
KeysApart = (cuts : Cuts) (a b : List ℕ) → key_words cuts a ≡ key_words cuts b → a ≡ b

-- What stands escaped has no `<`, `>` or quote.
pub record NothingUnescaped : Type 0 where
  pub less : (text : List ℕ) → has 60 (escaped text) ≡ false
  pub greater : (text : List ℕ) → has 62 (escaped text) ≡ false
  pub double : (text : List ℕ) → has 34 (escaped text) ≡ false
  pub single : (text : List ℕ) → has 39 (escaped text) ≡ false
