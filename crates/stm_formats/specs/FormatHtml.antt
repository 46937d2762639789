-- A report as a page: a table with a row for each event, and lists of what is left and of why commits failed.
--
-- The WHATWG's "HTML", "Tables" and "The script element". Style and script are the same for every report: all that a page says stands in its rows and lists, and
-- each text in it stands escaped.
use Rattle.std.specs.Prelude.{ℕ, zero, suc, ◌+◌, ◌-◌, nat_eq, nat_lt, if◌then◌else◌, List, [], ◌∷◌, ◌++◌, map, get_or, Option, Some, None, codes, decimal}
use Rattle.stm_history.specs.History.{History, now}
use Rattle.stm_keys.specs.declared.event.Event.{Event}
use Rattle.stm_keys.specs.declared.event.Event.TheVariants.{Put, Delete}
use Rattle.stm_keys.specs.Events.{events_of}
use Rattle.stm_reasons.specs.declared.reason.Cause.{Cause}
use Rattle.stm_reasons.specs.declared.reason.Reason.{Reason}
use Rattle.stm_formats.specs.declared.format_label.RunnerLabel.{RunnerLabel}
use Rattle.stm_formats.specs.declared.format_row.Lane.{Lane}
use Rattle.stm_formats.specs.declared.format_row.Mark.{Mark}
use Rattle.stm_formats.specs.declared.format_row.Mark.TheVariants.{Committed, Failed, Plain}
use Rattle.stm_formats.specs.declared.format_row.Row.{Row}
use Rattle.stm_formats.specs.declared.format_pieces.TheConstants.{MOST_SHOWN}
use Rattle.stm_formats.specs.FormatShown.{plain, shown}
use Rattle.stm_formats.specs.FormatPieces.{joined, tag_text}
use Rattle.stm_formats.specs.FormatLabels.{title}
use Rattle.stm_formats.specs.FormatEscaped.{escaped}
use Rattle.stm_formats.specs.FormatColumns.{column, last_column}
use Rattle.stm_formats.specs.FormatReasons.{reason_note}
use Rattle.stm_formats.specs.FormatPage.{page_head, page_foot}

-- ---- what an event changed, for the script: a key without a value was deleted

-- a text after this one
unfoldable pub attribute_html : List ℕ → List ℕ → List ℕ
attribute_html before text = joined (before ∷ escaped text ∷ codes "'" ∷ [])

abbrev pub key_html : List ℕ → List ℕ
key_html key = attribute_html (codes "<i hidden data-key='") (plain key)

abbrev pub value_html : List ℕ → List ℕ
value_html value = attribute_html (codes " data-value='") (shown MOST_SHOWN value)

abbrev pub put_html : List ℕ → List ℕ → List ℕ
put_html key value = joined (key_html key ∷ value_html value ∷ [])

abbrev pub attributes_html : Event → List ℕ
attributes_html (Put key state) = put_html key state.value
attributes_html (Delete key revision) = key_html key

abbrev pub change_html : Event → List ℕ
change_html event = joined (attributes_html event ∷ codes "></i>" ∷ [])

abbrev pub revision_html : History → ℕ → List ℕ
revision_html h revision = if nat_lt (now h) revision then [] else joined (map change_html (events_of h revision))

-- what that many revisions above one changed
abbrev pub revisions_html : History → ℕ → ℕ → List ℕ
revisions_html h before zero = []
revisions_html h before (suc count) = revisions_html h before count ++ revision_html h (before + count + 1)

-- ---- a row

abbrev pub class_of : Mark → List ℕ
class_of Committed = codes "committed"
class_of Failed = codes "failed"
class_of Plain = codes "plain"

-- an empty cell in place of that many
unfoldable pub empty_html : ℕ → List ℕ
empty_html count = if nat_eq count 0 then [] else joined (codes "<td colspan='" ∷ decimal count ∷ codes "'></td>" ∷ [])

unfoldable pub number_html : ℕ → List ℕ
number_html n = joined (codes "<tr><th scope='row'>" ∷ decimal n ∷ codes "</th>" ∷ [])

-- the words of a row, in a cell that goes on to the end of the columns
unfoldable pub cell_html : ℕ → List ℕ → Lane → List ℕ → List ℕ
cell_html c class lane words =
    joined (codes "<td colspan='" ∷ decimal (10 - c) ∷ codes "' class='" ∷ class ∷ codes "'>" ∷ tag_text lane ∷ escaped words ∷ [])

abbrev pub words_html : Row → List ℕ
words_html row = cell_html (column row.lane) (class_of row.mark) row.lane row.words

-- the row of an event, by the store's revision before the first event and after each
abbrev pub row_html : History → List ℕ → Row → List ℕ
row_html h counters row =
    let before : ℕ = get_or counters (row.number - 1) 0 in
    joined (number_html row.number ∷ empty_html (column row.lane) ∷ words_html row ∷ revisions_html h before (get_or counters row.number 0 - before)
    ∷ codes "</td></tr>\n" ∷ [])

abbrev pub rows_html : History → List ℕ → List Row → List ℕ
rows_html h counters rows = joined (map (row_html h counters) rows)

-- ---- titles and lists

unfoldable pub title_html : List RunnerLabel → ℕ → List ℕ
title_html labels c = joined (codes "<th scope='col'>" ∷ escaped (title labels c) ∷ codes "</th>" ∷ [])

abbrev pub titles_html : List RunnerLabel → ℕ → List ℕ
titles_html labels zero = []
titles_html labels (suc c) = titles_html labels c ++ title_html labels c

unfoldable pub note_html : List ℕ → List ℕ
note_html note = joined (codes "<li>" ∷ escaped note ∷ codes "</li>\n" ∷ [])

abbrev pub notes_html : List (List ℕ) → List ℕ
notes_html notes = joined (map note_html notes)

-- an arrow goes from the event that changed the key to the commit
unfoldable pub from_html : Option Cause → List ℕ
from_html None = []
from_html (Some cause) = joined (codes " data-from='" ∷ decimal cause.event ∷ codes "'" ∷ [])

unfoldable pub to_html : ℕ → List ℕ
to_html event = joined (codes "<li data-to='" ∷ decimal event ∷ codes "'" ∷ [])

unfoldable pub told_html : List ℕ → List ℕ
told_html note = joined (codes ">" ∷ escaped note ∷ codes "</li>\n" ∷ [])

abbrev pub reason_html : List RunnerLabel → Reason → List ℕ
reason_html labels reason = to_html reason.event ++ from_html reason.cause ++ told_html (reason_note labels reason)

abbrev pub reasons_html : List RunnerLabel → List Reason → List ℕ
reasons_html labels reasons = joined (map (reason_html labels) reasons)

-- ---- the whole

unfoldable pub html_of : List RunnerLabel → History → List ℕ → List Row → List (List ℕ) → List Reason → List ℕ
html_of labels h counters rows notes reasons =
    joined (page_head ∷ titles_html labels (last_column rows + 1) ∷ codes "</tr></thead>\n<tbody>\n" ∷ rows_html h counters rows ∷ codes "</tbody></table></main>\n<ul>\n"
    ∷ notes_html notes ∷ reasons_html labels reasons ∷ page_foot ∷ [])
