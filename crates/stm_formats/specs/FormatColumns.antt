-- Columns: which one a row stands in, and where they begin.
use Rattle.std.specs.Prelude.{ℕ, zero, suc, ◌+◌, ◌-◌, ◌/◌, Option, Some, None, max, min, nat_eq, if◌then◌else◌, List, [], ◌∷◌, ◌++◌, length, get_or}
use Rattle.stm_formats.specs.declared.format_row.Lane.{Lane}
use Rattle.stm_formats.specs.declared.format_row.Lane.TheVariants.{Store, Runner}
use Rattle.stm_formats.specs.declared.format_row.Row.{Row}
use Rattle.stm_formats.specs.declared.format_label.TheConstants.{MOST_COLUMNS}
use Rattle.stm_formats.specs.declared.format_label.RunnerLabel.{RunnerLabel}
use Rattle.stm_formats.specs.FormatLabels.{title}
use Rattle.stm_formats.specs.declared.format_columns.TheConstants.{LEAST_WIDTH, LAST_WIDTH, MOST_WIDTH, MOST_TOGETHER, WIDEST, MOST_PLACE}

-- the number of the column's runner, 0 for the store
abbrev pub lane_number : Lane → ℕ
lane_number Store = 0
lane_number (Runner runner) = runner

-- the column of a lane: those of all high runners are one
abbrev pub column : Lane → ℕ
column lane = min (lane_number lane) MOST_COLUMNS

-- the greatest number of a column
abbrev pub last_column : List Row → ℕ
last_column [] = 0
last_column (row ∷ rows) = max (column row.lane) (last_column rows)

-- the length of a row's words, up to a limit, where it stands in a column
abbrev pub width_in : ℕ → ℕ → Row → ℕ
width_in limit c row = if nat_eq (column row.lane) c then min (length row.words) limit else 0

-- the width of a column's shortest title: `store`, or a runner's number
abbrev pub shortest : ℕ → ℕ
shortest c = if nat_eq c 0 then 5 else 1

-- how wide a column with this title is at least
abbrev pub least_width : ℕ → ℕ → List ℕ → ℕ
least_width limit c title = max (min (max (length title) LEAST_WIDTH) limit) (shortest c)

-- how wide a column is that is at least so wide: as its longest words
abbrev pub width : ℕ → ℕ → ℕ → List Row → ℕ
width limit least c [] = least
width limit least c (row ∷ rows) = max (width_in limit c row) (width limit least c rows)

abbrev pub titled_width : ℕ → List RunnerLabel → ℕ → List Row → ℕ
titled_width limit labels c rows = width limit (least_width limit c (title labels c)) c rows

-- how wide each of so many columns is, which stand behind the number of an event in so many characters, with two spaces behind each
abbrev pub each : ℕ → ℕ → ℕ
each characters columns = ((characters - 8) / max columns 1) - 2

-- The limit of a report of this width with so many runners' columns: the last one begins before the middle, or columns have the least width, or what leaves
-- LAST_WIDTH for the last one. Without a width those of three runners are as wide as any, and more of them together as wide as three.
abbrev pub most_width : Option ℕ → ℕ → ℕ
most_width None last = max (min (MOST_TOGETHER / max last 1) MOST_WIDTH) LEAST_WIDTH
most_width (Some width) last = min (max (min (each (width - LAST_WIDTH) last) LEAST_WIDTH) (each (width / 2) last)) WIDEST

-- how many characters stand before a column: each is followed by two spaces
abbrev pub begin : ℕ → List RunnerLabel → List Row → ℕ → ℕ
begin limit labels rows zero = 0
begin limit labels rows (suc c) = begin limit labels rows c + titled_width limit labels c rows + 2

-- where that many columns begin
abbrev pub places : ℕ → List RunnerLabel → List Row → ℕ → List ℕ
places limit labels rows zero = []
places limit labels rows (suc c) = places limit labels rows c ++ begin limit labels rows c ∷ []

-- where the columns begin, and where one behind the last would
unfoldable pub all_places : ℕ → List RunnerLabel → List Row → List ℕ
all_places limit labels rows = places limit labels rows 11

-- where a column begins
abbrev pub place : List ℕ → ℕ → ℕ
place places c = min (get_or places c 0) MOST_PLACE
