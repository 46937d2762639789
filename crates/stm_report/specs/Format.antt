-- The names of the formats.
use Rattle.std.specs.Prelude.{ℕ, List, Option, Some, None, codes, bytes_eq, if◌then◌else◌}
use Rattle.stm_report.specs.declared.format.Format.{Format}
use Rattle.stm_report.specs.declared.format.Format.TheVariants.{Lines, Json, Text, Svg, Html}

abbrev pub format_named : List ℕ → Option Format
format_named word =
    if bytes_eq word (codes "lines") then Some Lines
    else (if bytes_eq word (codes "json") then Some Json
    else (if bytes_eq word (codes "text") then Some (Text None)
    else (if bytes_eq word (codes "svg") then Some Svg
    else (if bytes_eq word (codes "html") then Some Html else None))))

-- the same, where it is text of this width
abbrev pub format_of_width : Format → Option ℕ → Format
format_of_width (Text old) width = Text width
format_of_width other width = other
