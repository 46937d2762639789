-- What a run emitted, as words: a text in quotes, a number without.
use Rattle.std.specs.Prelude.{ℕ, suc, List, [], ◌∷◌, ◌++◌, nat_eq, nat_lt, if◌then◌else◌, Result, Ok, Err, codes}
use Rattle.std.specs.Fmt.{signed_decimal}
use Rattle.stm_steps.specs.declared.value.Value.{Value}
use Rattle.stm_steps.specs.declared.value.Value.TheVariants.{Text, Number}
use Rattle.stm_events.specs.declared.reply.Reply.{Reply}
use Rattle.stm_events.specs.declared.reply.Reply.TheVariants.{Committed}
use Rattle.stm_events.specs.declared.refusal.Denied.{Denied}
use Rattle.stm_formats.specs.declared.format_changes.TheConstants.{MOST_CHANGES}
use Rattle.stm_formats.specs.FormatShown.{shown}
use Rattle.stm_formats.specs.FormatPieces.{joined}

abbrev pub value_words : ℕ → Value → List ℕ
value_words most (Text text) = joined (codes "\"" ∷ shown most text ∷ codes "\"" ∷ [])
value_words most (Number number) = signed_decimal number

-- what stands before a value after that many
abbrev pub value_after : ℕ → List ℕ
value_after count = if nat_eq count 0 then codes "  emits " else codes ", "

-- a value after that many: of more than are shown only that there are more
abbrev pub counted_value : ℕ → ℕ → Value → List ℕ
counted_value most count value =
    if nat_lt count MOST_CHANGES then joined (value_after count ∷ value_words most value ∷ [])
    else (if nat_eq count MOST_CHANGES then codes ", .." else [])

-- the values after that many
abbrev pub output_after : ℕ → ℕ → List Value → List ℕ
output_after most count [] = []
output_after most count (value ∷ values) = counted_value most count value ++ output_after most (suc count) values

-- what the run of a commit emitted
abbrev pub emitted_words : ℕ → Result Reply Denied → List ℕ
emitted_words most (Ok (Committed runner revision attempts output trace answers)) = output_after most 0 output
emitted_words most (Ok other) = []
emitted_words most (Err denied) = []
