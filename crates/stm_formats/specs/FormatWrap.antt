-- Words that go on in further lines, where one has no room for them.
use Rattle.std.specs.Prelude.{ℕ, ◌+◌, ◌-◌, List, [], ◌∷◌, ◌++◌, drop, length, replicate, max, Bool, ◌&&◌, not, nat_eq, nat_lt, nat_le, if◌then◌else◌, Option, None, Some, unwrap_or}
use Rattle.std.specs.List.{position}
use Rattle.stm_formats.specs.declared.format_wrap.TheConstants.{LEAST_ROOM, FURTHER}
use Rattle.stm_formats.specs.FormatShown.{is_continuation}

-- how many bytes behind the first one stand before a space, or the end: a word, or a space and a word
abbrev pub word_ahead : List ℕ → ℕ
word_ahead behind =
    if nat_eq (length behind) 0 then 0 else unwrap_or (position (λ b. nat_eq b 32) (drop 1 behind)) (length (drop 1 behind))

-- whether a line that has so many bytes left ends at this one: a space, where it has words, and no room for the next word
abbrev pub ends_at : ℕ → ℕ → ℕ → List ℕ → Bool
ends_at room left b behind = nat_eq b 32 && (nat_lt left (room - FURTHER) && nat_le (left - 1) (word_ahead behind))

-- a line feed, and what stands before the words of a further line
abbrev pub further : ℕ → List ℕ
further indent = 10 ∷ replicate indent 32

-- How a byte stands in a line that has so many left, and how many it has then: that is ended by a space, or by the beginning of a character that is too much.
abbrev pub turned : ℕ → ℕ → ℕ → ℕ → List ℕ → List ℕ × ℕ
turned room indent left b behind =
    if ends_at room left b behind then (further indent, room - FURTHER)
    else (if nat_eq left 0 && not (is_continuation b) then (further indent ++ b ∷ [], room - (FURTHER + 1)) else (b ∷ [], left - 1))

-- words in lines of so many bytes, the first of which has so many left
abbrev pub wrapped : ℕ → ℕ → ℕ → List ℕ → List ℕ
wrapped room indent left [] = []
wrapped room indent left (b ∷ bs) = (turned room indent left b bs).0 ++ wrapped room indent (turned room indent left b bs).1 bs

-- words that stand behind so many characters, for a text of a width
abbrev pub fitted_words : Option ℕ → ℕ → List ℕ → List ℕ
fitted_words None before words = words
fitted_words (Some width) before words =
    let room : ℕ = max (width - before) LEAST_ROOM in wrapped room (before + FURTHER) room words
