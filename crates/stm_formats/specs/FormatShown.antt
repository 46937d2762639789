-- How texts are shown: a character that cannot be seen by its bytes; a long value, message or source, and a key that is long in a row, without its middle.
--
-- RFC 3629, UTF-8: the bytes 128 to 191 go on with a character that began before them; U+0080 to U+009F are 194 and 128 to 159, U+00AD is 194 and 173, U+061C
-- 216 and 156, U+200B to U+200F 226, 128 and 139 to 143, U+2028 to U+202E 226, 128 and 168 to 174, U+2060 to U+206F 226, 129 and 160 to 175, U+FEFF 239, 187
-- and 191, and U+FFFE and U+FFFF, which XML has not, 239, 191 and 190 or 191.
use Rattle.std.specs.Prelude.{ℕ, zero, suc, pred, ◌+◌, ◌-◌, ◌*◌, ◌/◌, ◌%◌, List, [], ◌∷◌, ◌++◌, drop, length, get_or, Bool, true, false, ◌&&◌, ◌||◌, nat_eq, nat_lt, nat_le, if◌then◌else◌, codes}

abbrev pub is_continuation : ℕ → Bool
is_continuation b = nat_le 128 b && nat_lt b 192

-- that many bytes, and those after them that belong to the last character
abbrev pub front : ℕ → List ℕ → List ℕ
front n [] = []
front zero (b ∷ bs) = if is_continuation b then b ∷ front zero bs else []
front (suc n) (b ∷ bs) = b ∷ front n bs

-- from the first character on that begins in these bytes
abbrev pub from_character : List ℕ → List ℕ
from_character [] = []
from_character (b ∷ bs) = if is_continuation b then from_character bs else b ∷ bs

-- that many bytes at the end, without those that belong to a character before them
abbrev pub back : ℕ → List ℕ → List ℕ
back n text = from_character (drop (length text - n) text)

abbrev pub is_between : ℕ → ℕ → ℕ → Bool
is_between least most b = nat_le least b && nat_le b most

-- whether three bytes are a character that cannot be seen
abbrev pub is_unseen : ℕ → ℕ → ℕ → Bool
is_unseen first second third =
    if nat_eq first 226 then
    (nat_eq second 128 && (is_between 139 143 third || is_between 168 174 third)) || (nat_eq second 129 && is_between 160 175 third)
    else nat_eq first 239 && ((nat_eq second 187 && nat_eq third 191) || (nat_eq second 191 && is_between 190 191 third))

-- whether two bytes are
abbrev pub is_unseen_pair : ℕ → ℕ → Bool
is_unseen_pair first second =
    if nat_eq first 194 then is_between 128 159 second || nat_eq second 173 else nat_eq first 216 && nat_eq second 156

-- how many bytes the character has that these begin with, where it is a control character, cannot be seen, or turns the direction of writing; 0 for another
abbrev pub hidden : List ℕ → ℕ
hidden bs =
    if nat_lt (get_or bs 0 255) 32 || nat_eq (get_or bs 0 255) 127 then 1
    else (if is_unseen_pair (get_or bs 0 255) (get_or bs 1 255) then 2
    else (if is_unseen (get_or bs 0 255) (get_or bs 1 255) (get_or bs 2 255) then 3 else 0))

-- how many bytes from these on belong to such a character, where so many more do of one that began before them
abbrev pub hidden_from : ℕ → List ℕ → ℕ
hidden_from zero bs = hidden bs
hidden_from (suc left) bs = suc left

-- a digit of a number to the base 16
abbrev pub digit : ℕ → ℕ
digit n = if nat_lt n 10 then 48 + n else 87 + n

-- a byte of such a character: `\x1b`
abbrev pub coded : ℕ → List ℕ
coded b = 92 ∷ 120 ∷ digit (b / 16) ∷ digit (b % 16) ∷ []

-- Another byte. Where a text is shown exactly, a backslash is doubled: then no other text is shown so.
abbrev pub spelled : Bool → ℕ → List ℕ
spelled exact b = if exact && nat_eq b 92 then 92 ∷ 92 ∷ [] else b ∷ []

-- a byte, of which character so many bytes are hidden
abbrev pub byte_text : Bool → ℕ → ℕ → List ℕ
byte_text exact zero b = spelled exact b
byte_text exact (suc n) b = coded b

-- a text, where so many bytes belong to a hidden character that began before it
abbrev pub shown_after : Bool → ℕ → List ℕ → List ℕ
shown_after exact left [] = []
shown_after exact left (b ∷ bs) = byte_text exact (hidden_from left (b ∷ bs)) b ++ shown_after exact (pred (hidden_from left (b ∷ bs))) bs

-- a key, exactly
abbrev pub plain : List ℕ → List ℕ
plain text = shown_after true 0 text

-- how many bytes of a long text are shown at its front, where it has two points for its middle
abbrev pub front_of : ℕ → ℕ
front_of most = most * 2 / 5

-- only the bytes in front and at the end, around a mark: `most` with that
abbrev pub around : Bool → List ℕ → ℕ → List ℕ → List ℕ
around exact mark most text =
    shown_after exact 0 (front (front_of most) text) ++ mark ++ shown_after exact 0 (back (most - length mark - front_of most) text)

-- of more than `most` bytes only those
abbrev pub cut : Bool → ℕ → List ℕ → List ℕ
cut exact most text = if nat_le (length text) most then shown_after exact 0 text else around exact (codes "..") most text

-- what is shown of a long key: its front and its end
abbrev pub key_front : ℕ → List ℕ → List ℕ
key_front most key = front (front_of most) key

abbrev pub key_back : ℕ → List ℕ → List ℕ
key_back most key = back (most - 3 - front_of most) key

-- A key without its middle. A point stands after a backslash in no text that is shown exactly: so no whole key looks like that.
abbrev pub key_cut : ℕ → List ℕ → List ℕ
key_cut most key = around true (codes "\\..") most key

-- a value or a message
abbrev pub shown : ℕ → List ℕ → List ℕ
shown most text = cut true most text

-- a source on one line, twice as long
abbrev pub source_shown : ℕ → List ℕ → List ℕ
source_shown most text = cut false (most + most) text
