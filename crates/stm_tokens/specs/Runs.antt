-- How far bytes of one kind reach.
use Rattle.std.specs.Prelude.{ℕ, suc, List, [], ◌∷◌, Bool, not, ◌||◌, ◌&&◌, nat_eq, nat_le, if◌then◌else◌}
use Rattle.stm_tokens.specs.declared.runs.Run.{Run}
use Rattle.stm_tokens.specs.declared.runs.Run.TheVariants.{Blank, Comment, Name, Digits, Plain}

-- letters of ASCII, and '_'
abbrev pub begins_name : ℕ → Bool
begins_name b = (nat_le 97 b && nat_le b 122) || (nat_le 65 b && nat_le b 90) || nat_eq b 95

abbrev pub is_digit : ℕ → Bool
is_digit b = nat_le 48 b && nat_le b 57

-- space, tab, CR and LF
abbrev pub is_blank : ℕ → Bool
is_blank b = nat_eq b 32 || nat_eq b 9 || nat_eq b 13 || nat_eq b 10

abbrev pub is_in : Run → ℕ → Bool
is_in Blank b = is_blank b
is_in Comment b = not (nat_eq b 10)
is_in Name b = begins_name b || is_digit b
is_in Digits b = is_digit b
is_in Plain b = not (nat_eq b 34) && not (nat_eq b 92) && nat_le 32 b

-- how many bytes at the start are of a kind
abbrev pub run : Run → List ℕ → ℕ
run kind [] = 0
run kind (b ∷ bs) = if is_in kind b then suc (run kind bs) else 0
