-- Tokens of one to three signs. Each answers the symbol and how many bytes it has; of those that begin alike, the longest.
use Rattle.std.specs.Prelude.{ℕ, List, [], ◌∷◌, Bool, false, length, nat_eq, if◌then◌else◌, Option, Some, None, option_map}
use Rattle.stm_program.specs.declared.operator.Operator.{Operator}
use Rattle.stm_program.specs.declared.operator.Operator.TheVariants.{Add, Sub}
use Rattle.stm_program.specs.Operators.{operator_sign, operator_signed}
use Rattle.stm_tokens.specs.declared.token.Symbol.{Symbol}
use Rattle.stm_tokens.specs.declared.token.Symbol.TheVariants as symbol

abbrev pub second_is : ℕ → List ℕ → Bool
second_is sign [] = false
second_is sign (a ∷ []) = false
second_is sign (a ∷ (b ∷ bs)) = nat_eq b sign

abbrev pub followed : ℕ → Symbol → Symbol → List ℕ → Symbol × ℕ
followed sign longer shorter bytes = if second_is sign bytes then (longer, 2) else (shorter, 1)

abbrev pub doubled : ℕ → Symbol → List ℕ → Option (Symbol × ℕ)
doubled sign s bytes = if second_is sign bytes then Some (s, 2) else None

-- ( ) { } , ; ..
unfoldable pub bracket : ℕ → List ℕ → Option (Symbol × ℕ)
bracket first bytes =
    if nat_eq first 40 then Some (symbol.LeftParenthesis, 1)
    else (if nat_eq first 41 then Some (symbol.RightParenthesis, 1)
    else (if nat_eq first 123 then Some (symbol.LeftBrace, 1)
    else (if nat_eq first 125 then Some (symbol.RightBrace, 1)
    else (if nat_eq first 44 then Some (symbol.Comma, 1)
    else (if nat_eq first 59 then Some (symbol.Semicolon, 1)
    else (if nat_eq first 46 then doubled 46 symbol.Dots bytes
    else None))))))

-- = == ! != < <= > >= && ||
unfoldable pub comparison : ℕ → List ℕ → Option (Symbol × ℕ)
comparison first bytes =
    if nat_eq first 61 then Some (followed 61 symbol.Equal symbol.Assign bytes)
    else (if nat_eq first 33 then Some (followed 61 symbol.NotEqual symbol.Not bytes)
    else (if nat_eq first 60 then Some (followed 61 symbol.LessOrEqual symbol.Less bytes)
    else (if nat_eq first 62 then Some (followed 61 symbol.GreaterOrEqual symbol.Greater bytes)
    else (if nat_eq first 38 then doubled 38 symbol.And bytes
    else (if nat_eq first 124 then doubled 124 symbol.Or bytes
    else None)))))

-- ++ ++=
abbrev pub concatenation : List ℕ → Symbol × ℕ
concatenation rest = if second_is 61 rest then (symbol.ConcatenateAssign, 3) else (symbol.Concatenate, 2)

-- + += ++ ++=
abbrev pub sum : List ℕ → Symbol × ℕ
sum [] = (symbol.Arithmetic Add, 1)
sum (b ∷ bs) = if second_is 43 (b ∷ bs) then concatenation bs else followed 61 symbol.AddAssign (symbol.Arithmetic Add) (b ∷ bs)

-- with the length of its sign
abbrev pub operator_symbol : Operator → Symbol × ℕ
operator_symbol o = (symbol.Arithmetic o, length (operator_sign o))

-- + += ++ ++= - -=, and the other operators
unfoldable pub arithmetic : ℕ → List ℕ → Option (Symbol × ℕ)
arithmetic first bytes =
    if nat_eq first 43 then Some (sum bytes)
    else (if nat_eq first 45 then Some (followed 61 symbol.SubtractAssign (symbol.Arithmetic Sub) bytes)
    else option_map operator_symbol (operator_signed bytes))

abbrev pub or_else : {A : Type 0} → Option A → Option A → Option A
or_else (Some x) other = Some x
or_else None other = other

-- the symbol that bytes begin with, of which the first is given
unfoldable pub symbol_at : ℕ → List ℕ → Option (Symbol × ℕ)
symbol_at first bytes = or_else (bracket first bytes) (or_else (arithmetic first bytes) (comparison first bytes))
