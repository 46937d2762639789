-- A text as XML has it.
--
-- The W3C's "Extensible Markup Language (XML) 1.0", "Predefined Entities": `&`, `<`, `>` and both quotes.
use Rattle.std.specs.Prelude.{ℕ, List, [], ◌∷◌, ◌++◌, nat_eq, if◌then◌else◌, codes}

abbrev pub entity : ℕ → List ℕ
entity b =
    if nat_eq b 38 then codes "&amp;"
    else (if nat_eq b 60 then codes "&lt;"
    else (if nat_eq b 62 then codes "&gt;"
    else (if nat_eq b 34 then codes "&quot;"
    else (if nat_eq b 39 then codes "&apos;" else b ∷ []))))

unfoldable pub escaped : List ℕ → List ℕ
escaped [] = []
escaped (b ∷ bs) = entity b ++ escaped bs
