-- The words that are no names.
use Rattle.std.specs.Prelude.{ℕ, List, Option, Some, None, if◌then◌else◌, codes}
use Rattle.stm_json.specs.Parts.{same}
use Rattle.stm_tokens.specs.declared.token.Word.{Word}
use Rattle.stm_tokens.specs.declared.token.Word.TheVariants as word
use Rattle.stm_tokens.specs.declared.token.TokenKind.{TokenKind}
use Rattle.stm_tokens.specs.declared.token.TokenKind.TheVariants as token

-- those that begin a statement
unfoldable pub statement_word : List ℕ → Option Word
statement_word w =
    if same w (codes "let") then Some word.Let
    else (if same w (codes "if") then Some word.If
    else (if same w (codes "for") then Some word.For
    else (if same w (codes "put") then Some word.Put
    else (if same w (codes "del") then Some word.Del
    else (if same w (codes "emit") then Some word.Emit
    else (if same w (codes "abort") then Some word.Abort
    else (if same w (codes "return") then Some word.Return
    else (if same w (codes "break") then Some word.Break
    else (if same w (codes "continue") then Some word.Continue
    else None)))))))))

-- those within a statement, and around statements
unfoldable pub other_word : List ℕ → Option Word
other_word w =
    if same w (codes "get") then Some word.Get
    else (if same w (codes "rev") then Some word.Rev
    else (if same w (codes "num_of") then Some word.NumOf
    else (if same w (codes "text_of") then Some word.TextOf
    else (if same w (codes "else") then Some word.Else
    else (if same w (codes "in") then Some word.In
    else (if same w (codes "prefetch") then Some word.Prefetch
    else (if same w (codes "program") then Some word.Program
    else (if same w (codes "rule") then Some word.Rule
    else (if same w (codes "finally") then Some word.Finally
    else None)))))))))

abbrev pub either_word : Option Word → Option Word → Option Word
either_word (Some w) other = Some w
either_word None other = other

unfoldable pub word_of : List ℕ → Option Word
word_of w = either_word (statement_word w) (other_word w)

-- the token that a name or a word is
abbrev pub named : List ℕ → Option Word → TokenKind
named name (Some w) = token.Word w
named name None = token.Name name
