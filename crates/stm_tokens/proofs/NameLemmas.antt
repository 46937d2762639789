-- Names: bytes of a name that are UTF-8, and others.
use Rattle.std.proofs.Common.{◌≡◌, ℕ, List, take, Bool, cond, Some, None, IsUtf8, arith}
use Rattle.std.specs.Str.{is_utf8}
use Rattle.std.proofs.lemmas.Str.{IsUtf8-from_is_utf8, is_utf8-from_IsUtf8}
use Rattle.stm_tokens.specs.declared.runs.Run.TheVariants.{Name}
use Rattle.stm_tokens.specs.declared.token.TokenKind.{TokenKind}
use Rattle.stm_tokens.specs.Runs.{run}
use Rattle.stm_tokens.specs.Names.{word_of, named}
use Rattle.stm_tokens.specs.Tokens.{Piece, name_piece}
use Rattle.std.proofs.lemmas.Bool.Decides.{nat_tests}

pub name_found : (bytes word : List ℕ) (kind : TokenKind) → word ≡ take (run Name bytes) bytes → IsUtf8 word → kind ≡ named word (word_of word)
    → Some (kind, run Name bytes) ≡ name_piece bytes
name_found bytes word kind same utf8 is = grind (arith, nat_tests, is_utf8-from_IsUtf8)

no_name_by : (word : List ℕ) (utf8 : Bool) (found : Piece) → is_utf8 word ≡ utf8 → ¬ (IsUtf8 word) → None ≡ cond utf8 found None
no_name_by word utf8 found is none = grind (arith, nat_tests, IsUtf8-from_is_utf8)

pub no_name : (bytes word : List ℕ) → word ≡ take (run Name bytes) bytes → ¬ (IsUtf8 word) → None ≡ name_piece bytes
no_name bytes word same none = grind (arith, nat_tests, no_name_by)
