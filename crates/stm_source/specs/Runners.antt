-- The runners whose names stand in the body of a final.
use Rattle.std.specs.Prelude.{ℕ, List, [], ◌∷◌, ◌++◌, Option, Some, None, bytes_eq, if◌then◌else◌}
use Rattle.std.specs.List.{list_any}
use Rattle.stm_tokens.specs.declared.token.Token.{Token}
use Rattle.stm_tokens.specs.declared.token.TokenKind.{TokenKind}
use Rattle.stm_tokens.specs.declared.token.TokenKind.TheVariants as kind
use Rattle.stm_tokens.specs.declared.token.Symbol.TheVariants as symbol
use Rattle.stm_terms.specs.declared.endings.Runners.{Runners}
use Rattle.stm_terms.specs.Cursor.{after_symbol}
use Rattle.stm_terms.specs.Scope.{braces_behind}
use Rattle.stm_source.specs.declared.story.Story.{Story}
use Rattle.stm_source.specs.Events.{number_named}

abbrev pub no_runners : Runners
no_runners = record { names = []; numbers = [] }

-- one more, if it has a number and is none of these
abbrev pub with_runner : Runners → List ℕ → Option ℕ → Runners
with_runner runners name None = runners
with_runner runners name (Some n) =
    if list_any (bytes_eq name) runners.names then runners
    else record { names = runners.names ++ name ∷ []; numbers = runners.numbers ++ n ∷ [] }

abbrev pub with_named : Story → Runners → TokenKind → Runners
with_named story runners (kind.Name n) = with_runner runners n (number_named story n)
with_named story runners _ = runners

abbrev pub runners_behind : (ℕ → Runners) → Runners → Option ℕ → Runners
runners_behind more runners None = runners
runners_behind more runners (Some depth) = more depth

-- those of the rest of a body, in which so many braces are open, and these
abbrev pub runners_from : Story → ℕ → Runners → List Token → Runners
runners_from story depth runners [] = runners
runners_from story depth runners (t ∷ ts) =
    runners_behind (λ d. runners_from story d (with_named story runners t.kind) ts) (with_named story runners t.kind) (braces_behind t.kind depth)

abbrev pub runners_by : Story → Option (List Token) → Runners
runners_by story None = no_runners
runners_by story (Some inner) = runners_from story 0 no_runners inner

-- those of a body in braces
abbrev pub runners_in : Story → List Token → Runners
runners_in story tokens = runners_by story (after_symbol symbol.LeftBrace tokens)
