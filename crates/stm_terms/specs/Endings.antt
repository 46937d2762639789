-- What a final asks of the ends of runners: keys that are looked up, of texts that say how a runner ended, why, and what it put out.
use Rattle.std.specs.Prelude.{ℕ, List, [], ◌∷◌, ◌++◌, Option, Some, None, Ok, Err, bytes_eq, slice_get, nat_le, if◌then◌else◌, codes, decimal}
use Rattle.std.specs.List.{position}
use Rattle.stm_json.specs.Parts.{same}
use Rattle.stm_history.specs.declared.revisions.TheConstants.{HIGHEST_NUMBER}
use Rattle.stm_tokens.specs.declared.token.Token.{Token}
use Rattle.stm_tokens.specs.declared.token.Symbol.TheVariants as symbol
use Rattle.stm_program.specs.Syntax.{Text, Get}
use Rattle.stm_terms.specs.declared.endings.Ending.{Ending}
use Rattle.stm_terms.specs.declared.endings.Ending.TheVariants.{End, Why, Out}
use Rattle.stm_terms.specs.declared.endings.Runners.{Runners}
use Rattle.stm_terms.specs.declared.faults.SourceCause.TheVariants as cause
use Rattle.stm_terms.specs.declared.kinds.Kind.TheVariants as kinds
use Rattle.stm_terms.specs.declared.kinds.Valued.{Valued}
use Rattle.stm_terms.specs.declared.scope.Scope.{Scope}
use Rattle.stm_terms.specs.Cursor.{place, unexpected, after_symbol, expect_symbol, open_bracket, next_number, next_name}
use Rattle.stm_terms.specs.Kinds.{valued}
use Rattle.stm_terms.specs.LookUps.{look_up_as}
use Rattle.stm_terms.specs.Outcome.{Read, bad, ◌>>=◌}

unfoldable pub ending_of : List ℕ → Option Ending
ending_of w =
    if same w (codes "end") then Some End
    else (if same w (codes "why") then Some Why
    else (if same w (codes "out") then Some Out
    else None))

-- ---- the runner

abbrev pub number_at_place : List ℕ → Option ℕ → Option ℕ
number_at_place numbers None = None
number_at_place numbers (Some i) = slice_get numbers i

abbrev pub number_of : Runners → List ℕ → Option ℕ
number_of runners name = number_at_place runners.numbers (position (bytes_eq name) runners.names)

abbrev pub number_or : ℕ → List Token → Option ℕ → Read ℕ
number_or at rest None = bad at cause.Name
number_or at rest (Some n) = Ok (n, rest)

abbrev pub whole_by : List Token → Option (ℕ × List Token) → Read ℕ
whole_by tokens None = Err (unexpected tokens)
whole_by tokens (Some p) = if nat_le p.0 HIGHEST_NUMBER then Ok p else bad (place tokens) cause.Range

abbrev pub whole_at : List Token → Read ℕ
whole_at tokens = whole_by tokens (next_number tokens)

abbrev pub runner_by : Runners → List Token → Option (List ℕ × List Token) → Read ℕ
runner_by runners tokens None = whole_at tokens
runner_by runners tokens (Some p) = number_or (place tokens) p.1 (number_of runners p.0)

-- a runner by its number, or by its name
abbrev pub runner_at : Runners → List Token → Read ℕ
runner_at runners tokens = runner_by runners tokens (next_name tokens)

-- ---- the key

abbrev pub out_key : ℕ → ℕ → List ℕ
out_key runner n = codes "#out/" ++ decimal runner ++ codes "/" ++ decimal n

-- behind the runner
abbrev pub key_of : Ending → ℕ → List Token → Read (List ℕ)
key_of End runner tokens = Ok (codes "#end/" ++ decimal runner, tokens)
key_of Why runner tokens = Ok (codes "#why/" ++ decimal runner, tokens)
key_of Out runner tokens = expect_symbol symbol.Comma tokens >>= λ behind. whole_at behind >>= λ n. Ok (out_key runner n.0, n.1)

-- behind its word, which begins at a byte
abbrev pub ending_at : ℕ → Scope → ℕ → Runners → Ending → List Token → Read Valued
ending_at levels scope at runners e tokens =
    open_bracket levels tokens >>= λ inner.
    runner_at runners inner >>= λ runner.
    key_of e runner.0 runner.1 >>= λ key.
    expect_symbol symbol.RightParenthesis key.1 >>= λ rest. Ok (valued scope (Get (Text key.0)) kinds.Text (look_up_as at None ∷ []), rest)

-- ---- whether a name asks: in a final, where a bracket follows

abbrev pub ending_or : ℕ → Scope → ℕ → Runners → Ending → Read Valued → List Token → Option (List Token) → Read Valued
ending_or levels scope at runners e named rest None = named
ending_or levels scope at runners e named rest (Some inner) = ending_at levels scope at runners e rest

abbrev pub asked_ending : ℕ → Scope → ℕ → Runners → Read Valued → List Token → Option Ending → Read Valued
asked_ending levels scope at runners named rest None = named
asked_ending levels scope at runners named rest (Some e) = ending_or levels scope at runners e named rest (after_symbol symbol.LeftParenthesis rest)

abbrev pub asked_of : ℕ → Scope → ℕ → List ℕ → Read Valued → List Token → Option Runners → Read Valued
asked_of levels scope at name named rest None = named
asked_of levels scope at name named rest (Some runners) = asked_ending levels scope at runners named rest (ending_of name)
