-- Transactions: what tokens spell, or the first fault.
use Rattle.std.specs.Prelude.{ℕ, zero, suc, List, [], ◌∷◌, ◌++◌, length, Option, Some, None, Ok, Err}
use Rattle.stm_tokens.specs.declared.token.Token.{Token}
use Rattle.stm_tokens.specs.declared.token.Symbol.TheVariants as symbol
use Rattle.stm_tokens.specs.declared.token.Word.TheVariants as word
use Rattle.stm_history.specs.declared.revisions.TheConstants.{HIGHEST_NUMBER}
use Rattle.stm_outcome.specs.declared.txn.Compare.{Compare}
use Rattle.stm_outcome.specs.declared.txn.Op.{Op}
use Rattle.stm_outcome.specs.declared.txn.Op.TheVariants.{Get, Put, Del}
use Rattle.stm_outcome.specs.declared.txn.Order.{Order}
use Rattle.stm_outcome.specs.declared.txn.Target.{Target}
use Rattle.stm_outcome.specs.declared.txn.Target.TheVariants.{Version, Create, Mod, Lease, Value}
use Rattle.stm_outcome.specs.declared.txn.Txn.{Txn}
use Rattle.stm_source.specs.declared.words.TargetWord.{TargetWord}
use Rattle.stm_source.specs.declared.words.TargetWord.TheVariants as target
use Rattle.stm_terms.specs.Outcome.{Read, ◌>>=◌}
use Rattle.stm_terms.specs.declared.constants.Constants.{Constants}
use Rattle.stm_terms.specs.Constants.{number_up_to, text_at}
use Rattle.stm_terms.specs.Cursor.{unexpected, after_symbol, after_word, expect_symbol, skip_semicolon, next_name}
use Rattle.stm_source.specs.Words.{target_word, next_order}

abbrev pub number_at : Constants → List Token → Read ℕ
number_at constants tokens = number_up_to constants HIGHEST_NUMBER tokens

-- ---- compares

abbrev pub numbered_side : Constants → (ℕ → Target) → List Token → Read Target
numbered_side constants make tokens = number_at constants tokens >>= λ n. Ok (make n.0, n.1)

abbrev pub side_at : Constants → TargetWord → List Token → Read Target
side_at constants target.Version tokens = numbered_side constants Version tokens
side_at constants target.Create tokens = numbered_side constants Create tokens
side_at constants target.Mod tokens = numbered_side constants Mod tokens
side_at constants target.Lease tokens = numbered_side constants Lease tokens
side_at constants target.Value tokens = text_at constants tokens >>= λ s. Ok (Value s.0, s.1)

abbrev pub compare_with : Constants → TargetWord → List ℕ → List Token → Option (Order × List Token) → Read Compare
compare_with constants w key tokens None = Err (unexpected tokens)
compare_with constants w key tokens (Some p) = side_at constants w p.1 >>= λ side. Ok (record { key = key; target = side.0; order = p.0 }, side.1)

-- behind its word
abbrev pub compare_behind : Constants → TargetWord → List Token → Read Compare
compare_behind constants w tokens =
    expect_symbol symbol.LeftParenthesis tokens >>= λ inner.
    text_at constants inner >>= λ key.
    expect_symbol symbol.RightParenthesis key.1 >>= λ rest.
    compare_with constants w key.0 rest (next_order rest)

abbrev pub compare_of : Constants → List Token → List Token → Option TargetWord → Read Compare
compare_of constants tokens rest None = Err (unexpected tokens)
compare_of constants tokens rest (Some w) = compare_behind constants w rest

abbrev pub compare_by : Constants → List Token → Option (List ℕ × List Token) → Read Compare
compare_by constants tokens None = Err (unexpected tokens)
compare_by constants tokens (Some p) = compare_of constants tokens p.1 (target_word p.0)

abbrev pub compare_at : Constants → List Token → Read Compare
compare_at constants tokens = compare_by constants tokens (next_name tokens)

abbrev pub compares_behind : (List Compare → List Token → Read (List Compare)) → List Compare → List Token → Option (List Token) → Read (List Compare)
compares_behind more compares tokens (Some rest) = more compares rest
compares_behind more compares tokens None = Ok (compares, tokens)

-- compares behind these, with `&&` between them, at most so many
unfoldable pub compares_from : Constants → ℕ → List Compare → List Token → Read (List Compare)
compares_from constants zero compares tokens = Err (unexpected tokens)
compares_from constants (suc more) compares tokens =
    compare_at constants tokens >>= λ c. compares_behind (compares_from constants more) (compares ++ c.0 ∷ []) c.1 (after_symbol symbol.And c.1)

abbrev pub conditions_by : Constants → List Token → Option (List Token) → Read (List Compare)
conditions_by constants tokens None = Ok ([], tokens)
conditions_by constants tokens (Some rest) = compares_from constants (length rest) [] rest

abbrev pub conditions_at : Constants → List Token → Read (List Compare)
conditions_at constants tokens = conditions_by constants tokens (after_word word.If tokens)

-- ---- operations, each behind its word

abbrev pub number_behind : Constants → List Token → Option (List Token) → Read ℕ
number_behind constants tokens None = Ok (0, tokens)
number_behind constants tokens (Some rest) = number_at constants rest

abbrev pub put_behind : Constants → List Token → Read Op
put_behind constants tokens =
    expect_symbol symbol.LeftParenthesis tokens >>= λ inner.
    text_at constants inner >>= λ key.
    expect_symbol symbol.Comma key.1 >>= λ behind.
    text_at constants behind >>= λ value.
    number_behind constants value.1 (after_symbol symbol.Comma value.1) >>= λ lease.
    expect_symbol symbol.RightParenthesis lease.1 >>= λ rest. Ok (Put key.0 value.0 lease.0, rest)

abbrev pub get_behind : Constants → List Token → Read Op
get_behind constants tokens =
    expect_symbol symbol.LeftParenthesis tokens >>= λ inner.
    text_at constants inner >>= λ key.
    number_behind constants key.1 (after_symbol symbol.Comma key.1) >>= λ rev.
    expect_symbol symbol.RightParenthesis rev.1 >>= λ rest. Ok (Get key.0 rev.0, rest)

abbrev pub del_behind : Constants → List Token → Read Op
del_behind constants tokens =
    expect_symbol symbol.LeftParenthesis tokens >>= λ inner.
    text_at constants inner >>= λ key.
    expect_symbol symbol.RightParenthesis key.1 >>= λ rest. Ok (Del key.0, rest)

abbrev pub operation_by : Constants → List Token → Option (List Token) → Option (List Token) → Option (List Token) → Read Op
operation_by constants tokens (Some rest) get del = put_behind constants rest
operation_by constants tokens None (Some rest) del = get_behind constants rest
operation_by constants tokens None None (Some rest) = del_behind constants rest
operation_by constants tokens None None None = Err (unexpected tokens)

abbrev pub operation_at : Constants → List Token → Read Op
operation_at constants tokens = operation_by constants tokens (after_word word.Put tokens) (after_word word.Get tokens) (after_word word.Del tokens)

abbrev pub operations_by : Constants → (List Op → List Token → Read (List Op)) → List Op → List Token → Option (List Token) → Read (List Op)
operations_by constants more operations tokens (Some rest) = Ok (operations, rest)
operations_by constants more operations tokens None = operation_at constants tokens >>= λ o. more (operations ++ o.0 ∷ []) (skip_semicolon o.1)

-- operations behind these, up to the brace that closes their list, at most so many
unfoldable pub operations_from : Constants → ℕ → List Op → List Token → Read (List Op)
operations_from constants zero operations tokens = Err (unexpected tokens)
operations_from constants (suc more) operations tokens = operations_by constants (operations_from constants more) operations tokens (after_symbol symbol.RightBrace tokens)

abbrev pub branch_at : Constants → List Token → Read (List Op)
branch_at constants tokens = expect_symbol symbol.LeftBrace tokens >>= λ inner. operations_from constants (length inner) [] inner

abbrev pub failure_by : Constants → List Token → Option (List Token) → Read (List Op)
failure_by constants tokens None = Ok ([], tokens)
failure_by constants tokens (Some rest) = branch_at constants rest

abbrev pub failure_at : Constants → List Token → Read (List Op)
failure_at constants tokens = failure_by constants tokens (after_word word.Else tokens)

-- behind its word
abbrev pub txn_at : Constants → List Token → Read Txn
txn_at constants tokens =
    conditions_at constants tokens >>= λ compares.
    branch_at constants compares.1 >>= λ success.
    failure_at constants success.1 >>= λ failure.
    Ok (record { compares = compares.0; success = success.0; failure = failure.0 }, failure.1)
