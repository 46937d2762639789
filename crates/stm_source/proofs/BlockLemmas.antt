-- Reading statements one after the other, as a loop does.
use Rattle.std.proofs.Common.{◌≡◌, ℕ, Bool, true, false, nat_lt, if◌then◌else◌, suc, ◌-◌, ◌+◌, ◌<◌, List, [], ◌∷◌, ◌++◌, Some, None, Ok, Err, refl, sym, ap, ◌∙◌, arith}
use Rattle.stm_tokens.specs.declared.token.Token.{Token}
use Rattle.stm_tokens.specs.declared.token.Symbol.TheVariants.{RightBrace}
use Rattle.stm_leaving.specs.Source.{Source, Sources, Nil, Next}
use Rattle.stm_leaving.specs.PartsView.{sources_of}
use Rattle.stm_source.specs.declared.leaving.Around.{Around}
use Rattle.stm_source.specs.declared.leaving.Ending.{Ending}
use Rattle.stm_source.specs.Leaving.{is_left}
use Rattle.stm_terms.specs.declared.scope.Scope.{Scope}
use Rattle.stm_terms.specs.declared.faults.BadSource.{BadSource}
use Rattle.stm_terms.specs.declared.faults.SourceCause.TheVariants.{TooDeep}
use Rattle.stm_terms.specs.Cursor.{after_symbol, skip_semicolon, unexpected}
use Rattle.stm_terms.specs.declared.faults.SourceError.{SourceError}
use Rattle.stm_terms.specs.declared.faults.SourceError.TheVariants.{OutOfMemory, Bad}
use Rattle.stm_terms.specs.Outcome.{ReturnsFault, ◌>>=◌}
use Rattle.stm_source.specs.Kept.{pushed_up}
use Rattle.stm_source.specs.Statements.{ReadStatement, ReadBlock, Blocks, with_room, left_behind, statements_from, then_all, then_up, statement_by, block_by, block_at, choice_by, choice_at}

pub then_all-end : (ss : List Source) → then_all ss Nil ≡ sources_of ss
then_all-end [] = refl
then_all-end (s ∷ ss) = ap (Next s) (then_all-end ss)

pub then_all-append : (ss more : List Source) (b : Sources) → then_all (ss ++ more) b ≡ then_all ss (then_all more b)
then_all-append [] more b = refl
then_all-append (s ∷ ss) more b = ap (Next s) (then_all-append ss more b)

-- what was read before, and what is still read
abbrev pub with_front : List Source → ReadBlock → ReadBlock
with_front front reading = reading >>= λ b. Ok (then_all front b.0, b.1, b.2)

regroup_by : (keeps : Bool) (front ss : List Source) (b : Sources)
    → then_all front (if keeps then then_all ss b else b) ≡ then_all (if keeps then front ++ ss else front) b
regroup_by true front ss b = sym (then_all-append front ss b)
regroup_by false front ss b = refl

regroup : (room : ℕ) (front s : List Source) (reading : ReadBlock)
    → with_front front (reading >>= λ b. Ok (then_up room s b.0, b.1, b.2)) ≡ with_front (pushed_up room front s) reading
regroup room front s (Ok b) = ap (λ (c : Sources). Ok (c, b.1, b.2)) (regroup_by (nat_lt 0 room) front s b.0)
regroup room front s (Err f) = refl

-- a statement more
pub goes_on : (around : Around) (statement : Scope → List Token → ReadStatement) (front : List Source) (ending next : Ending) (fuel more : ℕ) (scope behind : Scope)
    (tokens rest : List Token) (s : List Source) (total : ReadBlock) → fuel ≡ suc more → after_symbol RightBrace tokens ≡ None → is_left ending ≡ false
    → statement scope tokens ≡ Ok (s, next, behind, rest) → with_front front (statements_from around statement ending fuel scope tokens) ≡ total
    → with_front (pushed_up scope.room front s) (statements_from around statement next more (with_room behind (left_behind around scope.room (sources_of s))) (skip_semicolon rest)) ≡ total
unfolding statements_from
goes_on around statement front ending next fuel more scope behind tokens rest s total some unclosed comes is so_far =
    let one : with_front front (statements_from around statement ending fuel scope tokens)
    ≡ with_front (pushed_up scope.room front s) (statements_from around statement next more (with_room behind (left_behind around scope.room (sources_of s))) (skip_semicolon rest)) =
    rw (some, unclosed, comes, is) (regroup scope.room front s (statements_from around statement next more (with_room behind (left_behind around scope.room (sources_of s))) (skip_semicolon rest))) in
    sym one ∙ so_far

-- a statement that is faulty
pub fails : (around : Around) (statement : Scope → List Token → ReadStatement) (front : List Source) (ending : Ending) (fuel more : ℕ) (scope : Scope) (tokens : List Token)
    (f : BadSource) (total : ReadBlock) → fuel ≡ suc more → after_symbol RightBrace tokens ≡ None → is_left ending ≡ false → statement scope tokens ≡ Err f
    → with_front front (statements_from around statement ending fuel scope tokens) ≡ total → total ≡ Err f
unfolding statements_from
fails around statement front ending fuel more scope tokens f total some unclosed comes is so_far =
    let one : with_front front (statements_from around statement ending fuel scope tokens) ≡ Err f = rw (some, unclosed, comes, is) refl in
    sym so_far ∙ one

-- a statement that nothing comes to
pub is_behind : (around : Around) (statement : Scope → List Token → ReadStatement) (front : List Source) (ending : Ending) (fuel more : ℕ) (scope : Scope) (tokens : List Token)
    (total : ReadBlock) → fuel ≡ suc more → after_symbol RightBrace tokens ≡ None → is_left ending ≡ true
    → with_front front (statements_from around statement ending fuel scope tokens) ≡ total → total ≡ Err (unexpected tokens)
unfolding statements_from
is_behind around statement front ending fuel more scope tokens total some unclosed left so_far =
    let one : with_front front (statements_from around statement ending fuel scope tokens) ≡ Err (unexpected tokens) = rw (some, unclosed, left) refl in
    sym so_far ∙ one

-- the brace that closes the block
pub closes : (around : Around) (statement : Scope → List Token → ReadStatement) (front : List Source) (ending : Ending) (fuel more : ℕ) (scope : Scope) (tokens rest : List Token)
    (total : ReadBlock) → fuel ≡ suc more → after_symbol RightBrace tokens ≡ Some rest
    → with_front front (statements_from around statement ending fuel scope tokens) ≡ total → total ≡ Ok (sources_of front, ending, rest)
unfolding statements_from
closes around statement front ending fuel more scope tokens rest total some closed so_far =
    let one : with_front front (statements_from around statement ending fuel scope tokens) ≡ Ok (sources_of front, ending, rest) =
    rw (some, closed) (ap (λ (b : Sources). Ok (b, ending, rest)) (then_all-end front)) in
    sym so_far ∙ one

-- no token is left
pub runs_out : (around : Around) (statement : Scope → List Token → ReadStatement) (front : List Source) (ending : Ending) (fuel : ℕ) (scope : Scope) (tokens : List Token)
    (total : ReadBlock) → fuel ≡ 0 → with_front front (statements_from around statement ending fuel scope tokens) ≡ total → total ≡ Err (unexpected tokens)
unfolding statements_from
runs_out around statement front ending fuel scope tokens total none so_far =
    let one : with_front front (statements_from around statement ending fuel scope tokens) ≡ Err (unexpected tokens) = rw none refl in
    sym so_far ∙ one

-- ---- one bracket, or one choice, less

pub block_none : (levels : ℕ) (around : Around) (scope : Scope) (tokens : List Token) (e : SourceError) → levels ≡ 0 → e ≡ Bad (unexpected tokens)
    → ReturnsFault e (block_at levels around scope tokens)
unfolding block_at
block_none levels around scope tokens e none is = rw (is, none) refl

pub block_some : (levels : ℕ) (around : Around) (scope : Scope) (tokens : List Token) → 0 < levels
    → block_at levels around scope tokens ≡ block_by around (statement_by (block_at (levels - 1)) (levels - 1) around) scope tokens
unfolding block_at
block_some levels around scope tokens some =
    let e : levels ≡ suc (levels - 1) = omega arith in
    ap (λ (n : ℕ). block_at n around scope tokens) e

pub choice_none : (around : Around) (block : Blocks) (levels more : ℕ) (scope : Scope) (tokens : List Token) (e : SourceError) → more ≡ 0
    → e ≡ Bad (record { at = scope.program; cause = TooDeep }) → ReturnsFault e (choice_at around block levels more scope tokens)
unfolding choice_at
choice_none around block levels more scope tokens e none is = rw (is, none) refl

pub choice_some : (around : Around) (block : Blocks) (levels more : ℕ) (scope : Scope) (tokens : List Token) → 0 < more
    → choice_at around block levels more scope tokens ≡ choice_by around (choice_at around block levels (more - 1)) block levels scope tokens
unfolding choice_at
choice_some around block levels more scope tokens some =
    let e : more ≡ suc (more - 1) = omega arith in
    ap (λ (n : ℕ). choice_at around block levels n scope tokens) e

-- a list of statements is told by its block
abbrev items_in : Sources → List Source
items_in Nil = []
items_in (Next s b) = s ∷ items_in b

-- what a statement's error is of the statements
pub faults : (e : SourceError) (around : Around) (statement : Scope → List Token → ReadStatement) (front : List Source) (ending : Ending) (fuel more : ℕ) (scope : Scope)
    (tokens : List Token) (total : ReadBlock) → fuel ≡ suc more → after_symbol RightBrace tokens ≡ None → is_left ending ≡ false → ReturnsFault e (statement scope tokens)
    → with_front front (statements_from around statement ending fuel scope tokens) ≡ total → ReturnsFault e total
faults OutOfMemory around statement front ending fuel more scope tokens total some unclosed comes is so_far = tt
faults (Bad f) around statement front ending fuel more scope tokens total some unclosed comes is so_far =
    fails around statement front ending fuel more scope tokens f total some unclosed comes is so_far
