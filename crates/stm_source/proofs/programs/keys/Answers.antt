use Rattle.std.proofs.Common.{◌≡◌, ◌<◌, [], length, map, Some, None, Ok, sym, arith, rules}
use Rattle.std.specs.Prelude.{string_bytes}
use Rattle.std.proofs.lemmas.Result.{err_from_is_err_and}
use Rattle.stm_tokens.specs.declared.token.Symbol.TheVariants.{Comma}
use Rattle.stm_terms.specs.Cursor.{after_symbol}
use Rattle.stm_terms.specs.Outcome.{ReturnsFault}
use Rattle.stm_source.specs.Programs.{key_at, keys_from}
use Rattle.stm_source.proofs.StepLemmas.{keys_fault, keys_more, keys_last, keys_unclosed, keys_over}
use Rattle.stm_source.proofs.programs.keys.Goals as goal

pub returns-in_err-key : goal.returns-in_err-key
returns-in_err-key c =
    let p = err_from_is_err_and c.from_residual.result c.from_residual.ensures.1 in
    let n = length c.args.tokens.now in
    let less : c.loop-turn._turn < n = omega arith in
    let faulty : ReturnsFault c.in_err-key.field-0.0 (key_at c.args.scope.now (map string_bytes c.loop-turn.keys.items) c.loop-turn.rest.now) =
    rw (sym c.as_slice.ensures.value) c.in_err-key.ensures in
    rw (p.1, p.2) (keys_fault c.in_err-key.field-0.0 c.args.scope.now n c.loop-turn._turn (map string_bytes c.loop-turn.keys.items) c.loop-turn.rest.now
    (keys_from c.args.scope.now n [] c.args.tokens.now) less faulty c.loop-turn.invariant)

pub returns-in_err-rest : goal.returns-in_err-rest
returns-in_err-rest c =
    let p = err_from_is_err_and c.from_residual-in_err-rest.result c.from_residual-in_err-rest.ensures.1 in
    let n = length c.args.tokens.now in
    let less : c.loop-turn._turn < n = omega arith in
    let is : key_at c.args.scope.now (map string_bytes c.loop-turn.keys.items) c.loop-turn.rest.now ≡ Ok (c.in_ok-key.key, c.in_ok-key.behind.now) =
    rw (sym c.as_slice.ensures.value) c.in_ok-key.ensures in
    let ends : after_symbol Comma c.in_ok-key.behind.now ≡ None = search rules in
    rw (p.1, p.2) (keys_unclosed c.in_err-rest.field-0.0 c.args.scope.now n c.loop-turn._turn (map string_bytes c.loop-turn.keys.items) c.in_ok-key.key c.loop-turn.rest.now
    c.in_ok-key.behind.now (keys_from c.args.scope.now n [] c.args.tokens.now) less is ends c.in_err-rest.ensures c.loop-turn.invariant)

pub returns-in_default : goal.returns-in_default
returns-in_default c =
    let n = length c.args.tokens.now in
    let less : c.loop-turn._turn < n = omega arith in
    let is : key_at c.args.scope.now (map string_bytes c.loop-turn.keys.items) c.loop-turn.rest.now ≡ Ok (c.in_ok-key.key, c.in_ok-key.behind.now) =
    rw (sym c.as_slice.ensures.value) c.in_ok-key.ensures in
    let ends : after_symbol Comma c.in_ok-key.behind.now ≡ None = search rules in
    rw c.in_ok-add_known_key.ensures (keys_last c.args.scope.now n c.loop-turn._turn (map string_bytes c.loop-turn.keys.items) c.in_ok-key.key c.loop-turn.rest.now
    c.in_ok-key.behind.now c.in_ok-rest.rest.now (keys_from c.args.scope.now n [] c.args.tokens.now) less is ends c.in_ok-rest.ensures c.loop-turn.invariant)

pub loop-turn-preserved : goal.loop-turn-preserved
loop-turn-preserved c =
    let n = length c.args.tokens.now in
    let less : c.loop-turn._turn < n = omega arith in
    let is : key_at c.args.scope.now (map string_bytes c.loop-turn.keys.items) c.loop-turn.rest.now ≡ Ok (c.in_ok-key.key, c.in_ok-key.behind.now) =
    rw (sym c.as_slice.ensures.value) c.in_ok-key.ensures in
    let follows : after_symbol Comma c.in_ok-key.behind.now ≡ Some c.in-Some.next.now = search rules in
    rw c.in_ok-add_known_key.ensures (keys_more c.args.scope.now n c.loop-turn._turn (map string_bytes c.loop-turn.keys.items) c.in_ok-key.key c.loop-turn.rest.now
    c.in_ok-key.behind.now c.in-Some.next.now (keys_from c.args.scope.now n [] c.args.tokens.now) less is follows c.loop-turn.invariant)

pub returns : goal.returns
returns c =
    let n = length c.args.tokens.now in
    keys_over c.unexpected.result c.args.scope.now n c.loop-turn._turn (map string_bytes c.loop-turn.keys.items) c.loop-turn.rest.now (keys_from c.args.scope.now n [] c.args.tokens.now)
    (omega arith) c.unexpected.ensures c.loop-turn.invariant
