use Rattle.std.proofs.Common.{List, ℕ, map, subst}
use Rattle.std.specs.Prelude.{string_bytes}
use Rattle.std.proofs.lemmas.Result.{err_from_is_err_and}
use Rattle.stm_json.specs.Outcome.{Outcome}
use Rattle.stm_json.specs.Returns.{Returns}
use Rattle.stm_program_json.proofs.KeyLists.{no_keys, text_faulted, text_more}
use Rattle.stm_program_json.proofs.read.list.+with_keys.Goals as goal

pub returns-in-empty : goal.returns-in-empty
returns-in-empty t c = no_keys (map string_bytes c.args.earlier.items) c.args.values.now c.in-empty.len_below

pub returns-in_err-key-in-len1-up : goal.returns-in_err-key-in-len1-up
returns-in_err-key-in-len1-up t c =
    let p = err_from_is_err_and c.from_residual.result c.from_residual.ensures.1 in
    rw (p.1, p.2) (text_faulted c.in_err-key-in-len1-up.field-0.0 c.as_slice.result.now c.args.earlier.items c.args.values.now c.first-item.result
    c.as_slice.ensures.value c.in-len1-up.len_at_least c.first-item.is c.in_err-key-in-len1-up.ensures)

pub returns-in_ok-push-in-len1-up : goal.returns-in_ok-push-in-len1-up
returns-in_ok-push-in-len1-up t c =
    subst (λ (o : Outcome (List (List ℕ))). Returns (λ keys. map string_bytes keys.items) c.with_keys.result o)
    (text_more c.as_slice.result.now c.args.earlier.items c.push.new.self.items c.args.values.now c.first-item.result c.in_ok-key-in-len1-up.key
    c.as_slice.ensures.value c.in-len1-up.len_at_least c.first-item.is c.in_ok-key-in-len1-up.ensures c.in_ok-push-in-len1-up.ensures.items)
    c.with_keys.ensures
