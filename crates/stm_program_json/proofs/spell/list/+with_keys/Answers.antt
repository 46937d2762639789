use Rattle.std.proofs.lemmas.Result.{IfOk-weaker}
use Rattle.serde_json.specs.View.{items_view}
use Rattle.stm_program_json.proofs.WriteLoop.{texts_end, texts_more}
use Rattle.stm_program_json.proofs.spell.list.+with_keys.Goals as goal

pub returns-in-empty : goal.returns-in-empty
returns-in-empty t c = texts_end c.args.values.items c.args.keys.now c.in-empty.len_below

pub returns-in_ok-push-in-len1-up : goal.returns-in_ok-push-in-len1-up
returns-in_ok-push-in-len1-up t c =
    IfOk-weaker c.with_keys.result _ _ (λ vs e. texts_more c.args.values.items c.push.new.self.items c.in_ok-key-in-len1-up.key c.args.keys.now
    c.first-item.result _ (items_view vs.items) c.in-len1-up.len_at_least c.first-item.is c.as_str.ensures.value c.in_ok-push-in-len1-up.ensures.items
    c.in_ok-key-in-len1-up.ensures e) c.with_keys.ensures
