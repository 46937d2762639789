use Rattle.std.proofs.Common.{ap, sym, ◌∙◌}
use Rattle.std.specs.Option.{option_copied}
use Rattle.stm_storing.proofs.PastKeys.{absent, put_copy}
use Rattle.stm_storing.proofs.past.add_key_at.Goals as goal

pub returns-in-None : goal.returns-in-None
returns-in-None c =
    absent c.args.keys.now.history c.args.revision c.args.key.now c.args.past.now.entries (sym c.look_back.ensures ∙ ap option_copied c.in-None.is)

pub returns-in_ok-insert-in-Some : goal.returns-in_ok-insert-in-Some
returns-in_ok-insert-in-Some c =
    put_copy c.args.keys.now.history c.args.revision c.args.key.now c.in-Some.state.now c.in_ok-key-in-Some.key c.in_ok-state-in-Some.state c.args.past.now.entries
    c.insert.new.self.entries (sym c.look_back.ensures ∙ ap option_copied c.in-Some.is) c.in_ok-key-in-Some.ensures c.in_ok-state-in-Some.ensures
    c.in_ok-insert-in-Some.ensures.updates.0 (λ up. c.in_ok-insert-in-Some.ensures.ordered)
