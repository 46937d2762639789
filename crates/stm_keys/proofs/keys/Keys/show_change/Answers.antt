use Rattle.std.proofs.Common.{◌+◌, ◌<◌, ◌∙◌, sym, subst, Option}
use Rattle.stm_history.specs.declared.key_state.KeyState.{KeyState}
use Rattle.stm_history.specs.History.{key_now, version_of}
use Rattle.stm_keys.proofs.Numbers.{next_version}
use Rattle.stm_keys.proofs.keys.Keys.show_change.Goals as goal

pub state_put-state-requires : goal.state_put-state-requires
state_put-state-requires c =
    subst (λ (o : Option KeyState). version_of o + 1 < 18446744073709551616) (sym (c.state_since-before.ensures ∙ c.newest_event-newest.ensures.value))
    (next_version (key_now c.args.self.now.history c.as_str-name.result.now) c.newest_event-newest.ensures.fits)
