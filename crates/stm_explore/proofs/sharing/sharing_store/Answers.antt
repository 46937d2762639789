use Rattle.std.proofs.Common.{◌∙◌, subst, sym}
use Rattle.stm_world.specs.Sound.{IsSound}
use Rattle.stm_explore.proofs.sharing.sharing_store.Goals as goal

pub with_runners_of-requires : goal.with_runners_of-requires
with_runners_of-requires c = subst IsSound (sym (c.have_same_base.ensures c.if-not-have_same_base.false)) c.know_sound.ensures

pub returns : goal.returns
returns c = c.in_ok-shared.ensures ∙ c.have_same_base.ensures c.if-not-have_same_base.false
