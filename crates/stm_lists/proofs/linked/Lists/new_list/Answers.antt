use Rattle.stm_lists.proofs.Viewed.{new_list-rebuilds, updates-now}
use Rattle.stm_lists.proofs.Changes.{rebuilt-sound, rebuilt-shows}
use Rattle.stm_lists.proofs.linked.Lists.new_list.Goals as goal

pub invariant_of-self : goal.invariant_of-self
invariant_of-self g c =
    let was = c.self.invariant.sound in
    rw c.in_err-index.ensures.err (record { sound = record { linked = was.linked; owned = was.owned }; room = c.self.invariant.room })

pub invariant_of-self-2 : goal.invariant_of-self-2
invariant_of-self-2 g c =
    let made = new_list-rebuilds c.self.inside.nodes c.self.inside.heads c.insert.new.self c.in_ok-index.index c.self.invariant.sound
    c.in_ok-index.ensures.was_vacant c.in_ok-index.ensures.updates in
    record { sound = rebuilt-sound _ _ _ _ _ _ _ c.self.invariant.sound made; room = c.self.invariant.room }

pub returns-clause-ok : goal.returns-clause-ok
returns-clause-ok g c =
    let made = new_list-rebuilds c.self.inside.nodes c.self.inside.heads c.insert.new.self c.in_ok-index.index c.self.invariant.sound
    c.in_ok-index.ensures.was_vacant c.in_ok-index.ensures.updates in
    rw c.at.ensures (updates-now _ _ _ _ c.self.view_is _ _ _ _ _ (rebuilt-shows _ _ _ _ _ _ _ c.self.invariant.sound made))
