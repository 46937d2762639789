use Rattle.std.proofs.Common.{Some, ap, ◌∙◌}
use Rattle.std.proofs.lemmas.List.{nil_from_length}
use Rattle.stm_lists.proofs.Viewed.{shown-now, dropped-sound, dropped-updates}
use Rattle.stm_lists.proofs.linked.Lists.drop_list.Goals as goal

pub invariant_of-self : goal.invariant_of-self
invariant_of-self g c =
    let gone = rw c.index.ensures at c.remove.ensures.updates in
    let empty = shown-now _ c.self.inside.heads _ _ c.self.view_is c.args.list c.requires.there ∙ ap Some (nil_from_length _ c.requires.empty) in
    record { sound = dropped-sound _ _ _ c.args.list c.self.invariant.sound empty gone; room = c.self.invariant.room }

pub returns-clause-dropped : goal.returns-clause-dropped
returns-clause-dropped g c =
    let gone = rw c.index.ensures at c.remove.ensures.updates in
    dropped-updates _ _ _ _ _ _ c.self.view_is gone
