use Rattle.stm_lists.proofs.Counts.{slab_len-next_set, slab_len-previous_set}
use Rattle.stm_lists.proofs.Operations.{can_unlink, unlink-sound, unlink-value, unlink-shows, unlink-gone}
use Rattle.stm_lists.proofs.links.unlink.Goals as goal

pub set_next-requires : goal.set_next-requires
set_next-requires g c =
    let found = rw c.index.ensures at c.remove-list.ensures.value in
    let gone = rw c.index.ensures at c.remove-list.ensures.updates in
    (can_unlink _ _ _ _ c.requires.sound gone _ found).previous

pub set_previous-requires : goal.set_previous-requires
set_previous-requires g c =
    let found = rw c.index.ensures at c.remove-list.ensures.value in
    let gone = rw c.index.ensures at c.remove-list.ensures.updates in
    rw (c.set_next.ensures.nodes, c.set_next.ensures.heads) (can_unlink _ _ _ _ c.requires.sound gone _ found).next

pub shorten-requires-clause-there : goal.shorten-requires-clause-there
shorten-requires-clause-there g c =
    let found = rw c.index.ensures at c.remove-list.ensures.value in
    let gone = rw c.index.ensures at c.remove-list.ensures.updates in
    rw (c.set_previous.ensures.heads, c.set_next.ensures.heads) (can_unlink _ _ _ _ c.requires.sound gone _ found).head

pub shorten-requires-clause-filled : goal.shorten-requires-clause-filled
shorten-requires-clause-filled g c =
    let found = rw c.index.ensures at c.remove-list.ensures.value in
    let gone = rw c.index.ensures at c.remove-list.ensures.updates in
    rw (c.set_previous.ensures.heads, c.set_next.ensures.heads) (can_unlink _ _ _ _ c.requires.sound gone _ found).filled

pub returns-clause-sound : goal.returns-clause-sound
returns-clause-sound g c =
    let found = rw c.index.ensures at c.remove-list.ensures.value in
    let gone = rw c.index.ensures at c.remove-list.ensures.updates in
    rw (c.shorten.ensures, c.set_previous.ensures.nodes, c.set_previous.ensures.heads, c.set_next.ensures.nodes, c.set_next.ensures.heads)
    (unlink-sound _ _ _ _ c.requires.sound gone _ found)

pub returns-clause-value : goal.returns-clause-value
returns-clause-value g c =
    let found = rw c.index.ensures at c.remove-list.ensures.value in
    let gone = rw c.index.ensures at c.remove-list.ensures.updates in
    unlink-value _ _ _ _ c.requires.sound gone _ found

pub returns-clause-shows : goal.returns-clause-shows
returns-clause-shows g c =
    let found = rw c.index.ensures at c.remove-list.ensures.value in
    let gone = rw c.index.ensures at c.remove-list.ensures.updates in
    rw (c.shorten.ensures, c.set_previous.ensures.nodes, c.set_previous.ensures.heads, c.set_next.ensures.nodes, c.set_next.ensures.heads)
    (unlink-shows _ _ _ _ c.requires.sound gone _ found)

pub returns-clause-len : goal.returns-clause-len
returns-clause-len g c =
    rw (c.set_previous.ensures.nodes, slab_len-previous_set, c.set_next.ensures.nodes, slab_len-next_set) c.remove-list.ensures.len

pub returns-clause-gone : goal.returns-clause-gone
returns-clause-gone g c =
    let gone = rw c.index.ensures at c.remove-list.ensures.updates in
    rw (c.set_previous.ensures.nodes, c.set_next.ensures.nodes) (unlink-gone _ _ _ _ c.requires.sound gone c.remove-list.result)
