use Rattle.stm_world_laws.proofs.SlotLemmas as lemmas
use Rattle.stm_world_laws.proofs.slots.reservations_take_free_slots.Goals as goal

pub returns : goal.returns
returns c = lemmas.reservations_take_free_slots
