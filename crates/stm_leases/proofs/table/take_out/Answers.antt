use Rattle.std.proofs.lemmas.Map.Text.{hash_map_updates_text}
use Rattle.stm_leases.proofs.table.take_out.Goals as goal

pub returns-clause-updates : goal.returns-clause-updates
returns-clause-updates c = hash_map_updates_text c.args.key.now c.args.attached.now c.swap_remove.new.self _ c.swap_remove.ensures.updates
