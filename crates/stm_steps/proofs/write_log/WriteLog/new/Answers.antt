use Rattle.std.proofs.Common.{ap}
use Rattle.std.specs.Prelude.{bytes_eq, string_bytes}
use Rattle.std.specs.Map.{lookup}
use Rattle.indexmap.specs.IndexMap.{get_by_text}
use Rattle.stm_steps.specs.declared.searched.TheConstants.{MOST_SEARCHED}
use Rattle.stm_steps.proofs.PlaceLemmas.{none_behind_none}
use Rattle.stm_steps.proofs.write_log.WriteLog.new.Goals as goal

pub invariant_of-result : goal.invariant_of-result
invariant_of-result c =
    none_behind_none MOST_SEARCHED c.new.result.items (get_by_text c.new-2.result) c.new.ensures.items
    (λ key. ap (λ es. lookup (λ k. bytes_eq key (string_bytes k)) es) c.new-2.ensures.empty)
