use Rattle.std.proofs.Common.{sym, arith}
use Rattle.std.proofs.lemmas.List.{take_all}
use Rattle.stm_terms.specs.declared.limits.TheConstants.{MOST_KEPT}
use Rattle.stm_terms.proofs.items.first_items.Goals as goal

pub returns-else-items-ge-MOST_KEPT : goal.returns-else-items-ge-MOST_KEPT
returns-else-items-ge-MOST_KEPT c = sym (take_all MOST_KEPT c.args.items.now (omega arith))
