use Rattle.std.proofs.Common.{sym, ◌∙◌}
use Rattle.stm_compile.proofs.BufferLemmas.{apart_where_none, apart_with_first, none_found}
use Rattle.stm_compile.proofs.write_buffer.+are_apart.Goals as goal

pub returns-in-empty : goal.returns-in-empty
returns-in-empty t c = λ _. apart_where_none c.args.writes.now c.in-empty.len_below

pub returns-then-is_none : goal.returns-then-is_none
returns-then-is_none t c =
    λ apart.
    apart_with_first c.args.writes.now c.first-item.result c.key.result.now c.in-len1-up.len_at_least c.first-item.is c.key.ensures
    (sym c.place_of.ensures ∙ none_found c.place_of.result c.is_none.result c.is_none.ensures c.if-is_none.true) (c.are_apart.ensures apart)
