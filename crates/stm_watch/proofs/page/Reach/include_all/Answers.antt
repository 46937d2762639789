use Rattle.std.proofs.Common.{arith, inl, inr}
use Rattle.std.proofs.lemmas.Bool.Decides.{nat_tests}
use Rattle.stm_watch.proofs.page.Reach.include_all.Goals as goal

pub returns-clause-kept : goal.returns-clause-kept
returns-clause-kept c ws e met w at idle =
    elim (met w at idle) [ inl le ↦ inl (grind (arith, nat_tests, le, c.min-self.ensures)) | inr inside ↦ inr (c.include.ensures.kept e inside) ]
