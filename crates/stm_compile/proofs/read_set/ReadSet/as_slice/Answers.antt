use Rattle.std.proofs.Common.{List, map, subst}
use Rattle.std.specs.Prelude.{bytes_eq}
use Rattle.std.specs.List.{IsDistinct}
use Rattle.stm_history.specs.declared.key_state.ReadAnswer.{ReadAnswer}
use Rattle.stm_compile.proofs.read_set.ReadSet.as_slice.Goals as goal

pub returns-clause-distinct : goal.returns-clause-distinct
returns-clause-distinct c =
    subst (λ (answers : List ReadAnswer). IsDistinct bytes_eq (map (λ (a : ReadAnswer). a.key) answers)) c.self.view_is c.self.invariant.1.distinct
