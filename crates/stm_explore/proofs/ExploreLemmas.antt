-- What a search through places answers.
use Rattle.std.proofs.Common.{◌≡◌, ◌∙◌, inl, ℕ, suc, true, false, List, None, Some, sym, ap, arith}
use Rattle.stm_program.specs.Syntax.{ProgramTree}
use Rattle.stm_steps.specs.declared.run.End.{End}
use Rattle.stm_schedules.specs.declared.moves.Move.{Move}
use Rattle.stm_schedules.specs.Places.{Place}
use Rattle.stm_schedules.specs.Schedules.{place_after, IsLongest}
use Rattle.stm_schedules.specs.Keeping.{end_alone, keeps, first_bad, goes_on, FirstBadIsFirst, LongestIsAll}
use Rattle.stm_schedules.specs.Merges.{MergesKeep}
use Rattle.stm_explore.specs.declared.exploring.Explored.{Explored}
use Rattle.stm_explore.specs.declared.exploring.Explored.TheVariants.{Always, Broken, Open}
use Rattle.stm_explore.specs.Explored.{IsExplored, MergesAreKept}

pub always : (first : FirstBadIsFirst) (all : LongestIsAll) (rule : ProgramTree) (n : ℕ) (p : Place) → first_bad (keeps rule) n p ≡ None →
    goes_on n p ≡ true → goes_on (suc n) p ≡ false → IsExplored rule p (Always n)
always first all rule n p none as_long no_longer =
    let longest : IsLongest n p = all.longest n p as_long no_longer in
    (all.all (keeps rule) n p longest (first.none (keeps rule) n p none), longest)

pub broken : (first : FirstBadIsFirst) (rule : ProgramTree) (n : ℕ) (p : Place) (schedule : List Move) (end : End) →
    first_bad (keeps rule) n p ≡ Some schedule → end_alone rule (place_after schedule p).world ≡ Some end → IsExplored rule p (Broken schedule end)
broken first rule n p schedule end found ends = (first.first (keeps rule) n p schedule found, ends)

pub still_open : (first : FirstBadIsFirst) (rule : ProgramTree) (n : ℕ) (p : Place) → first_bad (keeps rule) n p ≡ None → goes_on (suc n) p ≡ true →
    IsExplored rule p (Open n)
still_open first rule n p none more = (first.none (keeps rule) n p none, more)

-- what is so of schedules is so of steps merged with what the others do
pub merges_keep : (merges : MergesKeep) (rule : ProgramTree) (p : Place) (e : Explored) → IsExplored rule p e → MergesAreKept rule p e
merges_keep merges rule p (Always longest) is = λ events merge. merges.always (keeps rule) p events is.0 merge
merges_keep merges rule p (Broken schedule end) is = λ events merge shorter.
    let s = merges.schedules events p merge in
    ap (keeps rule) (sym s.same) ∙ is.0.earlier_keep s.schedule s.is_schedule (inl (omega (arith, s.no_longer)))
merges_keep merges rule p (Open kept) is = λ events merge within. merges.kept (keeps rule) kept p events is.0 merge within
