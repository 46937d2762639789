use Rattle.std.proofs.Common.{◌≡◌, ◌<◌, List, length, sym, ap, ◌∙◌, subst, arith, drop}
use Rattle.indexmap.specs.IndexMap.{get_by_text}
use Rattle.stm_history.specs.declared.change.Change.{Change}
use Rattle.stm_steps.specs.declared.searched.TheConstants.{MOST_SEARCHED}
use Rattle.stm_steps.specs.LastPlaces.{AreLastPlaces}
use Rattle.stm_steps.proofs.SearchedLemmas.{none_behind}
use Rattle.stm_steps.proofs.write_log.WriteLog.push_searched.Goals as goal

-- no write comes after those that are searched, before and after
pub invariant_of-self-2 : goal.invariant_of-self-2
invariant_of-self-2 c =
    let ws : List Change = c.self.inside.writes.items in
    let few : length ws < MOST_SEARCHED = omega (arith, c.requires, ap (λ (l : List Change). length l) c.self.view_is) in
    let same : drop MOST_SEARCHED c.push.new.self.items ≡ drop MOST_SEARCHED ws =
    ap (λ (l : List Change). drop MOST_SEARCHED l) c.in_ok-push.ensures.items ∙ none_behind MOST_SEARCHED ws c.args.write few in
    subst (λ l. AreLastPlaces l (get_by_text c.self.inside.last_places)) (sym same) c.self.invariant
