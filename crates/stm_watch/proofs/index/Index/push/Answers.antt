use Rattle.std.proofs.Common.{◌∙◌, ◌++◌, ◌∷◌, [], ℕ, Some, sym, subst}
use Rattle.stm_lists.specs.Lists.{Updates, entries_at}
use Rattle.stm_watch.specs.Kept.{AreCovered}
use Rattle.stm_watch.proofs.Indexed.{covered_more}
use Rattle.stm_watch.proofs.index.Index.push.Goals as goal

pub returns : goal.returns
returns c ws w covers is =
    let long = c.len.ensures ∙ c.args.self.now.nodes.ok.0 in
    subst (λ ns. AreCovered c.push_back.new.self c.args.self.now.idle c.args.self.now.ready ns (ws ++ Some w ∷ []))
    (sym c.push_reserved.ensures.items)
    (covered_more c.args.self.now.idle c.args.self.now.ready c.args.self.now.lists c.push_back.new.self
    c.args.self.now.nodes.items ws c.args.list c.in-Ok.node w covers is
    (subst (λ (n : ℕ). Updates c.args.self.now.lists c.push_back.new.self c.args.list
    (Some (entries_at c.args.self.now.lists c.args.list ++ (c.in-Ok.node, n) ∷ []))) long c.in-Ok.ensures.ok))
