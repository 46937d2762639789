use Rattle.std.proofs.Common.{◌-◌, ◌∙◌, Bool, ℕ, Option, None, ap, cond, option_map, slice_index_or, sym}
use Rattle.stm_watch.specs.declared.watched.Watcher.{Watcher}
use Rattle.stm_watch.specs.Keys.{is_range}
use Rattle.stm_watch.specs.Places.{WatchersView}
use Rattle.stm_watch.specs.Calls.{watches_range}
use Rattle.stm_watch.proofs.watchers.Watchers.watches_range.Goals as goal

abbrev of_range : Option Watcher → Bool
of_range found = is_range (option_map (λ (w : Watcher). w.watched) found)

pub returns-in-Some : goal.returns-in-Some
returns-in-Some c =
    c.is_range.ensures
    ∙ ap of_range (sym c.watcher.ensures)
    ∙ ap (λ (k : ℕ). of_range (slice_index_or c.self.inside.table k None)) c.in-Some.ensures.1
    ∙ ap (λ b. of_range (cond b None (slice_index_or c.self.inside.table (c.args.id - 1) None))) (sym c.in-Some.ensures.0)
    ∙ ap (λ (v : WatchersView). watches_range c.args.id v.places) c.self.view_is

pub returns-in-None : goal.returns-in-None
returns-in-None c =
    ap of_range (sym c.in-None.ensures)
    ∙ ap (λ (v : WatchersView). watches_range c.args.id v.places) c.self.view_is
