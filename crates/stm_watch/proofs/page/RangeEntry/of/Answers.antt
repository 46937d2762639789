use Rattle.std.proofs.Common.{◌≡◌, ◌∙◌, ℕ, List, true, refl, subst, sym}
use Rattle.stm_watch.specs.declared.watched.Watched.TheVariants.{Range}
use Rattle.stm_watch.specs.Keys.{is_watched, first_key}
use Rattle.stm_watch.proofs.Ordered.{has_its_own}
use Rattle.stm_watch.proofs.page.RangeEntry.of.Goals as goal

pub returns : goal.returns
returns c =
    let watched = c.args.watched.now in
    let first = c.in_ok-first.ensures.cases ∙ c.first_key.ensures in
    record {
      stands = refl;
      all = λ key is.
          subst (λ (l : List ℕ). is_watched (Range l c.in_ok-end.end) key ≡ true) (sym first)
          (subst (λ (l : List ℕ). is_watched (Range (first_key watched) l) key ≡ true) (sym c.in_ok-end.ensures)
          (has_its_own watched c.args.place key is));
    }
