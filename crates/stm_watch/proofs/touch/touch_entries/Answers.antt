use Rattle.std.proofs.Common.{◌≡◌, ◌∙◌, ◌+◌, ◌++◌, ◌∷◌, [], List, ap, subst, sym, take}
use Rattle.std.proofs.lemmas.Grind.{take_at_read}
use Rattle.std.proofs.lemmas.List.{take_all}
use Rattle.stm_watch.specs.declared.page.RangeEntry.{RangeEntry}
use Rattle.stm_watch.specs.Pages.{IsAny, IsTouched, Reaches}
use Rattle.stm_watch.proofs.Touching.{touched_none, touched_more}
use Rattle.stm_watch.proofs.touch.touch_entries.Goals as goal

pub loop-entry-init : goal.loop-entry-init
loop-entry-init c = record {
  touched = touched_none c.args.revision c.args.key.now (λ i. IsAny (Reaches c.args.key.now i) []) c.args.slots.now (λ i any. any);
  covers = c.requires;
}

pub loop-entry-preserved : goal.loop-entry-preserved
loop-entry-preserved c =
    let entries : List RangeEntry = c.args.entries.now in
    let x : RangeEntry = c.entry-item.result in
    let one : take (c.loop-entry.entry-index + 1) entries ≡ take c.loop-entry.entry-index entries ++ x ∷ [] =
    (take_at_read entries c.loop-entry.entry-index x c.loop-entry-test.true).1
    ∙ ap (λ (y : RangeEntry). take c.loop-entry.entry-index entries ++ y ∷ []) (sym c.entry-item.is) in
    record {
      touched = touched_more c.args.revision c.args.key.now (Reaches c.args.key.now) (take c.loop-entry.entry-index entries)
          (take (c.loop-entry.entry-index + 1) entries) x c.args.slots.now c.loop-entry.slots c.touch_entry.new.slots one c.loop-entry.invariant.touched
          c.touch_entry.ensures.slots;
      covers = c.touch_entry.ensures.covers;
    }

pub returns-clause-slots : goal.returns-clause-slots
returns-clause-slots c =
    subst (λ (xs : List RangeEntry). IsTouched c.args.revision c.args.key.now (λ i. IsAny (Reaches c.args.key.now i) xs) c.args.slots.now c.loop-entry.slots)
    (take_all c.loop-entry.entry-index c.args.entries.now c.loop-entry-test.false) c.loop-entry.invariant.touched
