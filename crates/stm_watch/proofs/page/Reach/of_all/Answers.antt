use Rattle.std.proofs.Common.{◌≡◌, ◌∙◌, ◌+◌, ◌++◌, ◌∷◌, [], List, ap, inl, inr, subst, sym, take}
use Rattle.std.proofs.lemmas.Grind.{take_at_read}
use Rattle.std.proofs.lemmas.List.{take_all}
use Rattle.stm_watch.specs.declared.page.RangeEntry.{RangeEntry}
use Rattle.stm_watch.specs.Pages.{IsOneOf, IsMet}
use Rattle.stm_watch.proofs.Entered.{any-parts}
use Rattle.stm_watch.proofs.page.Reach.of_all.Goals as goal

pub loop-entry-init : goal.loop-entry-init
loop-entry-init c e any = absurd any

pub loop-entry-preserved : goal.loop-entry-preserved
loop-entry-preserved c e any =
    let entries : List RangeEntry = c.args.entries.now in
    let x : RangeEntry = c.entry-item.result in
    let one : take (c.loop-entry.entry-index + 1) entries ≡ take c.loop-entry.entry-index entries ++ x ∷ [] =
    (take_at_read entries c.loop-entry.entry-index x c.loop-entry-test.true).1
    ∙ ap (λ (y : RangeEntry). take c.loop-entry.entry-index entries ++ y ∷ []) (sym c.entry-item.is) in
    elim (any-parts (λ y. y ≡ e) (take c.loop-entry.entry-index entries) (x ∷ []) (subst (IsOneOf e) one any)) [
      | inl before ↦ c.include.ensures.kept c.args.slots.now e (c.loop-entry.invariant e before)
      | inr last ↦ elim last [
        | inl here ↦ subst (λ (y : RangeEntry). IsMet c.args.slots.now y c.include.new.self) here
            (c.in_ok-include.ensures.ok c.args.slots.now c.idle_since.ensures)
        | inr nothing ↦ absurd nothing
      ]
    ]

pub returns : goal.returns
returns c e any = c.loop-entry.invariant e (subst (IsOneOf e) (sym (take_all c.loop-entry.entry-index c.args.entries.now c.loop-entry-test.false)) any)
