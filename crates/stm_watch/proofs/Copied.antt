-- What copies of the tables and of the pages keep.
use Rattle.std.proofs.Common.{◌≡◌, ℕ, zero, suc, List, Option, [], ◌∷◌, String, inl, inr, refl, arith}
use Rattle.std.specs.Prelude.{bytes_eq, string_bytes}
use Rattle.std.specs.List.{AllZip}
use Rattle.std.specs.Map.{lookup}
use Rattle.std.proofs.lemmas.Bool.Decides.{nat_tests}
use Rattle.stm_watch.specs.declared.page.Page.{Page}
use Rattle.stm_watch.specs.declared.page.RangeEntry.{RangeEntry}
use Rattle.stm_watch.specs.declared.ranges.Ranges.{Ranges}
use Rattle.stm_watch.specs.declared.shelf.Shelf.{Shelf}
use Rattle.stm_watch.specs.declared.watched.Watcher.{Watcher}
use Rattle.stm_watch.specs.Pages.{HasIn, IsAny, IsShelved, Keeps, KeepsAll, KeepsShelved}
use Rattle.stm_watch.proofs.Entered.{unsettled}

-- copies of texts and numbers are found like their originals
pub copy_finds : {A : Type 0} (es fs : List (String A × ℕ)) (key : List ℕ)
    → AllZip (λ e f. (string_bytes f.0 ≡ string_bytes e.0) × (f.1 ≡ e.1)) es fs
    → lookup (λ k. bytes_eq key (string_bytes k)) fs ≡ lookup (λ k. bytes_eq key (string_bytes k)) es
copy_finds [] [] key same = refl
copy_finds [] (f ∷ fs) key same = absurd same
copy_finds (e ∷ es) [] key same = absurd same
copy_finds (e ∷ es) (f ∷ fs) key same = grind (arith, nat_tests, copy_finds es fs key same.1)

-- a copy of a page has its entries, and what it reaches is found anew
abbrev pub IsPageCopy : Page → Page → Type 0
IsPageCopy page copy = (copy.reach.until ≡ 0) × (copy.entries.items ≡ page.entries.items)

pub keeps_copied : (pages copies : List Page) → AllZip IsPageCopy pages copies → Keeps pages copies
keeps_copied [] copies p ws e has = absurd has
keeps_copied (page ∷ pages) [] p ws e has = absurd p
keeps_copied (page ∷ pages) (copy ∷ copies) p ws e has = grind (arith, nat_tests, unsettled, keeps_copied pages copies p.1)

pub shelves_copied : (shelves copies : List Shelf) → AllZip KeepsShelved shelves copies → (ws : List (Option Watcher)) (e : RangeEntry)
    → IsAny (IsShelved ws e) shelves → IsAny (IsShelved ws e) copies
shelves_copied [] copies p ws e had = absurd had
shelves_copied (shelf ∷ shelves) [] p ws e had = absurd p
shelves_copied (shelf ∷ shelves) (copy ∷ copies) p ws e had =
    elim had [ inl here ↦ inl (p.0 ws e here) | inr there ↦ inr (shelves_copied shelves copies p.1 ws e there) ]

pub groups_copied : (groups copies : List Ranges) → AllZip KeepsAll groups copies → (ws : List (Option Watcher)) (g : ℕ) (e : RangeEntry)
    → HasIn ws groups g e → HasIn ws copies g e
groups_copied [] [] p ws g e has = has
groups_copied [] (copy ∷ copies) p ws g e has = absurd p
groups_copied (group ∷ groups) [] p ws g e has = absurd p
groups_copied (group ∷ groups) (copy ∷ copies) p ws zero e has = p.0 ws e has
groups_copied (group ∷ groups) (copy ∷ copies) p ws (suc g) e has = groups_copied groups copies p.1 ws g e has
