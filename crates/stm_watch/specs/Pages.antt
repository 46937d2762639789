-- The pages of watchers of ranges, and what a change of a key makes of the watchers at some places. No public clause cites this module.
use Rattle.std.specs.Prelude.{◌≡◌, ◌⊎◌, ◌≤◌, ◌<◌, ℕ, zero, suc, Bool, true, false, List, [], ◌∷◌, ◌++◌, Option, Some, None, slice_index_or}
use Rattle.std.specs.Ordering.{nat_cmp, is_le}
use Rattle.std.specs.Cmp.Lexicographic.{slice_cmp}
use Rattle.indexmap.specs.IndexMap.{get_by_text}
use Rattle.stm_watch.specs.declared.groups.Groups.{Groups}
use Rattle.stm_watch.specs.declared.index.Index.{Index}
use Rattle.stm_watch.specs.declared.page.RangeEntry.{RangeEntry}
use Rattle.stm_watch.specs.declared.page.Bounds.{Bounds}
use Rattle.stm_watch.specs.declared.page.Page.{Page}
use Rattle.stm_watch.specs.declared.page.Reach.{Reach}
use Rattle.stm_watch.specs.declared.ranges.Ranges.{Ranges}
use Rattle.stm_watch.specs.declared.shelf.Shelf.{Shelf}
use Rattle.stm_watch.specs.declared.watched.Watched.{Watched}
use Rattle.stm_watch.specs.declared.watched.Watched.TheVariants.{Key, Range}
use Rattle.stm_watch.specs.declared.watched.Watcher.{Watcher}
use Rattle.stm_watch.specs.Kept.{Covers}
use Rattle.stm_watch.specs.Keys.{is_watched}
use Rattle.stm_watch.specs.Touch.{touch_each}

-- one of these is so
abbrev pub IsAny : {A : Type 0} → (A → Type 0) → List A → Type 0
IsAny is [] = ⊥
IsAny is (x ∷ xs) = is x ⊎ IsAny is xs

abbrev pub IsOneOf : {A : Type 0} → A → List A → Type 0
IsOneOf x xs = IsAny (λ y. y ≡ x) xs

-- ---- entries on pages

-- the range of the entry has all keys that are watched
abbrev pub HasAll : RangeEntry → Watched → Type 0
HasAll e watched = (key : List ℕ) → is_watched watched key ≡ true → is_watched (Range e.first e.end) key ≡ true

-- where the range ends that has just these keys
abbrev pub end_of : Watched → List ℕ
end_of (Key key) = key ++ 0 ∷ []
end_of (Range first end) = end

-- the entry is for the watcher at a place
pub record IsEntryOf (watched : Watched) (place : ℕ) (e : RangeEntry) : Type 0 where
  pub stands : e.place ≡ place
  pub all : HasAll e watched

-- the range is within bounds
pub record IsWithin (e : RangeEntry) (bounds : Bounds) : Type 0 where
  pub low : is_le (slice_cmp nat_cmp bounds.low e.first) ≡ true
  pub high : is_le (slice_cmp nat_cmp e.end bounds.high) ≡ true

-- it is within the bounds, if there are any
abbrev pub IsInside : RangeEntry → Option Bounds → Type 0
IsInside e None = ⊥
IsInside e (Some bounds) = IsWithin e bounds

-- whether a range within the bounds may have a key
abbrev pub may_have : Option Bounds → List ℕ → Bool
may_have None key = false
may_have (Some bounds) key = is_watched (Range bounds.low bounds.high) key

-- where the watcher of the entry is idle, its range is within the bounds, or what it has seen is not below the revision up to which they say all
abbrev pub IsMet : List (Option Watcher) → RangeEntry → Reach → Type 0
IsMet ws e reach =
    (w : Watcher) → slice_index_or ws e.place None ≡ Some w → w.first ≡ None → (reach.until ≤ w.seen) ⊎ IsInside e reach.bounds

-- this is what the watcher at a place has seen, if one is idle there
abbrev pub IsSeenAt : List (Option Watcher) → ℕ → Option ℕ → Type 0
IsSeenAt ws i seen = (w : Watcher) → slice_index_or ws i None ≡ Some w → w.first ≡ None → seen ≡ Some w.seen

-- the entry is on the page, which is looked at where a change concerns its watcher
pub record StandsOn (ws : List (Option Watcher)) (e : RangeEntry) (page : Page) : Type 0 where
  pub met : IsMet ws e page.reach
  pub there : IsOneOf e page.entries.items

-- the entry is on one of these pages
abbrev pub HasEntry : List (Option Watcher) → List Page → RangeEntry → Type 0
HasEntry ws pages e = IsAny (StandsOn ws e) pages

-- no entry is lost
abbrev pub Keeps : List Page → List Page → Type 0
Keeps old new = (ws : List (Option Watcher)) (e : RangeEntry) → HasEntry ws old e → HasEntry ws new e

-- the entry is on the pages of a shelf, which are looked at where a change concerns its watcher
pub record IsShelved (ws : List (Option Watcher)) (e : RangeEntry) (shelf : Shelf) : Type 0 where
  pub met : IsMet ws e shelf.reach
  pub there : HasEntry ws shelf.pages.items e

-- no entry of a shelf is lost
abbrev pub KeepsShelved : Shelf → Shelf → Type 0
KeepsShelved old new = (ws : List (Option Watcher)) (e : RangeEntry) → IsShelved ws e old → IsShelved ws e new

-- the watcher at a place has its entry here
pub record IsEntered (watched : Watched) (place : ℕ) (here : RangeEntry → Type 0) : Type 0 where
  pub entry : RangeEntry
  pub its : IsEntryOf watched place entry
  pub there : here entry

-- ---- groups

-- the entry is on a shelf of a group
abbrev pub IsIn : List (Option Watcher) → RangeEntry → Ranges → Type 0
IsIn ws e group = IsAny (IsShelved ws e) group.shelves.items

-- no entry of a group is lost
abbrev pub KeepsAll : Ranges → Ranges → Type 0
KeepsAll old new = (ws : List (Option Watcher)) (e : RangeEntry) → IsIn ws e old → IsIn ws e new

-- the one at a place is there, and is so
abbrev pub At : {A : Type 0} → (A → Type 0) → List A → ℕ → Type 0
At is [] i = ⊥
At is (x ∷ xs) zero = is x
At is (x ∷ xs) (suc i) = At is xs i

-- the entry is in the group with a number
abbrev pub HasIn : List (Option Watcher) → List Ranges → ℕ → RangeEntry → Type 0
HasIn ws groups group e = At (IsIn ws e) groups group

-- the group in which watchers of this are: that of the key, or that of ranges
abbrev pub group_of : (List ℕ → Option ℕ) → Watched → Option ℕ
group_of of_key (Key key) = of_key key
group_of of_key (Range first end) = Some 0

-- no key loses its group, and no group an entry
pub record GroupsKeep (old new : Groups) : Type 0 where
  pub keys : (key : List ℕ) (group : ℕ) → get_by_text old.keys key ≡ Some group → get_by_text new.keys key ≡ Some group
  pub entries : (ws : List (Option Watcher)) (group : ℕ) (e : RangeEntry) → HasIn ws old.groups.items group e → HasIn ws new.groups.items group e

-- the watcher at a place has its entry in its group
pub record IsGrouped (groups : Groups) (watched : Watched) (place : ℕ) (ws : List (Option Watcher)) : Type 0 where
  pub group : ℕ
  pub its : group_of (get_by_text groups.keys) watched ≡ Some group
  pub entered : IsEntered watched place (HasIn ws groups.groups.items group)

-- each watcher has
abbrev pub AreEntered : Groups → List (Option Watcher) → Type 0
AreEntered groups ws = (i : ℕ) (w : Watcher) → slice_index_or ws i None ≡ Some w → IsGrouped groups w.watched i ws

-- all watchers are found
pub record AreFound (index : Index) (groups : Groups) (ws : List (Option Watcher)) : Type 0 where
  pub covers : Covers index ws
  pub entered : AreEntered groups ws

-- ---- who is touched

-- the entry is of the watcher at this place, and its range has the key
abbrev pub Reaches : List ℕ → ℕ → RangeEntry → Type 0
Reaches key i e = (e.place ≡ i) × (is_watched (Range e.first e.end) key ≡ true)

-- what has the bounds is looked at for the entry
abbrev pub IsLooked : ℕ → RangeEntry → Reach → Type 0
IsLooked revision e reach = (reach.until < revision) ⊎ IsInside e reach.bounds

-- there is such an entry on a page, which is looked at for it
abbrev pub ReachesOn : ℕ → List ℕ → ℕ → Page → Type 0
ReachesOn revision key i page = (e : RangeEntry) × IsOneOf e page.entries.items × Reaches key i e × IsLooked revision e page.reach

-- there is one on a shelf, which is looked at for it
pub record ReachesOver (revision : ℕ) (key : List ℕ) (i : ℕ) (shelf : Shelf) : Type 0 where
  pub entry : RangeEntry
  pub its : Reaches key i entry
  pub looked : IsLooked revision entry shelf.reach
  pub pages : IsAny (ReachesOn revision key i) shelf.pages.items

-- there is one on a shelf of a group
abbrev pub ReachesIn : ℕ → List ℕ → ℕ → Ranges → Type 0
ReachesIn revision key i group = IsAny (ReachesOver revision key i) group.shelves.items

-- the same of a group by its number
abbrev pub ReachesAt : ℕ → List ℕ → ℕ → List Ranges → Option ℕ → Type 0
ReachesAt revision key i groups None = ⊥
ReachesAt revision key i groups (Some group) = At (ReachesIn revision key i) groups group

-- a change of a key was noted at some places, at these among them
pub record IsTouched (revision : ℕ) (key : List ℕ) (at : ℕ → Type 0) (old new : List (Option Watcher)) : Type 0 where
  pub places : List ℕ
  pub done : new ≡ touch_each revision key places old
  pub all : (i : ℕ) → at i → IsOneOf i places
