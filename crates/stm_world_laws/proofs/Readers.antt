-- What is read of a state is what the laws of entries speak of.
use Rattle.std.proofs.Common.{◌≡◌, ℕ, ◌+◌, ◌-◌, ◌^◌, ◌<◌, ◌≤◌, zero, suc, List, [], ◌∷◌, length, Option, Some, None, Bool, cond, refl, sym}
use Rattle.std.proofs.Common.{◌∙◌, ap, subst, arith}
use Rattle.std.specs.Prelude.{nat_le, is_some, option_map}
use Rattle.std.proofs.lemmas.Bool.{le-leb, leb-true, Decides.nat_tests}
use Rattle.std.proofs.lemmas.Option.{same_Some}
use Rattle.stm_history.specs.declared.key_state.KeyState.{KeyState}
use Rattle.stm_history.specs.History.{History, key_now}
use Rattle.stm_steps.specs.declared.state.StateEntry.{StateEntry}
use Rattle.stm_meaning.specs.States.{find_entry}
use Rattle.stm_entries.specs.Replayed.{Replayed}
use Rattle.stm_journal.specs.StateOf.{IsStateOf, entry_now}
use Rattle.stm_recipes.specs.Names.{head_key, tail_key}
use Rattle.stm_recipes.specs.Queues.{mark_of, item_at, item_before, items_from, items_between, queue_items_of}
use Rattle.stm_recipes.specs.Slots.{holder_in}
use Rattle.stm_world_laws.specs.Queues.{IsCount, place_of, IsItem, AreItems, HoldsItems}
use Rattle.stm_world_laws.specs.Slots.{IsHeldBy}
use Rattle.stm_world_laws.specs.Readers.{IsCounter, ItemsAreRead, HoldersAreRead}
use Rattle.stm_world_laws.proofs.QueueKeys.{decimal_read}

abbrev value_of : StateEntry → List ℕ
value_of e = e.value

-- ---- a queue that holds items

mark_read : (h : History) (entries : List StateEntry) (key : List ℕ) (n : ℕ) → IsStateOf h entries → n < 2 ^ 63 → IsCount h key n →
    mark_of (find_entry key entries) ≡ Some n
mark_read h entries key n state small is = grind (arith, nat_tests, decimal_read)

item_read : (h : History) (entries : List StateEntry) (queue : List ℕ) (n : ℕ) (item : List ℕ) → IsStateOf h entries → IsItem h queue n item →
    item_at entries queue n ≡ Some item
item_read h entries queue n item state i = grind (arith, nat_tests)

items_read : (h : History) (entries : List StateEntry) (queue : List ℕ) (n : ℕ) (items : List (List ℕ)) → IsStateOf h entries → AreItems h queue n items →
    items_from entries queue n (length items) ≡ Some items
items_read h entries queue n [] state are = refl
items_read h entries queue n (item ∷ items) state are = grind (arith, nat_tests, item_read, items_read h entries queue (n + 1) items state are.1)

held_is_read : (h : History) (entries : List StateEntry) (queue : List ℕ) (items : List (List ℕ)) → IsStateOf h entries → HoldsItems h queue items →
    queue_items_of entries queue ≡ Some items
held_is_read h entries queue items state held =
    let head : ℕ = held.head in
    let tail : ℕ = held.tail in
    let top : tail < 2 ^ 63 = held.in_range in
    let left : tail - head ≡ length items = omega (arith, held.count) in
    let low : head ≤ tail = omega (arith, held.count) in
    ap (λ (o : Option ℕ). items_between entries queue o (mark_of (find_entry (tail_key queue) entries)))
    (mark_read h entries (head_key queue) head state (omega (arith, top, low)) held.is_head)
    ∙ ap (items_between entries queue (Some head)) (mark_read h entries (tail_key queue) tail state top held.is_tail)
    ∙ ap (λ b. cond b (items_from entries queue head (tail - head)) None) (le-leb head tail low)
    ∙ ap (items_from entries queue head) left
    ∙ items_read h entries queue head items state held.each

-- ---- a queue whose items were read

record HasItem (o : Option (List ℕ)) (rest : Option (List (List ℕ))) (items : List (List ℕ)) : Type 0 where
  item : List ℕ
  more : List (List ℕ)
  item_is : o ≡ Some item
  more_is : rest ≡ Some more
  whole : item ∷ more ≡ items

has_item : (o : Option (List ℕ)) (rest : Option (List (List ℕ))) (items : List (List ℕ)) → item_before o rest ≡ Some items → HasItem o rest items
has_item o rest items found = grind (arith, nat_tests, same_Some)

item_held : (h : History) (queue : List ℕ) (n : ℕ) (item : List ℕ) (s : Option KeyState) → key_now h (place_of queue n) ≡ s →
    option_map value_of (entry_now (place_of queue n) s) ≡ Some item → IsItem h queue n item
item_held h queue n item s is found = grind (arith, nat_tests, same_Some)

items_held : (h : History) (entries : List StateEntry) (queue : List ℕ) (n left : ℕ) (items : List (List ℕ)) → IsStateOf h entries →
    items_from entries queue n left ≡ Some items → AreItems h queue n items × (length items ≡ left)
items_held h entries queue n zero items state found =
    subst (λ (l : List (List ℕ)). AreItems h queue n l × (length l ≡ 0)) (same_Some [] items found) (tt, refl)
items_held h entries queue n (suc left) items state found =
    let p : HasItem (item_at entries queue n) (items_from entries queue (n + 1) left) items =
    has_item (item_at entries queue n) (items_from entries queue (n + 1) left) items found in
    let later : AreItems h queue (n + 1) p.more × (length p.more ≡ left) = items_held h entries queue (n + 1) left p.more state p.more_is in
    let here : IsItem h queue n p.item =
    item_held h queue n p.item (key_now h (place_of queue n)) refl (sym (ap (option_map value_of) (state (place_of queue n))) ∙ p.item_is) in
    subst (λ (l : List (List ℕ)). AreItems h queue n l × (length l ≡ suc left)) p.whole ((here, later.0), ap suc later.1)

in_order_by : (in_order : Bool) (head tail : ℕ) (rest : Option (List (List ℕ))) (items : List (List ℕ)) → nat_le head tail ≡ in_order →
    cond in_order rest None ≡ Some items → (head ≤ tail) × (rest ≡ Some items)
in_order_by in_order head tail rest items is found = grind (arith, nat_tests, leb-true)

read_is_held : (h : History) (entries : List StateEntry) (queue : List ℕ) (items : List (List ℕ)) → IsStateOf h entries →
    IsCounter h (head_key queue) → IsCounter h (tail_key queue) → queue_items_of entries queue ≡ Some items → HoldsItems h queue items
read_is_held h entries queue items state head tail found =
    let from : ℕ = head.number in
    let to : ℕ = tail.number in
    let marked : items_between entries queue (Some from) (Some to) ≡ Some items =
    sym (ap (λ (o : Option ℕ). items_between entries queue o (mark_of (find_entry (tail_key queue) entries)))
    (mark_read h entries (head_key queue) from state head.in_range head.is)
    ∙ ap (items_between entries queue (Some from)) (mark_read h entries (tail_key queue) to state tail.in_range tail.is)) ∙ found in
    let parts = in_order_by (nat_le from to) from to (items_from entries queue from (to - from)) items refl marked in
    let held : AreItems h queue from items × (length items ≡ to - from) = items_held h entries queue from (to - from) items state parts.1 in
    record {
      head = from;
      tail = to;
      is_head = head.is;
      is_tail = tail.is;
      in_range = tail.in_range;
      count = omega (arith, parts.0, held.1);
      each = held.0;
    }

pub items_are_read : ItemsAreRead
items_are_read = record { held_is_read = held_is_read; read_is_held = read_is_held }

-- ---- slots

abbrev value_now : KeyState → List ℕ
value_now s = s.value

holder_read : (h : History) (entries : List StateEntry) (slot : List ℕ) → IsStateOf h entries →
    holder_in entries slot ≡ option_map value_now (key_now h slot)
holder_read h entries slot state = grind (arith, nat_tests)

held_by : (r : Replayed) (slot name : List ℕ) (s : Option KeyState) → key_now r.history slot ≡ s → option_map value_now s ≡ Some name →
    (lease : ℕ) × IsHeldBy slot name lease r
held_by r slot name None is found = absurd (cc)
held_by r slot name (Some s) is found = (s.lease, record { state = s; is = is; value = same_Some s.value name found; on = refl })

some_value : (s : Option KeyState) → is_some s ≡ is_some (option_map value_now s)
some_value s = grind (arith, nat_tests)

pub holders_are_read : HoldersAreRead
holders_are_read = grind (arith, nat_tests, held_by, holder_read, some_value)
