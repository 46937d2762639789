-- Queues over entries: one entry keeps the items in order, and so do all.
use Rattle.std.proofs.Common.{◌≡◌, ℕ, ◌+◌, ◌^◌, ◌<◌, ◌≤◌, List, [], ◌∷◌, ◌++◌, length, Option, Some, None, Bool, false, cond, refl, sym, ◌∙◌}
use Rattle.std.proofs.Common.{ap, subst, append_assoc, arith, codes}
use Rattle.std.proofs.lemmas.List.{append-nil, length-append}
use Rattle.std.specs.Prelude.{ℤ, bytes_eq, nat_le, if◌then◌else◌, Result}
use Rattle.std.specs.Fmt.{decimal, digits}
use Rattle.std.proofs.lemmas.Bool.{ltb-true, Decides.nat_tests}
use Rattle.std.proofs.lemmas.Int.{ints}
use Rattle.stm_history.specs.declared.key_state.KeyState.{KeyState}
use Rattle.stm_history.specs.History.{History, now, key_now, value_of as value_now, after_change, state_after_put, key_of}
use Rattle.stm_history.specs.declared.change.Change.{Change}
use Rattle.stm_history.specs.declared.change.Change.TheVariants.{Put, Del}
use Rattle.stm_program.specs.Writes.{last_write}
use Rattle.stm_program.proofs.WriteLemmas.{bytes_eq-self, or_else, last_write-one}
use Rattle.stm_steps.specs.declared.fault.Fault.{Fault}
use Rattle.stm_steps.specs.declared.fault.Fault.TheVariants.{TextTooLong}
use Rattle.stm_steps.specs.declared.value.Value.{Value}
use Rattle.stm_steps.specs.declared.value.Value.TheVariants.{Text}
use Rattle.stm_steps.specs.Values.{written_number, longest_text}
use Rattle.stm_steps.specs.declared.run.Run.{Run}
use Rattle.stm_steps.specs.declared.run.End.TheVariants.{Done as DoneEnd}
use Rattle.stm_meaning.specs.Leaves.{value_in}
use Rattle.stm_compile.specs.Answers.{state_now}
use Rattle.stm_entries.specs.declared.entry.Entry.{Entry}
use Rattle.stm_entries.specs.Legal.{IsLegal}
use Rattle.stm_entries.specs.Replay.{replay, replay_entry}
use Rattle.stm_entries.specs.Replayed.{Replayed}
use Rattle.stm_recipes.specs.Names.{head_key, tail_key, items_key}
use Rattle.stm_recipes.specs.Queues.{enqueue_program, dequeue_program}
use Rattle.stm_recipes.specs.Alone.{deed_of, aborted, faulted, put_added, or_zero, put_at, emitting, taken_or_refused}
use Rattle.stm_recipes.proofs.QueueRuns.{enqueue_alone, dequeue_alone}
use Rattle.stm_world_laws.specs.Queues.{IsCount, Absent, Spelled, place_of, IsItem, AreItems, HoldsItems, IsEnqueue, IsDequeue, LeavesQueue, IsOfQueue, Enqueues}
use Rattle.stm_world_laws.specs.Queues.{Dequeues, Leaves, texts_of, output_of, added_by, taken_by, all_added, all_taken, Kept, QueuesKeepTheirItems}
use Rattle.stm_world_laws.proofs.CommitLemmas.{Committed, committed, output_reported, now_is_known}
use Rattle.stm_world_laws.proofs.KeyLemmas.{last_write-cons, change_by, left_of_key}
use Rattle.stm_world_laws.proofs.QueueKeys.{decimal_read, tail_head_apart, head_tail_apart, tail_place_apart, head_place_apart, place_tail_apart}
use Rattle.stm_world_laws.proofs.QueueKeys.{place_head_apart, places_apart, decimals_apart, or_zero_decimal}

-- ---- counts

-- the text that a recipe sees of a count
count_text : (h : History) (key : List ℕ) (n : ℕ) → n < 2 ^ 63 → IsCount h key n → or_zero (value_now (key_now h key)) ≡ decimal n
unfolding digits
count_text h key n small h5 = grind (arith, nat_tests, or_zero_decimal)

count_stays : (before after : History) (key : List ℕ) (n : ℕ) → key_now after key ≡ key_now before key → IsCount before key n → IsCount after key n
count_stays before after key n same (Absent none zero) = Absent (same ∙ none) zero
count_stays before after key n same (Spelled s is value) = Spelled s (same ∙ is) value

-- ---- items

item_stays : (before after : History) (queue : List ℕ) (n : ℕ) (item : List ℕ) → key_now after (place_of queue n) ≡ key_now before (place_of queue n) →
    IsItem before queue n item → IsItem after queue n item
item_stays before after queue n item same i = record { state = i.state; is = same ∙ i.is; value = i.value }

items_stay : (before after : History) (queue : List ℕ) (n top : ℕ) (items : List (List ℕ)) → n + length items ≡ top →
    ((m : ℕ) → n ≤ m → m < top → key_now after (place_of queue m) ≡ key_now before (place_of queue m)) → AreItems before queue n items → AreItems after queue n items
items_stay before after queue n top [] count same are = tt
items_stay before after queue n top (item ∷ items) count same are =
    grind (arith, nat_tests, item_stays, items_stay before after queue (n + 1) top items (omega (arith, count)) (λ m low high. same m (omega arith) high) are.1)

one_more_item : (h : History) (queue : List ℕ) (n top : ℕ) (items : List (List ℕ)) (item : List ℕ) → n + length items ≡ top → AreItems h queue n items →
    IsItem h queue top item → AreItems h queue n (items ++ item ∷ [])
one_more_item h queue n top [] item count are last = grind (arith, nat_tests)
one_more_item h queue n top (x ∷ items) item count are last =
    (are.0, one_more_item h queue (n + 1) top items item (omega (arith, count)) are.1 last)

-- ---- what a commit leaves of a key

abbrev state_by : History → Option Change → List ℕ → Option KeyState
state_by h o key = after_change (now h + 1) (change_by h o) (key_now h key)

record Left (before after : History) (run : Run) : Type 0 where
  of_key : (key : List ℕ) → key_now after key ≡ state_by before (last_write key run.writes) key

-- the last write of a key of two
abbrev last_of_two : Change → Change → List ℕ → Option Change
last_of_two first second key = or_else (cond (bytes_eq (key_of second) key) (Some second) None) (cond (bytes_eq (key_of first) key) (Some first) None)

record LeftByTwo (before after : History) (first second : Change) : Type 0 where
  second_key : key_now after (key_of second) ≡ state_by before (Some second) (key_of second)
  first_key : bytes_eq (key_of second) (key_of first) ≡ false → key_now after (key_of first) ≡ state_by before (Some first) (key_of first)
  others : (key : List ℕ) → bytes_eq (key_of second) key ≡ false → bytes_eq (key_of first) key ≡ false → key_now after key ≡ key_now before key

left_by_two : (before after : History) (run : Run) (first second : Change) → run.writes ≡ first ∷ second ∷ [] → Left before after run →
    LeftByTwo before after first second
left_by_two before after run first second is left = grind (arith, nat_tests, or_else, bytes_eq-self, last_write-cons, last_write-one)

-- a put of a count, and one of an item
count_put : (before after : History) (key : List ℕ) (n : ℕ) → key_now after key ≡ state_by before (Some (Put key (decimal n) 0)) key → IsCount after key n
count_put before after key n is = by (key_now before key) is
  where
    by : (s : Option KeyState) → key_now after key ≡ Some (state_after_put (now before + 1) (decimal n) 0 s) → IsCount after key n
    by None is = Spelled (state_after_put (now before + 1) (decimal n) 0 None) is refl
    by (Some s) is = Spelled (state_after_put (now before + 1) (decimal n) 0 (Some s)) is refl

item_put : (before after : History) (queue : List ℕ) (n : ℕ) (item : List ℕ) →
    key_now after (place_of queue n) ≡ state_by before (Some (Put (place_of queue n) item 0)) (place_of queue n) → IsItem after queue n item
item_put before after queue n item is = grind (arith, nat_tests)

-- ---- what a recipe that is done has written

-- the count and one are in range
record Counted (key : List ℕ) (n : ℕ) (first : Change) (output : List Value) (run : Run) : Type 0 where
  small : n + 1 < 2 ^ 63
  writes : run.writes ≡ first ∷ Put key (decimal (n + 1)) 0 ∷ []
  output_is : run.output ≡ output

-- what a recipe that is done puts at last
counted : (key : List ℕ) (n : ℕ) (first : Change) (output : List Value) (run : Run) → n < 2 ^ 63 → run.end ≡ DoneEnd →
    deed_of run ≡ record (put_added key 1 (first ∷ []) (written_number (decimal n))) { output = output } → Counted key n first output run
counted key n first output run small ended deed = grind (arith, nat_tests, ints, decimal_read, ltb-true)

-- ---- an enqueue

placed_by : (short : Bool) (queue item : List ℕ) (n : ℕ) (run : Run) → run.end ≡ DoneEnd →
    deed_of run ≡ (if short then put_added (tail_key queue) 1 (Put (place_of queue n) item 0 ∷ []) (written_number (decimal n)) else faulted TextTooLong []) →
    deed_of run ≡ put_added (tail_key queue) 1 (Put (place_of queue n) item 0 ∷ []) (written_number (decimal n))
placed_by short queue item n run ended deed = grind (arith, nat_tests)

-- no sum that is put emits anything
quiet : (key : List ℕ) (amount : ℕ) (writes : List Change) (r : Result ℤ Fault) →
    put_added key amount writes r ≡ record (put_added key amount writes r) { output = [] }
quiet key amount writes r = grind (arith, nat_tests)

enqueue_keeps : (queue : List ℕ) (e : Entry) (r : Replayed) (items : List (List ℕ)) → 0 < length queue → IsLegal e r → (q : IsEnqueue queue e) →
    HoldsItems r.history queue items → HoldsItems (replay_entry e r).history queue (items ++ q.item ∷ [])
enqueue_keeps queue e r items long legal q held =
    let h : History = r.history in
    let after : History = (replay_entry e r).history in
    let n : ℕ = held.tail in
    let c : Committed (enqueue_program queue q.item) r (replay_entry e r) = committed (enqueue_program queue q.item) e r q.commits legal in
    let deed : deed_of c.run ≡ put_at queue q.item (decimal n) =
    enqueue_alone (state_now h) queue q.item (now_is_known h) long c.run c.alone
    ∙ ap (put_at queue q.item) (count_text h (tail_key queue) n held.in_range held.is_tail) in
    let first : Change = Put (place_of queue n) q.item 0 in
    let x : Counted (tail_key queue) n first [] c.run =
    counted (tail_key queue) n first [] c.run held.in_range c.is_done
    (placed_by (nat_le (length (items_key queue) + length (decimal n)) longest_text) queue q.item n c.run c.is_done deed
    ∙ quiet (tail_key queue) 1 (first ∷ []) (written_number (decimal n))) in
    let left : LeftByTwo h after first (Put (tail_key queue) (decimal (n + 1)) 0) =
    left_by_two h after c.run first (Put (tail_key queue) (decimal (n + 1)) 0) x.writes
    (record { of_key = λ key. ap (λ (y : History). key_now y key) c.left ∙ left_of_key h c.run.writes key }) in
    let same : (m : ℕ) → held.head ≤ m → m < n → key_now after (place_of queue m) ≡ key_now h (place_of queue m) =
    λ m low high. left.others (place_of queue m) (tail_place_apart queue m (let top : n < 2 ^ 63 = held.in_range in omega arith))
    (places_apart queue n m held.in_range (let top : n < 2 ^ 63 = held.in_range in omega arith) (λ is. omega (arith, is))) in
    record {
      head = held.head;
      tail = n + 1;
      is_head = count_stays h after (head_key queue) held.head
          (left.others (head_key queue) (tail_head_apart queue) (place_head_apart queue n held.in_range)) held.is_head;
      is_tail = count_put h after (tail_key queue) (n + 1) left.second_key;
      in_range = x.small;
      count = let count : held.head + length items ≡ n = held.count in let more = length-append items (q.item ∷ []) in omega (arith, count, more);
      each = one_more_item after queue held.head n items q.item held.count (items_stay h after queue held.head n items held.count same held.each)
          (item_put h after queue n q.item (left.first_key (tail_place_apart queue n held.in_range)));
    }

-- ---- a dequeue

-- a dequeue that is done has found head and tail apart, and the place no too long text
found_by : (same short : Bool) (queue : List ℕ) (item : List ℕ) (n : ℕ) (run : Run) → run.end ≡ DoneEnd →
    deed_of run ≡ (if same then aborted (codes "empty") else (if short
    then emitting item (put_added (head_key queue) 1 (Del (place_of queue n) ∷ []) (written_number (decimal n))) else faulted TextTooLong [])) →
    (same ≡ false) × (deed_of run ≡ emitting item (put_added (head_key queue) 1 (Del (place_of queue n) ∷ []) (written_number (decimal n))))
found_by same short queue item n run ended deed = grind (arith, nat_tests)

-- what a dequeue takes and leaves
record Took (queue : List ℕ) (e : Entry) (items : List (List ℕ)) (after : History) : Type 0 where
  left : List (List ℕ)
  holds : HoldsItems after queue left
  in_order : texts_of (output_of e) ++ left ≡ items

item_value : (h : History) (queue : List ℕ) (n : ℕ) (item : List ℕ) → IsItem h queue n item → value_now (key_now h (place_of queue n)) ≡ item
item_value h queue n item i = ap value_now i.is ∙ i.value

-- no dequeue of a queue that holds nothing is done
pub nothing_to_take : (queue : List ℕ) (e : Entry) (r : Replayed) (all : List (List ℕ)) → 0 < length queue → IsLegal e r → IsDequeue queue e →
    HoldsItems r.history queue all → all ≡ [] → ⊥
nothing_to_take queue e r all long legal q held is =
    grind (arith, nat_tests, Committed, committed, dequeue_alone, now_is_known, count_text, found_by, decimals_apart)

dequeue_by : (queue : List ℕ) (e : Entry) (r : Replayed) (items all : List (List ℕ)) → 0 < length queue → IsLegal e r → (q : IsDequeue queue e) →
    (held : HoldsItems r.history queue all) → all ≡ items → Took queue e all (replay_entry e r).history
dequeue_by queue e r [] all long legal q held is = absurd (nothing_to_take queue e r all long legal q held is)
dequeue_by queue e r (item ∷ items) all long legal q held is =
    let h : History = r.history in
    let after : History = (replay_entry e r).history in
    let n : ℕ = held.head in
    let c : Committed (dequeue_program queue) r (replay_entry e r) = committed (dequeue_program queue) e r q legal in
    let long_all : length all ≡ length (item ∷ items) = ap length is in
    let some : length all ≡ length items + 1 = omega (arith, long_all) in
    let count : n + length all ≡ held.tail = held.count in
    let top : held.tail < 2 ^ 63 = held.in_range in
    let small : n < 2 ^ 63 = omega (arith, count) in
    let each : AreItems h queue n (item ∷ items) = subst (AreItems h queue n) is held.each in
    let deed : deed_of c.run ≡ taken_or_refused queue (value_in (state_now h)) (decimal n) (decimal held.tail) =
    dequeue_alone (state_now h) queue (now_is_known h) long c.run c.alone
    ∙ ap (λ t. taken_or_refused queue (value_in (state_now h)) t (or_zero (value_now (key_now h (tail_key queue))))) (count_text h (head_key queue) n small held.is_head)
    ∙ ap (taken_or_refused queue (value_in (state_now h)) (decimal n)) (count_text h (tail_key queue) held.tail held.in_range held.is_tail) in
    let found = found_by (bytes_eq (decimal n) (decimal held.tail)) (nat_le (length (items_key queue) + length (decimal n)) longest_text) queue
    (value_now (key_now h (place_of queue n))) n c.run c.is_done deed in
    let first : Change = Del (place_of queue n) in
    let emits : List Value = Text item ∷ [] in
    let x : Counted (head_key queue) n first emits c.run =
    counted (head_key queue) n first emits c.run small c.is_done
    (found.1 ∙ ap (λ t. emitting t (put_added (head_key queue) 1 (first ∷ []) (written_number (decimal n)))) (item_value h queue n item each.0)) in
    let left : LeftByTwo h after first (Put (head_key queue) (decimal (n + 1)) 0) =
    left_by_two h after c.run first (Put (head_key queue) (decimal (n + 1)) 0) x.writes
    (record { of_key = λ key. ap (λ (y : History). key_now y key) c.left ∙ left_of_key h c.run.writes key }) in
    let same : (m : ℕ) → n + 1 ≤ m → m < held.tail → key_now after (place_of queue m) ≡ key_now h (place_of queue m) =
    λ m low high. left.others (place_of queue m) (head_place_apart queue m (omega arith)) (places_apart queue n m small (omega arith) (λ is. omega (arith, is))) in
    let rest : n + 1 + length items ≡ held.tail = omega (arith, count, some) in
    record {
      left = items;
      holds = record {
        head = n + 1;
        tail = held.tail;
        is_head = count_put h after (head_key queue) (n + 1) left.second_key;
        is_tail = count_stays h after (tail_key queue) held.tail
            (left.others (tail_key queue) (head_tail_apart queue) (place_tail_apart queue n small)) held.is_tail;
        in_range = held.in_range;
        count = rest;
        each = items_stay h after queue (n + 1) held.tail items rest same each.1;
      };
      in_order = ap (λ vs. texts_of vs ++ items) (output_reported (dequeue_program queue) e r q legal c.run c.alone ∙ x.output_is) ∙ sym is;
    }

-- ---- all entries

leaves_keep : (queue : List ℕ) (e : Entry) (r : Replayed) (items : List (List ℕ)) → LeavesQueue queue e r → HoldsItems r.history queue items →
    HoldsItems (replay_entry e r).history queue items
leaves_keep queue e r items leaves held = record {
  head = held.head;
  tail = held.tail;
  is_head = count_stays r.history (replay_entry e r).history (head_key queue) held.head leaves.head held.is_head;
  is_tail = count_stays r.history (replay_entry e r).history (tail_key queue) held.tail leaves.tail held.is_tail;
  in_range = held.in_range;
  count = held.count;
  each = items_stay r.history (replay_entry e r).history queue held.head held.tail items held.count (λ m low high. leaves.items m) held.each;
}

entry_keeps : (queue : List ℕ) (e : Entry) (r : Replayed) (items : List (List ℕ)) → 0 < length queue → IsLegal e r → (of : IsOfQueue queue e r) →
    HoldsItems r.history queue items → Kept queue items (taken_by queue e r of) (added_by queue e r of) (replay_entry e r).history
entry_keeps queue e r items long legal (Enqueues q) held =
    record { left = items ++ q.item ∷ []; holds = enqueue_keeps queue e r items long legal q held; in_order = refl }
entry_keeps queue e r items long legal (Dequeues q) held =
    let t : Took queue e items (replay_entry e r).history = dequeue_by queue e r items items long legal q held refl in
    record { left = t.left; holds = t.holds; in_order = t.in_order ∙ sym (append-nil items) }
entry_keeps queue e r items long legal (Leaves leaves) held =
    record { left = items; holds = leaves_keep queue e r items leaves held; in_order = sym (append-nil items) }

both_keep : (queue : List ℕ) (items first_taken first_added rest_taken rest_added : List (List ℕ)) (between after : History) →
    (one : Kept queue items first_taken first_added between) → Kept queue one.left rest_taken rest_added after →
    Kept queue items (first_taken ++ rest_taken) (first_added ++ rest_added) after
both_keep queue items first_taken first_added rest_taken rest_added between after one two = record {
  left = two.left;
  holds = two.holds;
  in_order = append_assoc first_taken rest_taken two.left
      ∙ ap (λ (l : List (List ℕ)). first_taken ++ l) two.in_order
      ∙ sym (append_assoc first_taken one.left rest_added)
      ∙ ap (λ (l : List (List ℕ)). l ++ rest_added) one.in_order
      ∙ append_assoc items first_added rest_added;
}

pub queues_keep_their_items : QueuesKeepTheirItems
queues_keep_their_items queue [] r items long legal of held = record { left = items; holds = held; in_order = sym (append-nil items) }
queues_keep_their_items queue (e ∷ es) r items long legal of held =
    let one : Kept queue items (taken_by queue e r of.0) (added_by queue e r of.0) (replay_entry e r).history =
    entry_keeps queue e r items long legal.0 of.0 held in
    both_keep queue items (taken_by queue e r of.0) (added_by queue e r of.0) (all_taken queue es (replay_entry e r) of.1)
    (all_added queue es (replay_entry e r) of.1) (replay_entry e r).history (replay es (replay_entry e r)).history one
    (queues_keep_their_items queue es (replay_entry e r) one.left long legal.1 of.1 one.holds)
