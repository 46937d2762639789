-- Keys that move between leases with the changes of a revision.
use Rattle.std.proofs.Common.{◌≡◌, ℕ, Bool, true, false, cond, List, [], ◌∷◌, Option, Some, None, map, eq-eqb, refl, ◌∙◌, ap, subst, arith}
use Rattle.std.specs.Prelude.{bytes_eq, nat_eq}
use Rattle.std.specs.Ordering.{nat_cmp}
use Rattle.std.specs.Cmp.Lexicographic.{slice_cmp, nat_list_cmp_total}
use Rattle.std.specs.FinMap as finmap
use Rattle.std.proofs.lemmas.Bool.Decides.{same_from_decides, nat_tests}
use Rattle.std.proofs.lemmas.Slice.Eq.{bytes_eq-Decides}
use Rattle.std.proofs.lemmas.Map.Text.{is_eq-slice_cmp}
use Rattle.stm_history.specs.declared.change.Change.{Change}
use Rattle.stm_history.specs.History.{History, now, add_revision, number_of_last, key_after, key_of, change_of, HasDistinctKeys}
use Rattle.stm_keys.specs.declared.event.Event.{Event}
use Rattle.stm_keys.specs.Events.{key_of_event, change_of_event, events_of, events_above, events_numbered}
use Rattle.stm_keys.proofs.Recorded.{changes_shown}
use Rattle.stm_leases.specs.Live.{Live}
use Rattle.stm_txn.specs.Leasing.{attached_by, attached_after, with_attach, attached_of, AttachedToLive}
use Rattle.stm_txn.specs.Moves.{detached_all, attached_one, attached_all, IsLoose, CanAttach}
use Rattle.stm_outcome.proofs.Branching.{same_text, equal_text, apart_case, apart_back}

bytes_eq_comm : (a b : List ℕ) → bytes_eq a b ≡ bytes_eq b a
bytes_eq_comm a b = grind (arith, nat_tests, same_from_decides, bytes_eq-Decides, same_text, equal_text)

-- where keys are attached once one of them is attached to a lease, or detached
pub get_attached : (m : finmap.FinMap (slice_cmp nat_cmp) ℕ) (k : List ℕ) (id : ℕ) (q : List ℕ) →
    finmap.get (finmap.insert m k id) q ≡ cond (bytes_eq k q) (Some id) (finmap.get m q)
get_attached m k id q =
    finmap.get-insert nat_list_cmp_total m k id q
    ∙ ap (λ b. cond b (Some id) (finmap.get m q)) (is_eq-slice_cmp q k ∙ bytes_eq_comm q k)

pub get_taken : (m : finmap.FinMap (slice_cmp nat_cmp) ℕ) (k : List ℕ) (q : List ℕ) →
    finmap.get (finmap.remove m k) q ≡ cond (bytes_eq k q) None (finmap.get m q)
get_taken m k q =
    finmap.get-remove nat_list_cmp_total m k q
    ∙ ap (λ b. cond b None (finmap.get m q)) (is_eq-slice_cmp q k ∙ bytes_eq_comm q k)

-- a key that is attached to no lease is not detached
none_taken : (b : Bool) (before : Option ℕ) → before ≡ None → cond b None before ≡ None
none_taken b before is = grind (arith, nat_tests)

detached-none : (cs : List Change) (key : List ℕ) → detached_all cs key None ≡ None
detached-none [] key = refl
detached-none (c ∷ cs) key = ap (detached_all cs key) (none_taken (bytes_eq (key_of c) key) None refl) ∙ detached-none cs key

-- where a key is attached once the keys of changes are detached
abbrev none_if : Option Change → Option ℕ → Option ℕ
none_if None before = before
none_if (Some c) before = None

detached_case : (b : Bool) (c : Change) (cs : List Change) (key : List ℕ) (x : Option ℕ) → detached_all cs key x ≡ none_if (change_of key cs) x →
    detached_all cs key (cond b None x) ≡ none_if (cond b (Some c) (change_of key cs)) x
detached_case b c cs key x rest = grind (arith, nat_tests, detached-none)

detached_reported : (cs : List Change) (key : List ℕ) (x : Option ℕ) → detached_all cs key x ≡ none_if (change_of key cs) x
detached_reported [] key x = refl
detached_reported (c ∷ cs) key x = detached_case (bytes_eq (key_of c) key) c cs key x (detached_reported cs key x)

-- a key without a change is not among those that the changes attach
loose_with : (key k : List ℕ) (to : Option ℕ) (rest : List (List ℕ × ℕ)) → bytes_eq key k ≡ false → IsLoose key rest → IsLoose key (with_attach k to rest)
loose_with key k to rest apart loose = grind (arith, nat_tests)

loose_of : (key : List ℕ) (cs : List Change) → change_of key cs ≡ None → IsLoose key (attached_of cs)
loose_of key [] none = tt
loose_of key (c ∷ cs) none =
    let split : (bytes_eq (key_of c) key ≡ false) × (change_of key cs ≡ None) = apart_case (bytes_eq (key_of c) key) c (change_of key cs) none in
    loose_with key (key_of c) (attached_by c) (attached_of cs) (apart_back (key_of c) key split.0) (loose_of key cs split.1)

-- keys of distinct changes that are attached nowhere can be attached where the changes say
can_with : (f : List ℕ → Option ℕ) (live : Live) (k : List ℕ) (to : Option ℕ) (rest : List (List ℕ × ℕ)) →
    f k ≡ None → IsLoose k rest → AttachedToLive live (with_attach k to rest) → (AttachedToLive live rest → CanAttach f live rest) → CanAttach f live (with_attach k to rest)
can_with f live k to rest free loose on_live others = grind (arith, nat_tests)

found_case : (b : Bool) (c d : Change) (o : Option Change) (P : Type 0) → o ≡ Some d → ((e : Change) → cond b (Some c) o ≡ Some e → P) → P
found_case b c d o P is use_it = grind (arith, nat_tests)

pub can_attach : (f : List ℕ → Option ℕ) (live : Live) (cs : List Change) → HasDistinctKeys cs → AttachedToLive live (attached_of cs) →
    ((key : List ℕ) (d : Change) → change_of key cs ≡ Some d → f key ≡ None) → CanAttach f live (attached_of cs)
can_attach f live [] distinct on_live free = tt
can_attach f live (c ∷ cs) distinct on_live free =
    can_with f live (key_of c) (attached_by c) (attached_of cs)
    (free (key_of c) c (ap (λ b. cond b (Some c) (change_of (key_of c) cs)) (equal_text (key_of c) (key_of c) refl)))
    (loose_of (key_of c) cs distinct.0)
    on_live
    (λ others. can_attach f live cs distinct.1 others
    (λ key d is. found_case (bytes_eq (key_of c) key) c d (change_of key cs) (f key ≡ None) is (λ e. free key e)))

-- where a key is attached once the keys of changes are attached
abbrev or_attached : Option ℕ → Option ℕ → Option ℕ
or_attached None before = before
or_attached (Some id) before = Some id

abbrev reported : Option Change → Option ℕ → Option ℕ
reported None before = before
reported (Some c) before = or_attached (attached_by c) before

attached_with : (b : Bool) (c : Change) (k : List ℕ) (to : Option ℕ) (cs : List Change) (key : List ℕ) (x : Option ℕ) → bytes_eq k key ≡ b → attached_by c ≡ to →
    (b ≡ true → change_of key cs ≡ None) →
    ((y : Option ℕ) → attached_all (attached_of cs) key y ≡ reported (change_of key cs) y) →
    attached_all (with_attach k to (attached_of cs)) key x ≡ reported (cond b (Some c) (change_of key cs)) x
attached_with b c k to cs key x test is apart rest = grind (arith, nat_tests)

attached_reported : (cs : List Change) (key : List ℕ) → HasDistinctKeys cs → (x : Option ℕ) → attached_all (attached_of cs) key x ≡ reported (change_of key cs) x
attached_reported [] key distinct x = refl
attached_reported (c ∷ cs) key distinct x =
    attached_with (bytes_eq (key_of c) key) c (key_of c) (attached_by c) cs key x refl refl
    (λ same. subst (λ k. change_of k cs ≡ None) (same_text (key_of c) key same) distinct.0)
    (attached_reported cs key distinct.1)

-- after both walks each key is attached where its change says
pub moved : (cs : List Change) (key : List ℕ) (before middle after : Option ℕ) → HasDistinctKeys cs →
    middle ≡ detached_all cs key before → after ≡ attached_all (attached_of cs) key middle → after ≡ attached_after (change_of key cs) before
moved cs key before middle after distinct off on = grind (arith, nat_tests, detached_reported, attached_reported)

-- a key with a change is attached nowhere in between
pub free_between : (cs : List Change) (key : List ℕ) (before middle : Option ℕ) (d : Change) → middle ≡ detached_all cs key before → change_of key cs ≡ Some d →
    middle ≡ None
free_between cs key before middle d off is = off ∙ detached_reported cs key before ∙ ap (λ o. none_if o before) is

-- the rest can be attached once the first one is
pub can_after : (f g : List ℕ → Option ℕ) (live next : Live) (attach : List ℕ × ℕ) (rest : List (List ℕ × ℕ)) → IsLoose attach.0 rest → CanAttach f live rest →
    ((key : List ℕ) → g key ≡ attached_one attach key (f key)) → next ≡ live → CanAttach g next rest
can_after f g live next attach [] loose can reported same = tt
can_after f g live next attach (x ∷ xs) loose can reported same = grind (arith, nat_tests, can_after f g live next attach xs loose.1 can.3 reported same)

-- an event is about the key of its change
pub key_shown : (e : Event) → key_of (change_of_event e) ≡ key_of_event e
key_shown e = grind (arith, nat_tests)

-- the events of a new revision show its changes
number_case : (b : Bool) (events rest : List Event) → b ≡ true → cond b events rest ≡ events
number_case b events rest holds = grind (arith, nat_tests)

pub last_changes : (h : History) (cs : List Change) → map change_of_event (events_of (add_revision h cs) (now (add_revision h cs))) ≡ cs
last_changes h cs =
    ap (map change_of_event) (number_case (nat_eq (number_of_last h.opening (cs ∷ h.revisions)) (now (add_revision h cs)))
    (events_above h.opening cs h.revisions) (events_numbered h.opening (now (add_revision h cs)) h.revisions) (eq-eqb _ _ refl))
    ∙ changes_shown (number_of_last h.opening (cs ∷ h.revisions)) (λ key. key_after h.opening key h.revisions) cs
