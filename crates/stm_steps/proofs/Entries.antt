-- The entries of a state: what is found at a place, and what an entry changes.
use Rattle.std.proofs.Common.{◌≡◌, ℕ, zero, suc, ◌+◌, ◌<◌, ◌≤◌, Bool, true, false, List, [], ◌∷◌, length, get_or, set, refl, sym, ◌∙◌, ap, subst, arith}
use Rattle.std.specs.Prelude.{bytes_eq, if◌then◌else◌, None, Some, Result, Ok, Err, IfOk, IfErr, insert}
use Rattle.std.specs.Ordering.{is_eq, is_lt, ordering_index, ordering_reverse}
use Rattle.std.specs.List.Sorted.{IsSortedBy, IsBinarySearchResult, IsSearchInRange, IsNonDecreasingBy}
use Rattle.std.specs.Cmp.{IsTotalOrder, alike_right}
use Rattle.std.specs.Cmp.Lexicographic.{nat_list_cmp_total, texts_ties, same_text}
use Rattle.std.proofs.lemmas.List.Sorted.{searchable_from_sorted}
use Rattle.std.specs.declared.cmp.Ordering.{Ordering}
use Rattle.std.specs.declared.cmp.Ordering.TheVariants.{Less, Equal, Greater}
use Rattle.stm_history.specs.declared.revisions.TheConstants.{HIGHEST_NUMBER}
use Rattle.stm_steps.specs.declared.state.StateEntry.{StateEntry}
use Rattle.stm_steps.specs.States.{key_order, find_entry, with_entry, place_by, IsBelowAll, IsAscending, AreInRange}
use Rattle.stm_steps.specs.Places.{IsAt, IsGapFor}

abbrev pub entry_of : List ℕ → List ℕ → ℕ → StateEntry
entry_of key value mod_rev = record { key = key; value = value; mod_rev = mod_rev }

total : IsTotalOrder key_order
total = nat_list_cmp_total

bytes_eq-key_order : (x y : List ℕ) (o : Ordering) → key_order x y ≡ o → bytes_eq x y ≡ is_eq o
bytes_eq-key_order x y o h = texts_ties x y ∙ ap (λ o. is_eq o) h

reversed : (x y : List ℕ) → key_order x y ≡ Greater → key_order y x ≡ Less
reversed x y h = total.antisymm y x ∙ ap (λ o. ordering_reverse o) h

below_at : (key : List ℕ) (es : List StateEntry) (i : ℕ) (d : StateEntry) → IsBelowAll key es → i < length es → key_order key (get_or es i d).key ≡ Less
below_at key [] i d below h = absurd (omega arith)
below_at key (e ∷ es) zero d below h = below.0
below_at key (e ∷ es) (suc i) d below h = below_at key es i d below.1 (omega arith)

-- what is below the entry at a place that has the key is below the key
below_equal : (key : List ℕ) (e : StateEntry) (es : List StateEntry) (i : ℕ) (d : StateEntry) → IsBelowAll e.key es → i < length es →
    key_order (get_or es i d).key key ≡ Equal → key_order e.key key ≡ Less
below_equal key e es i d below h is = sym (alike_right total _ _ e.key is) ∙ below_at e.key es i d below h

-- ---- look-ups ----

pub find_entry-at : (key : List ℕ) (es : List StateEntry) (i : ℕ) (d : StateEntry) → IsAscending es → i < length es →
    key_order (get_or es i d).key key ≡ Equal → find_entry key es ≡ Some (get_or es i d)
find_entry-at key [] i d up h is = absurd (omega arith)
find_entry-at key (e ∷ es) zero d up h is = ap (λ b. if b then Some e else find_entry key es) (bytes_eq-key_order e.key key Equal is)
find_entry-at key (e ∷ es) (suc i) d up h is =
    ap (λ b. if b then Some e else find_entry key es) (bytes_eq-key_order e.key key Less (below_equal key e es i d up.0 (omega arith) is))
    ∙ find_entry-at key es i d up.1 (omega arith) is

pub find_entry-gap : (key : List ℕ) (es : List StateEntry) (i : ℕ) → ((j : ℕ) (d : StateEntry) → j < i → key_order (get_or es j d).key key ≡ Less) →
    ((j : ℕ) (d : StateEntry) → i ≤ j → j < length es → key_order (get_or es j d).key key ≡ Greater) → find_entry key es ≡ None
find_entry-gap key [] i smaller greater = refl
find_entry-gap key (e ∷ es) zero smaller greater =
    ap (λ b. if b then Some e else find_entry key es) (bytes_eq-key_order e.key key Greater (greater 0 e (omega arith) (omega arith)))
    ∙ find_entry-gap key es zero (λ j d h. absurd (omega arith)) (λ j d h below. greater (suc j) d (omega arith) (omega arith))
find_entry-gap key (e ∷ es) (suc i) smaller greater =
    ap (λ b. if b then Some e else find_entry key es) (bytes_eq-key_order e.key key Less (smaller 0 e (omega arith)))
    ∙ find_entry-gap key es i (λ j d h. smaller (suc j) d (omega arith)) (λ j d h below. greater (suc j) d (omega arith) (omega arith))

-- ---- an entry in its place ----

pub with_entry-at : (entry : StateEntry) (es : List StateEntry) (i : ℕ) (d : StateEntry) → IsAscending es → i < length es →
    key_order (get_or es i d).key entry.key ≡ Equal → with_entry entry es ≡ set es i entry
with_entry-at entry [] i d up h is = absurd (omega arith)
with_entry-at entry (e ∷ es) zero d up h is = ap (λ o. place_by o entry e es (with_entry entry es)) is
with_entry-at entry (e ∷ es) (suc i) d up h is =
    ap (λ o. place_by o entry e es (with_entry entry es)) (below_equal entry.key e es i d up.0 (omega arith) is)
    ∙ ap (λ l. e ∷ l) (with_entry-at entry es i d up.1 (omega arith) is)

pub with_entry-gap : (entry : StateEntry) (es : List StateEntry) (i : ℕ) → i ≤ length es →
    ((j : ℕ) (d : StateEntry) → j < i → key_order (get_or es j d).key entry.key ≡ Less) →
    ((j : ℕ) (d : StateEntry) → i ≤ j → j < length es → key_order (get_or es j d).key entry.key ≡ Greater) → with_entry entry es ≡ insert es i entry
with_entry-gap entry [] zero h smaller greater = refl
with_entry-gap entry [] (suc i) h smaller greater = absurd (omega arith)
with_entry-gap entry (e ∷ es) zero h smaller greater = ap (λ o. place_by o entry e es (with_entry entry es)) (greater 0 e (omega arith) (omega arith))
with_entry-gap entry (e ∷ es) (suc i) h smaller greater =
    ap (λ o. place_by o entry e es (with_entry entry es)) (smaller 0 e (omega arith))
    ∙ ap (λ l. e ∷ l)
    (with_entry-gap entry es i (omega arith) (λ j d below. smaller (suc j) d (omega arith)) (λ j d from below. greater (suc j) d (omega arith) (omega arith)))

-- ---- the order of the keys ----

place_by-below : (key : List ℕ) (o : Ordering) (entry e : StateEntry) (es placed : List StateEntry) → key_order key entry.key ≡ Less →
    IsBelowAll key (e ∷ es) → IsBelowAll key placed → IsBelowAll key (place_by o entry e es placed)
place_by-below key Less entry e es placed h below rest = (below.0, rest)
place_by-below key Equal entry e es placed h below rest = (h, below.1)
place_by-below key Greater entry e es placed h below rest = (h, below)

with_entry-below : (key : List ℕ) (entry : StateEntry) (es : List StateEntry) → key_order key entry.key ≡ Less → IsBelowAll key es →
    IsBelowAll key (with_entry entry es)
with_entry-below key entry [] h below = (h, tt)
with_entry-below key entry (e ∷ es) h below =
    place_by-below key (key_order e.key entry.key) entry e es (with_entry entry es) h below (with_entry-below key entry es h below.1)

below_through : (key other : List ℕ) (es : List StateEntry) → key_order key other ≡ Less → IsBelowAll other es → IsBelowAll key es
below_through key other [] h below = tt
below_through key other (e ∷ es) h below = (total.trans key other e.key h below.0, below_through key other es h below.1)

below_alike : (key other : List ℕ) (es : List StateEntry) → key_order other key ≡ Equal → IsBelowAll other es → IsBelowAll key es
below_alike key other [] h below = tt
below_alike key other (e ∷ es) h below = (sym (total.congr other key e.key h) ∙ below.0, below_alike key other es h below.1)

place_by-ascending : (o : Ordering) (entry e : StateEntry) (es placed : List StateEntry) → key_order e.key entry.key ≡ o → IsAscending (e ∷ es) →
    IsAscending placed → (key_order e.key entry.key ≡ Less → IsBelowAll e.key placed) → IsAscending (place_by o entry e es placed)
place_by-ascending Less entry e es placed h up rest below = (below h, rest)
place_by-ascending Equal entry e es placed h up rest below = (below_alike entry.key e.key es h up.0, up.1)
place_by-ascending Greater entry e es placed h up rest below =
    let less : key_order entry.key e.key ≡ Less = reversed e.key entry.key h in
    ((less, below_through entry.key e.key es less up.0), up)

pub with_entry-ascending : (entry : StateEntry) (es : List StateEntry) → IsAscending es → IsAscending (with_entry entry es)
with_entry-ascending entry [] up = (tt, tt)
with_entry-ascending entry (e ∷ es) up =
    place_by-ascending (key_order e.key entry.key) entry e es (with_entry entry es) refl up (with_entry-ascending entry es up.1)
    (λ h. with_entry-below e.key entry es h up.0)

-- ---- ranges ----

place_by-in_range : (o : Ordering) (entry e : StateEntry) (es placed : List StateEntry) → entry.mod_rev ≤ HIGHEST_NUMBER → AreInRange (e ∷ es) →
    AreInRange placed → AreInRange (place_by o entry e es placed)
place_by-in_range Less entry e es placed h fits rest = (fits.0, rest)
place_by-in_range Equal entry e es placed h fits rest = (h, fits.1)
place_by-in_range Greater entry e es placed h fits rest = (h, fits)

pub with_entry-in_range : (entry : StateEntry) (es : List StateEntry) → entry.mod_rev ≤ HIGHEST_NUMBER → AreInRange es → AreInRange (with_entry entry es)
with_entry-in_range entry [] h fits = (h, tt)
with_entry-in_range entry (e ∷ es) h fits =
    place_by-in_range (key_order e.key entry.key) entry e es (with_entry entry es) h fits (with_entry-in_range entry es h fits.1)

pub in_range_at : (es : List StateEntry) (i : ℕ) (d : StateEntry) → AreInRange es → i < length es → (get_or es i d).mod_rev ≤ HIGHEST_NUMBER
in_range_at [] i d fits h = absurd (omega arith)
in_range_at (e ∷ es) zero d fits h = fits.0
in_range_at (e ∷ es) (suc i) d fits h = in_range_at es i d fits.1 (omega arith)

-- ---- the search ----

ascending_suc : (es : List StateEntry) (k : ℕ) (d : StateEntry) → IsAscending es → suc k < length es →
    key_order (get_or es k d).key (get_or es (suc k) d).key ≡ Less
ascending_suc [] k d up h = absurd (omega arith)
ascending_suc (e ∷ es) zero d up h = below_at e.key es 0 d up.0 (omega arith)
ascending_suc (e ∷ es) (suc k) d up h = ascending_suc es k d up.1 (omega arith)

ascending_at : (es : List StateEntry) (k : ℕ) (d : StateEntry) → IsAscending es → k + 1 < length es →
    key_order (get_or es k d).key (get_or es (k + 1) d).key ≡ Less
ascending_at es k d up h =
    let next : suc k ≡ k + 1 = omega arith in
    subst (λ (n : ℕ). key_order (get_or es k d).key (get_or es n d).key ≡ Less) next (ascending_suc es k d up (omega arith))

not_below : (x y : List ℕ) → key_order x y ≡ Less → is_lt (key_order y x) ≡ false
not_below x y h = ap (λ o. is_lt o) (total.antisymm y x ∙ ap (λ o. ordering_reverse o) h)

sorted : (es : List StateEntry) → IsAscending es → IsSortedBy (λ a b. is_lt (key_order a.key b.key)) es
sorted es up = λ k d low h. not_below (get_or es k d).key (get_or es (k + 1) d).key (ascending_at es k d up h)

searchable : (es : List StateEntry) (key : List ℕ) → IsAscending es → IsNonDecreasingBy (λ e. ordering_index (key_order e.key key)) es
searchable es key up = searchable_from_sorted total (λ e. e.key) es key (sorted es up)

pub searched : (es : List StateEntry) (key : List ℕ) (r : Result ℕ ℕ) → IsAscending es → IsSearchInRange r (length es) →
    IsBinarySearchResult (λ e. key_order e.key key) es r → IfOk r (IsAt es key) × IfErr r (IsGapFor es key)
searched es key (Ok i) up bound h = (record { in_range = bound; has_key = h }, tt)
searched es key (Err i) up bound h =
    let point = h (searchable es key up) in
    (tt, record { in_range = bound; smaller_before = λ j d below. point.0 j d (omega arith) below; greater_after = λ j d from below. point.1 j d from below })

-- ---- look-ups after an entry ----

both : {X : Type 0} (b c : Bool) (x y z : X) → (b ≡ true → c ≡ true → ⊥) → (if b then x else (if c then y else z)) ≡ (if c then y else (if b then x else z))
both true true x y z h = absurd (h refl refl)
both true false x y z h = refl
both false true x y z h = refl
both false false x y z h = refl

twice : {X : Type 0} (b c : Bool) (x y z : X) → b ≡ c → (if b then x else z) ≡ (if b then x else (if c then y else z))
twice true c x y z h = refl
twice false true x y z h = cc
twice false false x y z h = refl

alike : (e entry q : List ℕ) → bytes_eq e q ≡ true → bytes_eq entry q ≡ true → bytes_eq e entry ≡ true
alike e entry q p r = ap (λ k. bytes_eq e k) (same_text entry q (sym r)) ∙ p

place_by-find : (q : List ℕ) (o : Ordering) (entry e : StateEntry) (es placed : List StateEntry) → key_order e.key entry.key ≡ o →
    find_entry q placed ≡ (if bytes_eq entry.key q then Some entry else find_entry q es) →
    find_entry q (place_by o entry e es placed) ≡ (if bytes_eq entry.key q then Some entry else find_entry q (e ∷ es))
place_by-find q Less entry e es placed h ih =
    let apart : bytes_eq e.key entry.key ≡ false = bytes_eq-key_order e.key entry.key Less h in
    ap (λ r. if bytes_eq e.key q then Some e else r) ih
    ∙ both (bytes_eq e.key q) (bytes_eq entry.key q) (Some e) (Some entry) (find_entry q es)
    (λ p r. let clash : bytes_eq e.key entry.key ≡ true = alike e.key entry.key q p r in cc)
place_by-find q Equal entry e es placed h ih =
    let same : e.key ≡ entry.key = same_text e.key entry.key (sym (bytes_eq-key_order e.key entry.key Equal h)) in
    twice (bytes_eq entry.key q) (bytes_eq e.key q) (Some entry) (Some e) (find_entry q es) (ap (λ k. bytes_eq k q) (sym same))
place_by-find q Greater entry e es placed h ih = refl

-- an entry is found under its key, and what stands under every other key stays
pub find_entry-with_entry : (q : List ℕ) (entry : StateEntry) (es : List StateEntry) →
    find_entry q (with_entry entry es) ≡ (if bytes_eq entry.key q then Some entry else find_entry q es)
find_entry-with_entry q entry [] = refl
find_entry-with_entry q entry (e ∷ es) = place_by-find q (key_order e.key entry.key) entry e es (with_entry entry es) refl (find_entry-with_entry q entry es)
