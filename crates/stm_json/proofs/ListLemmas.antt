-- Lists: reading element after element as a loop does, what was read is spelled, and what is spelled is read.
use Rattle.std.proofs.Common.{◌≡◌, ℕ, suc, ◌+◌, ◌<◌, List, [], ◌∷◌, ◌++◌, length, drop, get_or, Option, Some, None, Ok, Err, refl, sym, ap, subst, ◌∙◌}
use Rattle.std.proofs.Common.{append_assoc, arith, add-one}
use Rattle.std.proofs.lemmas.List.{append-nil}
use Rattle.std.proofs.Math.Seq.{drop-cons}
use Rattle.serde_json.specs.Data.{Data, array, Items, no_items, item}
use Rattle.serde_json.specs.Find.{as_array}
use Rattle.serde_json.specs.View.{view, items_view}
use Rattle.serde_json.specs.declared.value.Value.{Value}
use Rattle.stm_json.specs.declared.read_error.ReadError.{ReadError}
use Rattle.stm_json.specs.declared.read_error.ReadError.TheVariants as error
use Rattle.stm_json.specs.Outcome.{Outcome, ◌>>=◌, within}
use Rattle.stm_json.specs.Returns.{ReturnsFault}
use Rattle.stm_json.proofs.OutcomeLemmas.{bind_ok, within_ok}
use Rattle.stm_json.specs.Parts.{SpellsEach, each_from, list_of}
use Rattle.stm_json.proofs.PartLemmas.{list_is}

-- ---- as a loop does

-- what was read before, and what is still read
abbrev pub with_front : {A : Type 0} → List A → Outcome (List A) → Outcome (List A)
with_front front reading = reading >>= λ xs. Ok (front ++ xs)

pub regroup : {A : Type 0} (front : List A) (x : A) (reading : Outcome (List A))
    → with_front front (reading >>= λ xs. Ok (x ∷ xs)) ≡ with_front (front ++ x ∷ []) reading
regroup {A} front x (Ok xs) = ap (λ (ys : List A). Ok ys) (simp append_assoc)
regroup front x (Err f) = refl

pub one_more : (vs : List Value) (i : ℕ) (v : Value) → i < length vs → v ≡ get_or vs i v → drop i vs ≡ v ∷ drop (i + 1) vs
one_more vs i v h e = drop-cons vs i v h ∙ rw (sym e, add-one) refl

pub goes_on : {A : Type 0} (read : Data → Outcome A) (front : List A) (vs : List Value) (i : ℕ) (v : Value) (x : A) (total : Outcome (List A))
    → i < length vs → v ≡ get_or vs i v → within i (read (view v)) ≡ Ok x
    → with_front front (each_from read i (items_view (drop i vs))) ≡ total
    → with_front (front ++ x ∷ []) (each_from read (i + 1) (items_view (drop (i + 1) vs))) ≡ total
unfolding each_from
goes_on read front vs i v x total lt at is so_far =
    let k : i + 1 ≡ suc i = omega arith in
    let one : with_front front (each_from read i (items_view (drop i vs))) ≡ with_front (front ++ x ∷ [])
    (each_from read (i + 1) (items_view (drop (i + 1) vs))) =
    ap (λ (ws : List Value). with_front front (each_from read i (items_view ws))) (one_more vs i v lt at)
    ∙ rw (is, k) (regroup front x (each_from read (suc i) (items_view (drop (suc i) vs)))) in
    sym one ∙ so_far

pub ends : {A : Type 0} (read : Data → Outcome A) (e : ReadError) (front : List A) (vs : List Value) (i : ℕ) (v : Value) (total : Outcome (List A))
    → i < length vs → v ≡ get_or vs i v → ReturnsFault e (within i (read (view v)))
    → with_front front (each_from read i (items_view (drop i vs))) ≡ total → ReturnsFault e total
unfolding each_from
ends read error.OutOfMemory front vs i v total lt at is so_far = tt
ends read (error.Bad f) front vs i v total lt at is so_far =
    let one : with_front front (each_from read i (items_view (drop i vs))) ≡ Err f =
    ap (λ (ws : List Value). with_front front (each_from read i (items_view ws))) (one_more vs i v lt at) ∙ rw is refl in
    sym so_far ∙ one

pub is_done : {A : Type 0} (read : Data → Outcome A) (front : List A) (vs : List Value) (i : ℕ) (total : Outcome (List A))
    → drop i vs ≡ [] → with_front front (each_from read i (items_view (drop i vs))) ≡ total → total ≡ Ok front
unfolding each_from
is_done {A} read front vs i total h so_far =
    let one : with_front front (each_from read i (items_view (drop i vs))) ≡ Ok front =
    rw h (ap (λ (ys : List A). Ok ys) (append-nil front)) in
    sym so_far ∙ one

-- ---- what was read is spelled

pub each_sound : {A : Type 0} (read : Data → Outcome A) (spells : Data → A → Type 0) → ((d : Data) (x : A) → read d ≡ Ok x → spells d x)
    → (index : ℕ) (ds : Items) (xs : List A) → each_from read index ds ≡ Ok xs → SpellsEach spells ds xs
unfolding each_from
each_sound {A} read spells sound index no_items xs h =
    let is : [] ≡ xs = cc in
    subst (λ (ys : List A). SpellsEach spells no_items ys) is refl
each_sound {A} read spells sound index (item d ds) xs h =
    let one = bind_ok (within index (read d)) _ xs h in
    let rest = bind_ok (each_from read (suc index) ds) _ xs one.2 in
    let is : one.0 ∷ rest.0 ≡ xs = cc rest.2 in
    subst (λ (ys : List A). SpellsEach spells (item d ds) ys) is
    (d, ds, refl, sound d one.0 (within_ok index _ _ one.1), each_sound read spells sound (suc index) ds rest.0 rest.1)

list_sound_at : {A : Type 0} (read : Data → Outcome A) (spells : Data → A → Type 0) → ((d : Data) (x : A) → read d ≡ Ok x → spells d x)
    → (d : Data) (o : Option Items) (xs : List A) → as_array d ≡ o → list_of read o ≡ Ok xs → (ds : Items) × (d ≡ array ds) × SpellsEach spells ds xs
list_sound_at read spells sound d None xs e h = cc
list_sound_at read spells sound d (Some ds) xs e h = (ds, list_is d ds e, each_sound read spells sound 0 ds xs h)

pub list_sound : {A : Type 0} (read : Data → Outcome A) (spells : Data → A → Type 0) → ((d : Data) (x : A) → read d ≡ Ok x → spells d x)
    → (d : Data) (xs : List A) → list_of read (as_array d) ≡ Ok xs → (ds : Items) × (d ≡ array ds) × SpellsEach spells ds xs
list_sound read spells sound d xs h = list_sound_at read spells sound d (as_array d) xs refl h

-- ---- what is spelled is read

pub each_reads : {A : Type 0} (read : Data → Outcome A) (spells : Data → A → Type 0) → ((d : Data) (x : A) → spells d x → read d ≡ Ok x)
    → (index : ℕ) (ds : Items) (xs : List A) → SpellsEach spells ds xs → each_from read index ds ≡ Ok xs
unfolding each_from
each_reads read spells reads index ds [] is = rw is refl
each_reads read spells reads index ds (x ∷ xs) (d, rest, is, s, others) =
    let one = reads d x s in
    let more = each_reads read spells reads (suc index) rest xs others in
    rw is (rw (one, more) refl)
