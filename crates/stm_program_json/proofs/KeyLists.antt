-- The list of a program as it is read, and as it is spelled.
use Rattle.std.proofs.Common.{◌≡◌, ℕ, ◌+◌, ◌-◌, ◌<◌, ◌≤◌, Bool, true, false, cond, List, [], ◌∷◌, ◌++◌, length, map, take, drop, get_or, String}
use Rattle.std.proofs.Common.{Option, Some, None, Ok, Err, refl, sym, ap, subst, ◌∙◌, arith, ltb-true, lt-ltb, append_assoc, codes}
use Rattle.std.specs.Prelude.{◌||◌, bytes_eq, string_bytes}
use Rattle.std.specs.List.{list_any}
use Rattle.std.proofs.lemmas.List.{append-nil, length-map, map_push, take_rest}
use Rattle.std.proofs.lemmas.Slice.Eq.{bytes_eq-Decides}
use Rattle.std.proofs.lemmas.Bool.Decides.{nat_tests}
use Rattle.serde_json.specs.Data.{Data, string, array, Items, no_items, item}
use Rattle.serde_json.specs.Find.{as_array}
use Rattle.serde_json.specs.View.{view, items_view}
use Rattle.serde_json.specs.declared.value.Value.{Value}
use Rattle.stm_json.specs.declared.cause.Cause.TheVariants.{TooMany}
use Rattle.stm_json.specs.declared.read_error.ReadError.{ReadError}
use Rattle.stm_json.specs.declared.read_error.ReadError.TheVariants as error
use Rattle.stm_json.specs.Outcome.{Outcome, bad, within}
use Rattle.stm_json.specs.Returns.{ReturnsFault}
use Rattle.stm_json.specs.Elements.{worded, one_of}
use Rattle.stm_json.specs.Parts.{same, spelled}
use Rattle.stm_json.proofs.ElementLemmas.{worded-is, one_of-is}
use Rattle.stm_json.proofs.PartLemmas.{list_is}
use Rattle.stm_json.proofs.OutcomeLemmas.{bind_ok, within_ok}
use Rattle.stm_program.specs.declared.limits.TheConstants.{MAX_PREFETCH}
use Rattle.stm_program.specs.Limits.{is_no_key, has_repeat}
use Rattle.stm_program.proofs.ListLemmas.{ListParts, once-push, named-push}
use Rattle.stm_program_json.specs.Grammar.{SpellsKeys, SpellsList}
use Rattle.stm_program_json.specs.Reading.{key_reported, key_at, keys_from, keys_array, list_of, list_parts}

-- ---- one key

-- a key that was read after these
pub record KeyRead (earlier : List (List ℕ)) (d : Data) (key : List ℕ) : Type 0 where
  pub spelled : d ≡ string key
  pub room : length earlier < MAX_PREFETCH
  pub named : is_no_key key ≡ false
  pub new : list_any (bytes_eq key) earlier ≡ false

text_reported : (earlier : List (List ℕ)) (s key : List ℕ) → length earlier < MAX_PREFETCH → key_reported earlier (Some s) ≡ Ok key → KeyRead earlier (string s) key
text_reported earlier s key room h = grind (arith, nat_tests)

room_case : (b : Bool) (reading : Outcome (List ℕ)) (key : List ℕ) → cond b reading (bad TooMany) ≡ Ok key → (b ≡ true) × (reading ≡ Ok key)
room_case true reading key h = (refl, h)
room_case false reading key h = absurd (cc)

pub key_read : (earlier : List (List ℕ)) (d : Data) (key : List ℕ) → key_at earlier d ≡ Ok key → KeyRead earlier d key
key_read earlier d key h = grind (arith, nat_tests, room_case, ltb-true, text_reported)

neither : (b c : Bool) → (b || c) ≡ false → (b ≡ false) × (c ≡ false)
neither true c h = absurd (cc)
neither false c h = (refl, h)

pub key_reads : (earlier : List (List ℕ)) (key : List ℕ) → KeyRead earlier (string key) key → key_at earlier (string key) ≡ Ok key
key_reads earlier key r = grind (arith, nat_tests, neither, lt-ltb)

-- ---- all keys

-- keys that were read after these
pub record KeysRead (earlier : List (List ℕ)) (ds : Items) (keys : List (List ℕ)) : Type 0 where
  pub new : List (List ℕ)
  pub follow : keys ≡ earlier ++ new
  pub spelled : SpellsKeys ds new
  pub parts : ListParts keys

-- one key more
pub longer : (keys : List (List ℕ)) (key : List ℕ) → length (keys ++ key ∷ []) ≡ length keys + 1
longer [] key = refl
longer (k ∷ keys) key = let rest = longer keys key in omega (arith, rest)

parts_more : (earlier : List (List ℕ)) (d : Data) (key : List ℕ) → ListParts earlier → KeyRead earlier d key → ListParts (earlier ++ key ∷ [])
parts_more earlier d key parts r =
    let more = longer earlier key in
    record {
      few = omega (arith, more, r.room);
      named = named-push key earlier r.named parts.named;
      once = once-push key earlier r.new parts.once;
    }

pub keys_sound : (earlier : List (List ℕ)) (ds : Items) (keys : List (List ℕ)) → ListParts earlier → keys_from earlier ds ≡ Ok keys → KeysRead earlier ds keys
unfolding keys_from
keys_sound earlier no_items keys parts h =
    let is : earlier ≡ keys = cc h in
    record { new = []; follow = sym is ∙ sym (append-nil earlier); spelled = refl; parts = subst ListParts is parts }
keys_sound earlier (item d ds) keys parts h =
    let q = bind_ok (within (length earlier) (key_at earlier d)) _ keys h in
    let one : KeyRead earlier d q.0 = key_read earlier d q.0 (within_ok (length earlier) _ _ q.1) in
    let more = keys_sound (earlier ++ q.0 ∷ []) ds keys (parts_more earlier d q.0 parts one) q.2 in
    record {
      new = q.0 ∷ more.new;
      follow = more.follow ∙ append_assoc earlier (q.0 ∷ []) more.new;
      spelled = (ds, ap (λ (x : Data). item x ds) one.spelled, more.spelled);
      parts = more.parts;
    }

-- ---- the keys of an array as a function reads them: a key, and then the others

pub no_keys : (earlier : List (List ℕ)) (vs : List Value) → length vs < 1 → keys_from earlier (items_view vs) ≡ Ok earlier
unfolding keys_from
no_keys earlier [] none = refl
no_keys earlier (v ∷ vs) none = absurd (omega arith)

-- what is read of the first element
first_read : (earlier : List (List ℕ)) (v w : Value) (n : ℕ) (o : Outcome (List ℕ)) → v ≡ w → n ≡ length earlier → within n (key_at earlier (view v)) ≡ o
    → within (length earlier) (key_at earlier (view w)) ≡ o
first_read earlier v w n o is count read =
    ap (λ (m : ℕ). within m (key_at earlier (view w))) (sym count) ∙ ap (λ (x : Value). within n (key_at earlier (view x))) (sym is) ∙ read

key_faulted : (e : ReadError) (earlier : List (List ℕ)) (vs : List Value) (v : Value) (n : ℕ) → 1 ≤ length vs → v ≡ get_or vs 0 v → n ≡ length earlier
    → ReturnsFault e (within n (key_at earlier (view v))) → ReturnsFault e (keys_from earlier (items_view vs))
unfolding keys_from
key_faulted e earlier [] v n some is count fault = absurd (omega arith)
key_faulted error.OutOfMemory earlier (w ∷ vs) v n some is count fault = tt
key_faulted (error.Bad f) earlier (w ∷ vs) v n some is count fault =
    let here : within (length earlier) (key_at earlier (view w)) ≡ Err f = first_read earlier v w n (Err f) is count fault in rw here refl

key_more : (earlier longer : List (List ℕ)) (vs : List Value) (v : Value) (key : List ℕ) (n : ℕ) → 1 ≤ length vs → v ≡ get_or vs 0 v → n ≡ length earlier
    → within n (key_at earlier (view v)) ≡ Ok key → longer ≡ earlier ++ key ∷ []
    → keys_from longer (items_view (take (length vs - 1) (drop 1 vs))) ≡ keys_from earlier (items_view vs)
unfolding keys_from
key_more earlier longer [] v key n some is count read pushed = absurd (omega arith)
key_more earlier longer (w ∷ vs) v key n some is count read pushed =
    let here : within (length earlier) (key_at earlier (view w)) ≡ Ok key = first_read earlier v w n (Ok key) is count read in
    let step : keys_from earlier (items_view (w ∷ vs)) ≡ keys_from (earlier ++ key ∷ []) (items_view vs) = rw here refl in
    ap (λ (ws : List Value). keys_from longer (items_view ws)) (take_rest (w ∷ vs) 1)
    ∙ ap (λ (ks : List (List ℕ)). keys_from ks (items_view vs)) pushed
    ∙ sym step

counted : {A : Type 0} (texts items : List (String A)) → texts ≡ items → length texts ≡ length (map string_bytes items)
counted texts items same = ap (λ (ts : List (String _)). length ts) same ∙ sym (length-map items string_bytes)

-- the same of keys as texts
pub text_faulted : {A : Type 0} (e : ReadError) (texts items : List (String A)) (vs : List Value) (v : Value) → texts ≡ items → 1 ≤ length vs → v ≡ get_or vs 0 v
    → ReturnsFault e (within (length texts) (key_at (map string_bytes texts) (view v))) → ReturnsFault e (keys_from (map string_bytes items) (items_view vs))
text_faulted e texts items vs v same some is fault =
    key_faulted e (map string_bytes items) vs v (length texts) some is (counted texts items same)
    (subst (λ (ts : List (String _)). ReturnsFault e (within (length texts) (key_at (map string_bytes ts) (view v)))) same fault)

pub text_more : {A : Type 0} (texts items longer : List (String A)) (vs : List Value) (v : Value) (key : String A) → texts ≡ items → 1 ≤ length vs
    → v ≡ get_or vs 0 v → within (length texts) (key_at (map string_bytes texts) (view v)) ≡ Ok (string_bytes key) → longer ≡ items ++ key ∷ []
    → keys_from (map string_bytes longer) (items_view (take (length vs - 1) (drop 1 vs))) ≡ keys_from (map string_bytes items) (items_view vs)
text_more texts items longer vs v key same some is read pushed =
    key_more (map string_bytes items) (map string_bytes longer) vs v (string_bytes key) (length texts) some is (counted texts items same)
    (ap (λ (ts : List (String _)). within (length texts) (key_at (map string_bytes ts) (view v))) (sym same) ∙ read)
    (ap (λ (ts : List (String _)). map string_bytes ts) pushed ∙ map_push string_bytes items key)

-- what a list within the limits says of a key in it
none_before : (key : List ℕ) (earlier later : List (List ℕ)) → has_repeat (earlier ++ key ∷ later) ≡ false → list_any (bytes_eq key) earlier ≡ false
none_before key [] later once = refl
none_before key (k ∷ earlier) later once =
    let parts = neither (list_any (bytes_eq k) (earlier ++ key ∷ later)) (has_repeat (earlier ++ key ∷ later)) once in
    either (bytes_eq key k) (list_any (bytes_eq key) earlier) (apart k earlier parts.0) (none_before key earlier later parts.1)
  where
    either : (b c : Bool) → b ≡ false → c ≡ false → (b || c) ≡ false
    either b c first second = ap (λ x. x || c) first ∙ second

    flipped : (k : List ℕ) (b : Bool) → bytes_eq key k ≡ b → bytes_eq k key ≡ false → b ≡ false
    flipped k false e none = refl
    flipped k true e none =
        let is : bytes_eq k key ≡ true = (bytes_eq-Decides k key).1 (sym ((bytes_eq-Decides key k).0 e)) in absurd (cc)

    apart : (k : List ℕ) (before : List (List ℕ)) → list_any (bytes_eq k) (before ++ key ∷ later) ≡ false → bytes_eq key k ≡ false
    apart k [] none = flipped k (bytes_eq key k) refl (neither (bytes_eq k key) (list_any (bytes_eq k) later) none).0
    apart k (x ∷ before) none = apart k before (neither (bytes_eq k x) (list_any (bytes_eq k) (before ++ key ∷ later)) none).1

named_at : (key : List ℕ) (earlier later : List (List ℕ)) → list_any is_no_key (earlier ++ key ∷ later) ≡ false → is_no_key key ≡ false
named_at key [] later named = (neither (is_no_key key) (list_any is_no_key later) named).0
named_at key (k ∷ earlier) later named = named_at key earlier later (neither (is_no_key k) (list_any is_no_key (earlier ++ key ∷ later)) named).1

shorter : (earlier later : List (List ℕ)) (key : List ℕ) → length earlier < length (earlier ++ key ∷ later)
shorter [] later key = omega arith
shorter (k ∷ earlier) later key = let rest = shorter earlier later key in omega (arith, rest)

pub keys_read : (earlier : List (List ℕ)) (ds : Items) (new : List (List ℕ)) → SpellsKeys ds new → ListParts (earlier ++ new)
    → keys_from earlier ds ≡ Ok (earlier ++ new)
unfolding keys_from
keys_read earlier ds [] is parts = rw is (ap (λ (ks : List (List ℕ)). (let o : Outcome (List (List ℕ)) = Ok ks in o)) (sym (append-nil earlier)))
keys_read earlier ds (key ∷ new) (rest, is, others) parts =
    let less = shorter earlier new key in
    let one : KeyRead earlier (string key) key = record {
      spelled = refl;
      room = omega (arith, less, parts.few);
      named = named_at key earlier new parts.named;
      new = none_before key earlier new parts.once;
    } in
    let first = key_reads earlier key one in
    let assoc = append_assoc earlier (key ∷ []) new in
    let more = keys_read (earlier ++ key ∷ []) rest new others (subst ListParts (sym assoc) parts) in
    rw (is, first) (more ∙ ap (λ (ks : List (List ℕ)). (let o : Outcome (List (List ℕ)) = Ok ks in o)) assoc)

-- ---- the list

no_list : ListParts []
no_list = record { few = omega arith; named = refl; once = refl }

array_sound : (d : Data) (o : Option Items) (keys : List (List ℕ)) → as_array d ≡ o → keys_array o ≡ Ok keys
    → (ks : Items) × (d ≡ array ks) × SpellsKeys ks keys × ListParts keys
array_sound d None keys e h = absurd (cc)
array_sound d (Some ks) keys e h =
    let r = keys_sound [] ks keys no_list h in
    (ks, list_is d ks e, subst (SpellsKeys ks) (sym r.follow) r.spelled, r.parts)

-- what begins with the word of a list
pub list_parts-is : (d : Data) (o : Option (List ℕ × Items)) (parts : Items) → worded d ≡ o → list_parts o ≡ Some parts
    → d ≡ array (item (string (codes "prefetch")) parts)
list_parts-is d o parts w h = grind (arith, nat_tests, worded-is, bytes_eq-Decides)

pub list_sound : (d : Data) (parts : Items) (o : Option Data) (keys : List (List ℕ)) → d ≡ array (item (string (codes "prefetch")) parts) → one_of parts ≡ o
    → list_of o ≡ Ok keys → SpellsList d keys × ListParts keys
list_sound d parts None keys is e h = absurd (cc)
list_sound d parts (Some a) keys is e h =
    let r = array_sound a (as_array a) keys refl (within_ok 1 _ _ h) in (
      (
        r.0,
        is ∙ ap (λ (x : Items). array (item (string (codes "prefetch")) x)) (one_of-is parts a e)
            ∙ ap (λ (x : Data). spelled (codes "prefetch") (x ∷ [])) r.1,
        r.2,
      ),
      r.3,
    )

-- what is read of a list is within its limits
pub list_parts_of_keys : (o : Option Data) (keys : List (List ℕ)) → within 0 (list_of o) ≡ Ok keys → ListParts keys
list_parts_of_keys None keys h = absurd (cc)
list_parts_of_keys (Some a) keys h =
    (array_sound a (as_array a) keys refl (within_ok 1 _ _ (within_ok 0 (list_of (Some a)) keys h))).3

-- a list that is spelled is read
pub list_reads : (d : Data) (keys : List (List ℕ)) → SpellsList d keys → ListParts keys
    → (parts : Items) × (list_parts (worded d) ≡ Some parts) × (list_of (one_of parts) ≡ Ok keys)
list_reads d keys (ks, is, spells) parts =
    let all = keys_read [] ks keys spells parts in (
      item (array ks) no_items,
      ap (λ (x : Data). list_parts (worded x)) is,
      ap (λ (o : Outcome (List (List ℕ))). within 1 o) all,
    )
