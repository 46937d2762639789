-- The marks of a list beside what is read of it.
use Rattle.std.proofs.Common.{◌≡◌, ℕ, suc, Bool, true, false, cond, List, [], ◌∷◌, ◌++◌, length, Ok, refl, ap, ◌∙◌, arith}
use Rattle.std.specs.Prelude.{◌||◌, nat_eq, nat_lt, bytes_eq}
use Rattle.std.specs.List.{list_any}
use Rattle.serde_json.specs.Data.{Data, string, array, Items, no_items, item}
use Rattle.serde_json.specs.Find.{as_str, as_array}
use Rattle.stm_json.specs.declared.cause.Cause.TheVariants.{Shape, TooLong, TooMany}
use Rattle.stm_json.specs.Outcome.{bad}
use Rattle.stm_json.specs.Elements.{one_of}
use Rattle.stm_json.specs.Faults.{at}
use Rattle.stm_program.specs.declared.limits.TheConstants.{MAX_PREFETCH, MAX_TEXT}
use Rattle.stm_program_json.specs.Reading.{key_reported, key_at, keys_from, keys_array, list_of}
use Rattle.stm_program_json.specs.FirstFault.{Mark, wrong, first_of_marks, with_text, key_marks, marks_of_keys, marks_of_list}
use Rattle.stm_program_json.proofs.MarkLemmas.{after_number, wrong_is, alone_then, within_alone, behind}
use Rattle.stm_program_json.proofs.KeyLists.{KeyRead, key_read, longer}

text_tested : (p : List ℕ) (room : ℕ) (unfit long : Bool) (s : List ℕ) (next : List Mark)
    → first_of_marks room (cond unfit (wrong p Shape) (cond long (wrong p TooLong) []) ++ next)
    ≡ after_number p room (cond unfit (bad Shape) (cond long (bad TooLong) (Ok s))) next
text_tested p room true long s next = wrong_is p Shape room next
text_tested p room false true s next = wrong_is p TooLong room next
text_tested p room false false s next = refl

key_marked : (p : List ℕ) (room : ℕ) (earlier : List (List ℕ)) (d : Data) (next : List Mark)
    → first_of_marks room (key_marks p earlier d ++ next) ≡ after_number p room (key_reported earlier (as_str d)) next
key_marked p room earlier (string s) next = text_tested p room (nat_eq (length s) 0 || list_any (bytes_eq s) earlier) (nat_lt MAX_TEXT (length s)) s next
key_marked p room earlier _ next = wrong_is p Shape room next

room_tested : (p : List ℕ) (room : ℕ) (earlier : List (List ℕ)) (d : Data) (next : List Mark) (b : Bool)
    → first_of_marks room (cond b (key_marks p earlier d) (wrong p TooMany) ++ next)
    ≡ after_number p room (cond b (key_reported earlier (as_str d)) (bad TooMany)) next
room_tested p room earlier d next true = key_marked p room earlier d next
room_tested p room earlier d next false = wrong_is p TooMany room next

-- the texts that come before are the keys that were read
text_added : (earlier : List (List ℕ)) (d : Data) (key : List ℕ) → KeyRead earlier d key → with_text earlier d ≡ earlier ++ key ∷ []
text_added earlier d key r = ap (with_text earlier) r.spelled

keys_marked : (p : List ℕ) (room : ℕ) (earlier : List (List ℕ)) (ds : Items) (rest : List Mark)
    → first_of_marks room (marks_of_keys p (length earlier) earlier ds ++ rest) ≡ after_number p room (keys_from earlier ds) rest
unfolding keys_from
keys_marked p room earlier no_items rest = refl
keys_marked p room earlier (item d ds) rest =
    let i : ℕ = length earlier in
    let head : List Mark = cond (nat_lt i MAX_PREFETCH) (key_marks (at p i) earlier d) (wrong (at p i) TooMany) in
    let more : List Mark = marks_of_keys p (suc i) (with_text earlier d) ds in
    behind room head more rest
    ∙ alone_then p i room (key_at earlier d) (λ key. keys_from (earlier ++ key ∷ []) ds) _ (more ++ rest) rest
    (room_tested (at p i) room earlier d (more ++ rest) (nat_lt i MAX_PREFETCH))
    (λ key e.
    let added : with_text earlier d ≡ earlier ++ key ∷ [] = text_added earlier d key (key_read earlier d key e) in
    let count : suc i ≡ length (earlier ++ key ∷ []) = (let l = longer earlier key in omega (arith, l)) in
    ap (λ (n : ℕ). first_of_marks room (marks_of_keys p n (with_text earlier d) ds ++ rest)) count
    ∙ ap (λ (ks : List (List ℕ)). first_of_marks room (marks_of_keys p (length (earlier ++ key ∷ [])) ks ds ++ rest)) added
    ∙ keys_marked p room (earlier ++ key ∷ []) ds rest)

array_marked : (p : List ℕ) (room : ℕ) (d : Data) (rest : List Mark)
    → first_of_marks room (marks_of_list p (item d no_items) ++ rest) ≡ after_number (at p 1) room (keys_array (as_array d)) rest
array_marked p room (array ks) rest = keys_marked (at p 1) room [] ks rest
array_marked p room _ rest = wrong_is (at p 1) Shape room rest

-- what follows the word of a list
pub list_marked : (p : List ℕ) (room : ℕ) (parts : Items) (rest : List Mark)
    → first_of_marks room (marks_of_list p parts ++ rest) ≡ after_number p room (list_of (one_of parts)) rest
list_marked p room no_items rest = wrong_is p Shape room rest
list_marked p room (item d no_items) rest = within_alone p 1 room (keys_array (as_array d)) _ rest (array_marked p room d rest)
list_marked p room (item (array ks) (item e ds)) rest = wrong_is p Shape room rest
list_marked p room (item _ (item e ds)) rest = wrong_is p Shape room rest
