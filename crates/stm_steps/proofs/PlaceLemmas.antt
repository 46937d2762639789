-- The places of the last writes, as a write is added.
use Rattle.std.proofs.Common.{◌≡◌, ℕ, ◌<◌, Bool, true, false, cond, List, [], ◌∷◌, ◌++◌, length, Option, None, Some, refl, sym, ◌∙◌, ap, arith, length-append}
use Rattle.std.proofs.Common.{drop, take, subst}
use Rattle.std.specs.Prelude.{bytes_eq, slice_get}
use Rattle.std.specs.Map.{update}
use Rattle.std.proofs.lemmas.List.{get_or_append_left, take-append-drop, drop_all}
use Rattle.std.proofs.lemmas.Option.{slice_get-get_or, none-some, same_Some}
use Rattle.std.proofs.Math.Seq.{get_or-append_seam}
use Rattle.stm_history.specs.declared.change.Change.{Change}
use Rattle.stm_history.specs.History.{key_of}
use Rattle.stm_program.specs.Writes.{last_write}
use Rattle.stm_program.proofs.WriteLemmas.{last_write-more, last_write-none, last_write-append, or_else}
use Rattle.stm_steps.specs.LastPlaces.{write_at, AreLastPlaces}

-- no writes, and no places
pub none_written : (places : List ℕ → Option ℕ) → ((key : List ℕ) → places key ≡ None) → AreLastPlaces [] places
none_written places none = record {
  within = λ key i at. absurd (none-some i (sym (none key) ∙ at));
  last = λ key. ap (λ place. write_at [] place) (none key) ∙ sym (last_write-none key);
}

-- the same, after the first n of no writes
pub none_behind_none : (n : ℕ) (ws : List Change) (places : List ℕ → Option ℕ) → ws ≡ [] → ((key : List ℕ) → places key ≡ None) →
    AreLastPlaces (drop n ws) places
none_behind_none n [] places none absent = subst (λ l. AreLastPlaces l places) (sym (drop_all n [] (omega arith))) (none_written places absent)
none_behind_none n (w ∷ ws) places none absent = absurd (cc)

-- the added write stands at the end
last_place : (ws : List Change) (w : Change) → slice_get (ws ++ w ∷ []) (length ws) ≡ Some w
last_place ws w =
    slice_get-get_or (ws ++ w ∷ []) (length ws) w (omega (arith, length-append ws (w ∷ [])))
    ∙ ap (λ v. Some v) (get_or-append_seam ws w [] w)

earlier_place : (ws : List Change) (w : Change) (i : ℕ) → i < length ws → slice_get (ws ++ w ∷ []) i ≡ slice_get ws i
earlier_place ws w i below =
    slice_get-get_or (ws ++ w ∷ []) i w (omega (arith, length-append ws (w ∷ [])))
    ∙ ap (λ v. Some v) (get_or_append_left ws (w ∷ []) w i below)
    ∙ sym (slice_get-get_or ws i w below)

earlier_write : (ws : List Change) (w : Change) (place : Option ℕ) → ((i : ℕ) → place ≡ Some i → i < length ws) →
    write_at (ws ++ w ∷ []) place ≡ write_at ws place
earlier_write ws w None within = refl
earlier_write ws w (Some i) within = earlier_place ws w i (within i refl)

within_after : (b : Bool) (ws : List Change) (w : Change) (place : Option ℕ) → ((i : ℕ) → place ≡ Some i → i < length ws) → (i : ℕ) →
    cond b (Some (length ws)) place ≡ Some i → i < length (ws ++ w ∷ [])
within_after true ws w place within i at = let same : length ws ≡ i = same_Some (length ws) i at in omega (arith, length-append ws (w ∷ []), same)
within_after false ws w place within i at = omega (arith, length-append ws (w ∷ []), within i at)

write_after : (b : Bool) (ws : List Change) (w : Change) (place : Option ℕ) → ((i : ℕ) → place ≡ Some i → i < length ws) →
    write_at (ws ++ w ∷ []) (cond b (Some (length ws)) place) ≡ cond b (Some w) (write_at ws place)
write_after true ws w place within = last_place ws w
write_after false ws w place within = earlier_write ws w place within

-- the place of the added write is that of its key's last one, and the other keys keep theirs
pub place_added : (ws : List Change) (w : Change) (places after : List ℕ → Option ℕ) → AreLastPlaces ws places →
    ((key : List ℕ) → after key ≡ update bytes_eq places (key_of w) (Some (length ws)) key) → AreLastPlaces (ws ++ w ∷ []) after
place_added ws w places after kept reported = record {
  within = λ key i at. within_after (bytes_eq (key_of w) key) ws w (places key) (kept.within key) i (sym (reported key) ∙ at);
  last = λ key.
      ap (λ place. write_at (ws ++ w ∷ []) place) (reported key)
      ∙ write_after (bytes_eq (key_of w) key) ws w (places key) (kept.within key)
      ∙ ap (λ found. cond (bytes_eq (key_of w) key) (Some w) found) (kept.last key)
      ∙ sym (last_write-more key ws w);
}

-- the last write of a key in a list that is cut in two: the later part is looked at first
pub last_of_both : (key : List ℕ) (n : ℕ) (ws : List Change) (found : Option Change) → last_write key (drop n ws) ≡ found →
    last_write key ws ≡ or_else found (last_write key (take n ws))
last_of_both key n ws found in_later =
    ap (last_write key) (sym (take-append-drop n ws)) ∙ last_write-append key (take n ws) (drop n ws)
    ∙ ap (λ o. or_else o (last_write key (take n ws))) in_later
