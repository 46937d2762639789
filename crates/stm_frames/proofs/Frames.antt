-- What the bytes of a frame say, and how a file of frames is read.
use Rattle.std.proofs.Common.{◌≡◌, ℕ, ◌+◌, ◌-◌, ◌^◌, ◌<◌, ◌≤◌, List, [], ◌∷◌, ◌++◌, length, take, drop, refl, sym, ◌∙◌, ap, ap₂, arith, w64, append_assoc, append-nil, length-append, length-drop, length-take-le, take-append-drop, take_at, drop_at, drop-drop, add-zero, zero-add}
use Rattle.std.specs.Int.{to_le_bytes}
use Rattle.std.proofs.lemmas.Nat.{from_le_bytes-to_le_bytes_8}
use Rattle.std.proofs.lemmas.Bool.Decides.{nat_tests}
use Rattle.stm_frames.specs.Frame.{digest, head, frame, frame_is, log, NoFrame, NoneIn, SomeIn}

-- the eight bytes tell the number
pub lengths_same : (m n : ℕ) → m < 2 ^ 64 → n < 2 ^ 64 → to_le_bytes w64 m ≡ to_le_bytes w64 n → m ≡ n
lengths_same m n m_fits n_fits same = grind (arith, nat_tests, from_le_bytes-to_le_bytes_8)

pub length-frame : (at : ℕ) (payload : List ℕ) → length (frame at payload) ≡ 24 + length payload
length-frame at payload =
    let front : length (head at (length payload) ++ to_le_bytes w64 (digest at payload)) ≡ 24 = refl in
    omega (arith, ap length (frame_is at payload), front, length-append (head at (length payload) ++ to_le_bytes w64 (digest at payload)) payload)

-- what stands where, in bytes that begin with a frame
pub record Begins (at : ℕ) (payload bytes : List ℕ) : Type 0 where
  pub room : 24 + length payload ≤ length bytes
  pub len : take 8 bytes ≡ to_le_bytes w64 (length payload)
  pub guard : take 8 (drop 8 bytes) ≡ to_le_bytes w64 (digest at (to_le_bytes w64 (length payload)))
  pub sum : take 8 (drop 16 bytes) ≡ to_le_bytes w64 (digest at payload)
  pub payload_is : payload ≡ take (length payload) (drop 24 bytes)

pub begins : (at : ℕ) (payload tail bytes : List ℕ) → bytes ≡ frame at payload ++ tail → Begins at payload bytes
begins at payload tail bytes is =
    let a = to_le_bytes w64 (length payload) in
    let g = to_le_bytes w64 (digest at (to_le_bytes w64 (length payload))) in
    let b = to_le_bytes w64 (digest at payload) in
    let rest = payload ++ tail in
    let whole : bytes ≡ a ++ (g ++ (b ++ rest)) =
    is ∙ ap (λ (l : List ℕ). l ++ tail) (frame_is at payload) ∙ append_assoc (a ++ g ++ b) payload tail ∙ append_assoc (a ++ g) b rest ∙ append_assoc a g (b ++ rest) in
    let second : drop 8 bytes ≡ g ++ (b ++ rest) = ap (λ (l : List ℕ). drop 8 l) whole ∙ drop_at a (g ++ (b ++ rest)) 8 refl in
    let third : drop 16 bytes ≡ b ++ rest = sym (drop-drop 8 8 bytes) ∙ ap (λ (l : List ℕ). drop 8 l) second ∙ drop_at g (b ++ rest) 8 refl in
    let last : drop 24 bytes ≡ rest = sym (drop-drop 8 16 bytes) ∙ ap (λ (l : List ℕ). drop 8 l) third ∙ drop_at b rest 8 refl in
    record {
      room = omega (arith, ap length is, length-append (frame at payload) tail, length-frame at payload);
      len = ap (λ (l : List ℕ). take 8 l) whole ∙ take_at a (g ++ (b ++ rest)) 8 refl;
      guard = ap (λ (l : List ℕ). take 8 l) second ∙ take_at g (b ++ rest) 8 refl;
      sum = ap (λ (l : List ℕ). take 8 l) third ∙ take_at b rest 8 refl;
      payload_is = sym (ap (λ (l : List ℕ). take (length payload) l) last ∙ take_at payload tail (length payload) refl);
    }

-- the length that stands there is the payload's
pub length_told : (at len : ℕ) (payload tail bytes : List ℕ) → length bytes < 2 ^ 64 → len < 2 ^ 64 → to_le_bytes w64 len ≡ take 8 bytes → bytes ≡ frame at payload ++ tail → length payload ≡ len
length_told at len payload tail bytes short fits told is =
    let b = begins at payload tail bytes is in
    lengths_same (length payload) len (omega (arith, b.room)) fits (sym b.len ∙ sym told)

pub too_short : (at : ℕ) (bytes : List ℕ) → length bytes < 24 → NoFrame at bytes
too_short at bytes short payload tail is = let b = begins at payload tail bytes is in absurd (omega (arith, b.room))

pub too_long : (at len : ℕ) (bytes : List ℕ) → length bytes < 2 ^ 64 → len < 2 ^ 64 → to_le_bytes w64 len ≡ take 8 bytes → length bytes - 24 < len → NoFrame at bytes
too_long at len bytes short fits told over payload tail is =
    let b = begins at payload tail bytes is in
    let same = length_told at len payload tail bytes short fits told is in
    absurd (omega (arith, b.room, same))

pub other_guard : (at len guard result : ℕ) (bytes len_bytes : List ℕ) → length bytes < 2 ^ 64 → len < 2 ^ 64 → guard < 2 ^ 64 → result < 2 ^ 64 → to_le_bytes w64 len ≡ take 8 bytes → to_le_bytes w64 guard ≡ take 8 (drop 8 bytes)
    → len_bytes ≡ to_le_bytes w64 len → result ≡ digest at len_bytes → (guard ≡ result → ⊥) → NoFrame at bytes
other_guard at len guard result bytes len_bytes short fits guard_fits result_fits told told_guard is_len is_digest other payload tail is =
    let b = begins at payload tail bytes is in
    let same = length_told at len payload tail bytes short fits told is in
    let digest_is : digest at (to_le_bytes w64 (length payload)) ≡ result = ap (λ (n : ℕ). digest at (to_le_bytes w64 n)) same ∙ ap (λ (l : List ℕ). digest at l) (sym is_len) ∙ sym is_digest in
    other (lengths_same guard result guard_fits result_fits (told_guard ∙ b.guard ∙ ap (λ (n : ℕ). to_le_bytes w64 n) digest_is))

pub other_sum : (at len sum result : ℕ) (bytes : List ℕ) → length bytes < 2 ^ 64 → len < 2 ^ 64 → sum < 2 ^ 64 → result < 2 ^ 64 → to_le_bytes w64 len ≡ take 8 bytes → to_le_bytes w64 sum ≡ take 8 (drop 16 bytes)
    → result ≡ digest at (take len (drop 24 bytes)) → (sum ≡ result → ⊥) → NoFrame at bytes
other_sum at len sum result bytes short fits sum_fits result_fits told told_sum is_digest other payload tail is =
    let b = begins at payload tail bytes is in
    let same = length_told at len payload tail bytes short fits told is in
    let payload_is : payload ≡ take len (drop 24 bytes) = b.payload_is ∙ ap (λ (n : ℕ). take n (drop 24 bytes)) same in
    let digest_is : digest at payload ≡ result = ap (λ (l : List ℕ). digest at l) payload_is ∙ sym is_digest in
    other (lengths_same sum result sum_fits result_fits (told_sum ∙ b.sum ∙ ap (λ (n : ℕ). to_le_bytes w64 n) digest_is))

-- eight bytes, and those behind them
eight : (bytes : List ℕ) (at : ℕ) → take 8 (drop at bytes) ++ drop (at + 8) bytes ≡ drop at bytes
eight bytes at = ap (λ (l : List ℕ). take 8 (drop at bytes) ++ l) (sym (drop-drop 8 at bytes)) ∙ take-append-drop 8 (drop at bytes)

pub whole : (at len guard sum : ℕ) (bytes len_bytes : List ℕ) → 24 + len ≤ length bytes → to_le_bytes w64 len ≡ take 8 bytes
    → to_le_bytes w64 guard ≡ take 8 (drop 8 bytes) → len_bytes ≡ to_le_bytes w64 len → guard ≡ digest at len_bytes
    → to_le_bytes w64 sum ≡ take 8 (drop 16 bytes) → sum ≡ digest at (take len (drop 24 bytes)) → bytes ≡ frame at (take len (drop 24 bytes)) ++ drop (24 + len) bytes
whole at len guard sum bytes len_bytes room told told_guard is_len is_guard told_sum is_digest =
    let p = take len (drop 24 bytes) in
    let tail = drop (24 + len) bytes in
    let size : length p ≡ len = length-take-le len (drop 24 bytes) (omega (arith, room, length-drop 24 bytes)) in
    let a : to_le_bytes w64 (length p) ≡ take 8 bytes = ap (λ (n : ℕ). to_le_bytes w64 n) size ∙ told in
    let g : to_le_bytes w64 (digest at (to_le_bytes w64 (length p))) ≡ take 8 (drop 8 bytes) =
    ap (λ (n : ℕ). to_le_bytes w64 (digest at (to_le_bytes w64 n))) size ∙ ap (λ (l : List ℕ). to_le_bytes w64 (digest at l)) (sym is_len) ∙ ap (λ (n : ℕ). to_le_bytes w64 n) (sym is_guard) ∙ told_guard in
    let b : to_le_bytes w64 (digest at p) ≡ take 8 (drop 16 bytes) = ap (λ (n : ℕ). to_le_bytes w64 n) (sym is_digest) ∙ told_sum in
    let last : p ++ tail ≡ drop 24 bytes = ap (λ (l : List ℕ). p ++ l) (sym (drop-drop len 24 bytes)) ∙ take-append-drop len (drop 24 bytes) in
    sym (ap (λ (l : List ℕ). l ++ tail) (frame_is at p)
    ∙ append_assoc (head at (length p) ++ to_le_bytes w64 (digest at p)) p tail
    ∙ append_assoc (head at (length p)) (to_le_bytes w64 (digest at p)) (p ++ tail)
    ∙ append_assoc (to_le_bytes w64 (length p)) (to_le_bytes w64 (digest at (to_le_bytes w64 (length p)))) (to_le_bytes w64 (digest at p) ++ (p ++ tail))
    ∙ ap₂ (λ (x y : List ℕ). x ++ (y ++ (to_le_bytes w64 (digest at p) ++ (p ++ tail)))) a g
    ∙ ap₂ (λ (x y : List ℕ). take 8 bytes ++ (take 8 (drop 8 bytes) ++ (x ++ y))) b last
    ∙ ap (λ (l : List ℕ). take 8 bytes ++ (take 8 (drop 8 bytes) ++ l)) (eight bytes 16)
    ∙ ap (λ (l : List ℕ). take 8 bytes ++ l) (eight bytes 8)
    ∙ take-append-drop 8 bytes)

pub found : (bytes : List ℕ) (from at n : ℕ) → from ≤ at → drop at bytes ≡ frame at (take n (drop 24 (drop at bytes))) ++ drop (24 + n) (drop at bytes) → SomeIn from (drop from bytes)
found bytes from at n past is =
    let same : at ≡ from + (at - from) = omega arith in
    record {
      behind = at - from;
      payload = take n (drop 24 (drop at bytes));
      tail = drop (24 + n) (drop at bytes);
      stands = drop-drop (at - from) from bytes ∙ ap (λ (m : ℕ). drop m bytes) (sym same) ∙ is ∙ ap (λ (m : ℕ). frame m (take n (drop 24 (drop at bytes))) ++ drop (24 + n) (drop at bytes)) same;
    }

pub none_found : (bytes : List ℕ) (from at : ℕ) → length bytes ≤ at → ((k : ℕ) → from + k < at → NoFrame (from + k) (drop (from + k) bytes)) → NoneIn from (drop from bytes)
none_found bytes from at past none k payload tail is =
    let is_there : drop (from + k) bytes ≡ frame (from + k) payload ++ tail = sym (drop-drop k from bytes) ∙ is in
    let b = begins (from + k) payload tail (drop (from + k) bytes) is_there in
    none k (omega (arith, past, b.room, length-drop (from + k) bytes)) payload tail is_there

pub log-append : (at : ℕ) (ps qs : List (List ℕ)) → log at (ps ++ qs) ≡ log at ps ++ log (at + length (log at ps)) qs
log-append at [] qs = ap (λ (m : ℕ). log m qs) (sym (add-zero at))
log-append at (p ∷ ps) qs =
    let next = at + 24 + length p in
    let size : length (frame at p ++ log next ps) ≡ 24 + length p + length (log next ps) = omega (arith, length-append (frame at p) (log next ps), length-frame at p) in
    let place : next + length (log next ps) ≡ at + length (frame at p ++ log next ps) = omega (arith, size) in
    ap (λ (l : List ℕ). frame at p ++ l) (log-append next ps qs)
    ∙ sym (append_assoc (frame at p) (log next ps) (log (next + length (log next ps)) qs))
    ∙ ap (λ (m : ℕ). frame at p ++ log next ps ++ log m qs) place

pub log-push : (ps : List (List ℕ)) (p : List ℕ) (end : ℕ) → end ≡ length (log 0 ps) → log 0 (ps ++ p ∷ []) ≡ log 0 ps ++ frame end p
log-push ps p end is = grind (arith, nat_tests, log-append, zero-add, append-nil)

pub one_more : (bytes : List ℕ) (ps : List (List ℕ)) (end n : ℕ) → end ≤ length bytes → take end bytes ≡ log 0 ps → 24 + n ≤ length (drop end bytes)
    → drop end bytes ≡ frame end (take n (drop 24 (drop end bytes))) ++ drop (24 + n) (drop end bytes)
    → take (end + (24 + n)) bytes ≡ log 0 (ps ++ take n (drop (end + 24) bytes) ∷ [])
one_more bytes ps end n room so_far more is =
    let p = take n (drop 24 (drop end bytes)) in
    let rest = drop (24 + n) (drop end bytes) in
    let size : length p ≡ n = length-take-le n (drop 24 (drop end bytes)) (omega (arith, more, length-drop 24 (drop end bytes))) in
    let end_is : end ≡ length (log 0 ps) = sym (length-take-le end bytes room) ∙ ap length so_far in
    let front : bytes ≡ log 0 ps ++ frame end p ++ rest = sym (take-append-drop end bytes) ∙ ap (λ (l : List ℕ). l ++ drop end bytes) so_far ∙ ap (λ (l : List ℕ). log 0 ps ++ l) is ∙ sym (append_assoc (log 0 ps) (frame end p) rest) in
    let length_is : length (log 0 ps ++ frame end p) ≡ end + (24 + n) = omega (arith, length-append (log 0 ps) (frame end p), length-frame end p, size, end_is) in
    ap (λ (l : List ℕ). take (end + (24 + n)) l) front
    ∙ take_at (log 0 ps ++ frame end p) rest (end + (24 + n)) length_is
    ∙ sym (log-push ps p end end_is)
    ∙ ap (λ (l : List ℕ). log 0 (ps ++ take n l ∷ [])) (drop-drop 24 end bytes)
