-- A file opens to one list of payloads.
use Rattle.std.proofs.Common.{◌≡◌, ℕ, ◌+◌, ◌-◌, ◌^◌, ◌<◌, ◌≤◌, List, [], ◌∷◌, ◌++◌, length, take, drop, refl, sym, ◌∙◌, ap, ap₂, subst, arith, append_assoc, append-nil, length-append, length-drop, take-append-drop, drop_at, add-zero, zero-add}
use Rattle.std.proofs.lemmas.List.{drop-append-le}
use Rattle.stm_frames.specs.Frame.{frame, log, NoFrame, NoneIn, Opens}
use Rattle.stm_frames.proofs.Frames.{begins, length-frame, lengths_same}

-- one frame begins one list of bytes
pub same_first : (at : ℕ) (p q x y : List ℕ) → length (frame at p ++ x) < 2 ^ 64 → frame at p ++ x ≡ frame at q ++ y → (p ≡ q) × (x ≡ y)
same_first at p q x y short same =
    let bytes = frame at p ++ x in
    let a = begins at p x bytes refl in
    let b = begins at q y bytes same in
    let size : length p ≡ length q = lengths_same (length p) (length q) (omega (arith, short, a.room)) (omega (arith, short, b.room)) (sym a.len ∙ b.len) in
    let first : p ≡ q = a.payload_is ∙ ap (λ (n : ℕ). take n (drop 24 bytes)) size ∙ sym b.payload_is in
    let behind_p : drop (24 + length p) bytes ≡ x = drop_at (frame at p) x (24 + length p) (length-frame at p) in
    let behind_q : drop (24 + length q) bytes ≡ y = ap (λ (l : List ℕ). drop (24 + length q) l) same ∙ drop_at (frame at q) y (24 + length q) (length-frame at q) in
    (first, sym behind_p ∙ ap (λ (n : ℕ). drop (24 + n) bytes) size ∙ behind_q)

pub unique : (at : ℕ) (ps qs : List (List ℕ)) (e f : List ℕ) → log at ps ++ e ≡ log at qs ++ f → length (log at ps ++ e) < 2 ^ 64
    → NoFrame (at + length (log at ps)) e → NoFrame (at + length (log at qs)) f → ps ≡ qs
unique at [] [] e f same short no_e no_f = refl
unique at [] (q ∷ qs) e f same short no_e no_f =
    absurd (subst (λ (m : ℕ). NoFrame m e) (add-zero at) no_e q (log (at + 24 + length q) qs ++ f) (same ∙ append_assoc (frame at q) (log (at + 24 + length q) qs) f))
unique at (p ∷ ps) [] e f same short no_e no_f =
    absurd (subst (λ (m : ℕ). NoFrame m f) (add-zero at) no_f p (log (at + 24 + length p) ps ++ e) (sym same ∙ append_assoc (frame at p) (log (at + 24 + length p) ps) e))
unique at (p ∷ ps) (q ∷ qs) e f same short no_e no_f =
    let next = at + 24 + length p in
    let other = at + 24 + length q in
    let split_p = append_assoc (frame at p) (log next ps) e in
    let split_q = append_assoc (frame at q) (log other qs) f in
    let bound : length (frame at p ++ (log next ps ++ e)) < 2 ^ 64 = subst (λ (l : List ℕ). length l < 2 ^ 64) split_p short in
    let first = same_first at p q (log next ps ++ e) (log other qs ++ f) bound (sym split_p ∙ same ∙ split_q) in
    let nexts : other ≡ next = ap (λ (l : List ℕ). at + 24 + length l) (sym first.0) in
    let rest : log next ps ++ e ≡ log next qs ++ f = first.1 ∙ ap (λ (m : ℕ). log m qs ++ f) nexts in
    let rest_short : length (log next ps ++ e) < 2 ^ 64 = omega (arith, bound, length-append (frame at p) (log next ps ++ e)) in
    let end_p : at + length (frame at p ++ log next ps) ≡ next + length (log next ps) = omega (arith, length-append (frame at p) (log next ps), length-frame at p) in
    let end_q : at + length (frame at q ++ log other qs) ≡ other + length (log other qs) = omega (arith, length-append (frame at q) (log other qs), length-frame at q) in
    let none_q : NoFrame (next + length (log next qs)) f = subst (λ (m : ℕ). NoFrame (m + length (log m qs)) f) nexts (subst (λ (m : ℕ). NoFrame m f) end_q no_f) in
    ap₂ (λ (l : List ℕ) (ls : List (List ℕ)). l ∷ ls) first.0 (unique next ps qs e f rest rest_short (subst (λ (m : ℕ). NoFrame m e) end_p no_e) none_q)

pub none_first : (at : ℕ) (e : List ℕ) → NoneIn at e → NoFrame (0 + at) e
none_first at e none = subst (λ (m : ℕ). NoFrame m e) (add-zero at ∙ sym (zero-add at)) (none 0)

pub opens_one : (file : List ℕ) (ps qs : List (List ℕ)) → length file < 2 ^ 64 → Opens file ps → Opens file qs → ps ≡ qs
opens_one file ps qs short a b =
    unique 0 ps qs a.end b.end (sym a.split ∙ b.split) (subst (λ (l : List ℕ). length l < 2 ^ 64) a.split short) (none_first (length (log 0 ps)) a.end a.none) (none_first (length (log 0 qs)) b.end b.none)

-- no frame stands in no bytes, nor in the front of bytes in which none stands
pub none_in_nil : (at : ℕ) → NoneIn at []
none_in_nil at k payload tail is =
    let b = begins (at + k) payload tail (drop k []) is in
    let none : length (drop k []) ≡ 0 - k = length-drop {A = ℕ} k [] in
    absurd (omega (arith, b.room, none))

pub none_in_front : (at n : ℕ) (bytes : List ℕ) → NoneIn at bytes → NoneIn at (take n bytes)
none_in_front at n bytes none k payload tail is =
    let b = begins (at + k) payload tail (drop k (take n bytes)) is in
    let inside : k ≤ length (take n bytes) = omega (arith, b.room, length-drop k (take n bytes)) in
    none k payload (tail ++ drop n bytes)
    (ap (λ (l : List ℕ). drop k l) (sym (take-append-drop n bytes)) ∙ drop-append-le k (take n bytes) (drop n bytes) inside ∙ ap (λ (l : List ℕ). l ++ drop n bytes) is ∙ append_assoc (frame (at + k) payload) tail (drop n bytes))

-- frames alone open to their payloads
pub opens_log : (file : List ℕ) (ps : List (List ℕ)) → file ≡ log 0 ps → Opens file ps
opens_log file ps is = record { end = []; split = is ∙ sym (append-nil (log 0 ps)); none = none_in_nil (length (log 0 ps)) }
