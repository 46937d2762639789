-- What a crash leaves while a record is added, and while the end is cut.
use Rattle.std.proofs.Common.{◌≡◌, ◌⊎◌, inl, inr, ℕ, zero, suc, ◌+◌, ◌-◌, ◌^◌, ◌<◌, ◌≤◌, List, [], ◌∷◌, ◌++◌, length, take, drop, refl, sym, ◌∙◌, ap, ap₂, subst, arith, take-append-drop, drop-drop, take_all, length-take-le, length-append}
use Rattle.std.proofs.lemmas.Bool.{cases_eq}
use Rattle.stm_frames.specs.Frame.{frame, log, NoFrame, NoneIn, SomeIn, Opens, IsDamaged}
use Rattle.stm_frames.proofs.Frames.{log-push}
use Rattle.stm_frames.proofs.Unique.{opens_one, opens_log, none_in_front}
use Rattle.stm_records.specs.Disk.{Torn, Cut, Follows, Only}
use Rattle.stm_records.specs.declared.fault.DiskFault.{DiskFault}
use Rattle.stm_records.specs.declared.fault.DiskFault.TheVariants.{Damaged}
use Rattle.stm_records.specs.Head.{BeginsWhole}
use Rattle.stm_records.specs.RecordFiles.{IsBeforeOrAfter, LeavesRecords, OpensAlike}
use Rattle.stm_records.proofs.Heads.{cut_head, front_head}

eq_or_not : (xs ys : List ℕ) → (xs ≡ ys) ⊎ (xs ≡ ys → ⊥)
eq_or_not [] [] = inl refl
eq_or_not [] (y ∷ ys) = inr (λ e. absurd (omega (arith, ap length e)))
eq_or_not (x ∷ xs) [] = inr (λ e. absurd (omega (arith, ap length e)))
eq_or_not (x ∷ xs) (y ∷ ys) = elim (cases_eq x y) [
  | inl first ↦ elim (eq_or_not xs ys) [
    | inl rest ↦ inl (ap₂ (λ (h : ℕ) (t : List ℕ). h ∷ t) first rest)
    | inr other ↦ inr (λ e. other (ap (λ (l : List ℕ). drop 1 l) e))
  ]
  | inr other ↦ inr (λ e. other (ap (λ (l : List ℕ). head_of l) e))
]
  where
    head_of : List ℕ → ℕ
    head_of [] = 0
    head_of (h ∷ t) = h

pub unchanged : (file payload c : List ℕ) → c ≡ file → LeavesRecords file payload c
unchanged file payload c is = record {
  records = λ ps log_is chance. inl (opens_log c ps (is ∙ log_is));
  head = λ some whole. subst BeginsWhole (sym is) whole;
}

pub torn_append : (file payload c : List ℕ) → take (length file) c ≡ file → IsBeforeOrAfter file payload c
torn_append file payload c front = λ ps log_is chance. elim (eq_or_not c (file ++ frame (length file) payload)) [
  | inl whole ↦ inr (opens_log c (ps ++ payload ∷ []) (whole ∙ ap (λ (l : List ℕ). l ++ frame (length file) payload) log_is ∙ sym (log-push ps payload (length file) (ap length log_is))))
  | inr torn ↦
      let at = length file in
      inl (record {
        end = drop at c;
        split = sym (take-append-drop at c) ∙ ap (λ (l : List ℕ). l ++ drop at c) (front ∙ log_is);
        none = λ k other tail is. torn (chance k other tail (sym (drop-drop k at c) ∙ is ∙ ap (λ (m : ℕ). frame (m + k) other ++ tail) (sym (ap length log_is))));
      })
]

-- what one torn write behind a file on the disk leaves
pub append_crash : (file payload : List ℕ) (at n : ℕ) (old new : List ℕ → Type 0) → at ≡ length file → Only file old → Follows (Torn at n) old new → (c : List ℕ) → new c → LeavesRecords file payload c
append_crash file payload at n old new at_is only follows c left =
    let from = follows c left in
    let torn = subst (λ (f : List ℕ). Torn at n f c) (only from.0 from.1) from.2 in
    let front : take (length file) c ≡ file = ap (λ (m : ℕ). take m c) (sym at_is) ∙ torn.before ∙ take_all at file (omega (arith, at_is)) in
    record { records = torn_append file payload c front; head = front_head file c front }

take_past : (xs ys : List ℕ) (m n : ℕ) → m ≡ length xs + n → take m (xs ++ ys) ≡ xs ++ take n ys
take_past [] ys m n is = let same : m ≡ n = omega arith in ap (λ (k : ℕ). take k ys) same
take_past (x ∷ xs) ys zero n is = absurd (omega arith)
take_past (x ∷ xs) ys (suc m) n is = ap (λ (l : List ℕ). x ∷ l) (take_past xs ys m n (omega arith))

pub alike : (file c : List ℕ) → c ≡ file → OpensAlike file c
alike file c is = record {
  head = λ whole. subst BeginsWhole (sym is) whole;
  same = λ ps opens. subst (λ (f : List ℕ). Opens f ps) (sym is) opens;
  untouched = λ nothing. is;
}

-- the frames of a file that was cut behind them, and what is left behind them
cut_split : (file : List ℕ) (qs : List (List ℕ)) (end : ℕ) (c : List ℕ) → (found : Opens file qs) → end ≡ length (log 0 qs) → Cut end file c
    → c ≡ log 0 qs ++ take (length c - end) found.end
cut_split file qs end c found end_is cut =
    let room : end ≤ length file = omega (arith, end_is, ap length found.split, length-append (log 0 qs) found.end) in
    sym cut.front ∙ ap (λ (l : List ℕ). take (length c) l) found.split
    ∙ take_past (log 0 qs) found.end (length c) (length c - end) (omega (arith, cut.no_shorter room, end_is))

cut_opens : (file : List ℕ) (qs : List (List ℕ)) (end : ℕ) (c : List ℕ) → length file < 2 ^ 64 → Opens file qs → end ≡ length (log 0 qs) → Cut end file c
    → (payloads : List (List ℕ)) → Opens file payloads → Opens c payloads
cut_opens file qs end c short found end_is cut ps opens =
    let n = length c - end in
    let same : qs ≡ ps = opens_one file qs ps short found opens in
    let kept : Opens c qs =
    record { end = take n found.end; split = cut_split file qs end c found end_is cut; none = none_in_front (length (log 0 qs)) n found.end found.none } in
    subst (λ (l : List (List ℕ)). Opens c l) same kept

-- a file that is cut opens to something, and begins with its first frame
pub cut_alike : (file : List ℕ) (qs : List (List ℕ)) (end : ℕ) (c : List ℕ) → length file < 2 ^ 64 → BeginsWhole file → Opens file qs → end ≡ length (log 0 qs) → Cut end file c → OpensAlike file c
cut_alike file qs end c short whole found end_is cut = record {
  head = λ head. cut_head qs file c (length c - end) found (cut_split file qs end c found end_is cut) head;
  same = cut_opens file qs end c short found end_is cut;
  untouched = λ nothing. absurd (nothing qs whole found);
}

pub cut_crash : (file : List ℕ) (qs : List (List ℕ)) (end : ℕ) (old new : List ℕ → Type 0) → length file < 2 ^ 64 → BeginsWhole file → Opens file qs → end ≡ length (log 0 qs) → Only file old → Follows (Cut end) old new → (c : List ℕ) → new c → OpensAlike file c
cut_crash file qs end old new short whole found end_is only follows c left =
    let from = follows c left in
    cut_alike file qs end c short whole found end_is (subst (λ (f : List ℕ). Cut end f c) (only from.0 from.1) from.2)

-- what the reading and the scan tell
pub found_opens : (file : List ℕ) (qs : List (List ℕ)) (end : ℕ) → end ≤ length file → take end file ≡ log 0 qs → NoneIn end (drop end file) → Opens file qs
found_opens file qs end room frames none = record {
  end = drop end file;
  split = sym (take-append-drop end file) ∙ ap (λ (l : List ℕ). l ++ drop end file) frames;
  none = subst (λ (m : ℕ). NoneIn m (drop end file)) (sym (length-take-le end file room) ∙ ap length frames) none;
}

pub found_damage : (file : List ℕ) (qs : List (List ℕ)) (end at : ℕ) → end ≡ at → end ≤ length file → take end file ≡ log 0 qs → NoFrame end (drop end file) → SomeIn end (drop end file) → IsDamaged file at
found_damage file qs end at is room frames stops some = subst (λ (m : ℕ). IsDamaged file m) is (record {
  payloads = qs;
  end = drop end file;
  split = sym (take-append-drop end file) ∙ ap (λ (l : List ℕ). l ++ drop end file) frames;
  place = sym (length-take-le end file room) ∙ ap length frames;
  broken = stops;
  behind = some;
})

pub told : (m n : ℕ) → Damaged m ≡ Damaged n → m ≡ n
told m n same = ap place_of same
  where
    place_of : DiskFault → ℕ
    place_of (Damaged k) = k
    place_of _ = 0
