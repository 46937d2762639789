-- What a crash at any moment leaves, in the words of worlds.
use Rattle.std.proofs.Common.{◌≡◌, ◌⊎◌, inl, inr, ⊎_elim, ℕ, ◌+◌, List, [], ◌∷◌, ◌++◌, length, refl, sym, ◌∙◌, ap, subst, arith, append-nil}
use Rattle.stm_frames.specs.Frame.{frame}
use Rattle.stm_frames.proofs.Frames.{log-push}
use Rattle.stm_frames.proofs.Unique.{opens_log}
use Rattle.stm_records.specs.Disk.{LeavesOnly}
use Rattle.stm_records.specs.Head.{BeginsWhole}
use Rattle.stm_records.specs.RecordFiles.{IsBeforeOrAfter}

-- what has P has Q
pub weaker : {D : Type 0} {moment : D → ℕ} {left_since : D → ℕ → List ℕ → Type 0} {old new : D} {P Q : List ℕ → Type 0}
    → LeavesOnly moment left_since old new P → ((c : List ℕ) → P c → Q c) → LeavesOnly moment left_since old new Q
weaker leaves has = record {
  later = leaves.later;
  each = λ c left. has c (leaves.each c left);
  before = λ t c le left. ⊎_elim (λ past. inl past) (λ now. inr (has c now)) (leaves.before t c le left);
}

-- no bytes, or the first record alone
pub first_left : (file text : List ℕ) → file ≡ [] → (c : List ℕ) → (c ≡ file) ⊎ (c ≡ frame 0 text) → IsBeforeOrAfter file text c
first_left file text none c (inl old) = λ records whole chance. inl (opens_log c records (old ∙ whole))
first_left file text none c (inr new) = λ records whole chance.
    inr (opens_log c (records ++ text ∷ [])
    (new ∙ ap (λ (l : List ℕ). l ++ frame (length l) text) (sym none) ∙ ap (λ (l : List ℕ). l ++ frame (length file) text) whole
    ∙ sym (log-push records text (length file) (ap length whole))))

-- either is whole
pub first_head : (file text c : List ℕ) → (c ≡ file) ⊎ (c ≡ frame 0 text) → BeginsWhole file → BeginsWhole c
first_head file text c (inl old) whole = subst BeginsWhole (sym old) whole
first_head file text c (inr new) whole = inr (text, [], new ∙ sym (append-nil (frame 0 text)))

-- no bytes and a record behind them are that record
pub first_alone : (file new text : List ℕ) → file ≡ [] → new ≡ frame 0 text → new ≡ file ++ frame (length file) text
first_alone file new text none is = is ∙ ap (λ (l : List ℕ). l ++ frame (length l) text) (sym none)

-- a length of 0 is that of no bytes
pub nothing : (file : List ℕ) → length file ≡ 0 → file ≡ []
nothing [] is = refl
nothing (b ∷ bytes) is = absurd (omega arith)

pub something : (file : List ℕ) → (length file ≡ 0 → ⊥) → file ≡ [] → ⊥
something file some none = some (ap length none)
