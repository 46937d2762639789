-- A word is found by its own text and by no other.
use Rattle.std.proofs.Common.{◌≡◌, ℕ, List, cond, Ok, refl, codes, arith}
use Rattle.std.proofs.lemmas.Slice.Eq.{bytes_eq-Decides}
use Rattle.std.proofs.lemmas.Bool.Decides.{nat_tests}
use Rattle.stm_json.specs.declared.cause.Cause.TheVariants.{Shape}
use Rattle.stm_json.specs.Outcome.{Outcome, bad}
use Rattle.stm_outcome.specs.declared.txn.Order.{Order}
use Rattle.stm_outcome.specs.declared.txn.Order.TheVariants.{Equal, NotEqual, Greater, Less}
use Rattle.stm_txn_json.specs.declared.words.TargetWord.{TargetWord}
use Rattle.stm_txn_json.specs.declared.words.TargetWord.TheVariants as word
use Rattle.stm_txn_json.specs.Grammar.{order_text}
use Rattle.stm_json.specs.Parts.{same}
use Rattle.stm_txn_json.specs.Words.{order_named, target_named}

abbrev pub target_text : TargetWord → List ℕ
target_text word.Version = codes "version"
target_text word.Create = codes "create"
target_text word.Mod = codes "mod"
target_text word.Lease = codes "lease"
target_text word.Value = codes "value"

pub chosen : {W : Type 0} (text : W → List ℕ) (w t : List ℕ) (y x : W) (rest : Outcome W) → text y ≡ t → (rest ≡ Ok x → w ≡ text x)
    → cond (same w t) (Ok y) rest ≡ Ok x → w ≡ text x
chosen text w t y x rest named others h = grind (arith, nat_tests, bytes_eq-Decides)

pub no_word : {W : Type 0} (text : W → List ℕ) (w : List ℕ) (x : W) → bad Shape ≡ Ok x → w ≡ text x
no_word text w x h = cc

pub order_named-is : (w : List ℕ) (x : Order) → order_named w ≡ Ok x → w ≡ order_text x
unfolding order_named
order_named-is w x h =
    chosen order_text w (codes "=") Equal x _ refl
    (chosen order_text w (codes "!=") NotEqual x _ refl
    (chosen order_text w (codes ">") Greater x _ refl
    (chosen order_text w (codes "<") Less x _ refl (no_word order_text w x))))
    h

pub order_named-text : (x : Order) → order_named (order_text x) ≡ Ok x
unfolding order_named
order_named-text x = grind (arith, nat_tests)

pub target_named-is : (w : List ℕ) (x : TargetWord) → target_named w ≡ Ok x → w ≡ target_text x
unfolding target_named
target_named-is w x h =
    chosen target_text w (codes "version") word.Version x _ refl
    (chosen target_text w (codes "create") word.Create x _ refl
    (chosen target_text w (codes "mod") word.Mod x _ refl
    (chosen target_text w (codes "lease") word.Lease x _ refl
    (chosen target_text w (codes "value") word.Value x _ refl (no_word target_text w x)))))
    h

pub target_named-text : (x : TargetWord) → target_named (target_text x) ≡ Ok x
unfolding target_named
target_named-text x = grind (arith, nat_tests)
