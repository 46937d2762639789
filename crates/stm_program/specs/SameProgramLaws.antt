-- That `==` of programs is equality, and so an equivalence. It stands beside the definition and not among the proofs, since the impl of
-- `==` states its laws by it.
use Rattle.std.specs.Prelude.{◌≡◌, refl, Bool, true, false, ◌&&◌}
use Rattle.std.specs.Cmp.{IsEquivalence, decided, unsigned_Decides}
use Rattle.std.proofs.Common.{sym, ap, ◌∙◌}
use base.Stored.{Gv, gnil, gnum, gcons}
use Rattle.stm_program.specs.Coding.{encode_program, decode_program, decode_program-encode}
use Rattle.stm_program.specs.SameProgram.{same_code, same_program, SameProgramsAreEqual}

both_true : (a b : Bool) → (a && b) ≡ true → (a ≡ true) × (b ≡ true)
both_true true b h = (refl, h)
both_true false b h = absurd (cc)

both_hold : (a b : Bool) → a ≡ true → b ≡ true → (a && b) ≡ true
both_hold true b h k = k
both_hold false b h k = absurd (cc)

same_code-equal : (a b : Gv) → same_code a b ≡ true → a ≡ b
same_code-equal gnil gnil h = refl
same_code-equal gnil (gnum n) h = absurd (cc)
same_code-equal gnil (gcons c d) h = absurd (cc)
same_code-equal (gnum m) gnil h = absurd (cc)
same_code-equal (gnum m) (gnum n) h = ap gnum ((unsigned_Decides m n).0 h)
same_code-equal (gnum m) (gcons c d) h = absurd (cc)
same_code-equal (gcons a b) gnil h = absurd (cc)
same_code-equal (gcons a b) (gnum n) h = absurd (cc)
same_code-equal (gcons a b) (gcons c d) h =
    let both : (same_code a c ≡ true) × (same_code b d ≡ true) = both_true (same_code a c) (same_code b d) h in
    λ i. gcons (same_code-equal a c both.0 i) (same_code-equal b d both.1 i)

same_code-self : (a : Gv) → same_code a a ≡ true
same_code-self gnil = refl
same_code-self (gnum n) = (unsigned_Decides n n).1 refl
same_code-self (gcons a b) = both_hold (same_code a a) (same_code b b) (same_code-self a) (same_code-self b)

pub same_program-equal : SameProgramsAreEqual
unfolding same_program
same_program-equal p q = (
  λ holds. sym (decode_program-encode p) ∙ ap decode_program (same_code-equal (encode_program p) (encode_program q) holds) ∙ decode_program-encode q,
  λ e. ap (λ r. same_code (encode_program p) (encode_program r)) (sym e) ∙ same_code-self (encode_program p),
)

pub same_program-equivalence : IsEquivalence same_program
same_program-equivalence = decided same_program same_program-equal
