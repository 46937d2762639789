-- What data spell is read, where it is within the limits.
use Rattle.std.proofs.Common.{◌≡◌, ℕ, zero, suc, ◌+◌, ◌≤◌, List, [], ◌∷◌, length, Option, Some, Ok, refl, ap, ◌∙◌, arith, le-leb, codes, lit<}
use Rattle.serde_json.specs.Data.{Data, number}
use Rattle.serde_json.specs.View.{items_of}
use Rattle.stm_program_json.specs.declared.words.ExprWord.{ExprWord}
use Rattle.stm_program_json.specs.declared.words.ExprWord.TheVariants as word
use Rattle.stm_program_json.specs.declared.words.Unary.{Unary}
use Rattle.stm_program_json.specs.declared.words.Unary.TheVariants as unary
use Rattle.stm_program_json.specs.declared.words.Binary.{Binary}
use Rattle.stm_program_json.specs.declared.words.Binary.TheVariants as binary
use Rattle.stm_program.specs.Syntax.{Expression, Text, Number, Variable, Get, Rev, Arithmetic, Cat, TextOf, NumOf}
use Rattle.stm_program.specs.Size.{expression_nodes}
use Rattle.stm_program.specs.Limits.{expression_depth, ExpressionInRange}
use Rattle.stm_program_json.specs.Words.{expression_word}
use Rattle.stm_program_json.specs.WordTexts.{unary_text, binary_text, expression_text}
use Rattle.stm_program_json.specs.Reading.{Read, one_part, two_parts, unary_of, binary_of, expression_named, expression_body, expression_at}
use Rattle.stm_json.specs.Parts.{spelled}
use Rattle.stm_program_json.specs.Grammar.{SpellsExpression}
use Rattle.stm_program.proofs.LimitLemmas.{expression_nodes-positive, expression_depth-positive}
use Rattle.stm_program_json.proofs.WordLemmas.{expression_word-text}
use Rattle.stm_json.proofs.ElementLemmas.{number_up_to-reads, whole_number-reads}
use Rattle.stm_program.specs.declared.limits.TheConstants.{MAX_TEXT, MAX_VARIABLE}

pub one_part-reads : {A B : Type 0} (read : ℕ → Data → Read A) (make : A → B) (room m : ℕ) (d : Data) (x : A) → read room d ≡ Ok (x, m)
    → one_part read make room (Some d) ≡ Ok (make x, m)
one_part-reads read make room m d x h = rw h refl

pub two_parts-reads : {A B : Type 0} (read : ℕ → Data → Read A) (make : A → A → B) (room k m : ℕ) (a b : Data) (x y : A) → read room a ≡ Ok (x, k)
    → read k b ≡ Ok (y, m)
    → two_parts read make room (Some (a, b)) ≡ Ok (make x y, m)
two_parts-reads read make room k m a b x y h i = rw h (rw i refl)

module _ (l : ℕ) (read : ℕ → Data → Read Expression)
    (reads : (r m : ℕ) (d : Data) (e : Expression) → SpellsExpression d e → expression_depth e ≤ l → ExpressionInRange e → r ≡ m + expression_nodes e
    → read r d ≡ Ok (e, m)) where
  named : (r : ℕ) (w : List ℕ) (parts : List Data) (x : ExprWord) → w ≡ expression_text x
      → expression_body read r (spelled w parts) ≡ expression_named read r (Some x) (items_of parts)
  unfolding expression_body
  named r w parts x h = ap (λ (o : Option ExprWord). expression_named read r o (items_of parts)) (ap expression_word h ∙ expression_word-text x)

  one : (u : Unary) (r m : ℕ) (d a : Data) (e : Expression) → d ≡ spelled (unary_text u) (a ∷ []) → SpellsExpression a e → expression_depth e ≤ l
      → ExpressionInRange e → r ≡ m + expression_nodes e
      → expression_body read r d ≡ Ok (unary_of u e, m)
  one u r m d a e is s f g h =
      ap (expression_body read r) is ∙ named r (unary_text u) (a ∷ []) (word.Unary u) refl ∙ one_part-reads read (unary_of u) r m a e (reads r m a e s f g h)

  two : (o : Binary) (r m : ℕ) (d a b : Data) (e f : Expression) → d ≡ spelled (binary_text o) (a ∷ b ∷ []) → SpellsExpression a e → SpellsExpression b f
      → expression_depth e ≤ l → expression_depth f ≤ l → ExpressionInRange e → ExpressionInRange f → r ≡ m + expression_nodes e + expression_nodes f
      → expression_body read r d ≡ Ok (binary_of o e f, m)
  two o r m d a b e f is s t p q g i h =
      ap (expression_body read r) is ∙ named r (binary_text o) (a ∷ b ∷ []) (word.Binary o) refl
      ∙ two_parts-reads read (binary_of o) r (m + expression_nodes f) m a b e f (reads r (m + expression_nodes f) a e s p g (omega arith))
      (reads (m + expression_nodes f) m b f t q i refl)

  body_reads : (r m : ℕ) (d : Data) (e : Expression) → SpellsExpression d e → expression_depth e ≤ suc l → ExpressionInRange e
      → suc r ≡ m + expression_nodes e → expression_body read r d ≡ Ok (e, m)
  unfolding expression_body
  body_reads r m d (Text s) is f g h =
      let room : r ≡ m = omega arith in
      let short = le-leb (length s) MAX_TEXT g in
      rw (is, short, room) refl
  body_reads r m d (Number z) (n, is, i) f g h =
      let room : r ≡ m = omega arith in
      let w = whole_number-reads (number n) z (n, refl, i) g in
      rw (is, w, room) refl
  body_reads r m d (Variable v) (a, is, s) f g h =
      let room : r ≡ m = omega arith in
      let n = number_up_to-reads MAX_VARIABLE a v (lit< tt) s g in
      rw is (named r (codes "var") (a ∷ []) word.Var refl ∙ rw (n, room) refl)
  body_reads r m d (Get e) (a, is, s) f g h = one unary.Get r m d a e is s (omega arith) g (omega arith)
  body_reads r m d (Rev e) (a, is, s) f g h = one unary.Rev r m d a e is s (omega arith) g (omega arith)
  body_reads r m d (Arithmetic o x y) (a, b, is, s, t) f g h = two (binary.Arithmetic o) r m d a b x y is s t (omega arith) (omega arith) g.0 g.1 (omega arith)
  body_reads r m d (Cat x y) (a, b, is, s, t) f g h = two binary.Cat r m d a b x y is s t (omega arith) (omega arith) g.0 g.1 (omega arith)
  body_reads r m d (TextOf e) (a, is, s) f g h = one unary.TextOf r m d a e is s (omega arith) g (omega arith)
  body_reads r m d (NumOf e) (a, is, s) f g h = one unary.NumOf r m d a e is s (omega arith) g (omega arith)

pub expression_reads : (l r m : ℕ) (d : Data) (e : Expression) → SpellsExpression d e → expression_depth e ≤ l → ExpressionInRange e
    → r ≡ m + expression_nodes e → expression_at l r d ≡ Ok (e, m)
unfolding expression_at
expression_reads zero r m d e s f g h = absurd (omega (arith, expression_depth-positive e))
expression_reads (suc l) zero m d e s f g h = absurd (omega (arith, expression_nodes-positive e))
expression_reads (suc l) (suc r) m d e s f g h = body_reads l (expression_at l) (expression_reads l) r m d e s f g h
