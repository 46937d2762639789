-- What is read of an expression is spelled by the data, and is within the limits.
use Rattle.std.proofs.Common.{◌≡◌, ℕ, zero, suc, ◌+◌, List, [], ◌∷◌, length, Option, Some, None, Ok, refl, sym, ap, subst, ◌∙◌, arith, leb, leb-true, codes}
use Rattle.serde_json.specs.Data.{Data, null, boolean, number, string, array, object, Items, item}
use Rattle.serde_json.specs.View.{items_of}
use Rattle.stm_program_json.specs.declared.words.ExprWord.{ExprWord}
use Rattle.stm_program_json.specs.declared.words.ExprWord.TheVariants as word
use Rattle.stm_program_json.specs.declared.words.Unary.{Unary}
use Rattle.stm_program_json.specs.declared.words.Unary.TheVariants as unary
use Rattle.stm_program_json.specs.declared.words.Binary.{Binary}
use Rattle.stm_program_json.specs.declared.words.Binary.TheVariants as binary
use Rattle.stm_program.specs.Syntax.{Expression, Text, Number, Variable}
use Rattle.stm_program.specs.Size.{expression_nodes}
use Rattle.stm_program.specs.Limits.{ExpressionFits}
use Rattle.stm_program_json.specs.Words.{expression_word}
use Rattle.stm_program_json.specs.WordTexts.{unary_text, binary_text}
use Rattle.stm_json.specs.Outcome.{within}
use Rattle.stm_json.specs.Elements.{worded, one_of, two_of, number_up_to, whole_number}
use Rattle.stm_program_json.specs.Reading.{Read, literal, variable, unary_of, binary_of, expression_named, expression_array, expression_body, expression_at}
use Rattle.stm_json.specs.Parts.{spelled}
use Rattle.stm_program_json.specs.Grammar.{SpellsExpression}
use Rattle.stm_json.proofs.OutcomeLemmas.{bind_ok, within_ok, guard_ok}
use Rattle.stm_program_json.proofs.OutcomeLemmas.{one_part_ok, two_parts_ok}
use Rattle.stm_program_json.proofs.WordLemmas.{expression_word-is}
use Rattle.stm_json.proofs.ElementLemmas.{worded-is, one_of-is, two_of-is, number_up_to-is, whole_number-is, is_64_bit-fits}
use Rattle.stm_program.specs.declared.limits.TheConstants.{MAX_TEXT, MAX_VARIABLE}

-- an expression that was read with these levels and nodes left
pub record ExpressionRead (levels room : ℕ) (d : Data) (x : Expression × ℕ) : Type 0 where
  pub spelled : SpellsExpression d x.0
  pub fits : ExpressionFits levels room x.0
  pub left : x.1 + expression_nodes x.0 ≡ room

-- an array of a word and its elements
pub words_and : (d : Data) (p : List ℕ × Items) (w : List ℕ) (parts : List Data) → worded d ≡ Some p → p.0 ≡ w → p.1 ≡ items_of parts → d ≡ spelled w parts
words_and d p w parts h e f = worded-is d p h ∙ ap (λ (s : List ℕ). array (item (string s) p.1)) e ∙ ap (λ (ds : Items). array (item (string w) ds)) f

unary_spelled : (u : Unary) (d a : Data) (e : Expression) → d ≡ spelled (unary_text u) (a ∷ []) → SpellsExpression a e → SpellsExpression d (unary_of u e)
unary_spelled unary.Get d a e h s = (a, h, s)
unary_spelled unary.Rev d a e h s = (a, h, s)
unary_spelled unary.TextOf d a e h s = (a, h, s)
unary_spelled unary.NumOf d a e h s = (a, h, s)

unary_fits : (u : Unary) (l r : ℕ) (e : Expression) → ExpressionFits l r e → ExpressionFits (suc l) (suc r) (unary_of u e)
unary_fits unary.Get l r e f = record { depth = omega (arith, f.depth); nodes = omega (arith, f.nodes); ranges = f.ranges }
unary_fits unary.Rev l r e f = record { depth = omega (arith, f.depth); nodes = omega (arith, f.nodes); ranges = f.ranges }
unary_fits unary.TextOf l r e f = record { depth = omega (arith, f.depth); nodes = omega (arith, f.nodes); ranges = f.ranges }
unary_fits unary.NumOf l r e f = record { depth = omega (arith, f.depth); nodes = omega (arith, f.nodes); ranges = f.ranges }

unary_nodes : (u : Unary) (e : Expression) → expression_nodes (unary_of u e) ≡ 1 + expression_nodes e
unary_nodes unary.Get e = refl
unary_nodes unary.Rev e = refl
unary_nodes unary.TextOf e = refl
unary_nodes unary.NumOf e = refl

binary_spelled : (o : Binary) (d a b : Data) (e f : Expression) → d ≡ spelled (binary_text o) (a ∷ b ∷ []) → SpellsExpression a e → SpellsExpression b f
    → SpellsExpression d (binary_of o e f)
binary_spelled (binary.Arithmetic o) d a b e f h s t = (a, b, h, s, t)
binary_spelled binary.Cat d a b e f h s t = (a, b, h, s, t)

-- two parts, the second in the room that the first leaves
binary_fits : (o : Binary) (l r m : ℕ) (e f : Expression) → ExpressionFits l r e → m + expression_nodes e ≡ r → ExpressionFits l m f
    → ExpressionFits (suc l) (suc r) (binary_of o e f)
binary_fits (binary.Arithmetic o) l r m e f p h q = record {
  depth = omega (arith, p.depth, q.depth);
  nodes = omega (arith, h, q.nodes);
  ranges =
      (p.ranges, q.ranges);
}
binary_fits binary.Cat l r m e f p h q = record { depth = omega (arith, p.depth, q.depth); nodes = omega (arith, h, q.nodes); ranges = (p.ranges, q.ranges) }

binary_nodes : (o : Binary) (e f : Expression) → expression_nodes (binary_of o e f) ≡ 1 + expression_nodes e + expression_nodes f
binary_nodes (binary.Arithmetic o) e f = refl
binary_nodes binary.Cat e f = refl

along : (l r : ℕ) (d : Data) (x y : Expression × ℕ) → y ≡ x → ExpressionRead l r d x → ExpressionRead l r d y
along l r d x y e = subst (λ (z : Expression × ℕ). ExpressionRead l r d z) (sym e)

module _ (l : ℕ) (read : ℕ → Data → Read Expression) (sound : (r : ℕ) (d : Data) (x : Expression × ℕ) → read r d ≡ Ok x → ExpressionRead l r d x) where
  unary_sound : (r : ℕ) (d : Data) (p : List ℕ × Items) (u : Unary) (y : Expression × ℕ) → worded d ≡ Some p → p.0 ≡ unary_text u
      → expression_named read r (Some (word.Unary u)) p.1 ≡ Ok y → ExpressionRead (suc l) (suc r) d y
  unary_sound r d p u y w t h =
      let q = one_part_ok read (unary_of u) r (one_of p.1) y h in
      let s = sound r q.0 q.1 q.3 in
      along (suc l) (suc r) d (unary_of u q.1.0, q.1.1) y q.4
      record {
        spelled = unary_spelled u d q.0 q.1.0 (words_and d p (unary_text u) (q.0 ∷ []) w t (one_of-is p.1 q.0 q.2)) s.spelled;
        fits = unary_fits u l r q.1.0 s.fits;
        left = omega (arith, unary_nodes u q.1.0, s.left);
      }

  binary_sound : (r : ℕ) (d : Data) (p : List ℕ × Items) (b : Binary) (y : Expression × ℕ) → worded d ≡ Some p → p.0 ≡ binary_text b
      → expression_named read r (Some (word.Binary b)) p.1 ≡ Ok y → ExpressionRead (suc l) (suc r) d y
  binary_sound r d p b y w t h =
      let q = two_parts_ok read (binary_of b) r (two_of p.1) y h in
      let s = sound r q.0.0 q.1 q.4 in
      let u = sound q.1.1 q.0.1 q.2 q.5 in
      along (suc l) (suc r) d (binary_of b q.1.0 q.2.0, q.2.1) y q.6
      record {
        spelled = binary_spelled b d q.0.0 q.0.1 q.1.0 q.2.0
            (words_and d p (binary_text b) (q.0.0 ∷ q.0.1 ∷ []) w t (two_of-is p.1 q.0 q.3)) s.spelled u.spelled;
        fits = binary_fits b l r q.1.1 q.1.0 q.2.0 s.fits s.left u.fits;
        left = omega (arith, binary_nodes b q.1.0 q.2.0, s.left, u.left);
      }

  variable_sound : (r : ℕ) (d : Data) (p : List ℕ × Items) (o : Option Data) (y : Expression × ℕ) → worded d ≡ Some p → p.0 ≡ codes "var"
      → one_of p.1 ≡ o → variable r o ≡ Ok y → ExpressionRead (suc l) (suc r) d y
  variable_sound r d p None y w t e h = cc
  variable_sound r d p (Some a) y w t e h =
      let q = bind_ok (within 1 (number_up_to MAX_VARIABLE a)) _ y h in
      let n = number_up_to-is MAX_VARIABLE a q.0 (within_ok 1 _ _ q.1) in
      let is : y ≡ (Variable q.0, r) = cc q.2 in
      along (suc l) (suc r) d (Variable q.0, r) y is
      record {
        spelled = (a, words_and d p (codes "var") (a ∷ []) w t (one_of-is p.1 a e), n.0);
        fits = record { depth = omega arith; nodes = omega arith; ranges = n.1 };
        left = omega arith;
      }

  named_sound : (r : ℕ) (d : Data) (p : List ℕ × Items) (o : Option ExprWord) (y : Expression × ℕ) → worded d ≡ Some p → expression_word p.0 ≡ o
      → expression_named read r o p.1 ≡ Ok y → ExpressionRead (suc l) (suc r) d y
  named_sound r d p None y w e h = cc
  named_sound r d p (Some word.Var) y w e h = variable_sound r d p (one_of p.1) y w (expression_word-is p.0 word.Var e) refl h
  named_sound r d p (Some (word.Unary u)) y w e h = unary_sound r d p u y w (expression_word-is p.0 (word.Unary u) e) h
  named_sound r d p (Some (word.Binary b)) y w e h = binary_sound r d p b y w (expression_word-is p.0 (word.Binary b) e) h

  array_sound : (r : ℕ) (d : Data) (o : Option (List ℕ × Items)) (y : Expression × ℕ) → worded d ≡ o → expression_array read r o ≡ Ok y
      → ExpressionRead (suc l) (suc r) d y
  array_sound r d None y e h = cc
  array_sound r d (Some p) y e h = named_sound r d p (expression_word p.0) y e refl h

  literal_sound : (r : ℕ) (s : List ℕ) (y : Expression × ℕ) → literal r s ≡ Ok y → ExpressionRead (suc l) (suc r) (string s) y
  literal_sound r s y h =
      let g = guard_ok (leb (length s) MAX_TEXT) (Text s, r) y _ h in
      along (suc l) (suc r) (string s) (Text s, r) y (sym g.1)
      record {
        spelled = refl;
        fits = record { depth = omega arith; nodes = omega arith; ranges = leb-true (length s) MAX_TEXT g.0 };
        left = omega arith;
      }

  body_sound : (r : ℕ) (d : Data) (y : Expression × ℕ) → expression_body read r d ≡ Ok y → ExpressionRead (suc l) (suc r) d y
  unfolding expression_body
  body_sound r null y h = array_sound r null None y refl h
  body_sound r (boolean b) y h = array_sound r (boolean b) None y refl h
  body_sound r (number n) y h =
      let q = bind_ok (whole_number (number n)) _ y h in
      let k = whole_number-is (number n) q.0 q.1 in
      let is : y ≡ (Number q.0, r) = cc q.2 in
      along (suc l) (suc r) (number n) (Number q.0, r) y is
      record {
        spelled = k.0;
        fits = record { depth = omega arith; nodes = omega arith; ranges = is_64_bit-fits q.0 k.1 };
        left = omega arith;
      }
  body_sound r (string s) y h = literal_sound r s y h
  body_sound r (array ds) y h = array_sound r (array ds) (worded (array ds)) y refl h
  body_sound r (object ms) y h = array_sound r (object ms) None y refl h

pub expression_sound : (l r : ℕ) (d : Data) (x : Expression × ℕ) → expression_at l r d ≡ Ok x → ExpressionRead l r d x
unfolding expression_at
expression_sound zero r d x h = cc
expression_sound (suc l) zero d x h = cc
expression_sound (suc l) (suc r) d x h = body_sound l (expression_at l) (expression_sound l) r d x h
