-- What is read of a statement is spelled by the data, and is within the limits.
use Rattle.std.proofs.Common.{◌≡◌, ℕ, zero, suc, ◌+◌, List, [], ◌∷◌, Option, Some, None, Ok, refl, sym, ap, subst, ◌∙◌, arith, codes}
use Rattle.serde_json.specs.Data.{Data, null, boolean, number, string, array, object, Items, no_items, item}
use Rattle.stm_program_json.specs.declared.words.StmtWord.{StmtWord}
use Rattle.stm_program_json.specs.declared.words.StmtWord.TheVariants as word
use Rattle.stm_program_json.specs.declared.words.Simple.{Simple}
use Rattle.stm_program_json.specs.declared.words.Simple.TheVariants as simple
use Rattle.stm_program.specs.Syntax.{Expression, Statement, Set, Put, If, For, Block, End, Then}
use Rattle.stm_program.specs.Size.{expression_nodes, statement_nodes, block_nodes}
use Rattle.stm_program.specs.Limits.{ExpressionFits, StatementFits, BlockFits}
use Rattle.stm_program_json.specs.Words.{statement_word}
use Rattle.stm_program_json.specs.WordTexts.{simple_text}
use Rattle.stm_json.specs.Outcome.{within}
use Rattle.stm_json.specs.Elements.{worded, one_of, two_of, three_of, four_of, number_up_to}
use Rattle.stm_program_json.specs.Reading.{Read, simple_of, set_of, put_of, if_of, for_of, statement_named, statement_array, statements_from, block_by}
use Rattle.stm_program_json.specs.Reading.{expression_at, condition_at, statement_at}
use Rattle.stm_json.specs.Parts.{spelled}
use Rattle.stm_program_json.specs.Grammar.{SpellsExpression, SpellsStatement, SpellsStatements}
use Rattle.stm_json.proofs.OutcomeLemmas.{bind_ok, within_ok}
use Rattle.stm_program_json.proofs.OutcomeLemmas.{one_part_ok}
use Rattle.stm_program_json.proofs.WordLemmas.{statement_word-is}
use Rattle.stm_json.proofs.ElementLemmas.{one_of-is, two_of-is, three_of-is, four_of-is, number_up_to-is}
use Rattle.stm_program_json.proofs.ExpressionSound.{expression_sound, words_and}
use Rattle.stm_program_json.proofs.ConditionSound.{condition_sound}
use Rattle.stm_program.specs.declared.limits.TheConstants.{MAX_DEPTH, MAX_NODES, MAX_TURNS, MAX_VARIABLE, MAX_LEASE}

-- a statement that was read with these levels and nodes left
pub record StatementRead (levels room : ℕ) (d : Data) (x : Statement × ℕ) : Type 0 where
  pub spelled : SpellsStatement d x.0
  pub fits : StatementFits levels room x.0
  pub left : x.1 + statement_nodes x.0 ≡ room

-- the same of statements, one after another
pub record StatementsRead (levels room : ℕ) (ds : Items) (x : Block × ℕ) : Type 0 where
  pub spelled : SpellsStatements ds x.0
  pub fits : BlockFits levels room x.0
  pub left : x.1 + block_nodes x.0 ≡ room

-- the same of an array of statements
pub record BlockRead (levels room : ℕ) (d : Data) (x : Block × ℕ) : Type 0 where
  pub items : Items
  pub is : d ≡ array items
  pub read : StatementsRead levels room items x

simple_spelled : (s : Simple) (d a : Data) (e : Expression) → d ≡ spelled (simple_text s) (a ∷ []) → SpellsExpression a e → SpellsStatement d (simple_of s e)
simple_spelled simple.Del d a e h s = (a, h, s)
simple_spelled simple.Emit d a e h s = (a, h, s)
simple_spelled simple.Abort d a e h s = (a, h, s)

simple_fits : (s : Simple) (l r : ℕ) (e : Expression) → ExpressionFits l r e → StatementFits (suc l) (suc r) (simple_of s e)
simple_fits simple.Del l r e f = record { depth = omega (arith, f.depth); nodes = omega (arith, f.nodes); ranges = f.ranges }
simple_fits simple.Emit l r e f = record { depth = omega (arith, f.depth); nodes = omega (arith, f.nodes); ranges = f.ranges }
simple_fits simple.Abort l r e f = record { depth = omega (arith, f.depth); nodes = omega (arith, f.nodes); ranges = f.ranges }

simple_nodes : (s : Simple) (e : Expression) → statement_nodes (simple_of s e) ≡ 1 + expression_nodes e
simple_nodes simple.Del e = refl
simple_nodes simple.Emit e = refl
simple_nodes simple.Abort e = refl

along : (l r : ℕ) (d : Data) (x y : Statement × ℕ) → y ≡ x → StatementRead l r d x → StatementRead l r d y
along l r d x y e = subst (λ (z : Statement × ℕ). StatementRead l r d z) (sym e)

module _ (l : ℕ) (read : ℕ → Data → Read Statement) (sound : (r : ℕ) (d : Data) (x : Statement × ℕ) → read r d ≡ Ok x → StatementRead l r d x) where
  pub statements_sound : (i r : ℕ) (ds : Items) (x : Block × ℕ) → statements_from read i r ds ≡ Ok x → StatementsRead l r ds x
  unfolding statements_from
  statements_sound i r no_items x h =
      let is : x ≡ (End, r) = cc in
      subst (λ (z : Block × ℕ). StatementsRead l r no_items z) (sym is)
      record { spelled = refl; fits = record { depth = omega arith; nodes = omega arith; ranges = tt }; left = omega arith }
  statements_sound i r (item d ds) x h =
      let q = bind_ok (within i (read r d)) _ x h in
      let p = bind_ok (statements_from read (suc i) q.0.1 ds) _ x q.2 in
      let s = sound r d q.0 (within_ok i _ _ q.1) in
      let b = statements_sound (suc i) q.0.1 ds p.0 p.1 in
      let is : x ≡ (Then q.0.0 p.0.0, p.0.1) = cc p.2 in
      subst (λ (z : Block × ℕ). StatementsRead l r (item d ds) z) (sym is)
      record {
        spelled = (d, ds, refl, s.spelled, b.spelled);
        fits = record {
          depth = omega (arith, s.fits.depth, b.fits.depth);
          nodes = omega (arith, s.left, b.fits.nodes);
          ranges =
              (s.fits.ranges, b.fits.ranges);
        };
        left = omega (arith, s.left, b.left);
      }

  pub block_sound : (r : ℕ) (d : Data) (x : Block × ℕ) → block_by read r d ≡ Ok x → BlockRead l r d x
  unfolding block_by
  block_sound r null x h = cc
  block_sound r (boolean b) x h = cc
  block_sound r (number n) x h = cc
  block_sound r (string s) x h = cc
  block_sound r (array ds) x h = record { items = ds; is = refl; read = statements_sound 0 r ds x h }
  block_sound r (object ms) x h = cc

  simple_sound : (r : ℕ) (d : Data) (p : List ℕ × Items) (s : Simple) (y : Statement × ℕ) → worded d ≡ Some p → p.0 ≡ simple_text s
      → statement_named (expression_at l) (condition_at l) (block_by read) r (Some (word.Simple s)) p.1 ≡ Ok y → StatementRead (suc l) (suc r) d y
  simple_sound r d p s y w t h =
      let q = one_part_ok (expression_at l) (simple_of s) r (one_of p.1) y h in
      let e = expression_sound l r q.0 q.1 q.3 in
      along (suc l) (suc r) d (simple_of s q.1.0, q.1.1) y q.4
      record {
        spelled = simple_spelled s d q.0 q.1.0 (words_and d p (simple_text s) (q.0 ∷ []) w t (one_of-is p.1 q.0 q.2)) e.spelled;
        fits = simple_fits s l r q.1.0 e.fits;
        left = omega (arith, simple_nodes s q.1.0, e.left);
      }

  set_sound : (r : ℕ) (d : Data) (p : List ℕ × Items) (o : Option (Data × Data)) (y : Statement × ℕ) → worded d ≡ Some p → p.0 ≡ codes "set" → two_of p.1 ≡ o
      → set_of (expression_at l) r o ≡ Ok y → StatementRead (suc l) (suc r) d y
  set_sound r d p None y w t e h = cc
  set_sound r d p (Some a) y w t e h =
      let v = bind_ok (within 1 (number_up_to MAX_VARIABLE a.0)) _ y h in
      let x = bind_ok (within 2 (expression_at l r a.1)) _ y v.2 in
      let n = number_up_to-is MAX_VARIABLE a.0 v.0 (within_ok 1 _ _ v.1) in
      let f = expression_sound l r a.1 x.0 (within_ok 2 _ _ x.1) in
      let is : y ≡ (Set v.0 x.0.0, x.0.1) = cc x.2 in
      along (suc l) (suc r) d (Set v.0 x.0.0, x.0.1) y is
      record {
        spelled = (a.0, a.1, words_and d p (codes "set") (a.0 ∷ a.1 ∷ []) w t (two_of-is p.1 a e), n.0, f.spelled);
        fits = record { depth = omega (arith, f.fits.depth); nodes = omega (arith, f.fits.nodes); ranges = (n.1, f.fits.ranges) };
        left = omega (arith, f.left);
      }

  put_sound : (r : ℕ) (d : Data) (p : List ℕ × Items) (o : Option (Data × Data × Data)) (y : Statement × ℕ) → worded d ≡ Some p → p.0 ≡ codes "put"
      → three_of p.1 ≡ o
      → put_of (expression_at l) r o ≡ Ok y → StatementRead (suc l) (suc r) d y
  put_sound r d p None y w t e h = cc
  put_sound r d p (Some a) y w t e h =
      let k = bind_ok (within 1 (expression_at l r a.0)) _ y h in
      let x = bind_ok (within 2 (expression_at l k.0.1 a.1)) _ y k.2 in
      let m = bind_ok (within 3 (number_up_to MAX_LEASE a.2)) _ y x.2 in
      let g = expression_sound l r a.0 k.0 (within_ok 1 _ _ k.1) in
      let f = expression_sound l k.0.1 a.1 x.0 (within_ok 2 _ _ x.1) in
      let n = number_up_to-is MAX_LEASE a.2 m.0 (within_ok 3 _ _ m.1) in
      let is : y ≡ (Put k.0.0 x.0.0 m.0, x.0.1) = cc m.2 in
      along (suc l) (suc r) d (Put k.0.0 x.0.0 m.0, x.0.1) y is
      record {
        spelled = (a.0, a.1, a.2, words_and d p (codes "put") (a.0 ∷ a.1 ∷ a.2 ∷ []) w t (three_of-is p.1 a e), g.spelled, f.spelled, n.0);
        fits = record {
          depth = omega (arith, g.fits.depth, f.fits.depth);
          nodes = omega (arith, g.left, f.fits.nodes);
          ranges =
              (g.fits.ranges, f.fits.ranges, n.1);
        };
        left = omega (arith, g.left, f.left);
      }

  if_sound : (r : ℕ) (d : Data) (p : List ℕ × Items) (o : Option (Data × Data × Data)) (y : Statement × ℕ) → worded d ≡ Some p → p.0 ≡ codes "if"
      → three_of p.1 ≡ o
      → if_of (condition_at l) (block_by read) r o ≡ Ok y → StatementRead (suc l) (suc r) d y
  if_sound r d p None y w t e h = cc
  if_sound r d p (Some a) y w t e h =
      let k = bind_ok (within 1 (condition_at l r a.0)) _ y h in
      let x = bind_ok (within 2 (block_by read k.0.1 a.1)) _ y k.2 in
      let z = bind_ok (within 3 (block_by read x.0.1 a.2)) _ y x.2 in
      let g = condition_sound l r a.0 k.0 (within_ok 1 _ _ k.1) in
      let b = block_sound k.0.1 a.1 x.0 (within_ok 2 _ _ x.1) in
      let c = block_sound x.0.1 a.2 z.0 (within_ok 3 _ _ z.1) in
      let is : y ≡ (If k.0.0 x.0.0 z.0.0, z.0.1) = cc z.2 in
      along (suc l) (suc r) d (If k.0.0 x.0.0 z.0.0, z.0.1) y is
      record {
        spelled = (
          a.0,
          b.items,
          c.items,
          words_and d p (codes "if") (a.0 ∷ a.1 ∷ a.2 ∷ []) w t (three_of-is p.1 a e) ∙ ap (λ (f : Data). spelled (codes "if") (a.0 ∷ f ∷ a.2 ∷ [])) b.is
              ∙ ap (λ (f : Data). spelled (codes "if") (a.0 ∷ array b.items ∷ f ∷ [])) c.is,
          g.spelled,
          b.read.spelled,
          c.read.spelled,
        );
        fits = record {
          depth = omega (arith, g.fits.depth, b.read.fits.depth, c.read.fits.depth);
          nodes = omega (arith, g.left, b.read.left, c.read.fits.nodes);
          ranges = (g.fits.ranges, b.read.fits.ranges, c.read.fits.ranges);
        };
        left = omega (arith, g.left, b.read.left, c.read.left);
      }

  for_sound : (r : ℕ) (d : Data) (p : List ℕ × Items) (o : Option (Data × Data × Data × Data)) (y : Statement × ℕ) → worded d ≡ Some p → p.0 ≡ codes "for"
      → four_of p.1 ≡ o
      → for_of (expression_at l) (block_by read) r o ≡ Ok y → StatementRead (suc l) (suc r) d y
  for_sound r d p None y w t e h = cc
  for_sound r d p (Some a) y w t e h =
      let v = bind_ok (within 1 (number_up_to MAX_VARIABLE a.0)) _ y h in
      let x = bind_ok (within 2 (expression_at l r a.1)) _ y v.2 in
      let m = bind_ok (within 3 (number_up_to MAX_TURNS a.2)) _ y x.2 in
      let z = bind_ok (within 4 (block_by read x.0.1 a.3)) _ y m.2 in
      let n = number_up_to-is MAX_VARIABLE a.0 v.0 (within_ok 1 _ _ v.1) in
      let f = expression_sound l r a.1 x.0 (within_ok 2 _ _ x.1) in
      let k = number_up_to-is MAX_TURNS a.2 m.0 (within_ok 3 _ _ m.1) in
      let b = block_sound x.0.1 a.3 z.0 (within_ok 4 _ _ z.1) in
      let is : y ≡ (For v.0 x.0.0 m.0 z.0.0, z.0.1) = cc z.2 in
      along (suc l) (suc r) d (For v.0 x.0.0 m.0 z.0.0, z.0.1) y is
      record {
        spelled = (
          a.0,
          a.1,
          a.2,
          b.items,
          words_and d p (codes "for") (a.0 ∷ a.1 ∷ a.2 ∷ a.3 ∷ []) w t (four_of-is p.1 a e)
              ∙ ap (λ (g : Data). spelled (codes "for") (a.0 ∷ a.1 ∷ a.2 ∷ g ∷ [])) b.is,
          n.0,
          f.spelled,
          k.0,
          b.read.spelled,
        );
        fits = record {
          depth = omega (arith, f.fits.depth, b.read.fits.depth);
          nodes = omega (arith, f.left, b.read.fits.nodes);
          ranges = (n.1, f.fits.ranges, k.1, b.read.fits.ranges);
        };
        left = omega (arith, f.left, b.read.left);
      }

  named_sound : (r : ℕ) (d : Data) (p : List ℕ × Items) (o : Option StmtWord) (y : Statement × ℕ) → worded d ≡ Some p → statement_word p.0 ≡ o
      → statement_named (expression_at l) (condition_at l) (block_by read) r o p.1 ≡ Ok y → StatementRead (suc l) (suc r) d y
  named_sound r d p None y w e h = cc
  named_sound r d p (Some word.Set) y w e h = set_sound r d p (two_of p.1) y w (statement_word-is p.0 word.Set e) refl h
  named_sound r d p (Some word.Put) y w e h = put_sound r d p (three_of p.1) y w (statement_word-is p.0 word.Put e) refl h
  named_sound r d p (Some word.If) y w e h = if_sound r d p (three_of p.1) y w (statement_word-is p.0 word.If e) refl h
  named_sound r d p (Some word.For) y w e h = for_sound r d p (four_of p.1) y w (statement_word-is p.0 word.For e) refl h
  named_sound r d p (Some (word.Simple s)) y w e h = simple_sound r d p s y w (statement_word-is p.0 (word.Simple s) e) h

  array_sound : (r : ℕ) (d : Data) (o : Option (List ℕ × Items)) (y : Statement × ℕ) → worded d ≡ o
      → statement_array (expression_at l) (condition_at l) (block_by read) r o ≡ Ok y → StatementRead (suc l) (suc r) d y
  array_sound r d None y e h = cc
  array_sound r d (Some p) y e h = named_sound r d p (statement_word p.0) y e refl h

pub statement_sound : (l r : ℕ) (d : Data) (x : Statement × ℕ) → statement_at l r d ≡ Ok x → StatementRead l r d x
unfolding statement_at
statement_sound zero r d x h = cc
statement_sound (suc l) zero d x h = cc
statement_sound (suc l) (suc r) d x h = array_sound l (statement_at l) (statement_sound l) r d (worded d) x refl h

-- the statements of a program, from an index on
pub program_statements : (i : ℕ) (ds : Items) (x : Block × ℕ) → statements_from (statement_at MAX_DEPTH) i MAX_NODES ds ≡ Ok x
    → StatementsRead MAX_DEPTH MAX_NODES ds x
program_statements i ds x h = statements_sound MAX_DEPTH (statement_at MAX_DEPTH) (statement_sound MAX_DEPTH) i MAX_NODES ds x h
