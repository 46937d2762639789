-- What data spell of a statement is read, where it is within the limits.
use Rattle.std.proofs.Common.{◌≡◌, inl, inr, ℕ, zero, suc, ◌+◌, ◌-◌, ◌≤◌, List, [], ◌∷◌, Some, None, Ok, refl, sym, ap, ◌∙◌, arith, lit<}
use Rattle.std.proofs.lemmas.Bool.Decides.{nat_tests}
use Rattle.serde_json.specs.Data.{Data, array, Items, item}
use Rattle.serde_json.specs.View.{items_of}
use Rattle.stm_program_json.specs.declared.words.StmtWord.{StmtWord}
use Rattle.stm_program_json.specs.declared.words.StmtWord.TheVariants as word
use Rattle.stm_program_json.specs.declared.words.Simple.{Simple}
use Rattle.stm_program_json.specs.declared.words.Simple.TheVariants as simple
use Rattle.stm_program.specs.Syntax.{Expression, Statement, Set, Put, Del, If, For, Emit, Abort, Block, End, Then, ProgramTree, of_statements}
use Rattle.stm_program.specs.Size.{expression_nodes, statement_nodes, block_nodes}
use Rattle.stm_program.specs.Limits.{expression_depth, statement_depth, block_depth, ExpressionInRange, StatementInRange, BlockInRange, BlockFits, Fits}
use Rattle.stm_program_json.specs.WordTexts.{simple_text, statement_text}
use Rattle.stm_json.specs.Elements.{worded}
use Rattle.stm_json.specs.Outcome.{Outcome}
use Rattle.stm_program_json.specs.Reading.{Read, simple_of, statement_named, statement_array, statements_from, block_by}
use Rattle.stm_program_json.specs.Reading.{expression_at, condition_at, statement_at, list_parts, program_list, program_of}
use Rattle.stm_json.specs.Parts.{spelled}
use Rattle.stm_program_json.specs.Grammar.{SpellsExpression, SpellsStatement, SpellsStatements, SpellsList, SpellsElements, SpellsProgram}
use Rattle.stm_program.proofs.ListLemmas.{ListParts, list_parts as list_parts_of, statements_fit, list_of_program}
use Rattle.stm_program.proofs.LimitLemmas.{statement_nodes-positive, statement_depth-positive}
use Rattle.stm_program_json.proofs.WordLemmas.{statement_word-text}
use Rattle.stm_json.proofs.ElementLemmas.{number_up_to-reads}
use Rattle.stm_program_json.proofs.ExpressionComplete.{one_part-reads, expression_reads}
use Rattle.stm_program_json.proofs.ConditionComplete.{condition_reads}
use Rattle.stm_program_json.proofs.KeyLists.{list_reads}
use Rattle.stm_program.specs.declared.limits.TheConstants.{MAX_DEPTH, MAX_NODES, MAX_TURNS, MAX_VARIABLE, MAX_LEASE}

module _ (l : ℕ) (read : ℕ → Data → Read Statement)
    (reads : (r m : ℕ) (d : Data) (s : Statement) → SpellsStatement d s → statement_depth s ≤ l → StatementInRange s → r ≡ m + statement_nodes s
    → read r d ≡ Ok (s, m)) where
  pub statements_read : (i r m : ℕ) (ds : Items) (b : Block) → SpellsStatements ds b → block_depth b ≤ l → BlockInRange b → r ≡ m + block_nodes b
      → statements_from read i r ds ≡ Ok (b, m)
  unfolding statements_from
  statements_read i r m ds End is f g h =
      let room : r ≡ m = omega arith in
      rw (is, room) refl
  statements_read i r m ds (Then s b) (a, rest, is, t, u) f g h =
      let first = reads r (m + block_nodes b) a s t (omega arith) g.0 (omega arith) in
      let others = statements_read (suc i) (m + block_nodes b) m rest b u (omega arith) g.1 refl in
      rw (is, first) (rw others refl)

  pub block_reads : (r m : ℕ) (ds : Items) (b : Block) → SpellsStatements ds b → block_depth b ≤ l → BlockInRange b → r ≡ m + block_nodes b
      → block_by read r (array ds) ≡ Ok (b, m)
  unfolding block_by
  block_reads r m ds b s f g h = statements_read 0 r m ds b s f g h

  opened : (r : ℕ) (d : Data) (w : List ℕ) (parts : List Data) (x : StmtWord) → d ≡ spelled w parts → w ≡ statement_text x
      → statement_array (expression_at l) (condition_at l) (block_by read) r (worded d)
      ≡ statement_named (expression_at l) (condition_at l) (block_by read) r (Some x) (items_of parts)
  opened r d w parts x is h = grind (arith, nat_tests, statement_word-text)

  simple_reads : (o : Simple) (r m : ℕ) (d a : Data) (e : Expression) → d ≡ spelled (simple_text o) (a ∷ []) → SpellsExpression a e → expression_depth e ≤ l
      → ExpressionInRange e → r ≡ m + expression_nodes e
      → statement_array (expression_at l) (condition_at l) (block_by read) r (worded d) ≡ Ok (simple_of o e, m)
  simple_reads o r m d a e is s f g h = opened r d (simple_text o) (a ∷ []) (word.Simple o) is refl
      ∙ one_part-reads (expression_at l) (simple_of o) r m a e (expression_reads l r m a e s f g h)

  array_reads : (r m : ℕ) (d : Data) (s : Statement) → SpellsStatement d s → statement_depth s ≤ suc l → StatementInRange s → suc r ≡ m + statement_nodes s
      → statement_array (expression_at l) (condition_at l) (block_by read) r (worded d) ≡ Ok (s, m)
  array_reads r m d (Set v e) (a, b, is, n, s) f g h =
      let k = number_up_to-reads MAX_VARIABLE a v (lit< tt) n g.0 in
      let x = expression_reads l r m b e s (omega arith) g.1 (omega arith) in
      opened r d (statement_text word.Set) (a ∷ b ∷ []) word.Set is refl ∙ rw k (rw x refl)
  array_reads r m d (Put k e n) (a, b, c, is, s, t, o) f g h =
      let x = expression_reads l r (m + expression_nodes e) a k s (omega arith) g.0 (omega arith) in
      let y = expression_reads l (m + expression_nodes e) m b e t (omega arith) g.1 refl in
      let z = number_up_to-reads MAX_LEASE c n (lit< tt) o g.2 in
      opened r d (statement_text word.Put) (a ∷ b ∷ c ∷ []) word.Put is refl ∙ rw x (rw y (rw z refl))
  array_reads r m d (Del e) (a, is, s) f g h = simple_reads simple.Del r m d a e is s (omega arith) g (omega arith)
  array_reads r m d (If i t e) (a, b, c, is, s, u, w) f g h =
      let x = condition_reads l r (m + block_nodes e + block_nodes t) a i s (omega arith) g.0 (omega arith) in
      let y = block_reads (m + block_nodes e + block_nodes t) (m + block_nodes e) b t u (omega arith) g.1 refl in
      let z = block_reads (m + block_nodes e) m c e w (omega arith) g.2 refl in
      opened r d (statement_text word.If) (a ∷ array b ∷ array c ∷ []) word.If is refl ∙ rw x (rw y (rw z refl))
  array_reads r m d (For v e n b) (a, c, i, ds, is, k, s, o, u) f g h =
      let w = number_up_to-reads MAX_VARIABLE a v (lit< tt) k g.0 in
      let x = expression_reads l r (m + block_nodes b) c e s (omega arith) g.1 (omega arith) in
      let y = number_up_to-reads MAX_TURNS i n (lit< tt) o g.2 in
      let z = block_reads (m + block_nodes b) m ds b u (omega arith) g.3 refl in
      opened r d (statement_text word.For) (a ∷ c ∷ i ∷ array ds ∷ []) word.For is refl ∙ rw w (rw x (rw y (rw z refl)))
  array_reads r m d (Emit e) (a, is, s) f g h = simple_reads simple.Emit r m d a e is s (omega arith) g (omega arith)
  array_reads r m d (Abort e) (a, is, s) f g h = simple_reads simple.Abort r m d a e is s (omega arith) g (omega arith)

pub statement_reads : (l r m : ℕ) (d : Data) (s : Statement) → SpellsStatement d s → statement_depth s ≤ l → StatementInRange s → r ≡ m + statement_nodes s
    → statement_at l r d ≡ Ok (s, m)
unfolding statement_at
statement_reads zero r m d s t f g h = absurd (omega (arith, statement_depth-positive s))
statement_reads (suc l) zero m d s t f g h = absurd (omega (arith, statement_nodes-positive s))
statement_reads (suc l) (suc r) m d s t f g h = array_reads l (statement_at l) (statement_reads l) r m d s t f g h

-- the statements of a program, from an index on
pub program_block : (i : ℕ) (ds : Items) (b : Block) → SpellsStatements ds b → BlockFits MAX_DEPTH MAX_NODES b
    → statements_from (statement_at MAX_DEPTH) i MAX_NODES ds ≡ Ok (b, MAX_NODES - block_nodes b)
program_block i ds b s f =
    let h : MAX_NODES ≡ (MAX_NODES - block_nodes b) + block_nodes b = omega (arith, f.nodes) in
    statements_read MAX_DEPTH (statement_at MAX_DEPTH) (statement_reads MAX_DEPTH) i MAX_NODES (MAX_NODES - block_nodes b) ds b s f.depth f.ranges h

-- a statement begins with another word than a list
no_list : (d : Data) (s : Statement) → SpellsStatement d s → list_parts (worded d) ≡ None
no_list d (Set v e) (a, b, is, n, t) = ap (λ (x : Data). list_parts (worded x)) is
no_list d (Put k e l) (a, b, c, is, t, u, n) = ap (λ (x : Data). list_parts (worded x)) is
no_list d (Del k) (a, is, t) = ap (λ (x : Data). list_parts (worded x)) is
no_list d (If i t e) (a, b, c, is, s, u, w) = ap (λ (x : Data). list_parts (worded x)) is
no_list d (For v e n b) (a, c, i, ds, is, k, s, o, u) = ap (λ (x : Data). list_parts (worded x)) is
no_list d (Emit e) (a, is, t) = ap (λ (x : Data). list_parts (worded x)) is
no_list d (Abort e) (a, is, t) = ap (λ (x : Data). list_parts (worded x)) is

alone_reads : (ds : Items) (b : Block) → SpellsStatements ds b → BlockFits MAX_DEPTH MAX_NODES b → program_list (Some ds) ≡ Ok (of_statements b)
alone_reads ds End is f = rw is refl
alone_reads ds (Then s b) (a, rest, is, t, u) f =
    let none = no_list a s t in
    let all = program_block 0 (item a rest) (Then s b) (a, rest, refl, t, u) f in
    rw is (rw (none, all) refl)

after_reads : (ds : Items) (p : ProgramTree) (a : Data) (rest : Items) → ds ≡ item a rest → SpellsList a p.prefetch → SpellsStatements rest p.statements
    → ListParts p.prefetch → BlockFits MAX_DEPTH MAX_NODES p.statements → program_list (Some ds) ≡ Ok p
after_reads ds p a rest is list s parts f =
    let read = list_reads a p.prefetch list parts in
    let all = program_block 1 rest p.statements s f in
    rw is (rw (read.1, read.2, all) refl)

elements_read : (ds : Items) (p : ProgramTree) → SpellsElements ds p → Fits p → program_list (Some ds) ≡ Ok p
elements_read ds p (inl (none, s)) f =
    let b : BlockFits MAX_DEPTH MAX_NODES p.statements = statements_fit p.prefetch (BlockFits MAX_DEPTH MAX_NODES p.statements) f in
    alone_reads ds p.statements s b
    ∙ ap (λ (keys : List (List ℕ)). (let o : Outcome ProgramTree = Ok (record { statements = p.statements; prefetch = keys }) in o)) (sym none)
elements_read ds p (inr (a, rest, is, list, s)) f =
    after_reads ds p a rest is list s (list_parts_of p.prefetch (list_of_program p.prefetch (BlockFits MAX_DEPTH MAX_NODES p.statements) f))
    (statements_fit p.prefetch (BlockFits MAX_DEPTH MAX_NODES p.statements) f)

-- a program within the limits that data spell is read
pub program_reads : (d : Data) (p : ProgramTree) → SpellsProgram d p → Fits p → program_of d ≡ Ok p
unfolding program_of
program_reads d p (ds, is, s) f = rw is (elements_read ds p s f)
