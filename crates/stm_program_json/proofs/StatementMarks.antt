-- The marks of a statement, of a block and of a program, beside what is read of them.
use Rattle.std.proofs.Common.{◌≡◌, ℕ, zero, suc, ◌+◌, List, [], ◌++◌, Bool, cond, Option, Some, None, Ok, Err, refl, sym, ap, ◌∙◌, arith, lit<, codes}
use Rattle.std.proofs.lemmas.List.{append-nil}
use Rattle.std.proofs.lemmas.Bool.Decides.{nat_tests}
use Rattle.serde_json.specs.Data.{Data, string, array, Items, no_items, item}
use Rattle.stm_json.specs.declared.cause.Cause.TheVariants.{Shape}
use Rattle.stm_json.specs.declared.read_error.BadInput.{BadInput}
use Rattle.stm_program_json.specs.declared.words.StmtWord.{StmtWord}
use Rattle.stm_program_json.specs.declared.words.StmtWord.TheVariants as word
use Rattle.stm_program.specs.Syntax.{Statement, Block, Then, ProgramTree, of_statements}
use Rattle.stm_program_json.specs.Words.{statement_word}
use Rattle.stm_json.specs.Outcome.{Outcome, ◌>>=◌}
use Rattle.stm_json.specs.Parts.{same}
use Rattle.stm_json.specs.Elements.{worded, number_up_to}
use Rattle.stm_program_json.specs.Reading.{Read, simple_of, statement_named, statement_array, statements_from, block_by}
use Rattle.stm_program_json.specs.Reading.{expression_at, condition_at, statement_at, list_parts, program_after, program_of}
use Rattle.stm_json.specs.Faults.{at}
use Rattle.stm_program_json.specs.FirstFault.{Mark, wrong, first_of_marks, number_marks, marks_of_steps, marks_of_list, marks_of_elements, first_fault}
use Rattle.stm_program_json.proofs.ReaderMarks.{expression_marks, condition_marks, statement_of_one, statement_of_two, statement_of_three, statement_of_four}
use Rattle.stm_program_json.proofs.ReaderMarks.{statement_inner, statement_marks, block_marks, statements_marks}
use Rattle.stm_program_json.proofs.TableMarks.{steps_are}
use Rattle.stm_program_json.proofs.MarkLemmas.{after, wrong_is, too_deep, too_many, one_node, number_marked, part_then, number_then, behind, made}
use Rattle.stm_program_json.proofs.ListMarks.{list_marked}
use Rattle.stm_program_json.proofs.ExpressionMarks.{one_marked, expression_marked}
use Rattle.stm_program_json.proofs.ConditionMarks.{condition_marked}
use Rattle.stm_program.specs.declared.limits.TheConstants.{MAX_DEPTH, MAX_NODES, MAX_TURNS, MAX_VARIABLE, MAX_LEASE}

module _ (l k : ℕ) (depth : l + suc k ≡ suc MAX_DEPTH) (read : ℕ → Data → Read Statement)
    (sub : (q : List ℕ) (s : ℕ) (d : Data) (next : List Mark) → first_of_marks s (statement_marks (suc k) q d ++ next) ≡ after q (read s d) next) where
  pub statements_marked : (p : List ℕ) (i r : ℕ) (ds : Items) (rest : List Mark)
      → first_of_marks r (statements_marks (suc k) p i ds ++ rest) ≡ after p (statements_from read i r ds) rest
  unfolding statements_from
  statements_marked p i r no_items rest = refl
  statements_marked p i r (item d ds) rest =
      behind r (statement_marks (suc k) (at p i) d) (statements_marks (suc k) p (suc i) ds) rest
      ∙ part_then p i (read r d) _ _ (statements_marks (suc k) p (suc i) ds ++ rest) rest (sub (at p i) r d (statements_marks (suc k) p (suc i) ds ++ rest))
      (λ s e. statements_marked p (suc i) s.1 ds rest ∙ made p (statements_from read (suc i) s.1 ds) (Then s.0) rest)

  pub block_marked : (p : List ℕ) (r : ℕ) (d : Data) (rest : List Mark) → first_of_marks r (block_marks (suc k) p d ++ rest) ≡ after p (block_by read r d) rest
  unfolding block_by
  block_marked p r (array ds) rest = statements_marked p 0 r ds rest
  block_marked p r _ rest = wrong_is p Shape r rest

  none_marked : (p : List ℕ) (r : ℕ) (o : Option StmtWord) (rest : List Mark)
      → first_of_marks r (wrong p Shape ++ rest) ≡ after p (statement_named (expression_at l) (condition_at l) (block_by read) r o no_items) rest
  none_marked p r None rest = wrong_is p Shape r rest
  none_marked p r (Some word.Set) rest = wrong_is p Shape r rest
  none_marked p r (Some word.Put) rest = wrong_is p Shape r rest
  none_marked p r (Some word.If) rest = wrong_is p Shape r rest
  none_marked p r (Some word.For) rest = wrong_is p Shape r rest
  none_marked p r (Some (word.Simple s)) rest = wrong_is p Shape r rest

  of_one : (p : List ℕ) (r : ℕ) (o : Option StmtWord) (a : Data) (rest : List Mark)
      → first_of_marks r (statement_of_one p o (expression_marks (suc k) (at p 1) a) ++ rest)
      ≡ after p (statement_named (expression_at l) (condition_at l) (block_by read) r o (item a no_items)) rest
  of_one p r None a rest = wrong_is p Shape r rest
  of_one p r (Some word.Set) a rest = wrong_is p Shape r rest
  of_one p r (Some word.Put) a rest = wrong_is p Shape r rest
  of_one p r (Some word.If) a rest = wrong_is p Shape r rest
  of_one p r (Some word.For) a rest = wrong_is p Shape r rest
  of_one p r (Some (word.Simple s)) a rest = one_marked (expression_at l) (expression_marks (suc k)) (simple_of s) p r a rest
      (expression_marked l (suc k) depth)

  of_two : (p : List ℕ) (r : ℕ) (o : Option StmtWord) (a b : Data) (rest : List Mark)
      → first_of_marks r (statement_of_two p o (number_marks (at p 1) MAX_VARIABLE a ++ expression_marks (suc k) (at p 2) b) ++ rest)
      ≡ after p (statement_named (expression_at l) (condition_at l) (block_by read) r o (item a (item b no_items))) rest
  of_two p r None a b rest = wrong_is p Shape r rest
  of_two p r (Some word.Set) a b rest =
      behind r (number_marks (at p 1) MAX_VARIABLE a) (expression_marks (suc k) (at p 2) b) rest
      ∙ number_then p 1 r (number_up_to MAX_VARIABLE a) _ _ (expression_marks (suc k) (at p 2) b ++ rest) rest
      (number_marked (at p 1) MAX_VARIABLE r a (expression_marks (suc k) (at p 2) b ++ rest) (lit< tt))
      (λ v e. part_then p 2 (expression_at l r b) _ _ rest rest (expression_marked l (suc k) depth (at p 2) r b rest) (λ x f. refl))
  of_two p r (Some word.Put) a b rest = wrong_is p Shape r rest
  of_two p r (Some word.If) a b rest = wrong_is p Shape r rest
  of_two p r (Some word.For) a b rest = wrong_is p Shape r rest
  of_two p r (Some (word.Simple s)) a b rest = wrong_is p Shape r rest

  of_three : (p : List ℕ) (r : ℕ) (o : Option StmtWord) (a b c : Data) (rest : List Mark)
      → first_of_marks r (statement_of_three p o
      (expression_marks (suc k) (at p 1) a ++ (expression_marks (suc k) (at p 2) b ++ number_marks (at p 3) MAX_LEASE c))
      (condition_marks (suc k) (at p 1) a ++ (block_marks (suc k) (at p 2) b ++ block_marks (suc k) (at p 3) c)) ++ rest)
      ≡ after p (statement_named (expression_at l) (condition_at l) (block_by read) r o (item a (item b (item c no_items)))) rest
  of_three p r None a b c rest = wrong_is p Shape r rest
  of_three p r (Some word.Set) a b c rest = wrong_is p Shape r rest
  of_three p r (Some word.Put) a b c rest =
      let ms = number_marks (at p 3) MAX_LEASE c in
      behind r (expression_marks (suc k) (at p 1) a) (expression_marks (suc k) (at p 2) b ++ ms) rest
      ∙ part_then p 1 (expression_at l r a) _ _ ((expression_marks (suc k) (at p 2) b ++ ms) ++ rest) rest
      (expression_marked l (suc k) depth (at p 1) r a ((expression_marks (suc k) (at p 2) b ++ ms) ++ rest))
      (λ x e. behind x.1 (expression_marks (suc k) (at p 2) b) ms rest
      ∙ part_then p 2 (expression_at l x.1 b) _ _ (ms ++ rest) rest (expression_marked l (suc k) depth (at p 2) x.1 b (ms ++ rest))
      (λ y f. number_then p 3 y.1 (number_up_to MAX_LEASE c) _ _ rest rest (number_marked (at p 3) MAX_LEASE y.1 c rest (lit< tt))
      (λ n g. refl)))
  of_three p r (Some word.If) a b c rest =
      let ms = block_marks (suc k) (at p 3) c in
      behind r (condition_marks (suc k) (at p 1) a) (block_marks (suc k) (at p 2) b ++ ms) rest
      ∙ part_then p 1 (condition_at l r a) _ _ ((block_marks (suc k) (at p 2) b ++ ms) ++ rest) rest
      (condition_marked l (suc k) depth (at p 1) r a ((block_marks (suc k) (at p 2) b ++ ms) ++ rest))
      (λ x e. behind x.1 (block_marks (suc k) (at p 2) b) ms rest
      ∙ part_then p 2 (block_by read x.1 b) _ _ (ms ++ rest) rest (block_marked (at p 2) x.1 b (ms ++ rest))
      (λ y f. part_then p 3 (block_by read y.1 c) _ _ rest rest (block_marked (at p 3) y.1 c rest) (λ z g. refl)))
  of_three p r (Some word.For) a b c rest = wrong_is p Shape r rest
  of_three p r (Some (word.Simple s)) a b c rest = wrong_is p Shape r rest

  of_four : (p : List ℕ) (r : ℕ) (o : Option StmtWord) (a b c f : Data) (rest : List Mark)
      → first_of_marks r (statement_of_four p o
      (number_marks (at p 1) MAX_VARIABLE a
      ++ (expression_marks (suc k) (at p 2) b ++ (number_marks (at p 3) MAX_TURNS c ++ block_marks (suc k) (at p 4) f))) ++ rest)
      ≡ after p (statement_named (expression_at l) (condition_at l) (block_by read) r o (item a (item b (item c (item f no_items))))) rest
  of_four p r None a b c f rest = wrong_is p Shape r rest
  of_four p r (Some word.Set) a b c f rest = wrong_is p Shape r rest
  of_four p r (Some word.Put) a b c f rest = wrong_is p Shape r rest
  of_four p r (Some word.If) a b c f rest = wrong_is p Shape r rest
  of_four p r (Some word.For) a b c f rest =
      let bs = block_marks (suc k) (at p 4) f in
      let ns = number_marks (at p 3) MAX_TURNS c ++ bs in
      let es = expression_marks (suc k) (at p 2) b ++ ns in
      behind r (number_marks (at p 1) MAX_VARIABLE a) es rest
      ∙ number_then p 1 r (number_up_to MAX_VARIABLE a) _ _ (es ++ rest) rest (number_marked (at p 1) MAX_VARIABLE r a (es ++ rest) (lit< tt))
      (λ v e. behind r (expression_marks (suc k) (at p 2) b) ns rest
      ∙ part_then p 2 (expression_at l r b) _ _ (ns ++ rest) rest (expression_marked l (suc k) depth (at p 2) r b (ns ++ rest))
      (λ x g. behind x.1 (number_marks (at p 3) MAX_TURNS c) bs rest
      ∙ number_then p 3 x.1 (number_up_to MAX_TURNS c) _ _ (bs ++ rest) rest (number_marked (at p 3) MAX_TURNS x.1 c (bs ++ rest) (lit< tt))
      (λ n h. part_then p 4 (block_by read x.1 f) _ _ rest rest (block_marked (at p 4) x.1 f rest) (λ y i. refl))))
  of_four p r (Some (word.Simple s)) a b c f rest = wrong_is p Shape r rest

  of_more : (p : List ℕ) (r : ℕ) (o : Option StmtWord) (a b c f g : Data) (ds : Items) (rest : List Mark)
      → first_of_marks r (wrong p Shape ++ rest) ≡ after p (statement_named (expression_at l) (condition_at l) (block_by read) r o
      (item a (item b (item c (item f (item g ds)))))) rest
  of_more p r None a b c f g ds rest = wrong_is p Shape r rest
  of_more p r (Some word.Set) a b c f g ds rest = wrong_is p Shape r rest
  of_more p r (Some word.Put) a b c f g ds rest = wrong_is p Shape r rest
  of_more p r (Some word.If) a b c f g ds rest = wrong_is p Shape r rest
  of_more p r (Some word.For) a b c f g ds rest = wrong_is p Shape r rest
  of_more p r (Some (word.Simple s)) a b c f g ds rest = wrong_is p Shape r rest

  inner_marked : (p : List ℕ) (r : ℕ) (d : Data) (rest : List Mark)
      → first_of_marks r (statement_inner k p d ++ rest) ≡ after p (statement_array (expression_at l) (condition_at l) (block_by read) r (worded d)) rest
  inner_marked p r (array (item (string w) no_items)) rest = none_marked p r (statement_word w) rest
  inner_marked p r (array (item (string w) (item a no_items))) rest = of_one p r (statement_word w) a rest
  inner_marked p r (array (item (string w) (item a (item b no_items)))) rest = of_two p r (statement_word w) a b rest
  inner_marked p r (array (item (string w) (item a (item b (item c no_items))))) rest = of_three p r (statement_word w) a b c rest
  inner_marked p r (array (item (string w) (item a (item b (item c (item f no_items)))))) rest = of_four p r (statement_word w) a b c f rest
  inner_marked p r (array (item (string w) (item a (item b (item c (item f (item g ds))))))) rest = of_more p r (statement_word w) a b c f g ds rest
  inner_marked p r _ rest = wrong_is p Shape r rest

pub statement_marked : (l k : ℕ) → l + k ≡ suc MAX_DEPTH → (p : List ℕ) (r : ℕ) (d : Data) (rest : List Mark)
    → first_of_marks r (statement_marks k p d ++ rest) ≡ after p (statement_at l r d) rest
unfolding statement_at
statement_marked zero k h p r d rest = too_deep k r p (statement_inner k p d) rest (omega arith)
statement_marked (suc l) k h p zero d rest = too_many k p (statement_inner k p d) rest (omega arith)
statement_marked (suc l) k h p (suc r) d rest =
    one_node k r p (statement_inner k p d ++ rest) (omega arith)
    ∙ inner_marked l k (omega arith) (statement_at l) (λ q s e next. statement_marked l (suc k) (omega arith) q s e next) p r d rest

-- the fault that reading answers, if it does
abbrev pub fault_of : {A : Type 0} → Outcome A → Option BadInput
fault_of (Ok x) = None
fault_of (Err f) = Some f

-- a program's statements, from an index on
program_steps : (i : ℕ) (ds : Items) → first_of_marks MAX_NODES (marks_of_steps 1 [] i ds) ≡ after [] (statements_from (statement_at MAX_DEPTH) i MAX_NODES ds) []
program_steps i ds =
    ap (first_of_marks MAX_NODES) (steps_are 1 [] i ds)
    ∙ ap (first_of_marks MAX_NODES) (sym (append-nil (statements_marks 1 [] i ds)))
    ∙ statements_marked MAX_DEPTH 0 refl (statement_at MAX_DEPTH) (statement_marked MAX_DEPTH 1 refl) [] i MAX_NODES ds []

reported : (make : Block → ProgramTree) (reading : Read Block) → after [] reading [] ≡ fault_of (reading >>= λ b. Ok (make b.0))
reported make (Ok x) = refl
reported make (Err f) = refl

alone_fault : (all : Items) → first_of_marks MAX_NODES (marks_of_steps 1 [] 0 all)
    ≡ fault_of (statements_from (statement_at MAX_DEPTH) 0 MAX_NODES all >>= λ b. Ok (of_statements b.0))
alone_fault all = program_steps 0 all ∙ reported of_statements (statements_from (statement_at MAX_DEPTH) 0 MAX_NODES all)

abbrev listing : List (List ℕ) → Block → ProgramTree
listing keys b = record { statements = b; prefetch = keys }

list_tested : (parts ds all : Items) (b : Bool)
    → first_of_marks MAX_NODES (cond b (marks_of_list (at [] 0) parts ++ marks_of_steps 1 [] 1 ds) (marks_of_steps 1 [] 0 all))
    ≡ fault_of (program_after (cond b (Some parts) None) all ds)
list_tested parts ds all b = grind (arith, nat_tests, list_marked, alone_fault, program_steps, reported)

elements_fault : (d : Data) (ds : Items) → first_of_marks MAX_NODES (marks_of_elements (item d ds)) ≡ fault_of (program_after (list_parts (worded d)) (item d ds) ds)
elements_fault (array (item (string w) parts)) ds = list_tested parts ds (item (array (item (string w) parts)) ds) (same w (codes "prefetch"))
elements_fault _ ds = alone_fault (item _ ds)

pub program_fault : (d : Data) → first_fault d ≡ fault_of (program_of d)
unfolding first_fault program_of
program_fault (array no_items) = refl
program_fault (array (item d ds)) = elements_fault d ds
program_fault _ = refl
