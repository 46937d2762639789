-- A code for each kind of tree: the numbers and pairs that it can be got back from. A node is its number among the
-- constructors, then its four parts.
use Rattle.std.specs.Prelude.{◌≡◌, refl, ℕ, zero, suc, pos, negsuc, List, [], ◌∷◌, Option, unwrap_or}
use Rattle.std.specs.Coded.{Coded, code_by}
use Rattle.std.proofs.Common.{ap, ◌∙◌}
use base.Stored.{Gv, gnil, gnum, gcons}
use Rattle.stm_program.specs.declared.operator.Operator.{Operator}
use Rattle.stm_program.specs.declared.operator.Operator.TheVariants.{Add}
use Rattle.stm_program.specs.Operators.{operator_word, operator_named, each_is_named}
use Rattle.stm_program.specs.Syntax.{Expression, Text, Number, Variable, Get, Rev, Arithmetic, Cat, TextOf, NumOf, Condition, Equal, Less, Not, And, Or}
use Rattle.stm_program.specs.Syntax.{Statement, Set, Put, Del, If, For, Emit, Abort, Block, End, Then, ProgramTree, of_statements}

abbrev pub coded_tree : Coded Gv
coded_tree = record { code = λ g. g; inj = λ x y p. p }

abbrev pub node : ℕ → Gv → Gv → Gv → Gv → Gv
node t a b c d = gcons (gnum t) (gcons a (gcons b (gcons c d)))

abbrev pub number_in : Gv → ℕ
number_in gnil = 0
number_in (gnum n) = n
number_in (gcons a b) = 0

-- the alternative at a place, the first at 0
abbrev pub alternative : {A : Type 0} → A → List A → ℕ → A
alternative d [] t = d
alternative d (x ∷ xs) zero = x
alternative d (x ∷ xs) (suc t) = alternative d xs t

-- ---- texts

abbrev pub encode_text : List ℕ → Gv
encode_text [] = gnil
encode_text (x ∷ xs) = gcons (gnum x) (encode_text xs)

abbrev pub decode_text : Gv → List ℕ
decode_text gnil = []
decode_text (gnum n) = []
decode_text (gcons a b) = number_in a ∷ decode_text b

pub decode_text-encode : (s : List ℕ) → decode_text (encode_text s) ≡ s
decode_text-encode [] = refl
decode_text-encode (x ∷ xs) = ap (λ ys. x ∷ ys) (decode_text-encode xs)

-- the keys of a list
abbrev pub encode_keys : List (List ℕ) → Gv
encode_keys [] = gnil
encode_keys (key ∷ keys) = gcons (encode_text key) (encode_keys keys)

abbrev pub decode_keys : Gv → List (List ℕ)
decode_keys gnil = []
decode_keys (gnum n) = []
decode_keys (gcons a b) = decode_text a ∷ decode_keys b

pub decode_keys-encode : (keys : List (List ℕ)) → decode_keys (encode_keys keys) ≡ keys
decode_keys-encode [] = refl
decode_keys-encode (key ∷ keys) = λ i. decode_text-encode key i ∷ decode_keys-encode keys i

-- ---- expressions

-- an operator is its word
abbrev pub decode_operator : Gv → Operator
decode_operator g = unwrap_or (operator_named (decode_text g)) Add

pub decode_operator-encode : (o : Operator) → decode_operator (encode_text (operator_word o)) ≡ o
decode_operator-encode o =
    ap (λ (w : List ℕ). unwrap_or (operator_named w) Add) (decode_text-encode (operator_word o))
    ∙ ap (λ (found : Option Operator). unwrap_or found Add) (each_is_named o)

abbrev pub encode_expression : Expression → Gv
encode_expression (Text s) = node 0 (encode_text s) gnil gnil gnil
encode_expression (Number (pos n)) = node 1 (gnum n) gnil gnil gnil
encode_expression (Number (negsuc n)) = node 2 (gnum n) gnil gnil gnil
encode_expression (Variable v) = node 3 (gnum v) gnil gnil gnil
encode_expression (Get e) = node 4 (encode_expression e) gnil gnil gnil
encode_expression (Rev e) = node 5 (encode_expression e) gnil gnil gnil
encode_expression (Cat l r) = node 6 (encode_expression l) (encode_expression r) gnil gnil
encode_expression (TextOf e) = node 7 (encode_expression e) gnil gnil gnil
encode_expression (NumOf e) = node 8 (encode_expression e) gnil gnil gnil
encode_expression (Arithmetic o l r) = node 9 (encode_expression l) (encode_expression r) (encode_text (operator_word o)) gnil

abbrev pub decode_expression : Gv → Expression
decode_expression (gcons (gnum t) (gcons a (gcons b (gcons c d)))) =
    let x = decode_expression a in
    let y = decode_expression b in
    alternative (Text [])
    (Text (decode_text a) ∷ Number (pos (number_in a)) ∷ Number (negsuc (number_in a)) ∷ Variable (number_in a)
    ∷ Get x ∷ Rev x ∷ Cat x y ∷ TextOf x ∷ NumOf x ∷ Arithmetic (decode_operator c) x y ∷ []) t
decode_expression _ = Text []

pub decode_expression-encode : (e : Expression) → decode_expression (encode_expression e) ≡ e
decode_expression-encode (Text s) = ap Text (decode_text-encode s)
decode_expression-encode (Number (pos n)) = refl
decode_expression-encode (Number (negsuc n)) = refl
decode_expression-encode (Variable v) = refl
decode_expression-encode (Get e) = ap Get (decode_expression-encode e)
decode_expression-encode (Rev e) = ap Rev (decode_expression-encode e)
decode_expression-encode (Cat l r) = λ i. Cat (decode_expression-encode l i) (decode_expression-encode r i)
decode_expression-encode (TextOf e) = ap TextOf (decode_expression-encode e)
decode_expression-encode (NumOf e) = ap NumOf (decode_expression-encode e)
decode_expression-encode (Arithmetic o l r) =
    λ i. Arithmetic (decode_operator-encode o i) (decode_expression-encode l i) (decode_expression-encode r i)

abbrev pub coded_expression : Coded Expression
coded_expression = code_by Gv coded_tree encode_expression decode_expression decode_expression-encode

-- ---- conditions

abbrev pub encode_condition : Condition → Gv
encode_condition (Equal l r) = node 0 (encode_expression l) (encode_expression r) gnil gnil
encode_condition (Less l r) = node 1 (encode_expression l) (encode_expression r) gnil gnil
encode_condition (Not c) = node 2 (encode_condition c) gnil gnil gnil
encode_condition (And c d) = node 3 (encode_condition c) (encode_condition d) gnil gnil
encode_condition (Or c d) = node 4 (encode_condition c) (encode_condition d) gnil gnil

abbrev pub decode_condition : Gv → Condition
decode_condition (gcons (gnum t) (gcons a (gcons b (gcons c d)))) =
    let x = decode_condition a in
    let y = decode_condition b in
    alternative (Equal (Text []) (Text []))
    (Equal (decode_expression a) (decode_expression b) ∷ Less (decode_expression a) (decode_expression b)
    ∷ Not x ∷ And x y ∷ Or x y ∷ []) t
decode_condition _ = Equal (Text []) (Text [])

pub decode_condition-encode : (c : Condition) → decode_condition (encode_condition c) ≡ c
decode_condition-encode (Equal l r) = λ i. Equal (decode_expression-encode l i) (decode_expression-encode r i)
decode_condition-encode (Less l r) = λ i. Less (decode_expression-encode l i) (decode_expression-encode r i)
decode_condition-encode (Not c) = ap Not (decode_condition-encode c)
decode_condition-encode (And c d) = λ i. And (decode_condition-encode c i) (decode_condition-encode d i)
decode_condition-encode (Or c d) = λ i. Or (decode_condition-encode c i) (decode_condition-encode d i)

abbrev pub coded_condition : Coded Condition
coded_condition = code_by Gv coded_tree encode_condition decode_condition decode_condition-encode

-- ---- statements and blocks

abbrev mutual
  pub encode_statement : Statement → Gv
  encode_statement (Set v e) = node 0 (gnum v) (encode_expression e) gnil gnil
  encode_statement (Put k e l) = node 1 (encode_expression k) (encode_expression e) (gnum l) gnil
  encode_statement (Del k) = node 2 (encode_expression k) gnil gnil gnil
  encode_statement (If c t e) = node 3 (encode_condition c) (encode_block t) (encode_block e) gnil
  encode_statement (For v e n b) = node 4 (gnum v) (encode_expression e) (gnum n) (encode_block b)
  encode_statement (Emit e) = node 5 (encode_expression e) gnil gnil gnil
  encode_statement (Abort e) = node 6 (encode_expression e) gnil gnil gnil

  pub encode_block : Block → Gv
  encode_block End = gnil
  encode_block (Then s b) = gcons (encode_statement s) (encode_block b)

abbrev mutual
  pub decode_statement : Gv → Statement
  decode_statement (gcons (gnum t) (gcons a (gcons b (gcons c d)))) =
      alternative (Emit (Text []))
      (Set (number_in a) (decode_expression b) ∷ Put (decode_expression a) (decode_expression b) (number_in c) ∷ Del (decode_expression a)
      ∷ If (decode_condition a) (decode_block b) (decode_block c) ∷ For (number_in a) (decode_expression b) (number_in c) (decode_block d)
      ∷ Emit (decode_expression a) ∷ Abort (decode_expression a) ∷ []) t
  decode_statement _ = Emit (Text [])

  pub decode_block : Gv → Block
  decode_block gnil = End
  decode_block (gnum n) = End
  decode_block (gcons a b) = Then (decode_statement a) (decode_block b)

mutual
  pub decode_statement-encode : (s : Statement) → decode_statement (encode_statement s) ≡ s
  decode_statement-encode (Set v e) = ap (Set v) (decode_expression-encode e)
  decode_statement-encode (Put k e l) = λ i. Put (decode_expression-encode k i) (decode_expression-encode e i) l
  decode_statement-encode (Del k) = ap Del (decode_expression-encode k)
  decode_statement-encode (If c t e) = λ i. If (decode_condition-encode c i) (decode_block-encode t i) (decode_block-encode e i)
  decode_statement-encode (For v e n b) = λ i. For v (decode_expression-encode e i) n (decode_block-encode b i)
  decode_statement-encode (Emit e) = ap Emit (decode_expression-encode e)
  decode_statement-encode (Abort e) = ap Abort (decode_expression-encode e)

  pub decode_block-encode : (b : Block) → decode_block (encode_block b) ≡ b
  decode_block-encode End = refl
  decode_block-encode (Then s b) = λ i. Then (decode_statement-encode s i) (decode_block-encode b i)

abbrev pub coded_statement : Coded Statement
coded_statement = code_by Gv coded_tree encode_statement decode_statement decode_statement-encode

abbrev pub coded_block : Coded Block
coded_block = code_by Gv coded_tree encode_block decode_block decode_block-encode

-- ---- programs

abbrev pub encode_program : ProgramTree → Gv
encode_program p = gcons (encode_keys p.prefetch) (encode_block p.statements)

abbrev pub decode_program : Gv → ProgramTree
decode_program (gcons a b) = record { statements = decode_block b; prefetch = decode_keys a }
decode_program _ = of_statements End

pub decode_program-encode : (p : ProgramTree) → decode_program (encode_program p) ≡ p
decode_program-encode p = λ i. record { statements = decode_block-encode p.statements i; prefetch = decode_keys-encode p.prefetch i }

abbrev pub coded_program : Coded ProgramTree
coded_program = code_by Gv coded_tree encode_program decode_program decode_program-encode
