-- Which data spell which program: the grammar, apart from reading.
use Rattle.std.specs.Prelude.{◌≡◌, ◌⊎◌, ℕ, pos, List, [], ◌∷◌, codes}
use Rattle.serde_json.specs.Data.{Data, string, array, Items, no_items, item}
use Rattle.stm_json.specs.Elements.{SpellsNumber}
use Rattle.stm_program.specs.Operators.{operator_word}
use Rattle.stm_program.specs.Syntax.{Expression, Text, Number, Variable, Get, Rev, Arithmetic, Cat, TextOf, NumOf, Condition, Equal, Less, Not, And, Or}
use Rattle.stm_program.specs.Syntax.{Statement, Set, Put, Del, If, For, Emit, Abort, Block, End, Then, ProgramTree}
use Rattle.stm_json.specs.Parts.{spelled}

abbrev pub SpellsExpression : Data → Expression → Type 0
SpellsExpression d (Text s) = d ≡ string s
SpellsExpression d (Number z) = SpellsNumber d z
SpellsExpression d (Variable v) = (a : Data) × (d ≡ spelled (codes "var") (a ∷ [])) × SpellsNumber a (pos v)
SpellsExpression d (Get e) = (a : Data) × (d ≡ spelled (codes "get") (a ∷ [])) × SpellsExpression a e
SpellsExpression d (Rev e) = (a : Data) × (d ≡ spelled (codes "rev") (a ∷ [])) × SpellsExpression a e
SpellsExpression d (Arithmetic o l r) = (a : Data) × (b : Data) × (d ≡ spelled (operator_word o) (a ∷ b ∷ [])) × SpellsExpression a l × SpellsExpression b r
SpellsExpression d (Cat l r) = (a : Data) × (b : Data) × (d ≡ spelled (codes "cat") (a ∷ b ∷ [])) × SpellsExpression a l × SpellsExpression b r
SpellsExpression d (TextOf e) = (a : Data) × (d ≡ spelled (codes "text_of") (a ∷ [])) × SpellsExpression a e
SpellsExpression d (NumOf e) = (a : Data) × (d ≡ spelled (codes "num_of") (a ∷ [])) × SpellsExpression a e

abbrev pub SpellsCondition : Data → Condition → Type 0
SpellsCondition d (Equal l r) = (a : Data) × (b : Data) × (d ≡ spelled (codes "eq") (a ∷ b ∷ [])) × SpellsExpression a l × SpellsExpression b r
SpellsCondition d (Less l r) = (a : Data) × (b : Data) × (d ≡ spelled (codes "less") (a ∷ b ∷ [])) × SpellsExpression a l × SpellsExpression b r
SpellsCondition d (Not c) = (a : Data) × (d ≡ spelled (codes "not") (a ∷ [])) × SpellsCondition a c
SpellsCondition d (And l r) = (a : Data) × (b : Data) × (d ≡ spelled (codes "and") (a ∷ b ∷ [])) × SpellsCondition a l × SpellsCondition b r
SpellsCondition d (Or l r) = (a : Data) × (b : Data) × (d ≡ spelled (codes "or") (a ∷ b ∷ [])) × SpellsCondition a l × SpellsCondition b r

-- a block is spelled by an array of what spells its statements, in order
abbrev mutual
  pub SpellsStatement : Data → Statement → Type 0
  SpellsStatement d (Set v e) = (a : Data) × (b : Data) × (d ≡ spelled (codes "set") (a ∷ b ∷ [])) × SpellsNumber a (pos v) × SpellsExpression b e
  SpellsStatement d (Put k e l) = (a : Data) × (b : Data) × (c : Data) × (d ≡ spelled (codes "put") (a ∷ b ∷ c ∷ [])) × SpellsExpression a k
      × SpellsExpression b e × SpellsNumber c (pos l)
  SpellsStatement d (Del k) = (a : Data) × (d ≡ spelled (codes "del") (a ∷ [])) × SpellsExpression a k
  SpellsStatement d (If i t e) = (a : Data) × (b : Items) × (c : Items) × (d ≡ spelled (codes "if") (a ∷ array b ∷ array c ∷ [])) × SpellsCondition a i
      × SpellsStatements b t × SpellsStatements c e
  SpellsStatement d (For v e n s) = (a : Data) × (b : Data) × (c : Data) × (f : Items) × (d ≡ spelled (codes "for") (a ∷ b ∷ c ∷ array f ∷ []))
      × SpellsNumber a (pos v) × SpellsExpression b e × SpellsNumber c (pos n) × SpellsStatements f s
  SpellsStatement d (Emit e) = (a : Data) × (d ≡ spelled (codes "emit") (a ∷ [])) × SpellsExpression a e
  SpellsStatement d (Abort e) = (a : Data) × (d ≡ spelled (codes "abort") (a ∷ [])) × SpellsExpression a e

  pub SpellsStatements : Items → Block → Type 0
  SpellsStatements ds End = ds ≡ no_items
  SpellsStatements ds (Then s b) = (a : Data) × (rest : Items) × (ds ≡ item a rest) × SpellsStatement a s × SpellsStatements rest b

-- keys, one after another
abbrev pub SpellsKeys : Items → List (List ℕ) → Type 0
SpellsKeys ds [] = ds ≡ no_items
SpellsKeys ds (key ∷ keys) = (rest : Items) × (ds ≡ item (string key) rest) × SpellsKeys rest keys

-- a list is spelled by an array of its keys after a word
abbrev pub SpellsList : Data → List (List ℕ) → Type 0
SpellsList d keys = (ks : Items) × (d ≡ spelled (codes "prefetch") (array ks ∷ [])) × SpellsKeys ks keys

-- the statements alone, where the program has no list, or after its list
abbrev pub SpellsElements : Items → ProgramTree → Type 0
SpellsElements ds p =
    ((p.prefetch ≡ []) × SpellsStatements ds p.statements)
    ⊎ ((a : Data) × (rest : Items) × (ds ≡ item a rest) × SpellsList a p.prefetch × SpellsStatements rest p.statements)

-- a program is spelled by an array of these
abbrev pub SpellsProgram : Data → ProgramTree → Type 0
SpellsProgram d p = (ds : Items) × (d ≡ array ds) × SpellsElements ds p
