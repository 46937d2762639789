-- Reading a program: the value that data spell, or the first fault. At each node the depth is checked first, then the
-- number of nodes, then the shape, and then the elements in order. A reader is given how many levels and how many nodes
-- are left, and answers how many nodes are left after it.
use Rattle.std.specs.Prelude.{ℕ, zero, suc, List, [], ◌∷◌, ◌++◌, length, Bool, true, false, ◌||◌, bytes_eq, Option, Some, None, Ok, is_some}
use Rattle.std.specs.Prelude.{if◌then◌else◌, nat_eq, nat_le, nat_lt, codes}
use Rattle.std.specs.List.{list_any}
use Rattle.serde_json.specs.Data.{Data, Items, no_items, item}
use Rattle.serde_json.specs.Find.{as_str, as_array, as_number}
use Rattle.stm_json.specs.declared.cause.Cause.TheVariants.{Shape, TooDeep, TooManyNodes, TooLong, TooMany}
use Rattle.stm_program_json.specs.declared.words.ExprWord.{ExprWord}
use Rattle.stm_program_json.specs.declared.words.ExprWord.TheVariants as word
use Rattle.stm_program_json.specs.declared.words.Unary.{Unary}
use Rattle.stm_program_json.specs.declared.words.Unary.TheVariants as unary
use Rattle.stm_program_json.specs.declared.words.Binary.{Binary}
use Rattle.stm_program_json.specs.declared.words.Binary.TheVariants as binary
use Rattle.stm_program_json.specs.declared.words.CondWord.{CondWord}
use Rattle.stm_program_json.specs.declared.words.CondWord.TheVariants as condition
use Rattle.stm_program_json.specs.declared.words.Comparison.{Comparison}
use Rattle.stm_program_json.specs.declared.words.Comparison.TheVariants as comparison
use Rattle.stm_program_json.specs.declared.words.Connective.{Connective}
use Rattle.stm_program_json.specs.declared.words.Connective.TheVariants as connective
use Rattle.stm_program_json.specs.declared.words.StmtWord.{StmtWord}
use Rattle.stm_program_json.specs.declared.words.StmtWord.TheVariants as statement
use Rattle.stm_program_json.specs.declared.words.Simple.{Simple}
use Rattle.stm_program_json.specs.declared.words.Simple.TheVariants as simple
use Rattle.stm_program.specs.declared.limits.TheConstants.{MAX_DEPTH, MAX_NODES, MAX_PREFETCH, MAX_TEXT, MAX_TURNS, MAX_VARIABLE, MAX_LEASE}
use Rattle.stm_program.specs.Syntax.{Expression, Text, Number, Variable, Get, Rev, Arithmetic, Cat, TextOf, NumOf, Condition, Equal, Less, Not, And, Or}
use Rattle.stm_program.specs.Syntax.{Statement, Set, Put, Del, If, For, Emit, Abort, Block, End, Then, ProgramTree, of_statements}
use Rattle.stm_program_json.specs.Words.{expression_word, condition_word, statement_word}
use Rattle.stm_json.specs.Outcome.{Outcome, bad, ◌>>=◌, within}
use Rattle.stm_json.specs.Parts.{same}
use Rattle.stm_json.specs.Elements.{worded, one_of, two_of, three_of, four_of, number_up_to, whole_number}

-- a tree, and how many nodes are left after it
abbrev pub Read : Type 0 → Type 0
Read A = Outcome (A × ℕ)

-- a node of one part, and one of two parts
abbrev pub one_part : {A B : Type 0} → (ℕ → Data → Read A) → (A → B) → ℕ → Option Data → Read B
one_part read make room None = bad Shape
one_part read make room (Some d) = within 1 (read room d) >>= λ x. Ok (make x.0, x.1)

abbrev pub two_parts : {A B : Type 0} → (ℕ → Data → Read A) → (A → A → B) → ℕ → Option (Data × Data) → Read B
two_parts read make room None = bad Shape
two_parts read make room (Some p) = within 1 (read room p.0) >>= λ x. within 2 (read x.1 p.1) >>= λ y. Ok (make x.0 y.0, y.1)

-- ---- expressions

abbrev pub unary_of : Unary → Expression → Expression
unary_of unary.Get e = Get e
unary_of unary.Rev e = Rev e
unary_of unary.TextOf e = TextOf e
unary_of unary.NumOf e = NumOf e

abbrev pub binary_of : Binary → Expression → Expression → Expression
binary_of (binary.Arithmetic o) l r = Arithmetic o l r
binary_of binary.Cat l r = Cat l r

abbrev pub literal : ℕ → List ℕ → Read Expression
literal room s = if nat_le (length s) MAX_TEXT then Ok (Text s, room) else bad TooLong

abbrev pub variable : ℕ → Option Data → Read Expression
variable room None = bad Shape
variable room (Some d) = within 1 (number_up_to MAX_VARIABLE d) >>= λ v. Ok (Variable v, room)

abbrev pub expression_named : (ℕ → Data → Read Expression) → ℕ → Option ExprWord → Items → Read Expression
expression_named read room None ds = bad Shape
expression_named read room (Some word.Var) ds = variable room (one_of ds)
expression_named read room (Some (word.Unary u)) ds = one_part read (unary_of u) room (one_of ds)
expression_named read room (Some (word.Binary b)) ds = two_parts read (binary_of b) room (two_of ds)

abbrev pub expression_array : (ℕ → Data → Read Expression) → ℕ → Option (List ℕ × Items) → Read Expression
expression_array read room None = bad Shape
expression_array read room (Some p) = expression_named read room (expression_word p.0) p.1

-- a text, a number, or an array that begins with a word
abbrev pub expression_kind : (ℕ → Data → Read Expression) → ℕ → Data → Option (List ℕ) → Bool → Read Expression
expression_kind read room d (Some s) is_number = literal room s
expression_kind read room d None true = whole_number d >>= λ z. Ok (Number z, room)
expression_kind read room d None false = expression_array read room (worded d)

unfoldable pub expression_body : (ℕ → Data → Read Expression) → ℕ → Data → Read Expression
expression_body read room d = expression_kind read room d (as_str d) (is_some (as_number d))

unfoldable pub expression_at : ℕ → ℕ → Data → Read Expression
expression_at zero room d = bad TooDeep
expression_at (suc levels) zero d = bad TooManyNodes
expression_at (suc levels) (suc room) d = expression_body (expression_at levels) room d

-- ---- conditions

abbrev pub comparison_of : Comparison → Expression → Expression → Condition
comparison_of comparison.Equal l r = Equal l r
comparison_of comparison.Less l r = Less l r

abbrev pub connective_of : Connective → Condition → Condition → Condition
connective_of connective.And c d = And c d
connective_of connective.Or c d = Or c d

abbrev pub condition_named : (ℕ → Data → Read Expression) → (ℕ → Data → Read Condition) → ℕ → Option CondWord → Items → Read Condition
condition_named expression read room None ds = bad Shape
condition_named expression read room (Some (condition.Comparison c)) ds = two_parts expression (comparison_of c) room (two_of ds)
condition_named expression read room (Some condition.Not) ds = one_part read Not room (one_of ds)
condition_named expression read room (Some (condition.Connective c)) ds = two_parts read (connective_of c) room (two_of ds)

abbrev pub condition_array : (ℕ → Data → Read Expression) → (ℕ → Data → Read Condition) → ℕ → Option (List ℕ × Items) → Read Condition
condition_array expression read room None = bad Shape
condition_array expression read room (Some p) = condition_named expression read room (condition_word p.0) p.1

unfoldable pub condition_at : ℕ → ℕ → Data → Read Condition
condition_at zero room d = bad TooDeep
condition_at (suc levels) zero d = bad TooManyNodes
condition_at (suc levels) (suc room) d = condition_array (expression_at levels) (condition_at levels) room (worded d)

-- ---- statements and blocks

abbrev pub simple_of : Simple → Expression → Statement
simple_of simple.Del e = Del e
simple_of simple.Emit e = Emit e
simple_of simple.Abort e = Abort e

abbrev pub set_of : (ℕ → Data → Read Expression) → ℕ → Option (Data × Data) → Read Statement
set_of expression room None = bad Shape
set_of expression room (Some p) =
    within 1 (number_up_to MAX_VARIABLE p.0) >>= λ v. within 2 (expression room p.1) >>= λ e. Ok (Set v e.0, e.1)

abbrev pub put_of : (ℕ → Data → Read Expression) → ℕ → Option (Data × Data × Data) → Read Statement
put_of expression room None = bad Shape
put_of expression room (Some p) =
    within 1 (expression room p.0) >>= λ k. within 2 (expression k.1 p.1) >>= λ e. within 3 (number_up_to MAX_LEASE p.2) >>= λ l. Ok (Put k.0 e.0 l, e.1)

abbrev pub if_of : (ℕ → Data → Read Condition) → (ℕ → Data → Read Block) → ℕ → Option (Data × Data × Data) → Read Statement
if_of condition block room None = bad Shape
if_of condition block room (Some p) =
    within 1 (condition room p.0) >>= λ c. within 2 (block c.1 p.1) >>= λ t. within 3 (block t.1 p.2) >>= λ e. Ok (If c.0 t.0 e.0, e.1)

abbrev pub for_of : (ℕ → Data → Read Expression) → (ℕ → Data → Read Block) → ℕ → Option (Data × Data × Data × Data) → Read Statement
for_of expression block room None = bad Shape
for_of expression block room (Some p) =
    within 1 (number_up_to MAX_VARIABLE p.0) >>= λ v. within 2 (expression room p.1) >>= λ e. within 3 (number_up_to MAX_TURNS p.2) >>= λ n. within 4
    (block e.1 p.3) >>= λ b. Ok (For v e.0 n b.0, b.1)

abbrev pub statement_named : (ℕ → Data → Read Expression) → (ℕ → Data → Read Condition) → (ℕ → Data → Read Block) → ℕ → Option StmtWord → Items → Read Statement
statement_named expression condition block room None ds = bad Shape
statement_named expression condition block room (Some statement.Set) ds = set_of expression room (two_of ds)
statement_named expression condition block room (Some statement.Put) ds = put_of expression room (three_of ds)
statement_named expression condition block room (Some statement.If) ds = if_of condition block room (three_of ds)
statement_named expression condition block room (Some statement.For) ds = for_of expression block room (four_of ds)
statement_named expression condition block room (Some (statement.Simple s)) ds = one_part expression (simple_of s) room (one_of ds)

abbrev pub statement_array : (ℕ → Data → Read Expression) → (ℕ → Data → Read Condition) → (ℕ → Data → Read Block) → ℕ → Option (List ℕ × Items) → Read Statement
statement_array expression condition block room None = bad Shape
statement_array expression condition block room (Some p) = statement_named expression condition block room (statement_word p.0) p.1

-- the statements from an index on
unfoldable pub statements_from : (ℕ → Data → Read Statement) → ℕ → ℕ → Items → Read Block
statements_from read index room no_items = Ok (End, room)
statements_from read index room (item d ds) =
    within index (read room d) >>= λ s. statements_from read (suc index) s.1 ds >>= λ b. Ok (Then s.0 b.0, b.1)

abbrev pub block_list : (ℕ → Data → Read Statement) → ℕ → Option Items → Read Block
block_list read room None = bad Shape
block_list read room (Some ds) = statements_from read 0 room ds

-- an array of statements
unfoldable pub block_by : (ℕ → Data → Read Statement) → ℕ → Data → Read Block
block_by read room d = block_list read room (as_array d)

unfoldable pub statement_at : ℕ → ℕ → Data → Read Statement
statement_at zero room d = bad TooDeep
statement_at (suc levels) zero d = bad TooManyNodes
statement_at (suc levels) (suc room) d =
    statement_array (expression_at levels) (condition_at levels) (block_by (statement_at levels)) room (worded d)

-- ---- the list of keys that a program may begin with: it is no node

-- a key that comes after these
abbrev pub key_reported : List (List ℕ) → Option (List ℕ) → Outcome (List ℕ)
key_reported earlier None = bad Shape
key_reported earlier (Some s) =
    if nat_eq (length s) 0 || list_any (bytes_eq s) earlier then bad Shape else (if nat_lt MAX_TEXT (length s) then bad TooLong else Ok s)

abbrev pub key_at : List (List ℕ) → Data → Outcome (List ℕ)
key_at earlier d = if nat_lt (length earlier) MAX_PREFETCH then key_reported earlier (as_str d) else bad TooMany

-- these keys, and the others after them
unfoldable pub keys_from : List (List ℕ) → Items → Outcome (List (List ℕ))
keys_from earlier no_items = Ok earlier
keys_from earlier (item d ds) = within (length earlier) (key_at earlier d) >>= λ key. keys_from (earlier ++ key ∷ []) ds

abbrev pub keys_array : Option Items → Outcome (List (List ℕ))
keys_array None = bad Shape
keys_array (Some ds) = keys_from [] ds

-- nothing but the array of keys follows the word
abbrev pub list_of : Option Data → Outcome (List (List ℕ))
list_of None = bad Shape
list_of (Some d) = within 1 (keys_array (as_array d))

-- what follows the word, where an array begins with it
abbrev pub list_parts : Option (List ℕ × Items) → Option Items
list_parts None = None
list_parts (Some p) = if same p.0 (codes "prefetch") then Some p.1 else None

-- ---- programs

-- with a list as the first element, and without
abbrev pub program_after : Option Items → Items → Items → Outcome ProgramTree
program_after (Some parts) all rest =
    within 0 (list_of (one_of parts)) >>= λ keys. statements_from (statement_at MAX_DEPTH) 1 MAX_NODES rest >>= λ b. Ok
    (record { statements = b.0; prefetch = keys })
program_after None all rest = statements_from (statement_at MAX_DEPTH) 0 MAX_NODES all >>= λ b. Ok (of_statements b.0)

abbrev pub program_list : Option Items → Outcome ProgramTree
program_list None = bad Shape
program_list (Some no_items) = Ok (of_statements End)
program_list (Some (item d ds)) = program_after (list_parts (worded d)) (item d ds) ds

-- The index of the first statement of a program among the elements that spell it: it stands after a list, also after one of no keys.
abbrev pub first_among : Option Items → ℕ
first_among None = 0
first_among (Some no_items) = 0
first_among (Some (item d ds)) = if is_some (list_parts (worded d)) then 1 else 0

abbrev pub first_statement : Data → ℕ
first_statement d = first_among (as_array d)

-- the program that data spell, or the first fault
unfoldable pub program_of : Data → Outcome ProgramTree
program_of d = program_list (as_array d)
