-- What is written of a program spells it, and so reads as it again.
use Rattle.std.proofs.Common.{◌≡◌, ℕ, ℤ, pos, negsuc, List, [], ◌∷◌, Ok, refl, sym, ap, ◌∙◌, subst, arith}
use Rattle.std.proofs.lemmas.Bool.Decides.{nat_tests}
use Rattle.serde_json.specs.Data.{Data, number, unsigned, negative, array}
use Rattle.serde_json.specs.Find.{of_integer}
use Rattle.stm_program.specs.Syntax.{Expression, Text, Number, Variable, Get, Rev, Arithmetic, Cat, TextOf, NumOf, Condition, Equal, Less, Not, And, Or}
use Rattle.stm_program.specs.Syntax.{Statement, Set, Put, Del, If, For, Emit, Abort, Block, End, Then, ProgramTree}
use Rattle.stm_program.specs.Limits.{Fits}
use Rattle.stm_program_json.specs.Grammar.{SpellsExpression, SpellsCondition, SpellsStatement, SpellsStatements, SpellsKeys, SpellsProgram}
use Rattle.stm_json.specs.Elements.{SpellsNumber}
use Rattle.stm_program_json.specs.Reading.{program_of}
use Rattle.stm_program_json.specs.Writing.{written_number, written_expression, written_condition, written_statement, written_statements, written_keys, after_list, written_program}
use Rattle.stm_program_json.proofs.StatementComplete.{program_reads}

number_spells : (z : ℤ) → SpellsNumber (number (of_integer z)) z
number_spells (pos n) = (unsigned n, refl, refl)
number_spells (negsuc n) = (negative (negsuc n), refl, refl)

expression_spells : (e : Expression) → SpellsExpression (written_expression e) e
expression_spells (Text s) = refl
expression_spells (Number z) = number_spells z
expression_spells (Variable v) = (written_number v, refl, number_spells (pos v))
expression_spells (Get e) = (written_expression e, refl, expression_spells e)
expression_spells (Rev e) = (written_expression e, refl, expression_spells e)
expression_spells (Arithmetic o l r) = (written_expression l, written_expression r, refl, expression_spells l, expression_spells r)
expression_spells (Cat l r) = (written_expression l, written_expression r, refl, expression_spells l, expression_spells r)
expression_spells (TextOf e) = (written_expression e, refl, expression_spells e)
expression_spells (NumOf e) = (written_expression e, refl, expression_spells e)

condition_spells : (c : Condition) → SpellsCondition (written_condition c) c
condition_spells (Equal l r) = (written_expression l, written_expression r, refl, expression_spells l, expression_spells r)
condition_spells (Less l r) = (written_expression l, written_expression r, refl, expression_spells l, expression_spells r)
condition_spells (Not c) = (written_condition c, refl, condition_spells c)
condition_spells (And c d) = (written_condition c, written_condition d, refl, condition_spells c, condition_spells d)
condition_spells (Or c d) = (written_condition c, written_condition d, refl, condition_spells c, condition_spells d)

mutual
  statement_spells : (s : Statement) → SpellsStatement (written_statement s) s
  statement_spells (Set v e) = (written_number v, written_expression e, refl, number_spells (pos v), expression_spells e)
  statement_spells (Put k e l) = (
    written_expression k,
    written_expression e,
    written_number l,
    refl,
    expression_spells k,
    expression_spells e,
    number_spells
        (pos l),
  )
  statement_spells (Del k) = (written_expression k, refl, expression_spells k)
  statement_spells (If c t e) =
      (written_condition c, written_statements t, written_statements e, refl, condition_spells c, statements_spell t, statements_spell e)
  statement_spells (For v e n b) = (
    written_number v,
    written_expression e,
    written_number n,
    written_statements b,
    refl,
    number_spells
        (pos v),
    expression_spells e,
    number_spells (pos n),
    statements_spell b,
  )
  statement_spells (Emit e) = (written_expression e, refl, expression_spells e)
  statement_spells (Abort e) = (written_expression e, refl, expression_spells e)

  statements_spell : (b : Block) → SpellsStatements (written_statements b) b
  statements_spell End = refl
  statements_spell (Then s b) = (written_statement s, written_statements b, refl, statement_spells s, statements_spell b)

keys_spell : (keys : List (List ℕ)) → SpellsKeys (written_keys keys) keys
keys_spell [] = refl
keys_spell (key ∷ keys) = (written_keys keys, refl, keys_spell keys)

pub written_program-spells : (p : ProgramTree) → SpellsProgram (written_program p) p
written_program-spells p = grind (arith, nat_tests, statements_spell, keys_spell)

-- the same, for data, keys and statements that are equal to these
pub written_as : (d : Data) (keys : List (List ℕ)) (b : Block) (p : ProgramTree) → d ≡ array (after_list keys (written_statements b)) → keys ≡ p.prefetch
    → b ≡ p.statements → d ≡ written_program p
written_as d keys b p e f g =
    e ∙ ap (λ (ks : List (List ℕ)). array (after_list ks (written_statements b))) f
    ∙ ap (λ (c : Block). array (after_list p.prefetch (written_statements c))) g

pub spells_as : (d : Data) (p : ProgramTree) → d ≡ written_program p → SpellsProgram d p
spells_as d p e = subst (λ (x : Data). SpellsProgram x p) (sym e) (written_program-spells p)

pub reads_as : (d : Data) (p : ProgramTree) → d ≡ written_program p → Fits p → program_of d ≡ Ok p
reads_as d p e fits = program_reads d p (spells_as d p e) fits
