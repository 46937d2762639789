-- One turn of each reader that reads one thing after the other, at turn i of n: what it answers is what all of it does.
use Rattle.std.proofs.Common.{◌≡◌, ℕ, suc, ◌-◌, ◌+◌, ◌<◌, ◌≤◌, List, [], ◌∷◌, ◌++◌, Bool, true, false, Option, Some, None, Ok, Err, refl, sym, ap, ◌∙◌, arith}
use Rattle.std.proofs.lemmas.List.{append-nil, append_assoc}
use Rattle.stm_tokens.specs.declared.token.Token.{Token}
use Rattle.stm_tokens.specs.declared.token.Symbol.TheVariants.{Comma, And, RightBrace, RightParenthesis}
use Rattle.stm_outcome.specs.declared.txn.Compare.{Compare}
use Rattle.stm_outcome.specs.declared.txn.Op.{Op}
use Rattle.stm_program.specs.Syntax.{ProgramTree}
use Rattle.stm_terms.specs.declared.faults.BadSource.{BadSource}
use Rattle.stm_terms.specs.declared.faults.SourceError.{SourceError}
use Rattle.stm_terms.specs.declared.faults.SourceError.TheVariants.{OutOfMemory, Bad}
use Rattle.stm_source.specs.declared.starts.Options.{Options}
use Rattle.stm_terms.specs.declared.constants.Constants.{Constants}
use Rattle.stm_terms.specs.declared.scope.Scope.{Scope}
use Rattle.stm_terms.specs.declared.arguments.Argument.TheVariants.{Either}
use Rattle.stm_terms.specs.declared.arguments.Given.{Given}
use Rattle.stm_source.specs.declared.definitions.Definitions.{Definitions}
use Rattle.stm_source.specs.declared.story.Story.{Story}
use Rattle.stm_terms.specs.Cursor.{unexpected, after_symbol, expect_symbol, skip_semicolon}
use Rattle.stm_source.specs.Events.{copies, is_turn, turn_at, turns_from, new_name_at, ReadNames, names_from, next_option, options_from, start_one, start_named}
use Rattle.stm_terms.specs.Outcome.{Outcome, Read, ReturnsFault}
use Rattle.stm_terms.specs.Literals.{argument_at, given_as}
use Rattle.stm_source.specs.Definitions.{arguments_from, free_name_at, ReadParameters, parameters_end, parameters_from, open_given}
use Rattle.stm_source.specs.Constants as constants
use Rattle.stm_source.specs.Constants.{parameter_at}
use Rattle.stm_source.specs.Programs.{key_at, with_key, keys_from}
use Rattle.stm_source.specs.Sources.{at_end, item_at, items_from}
use Rattle.stm_source.specs.Txns.{compare_at, compares_from, operation_at, operations_from}

-- the fault of a part is that of the whole
pub fault_of : {A B : Type 0} (e : SourceError) (part : Outcome A) (whole : Outcome B) → ((f : BadSource) → part ≡ Err f → whole ≡ Err f)
    → ReturnsFault e part → ReturnsFault e whole
fault_of OutOfMemory part whole passes h = tt
fault_of (Bad f) part whole passes h = passes f h

-- ---- keys

pub keys_fault : (e : SourceError) (g : Scope) (n i : ℕ) (xs : List (List ℕ)) (tokens : List Token) (total : Read (List (List ℕ))) → i < n
    → ReturnsFault e (key_at g xs tokens) → keys_from g (n - i) xs tokens ≡ total → ReturnsFault e total
unfolding keys_from
keys_fault e g n i xs tokens total less is so_far =
    let k : n - i ≡ suc (n - (i + 1)) = omega arith in
    fault_of e (key_at g xs tokens) total (λ f bad. let one : keys_from g (n - i) xs tokens ≡ Err f = rw (k, bad) refl in sym so_far ∙ one) is

pub keys_more : (g : Scope) (n i : ℕ) (xs : List (List ℕ)) (x : Option (List ℕ)) (tokens behind next : List Token) (total : Read (List (List ℕ))) → i < n
    → key_at g xs tokens ≡ Ok (x, behind) → after_symbol Comma behind ≡ Some next → keys_from g (n - i) xs tokens ≡ total
    → keys_from g (n - (i + 1)) (with_key xs x) next ≡ total
unfolding keys_from
keys_more g n i xs x tokens behind next total less is follows so_far =
    let k : n - i ≡ suc (n - (i + 1)) = omega arith in
    let one : keys_from g (n - i) xs tokens ≡ keys_from g (n - (i + 1)) (with_key xs x) next = rw (k, is, follows) refl in
    sym one ∙ so_far

pub keys_over : (e : SourceError) (g : Scope) (n i : ℕ) (xs : List (List ℕ)) (tokens : List Token) (total : Read (List (List ℕ))) → n ≤ i
    → e ≡ Bad (unexpected tokens) → keys_from g (n - i) xs tokens ≡ total → ReturnsFault e total
unfolding keys_from
keys_over e g n i xs tokens total over is so_far =
    let k : n - i ≡ 0 = omega arith in
    let one : keys_from g (n - i) xs tokens ≡ Err (unexpected tokens) = rw k refl in
    rw is (sym so_far ∙ one)

pub keys_last : (g : Scope) (n i : ℕ) (xs : List (List ℕ)) (x : Option (List ℕ)) (tokens behind rest : List Token) (total : Read (List (List ℕ))) → i < n
    → key_at g xs tokens ≡ Ok (x, behind) → after_symbol Comma behind ≡ None → expect_symbol RightParenthesis behind ≡ Ok rest
    → keys_from g (n - i) xs tokens ≡ total → total ≡ Ok (with_key xs x, rest)
unfolding keys_from
keys_last g n i xs x tokens behind rest total less is ends closed so_far =
    let k : n - i ≡ suc (n - (i + 1)) = omega arith in
    let one : keys_from g (n - i) xs tokens ≡ Ok (with_key xs x, rest) = rw (k, is, ends, closed) refl in
    sym so_far ∙ one

pub keys_unclosed : (e : SourceError) (g : Scope) (n i : ℕ) (xs : List (List ℕ)) (x : Option (List ℕ)) (tokens behind : List Token)
    (total : Read (List (List ℕ))) → i < n → key_at g xs tokens ≡ Ok (x, behind) → after_symbol Comma behind ≡ None
    → ReturnsFault e (expect_symbol RightParenthesis behind) → keys_from g (n - i) xs tokens ≡ total → ReturnsFault e total
unfolding keys_from
keys_unclosed e g n i xs x tokens behind total less is ends unclosed so_far =
    let k : n - i ≡ suc (n - (i + 1)) = omega arith in
    fault_of e (expect_symbol RightParenthesis behind) total
    (λ f bad. let one : keys_from g (n - i) xs tokens ≡ Err f = rw (k, is, ends, bad) refl in sym so_far ∙ one) unclosed

-- ---- arguments

pub arguments_fault : (e : SourceError) (cs : Constants) (n i : ℕ) (xs : List Given) (tokens : List Token) (total : Read (List Given)) → i < n
    → ReturnsFault e (argument_at cs tokens) → arguments_from cs (n - i) xs tokens ≡ total → ReturnsFault e total
unfolding arguments_from
arguments_fault e cs n i xs tokens total less is so_far =
    let k : n - i ≡ suc (n - (i + 1)) = omega arith in
    fault_of e (argument_at cs tokens) total (λ f bad. let one : arguments_from cs (n - i) xs tokens ≡ Err f = rw (k, bad) refl in sym so_far ∙ one) is

pub arguments_more : (cs : Constants) (n i : ℕ) (xs : List Given) (x : Given) (tokens behind next : List Token) (total : Read (List Given)) → i < n
    → argument_at cs tokens ≡ Ok (x, behind) → after_symbol Comma behind ≡ Some next → arguments_from cs (n - i) xs tokens ≡ total
    → arguments_from cs (n - (i + 1)) (xs ++ x ∷ []) next ≡ total
unfolding arguments_from
arguments_more cs n i xs x tokens behind next total less is follows so_far =
    let k : n - i ≡ suc (n - (i + 1)) = omega arith in
    let one : arguments_from cs (n - i) xs tokens ≡ arguments_from cs (n - (i + 1)) (xs ++ x ∷ []) next = rw (k, is, follows) refl in
    sym one ∙ so_far

pub arguments_over : (e : SourceError) (cs : Constants) (n i : ℕ) (xs : List Given) (tokens : List Token) (total : Read (List Given)) → n ≤ i
    → e ≡ Bad (unexpected tokens) → arguments_from cs (n - i) xs tokens ≡ total → ReturnsFault e total
unfolding arguments_from
arguments_over e cs n i xs tokens total over is so_far =
    let k : n - i ≡ 0 = omega arith in
    let one : arguments_from cs (n - i) xs tokens ≡ Err (unexpected tokens) = rw k refl in
    rw is (sym so_far ∙ one)

pub arguments_last : (cs : Constants) (n i : ℕ) (xs : List Given) (x : Given) (tokens behind rest : List Token) (total : Read (List Given)) → i < n
    → argument_at cs tokens ≡ Ok (x, behind) → after_symbol Comma behind ≡ None → expect_symbol RightParenthesis behind ≡ Ok rest
    → arguments_from cs (n - i) xs tokens ≡ total → total ≡ Ok (xs ++ x ∷ [], rest)
unfolding arguments_from
arguments_last cs n i xs x tokens behind rest total less is ends closed so_far =
    let k : n - i ≡ suc (n - (i + 1)) = omega arith in
    let one : arguments_from cs (n - i) xs tokens ≡ Ok (xs ++ x ∷ [], rest) = rw (k, is, ends, closed) refl in
    sym so_far ∙ one

pub arguments_unclosed : (e : SourceError) (cs : Constants) (n i : ℕ) (xs : List Given) (x : Given) (tokens behind : List Token) (total : Read (List Given)) → i < n
    → argument_at cs tokens ≡ Ok (x, behind) → after_symbol Comma behind ≡ None → ReturnsFault e (expect_symbol RightParenthesis behind)
    → arguments_from cs (n - i) xs tokens ≡ total → ReturnsFault e total
unfolding arguments_from
arguments_unclosed e cs n i xs x tokens behind total less is ends unclosed so_far =
    let k : n - i ≡ suc (n - (i + 1)) = omega arith in
    fault_of e (expect_symbol RightParenthesis behind) total
    (λ f bad. let one : arguments_from cs (n - i) xs tokens ≡ Err f = rw (k, is, ends, bad) refl in sym so_far ∙ one) unclosed

-- ---- parameters

pub parameters_fault : (e : SourceError) (cs : Constants) (n i : ℕ) (xs : List (List ℕ)) (tokens : List Token) (total : ReadParameters) → i < n
    → ReturnsFault e (free_name_at xs cs tokens) → parameters_from cs (n - i) xs tokens ≡ total → ReturnsFault e total
unfolding parameters_from
parameters_fault e cs n i xs tokens total less is so_far =
    let k : n - i ≡ suc (n - (i + 1)) = omega arith in
    fault_of e (free_name_at xs cs tokens) total (λ f bad. let one : parameters_from cs (n - i) xs tokens ≡ Err f = rw (k, bad) refl in sym so_far ∙ one) is

pub parameters_more : (cs : Constants) (n i : ℕ) (xs : List (List ℕ)) (x : (List ℕ)) (tokens behind next : List Token) (total : ReadParameters) → i < n
    → free_name_at xs cs tokens ≡ Ok (x, behind) → after_symbol Comma behind ≡ Some next → parameters_from cs (n - i) xs tokens ≡ total
    → parameters_from cs (n - (i + 1)) (xs ++ x ∷ []) next ≡ total
unfolding parameters_from
parameters_more cs n i xs x tokens behind next total less is follows so_far =
    let k : n - i ≡ suc (n - (i + 1)) = omega arith in
    let one : parameters_from cs (n - i) xs tokens ≡ parameters_from cs (n - (i + 1)) (xs ++ x ∷ []) next = rw (k, is, follows) refl in
    sym one ∙ so_far

pub parameters_over : (e : SourceError) (cs : Constants) (n i : ℕ) (xs : List (List ℕ)) (tokens : List Token) (total : ReadParameters) → n ≤ i
    → e ≡ Bad (unexpected tokens) → parameters_from cs (n - i) xs tokens ≡ total → ReturnsFault e total
unfolding parameters_from
parameters_over e cs n i xs tokens total over is so_far =
    let k : n - i ≡ 0 = omega arith in
    let one : parameters_from cs (n - i) xs tokens ≡ Err (unexpected tokens) = rw k refl in
    rw is (sym so_far ∙ one)

pub parameters_last : (cs : Constants) (n i : ℕ) (xs : List (List ℕ)) (x : (List ℕ)) (l : Bool) (tokens behind rest : List Token) (total : ReadParameters) → i < n
    → free_name_at xs cs tokens ≡ Ok (x, behind) → after_symbol Comma behind ≡ None → parameters_end behind ≡ Ok (l, rest)
    → parameters_from cs (n - i) xs tokens ≡ total → total ≡ Ok (xs ++ x ∷ [], l, rest)
unfolding parameters_from
parameters_last cs n i xs x l tokens behind rest total less is ends closed so_far =
    let k : n - i ≡ suc (n - (i + 1)) = omega arith in
    let one : parameters_from cs (n - i) xs tokens ≡ Ok (xs ++ x ∷ [], l, rest) = rw (k, is, ends, closed) refl in
    sym so_far ∙ one

pub parameters_unclosed : (e : SourceError) (cs : Constants) (n i : ℕ) (xs : List (List ℕ)) (x : (List ℕ)) (tokens behind : List Token) (total : ReadParameters) → i < n
    → free_name_at xs cs tokens ≡ Ok (x, behind) → after_symbol Comma behind ≡ None → ReturnsFault e (parameters_end behind)
    → parameters_from cs (n - i) xs tokens ≡ total → ReturnsFault e total
unfolding parameters_from
parameters_unclosed e cs n i xs x tokens behind total less is ends unclosed so_far =
    let k : n - i ≡ suc (n - (i + 1)) = omega arith in
    fault_of e (parameters_end behind) total
    (λ f bad. let one : parameters_from cs (n - i) xs tokens ≡ Err f = rw (k, is, ends, bad) refl in sym so_far ∙ one) unclosed

-- ---- parameters of what is defined

pub given_fault : (e : SourceError) (n i : ℕ) (outer : Scope) (tokens : List Token) (total : Read Scope) → i < n
    → ReturnsFault e (parameter_at outer tokens) → constants.parameters_from (n - i) outer tokens ≡ total → ReturnsFault e total
unfolding constants.parameters_from
given_fault e n i outer tokens total less is so_far =
    let k : n - i ≡ suc (n - (i + 1)) = omega arith in
    fault_of e (parameter_at outer tokens) total (λ f bad. let one : constants.parameters_from (n - i) outer tokens ≡ Err f = rw (k, bad) refl in sym so_far ∙ one) is

pub given_more : (n i : ℕ) (outer inner : Scope) (tokens behind next : List Token) (total : Read Scope) → i < n
    → parameter_at outer tokens ≡ Ok (inner, behind) → after_symbol Comma behind ≡ Some next → constants.parameters_from (n - i) outer tokens ≡ total
    → constants.parameters_from (n - (i + 1)) inner next ≡ total
unfolding constants.parameters_from
given_more n i outer inner tokens behind next total less is follows so_far =
    let k : n - i ≡ suc (n - (i + 1)) = omega arith in
    let one : constants.parameters_from (n - i) outer tokens ≡ constants.parameters_from (n - (i + 1)) inner next = rw (k, is, follows) refl in
    sym one ∙ so_far

pub given_over : (e : SourceError) (n i : ℕ) (outer : Scope) (tokens : List Token) (total : Read Scope) → n ≤ i
    → e ≡ Bad (unexpected tokens) → constants.parameters_from (n - i) outer tokens ≡ total → ReturnsFault e total
unfolding constants.parameters_from
given_over e n i outer tokens total over is so_far =
    let k : n - i ≡ 0 = omega arith in
    let one : constants.parameters_from (n - i) outer tokens ≡ Err (unexpected tokens) = rw k refl in
    rw is (sym so_far ∙ one)

pub given_last : (n i : ℕ) (outer inner : Scope) (tokens behind rest : List Token) (total : Read Scope) → i < n
    → parameter_at outer tokens ≡ Ok (inner, behind) → after_symbol Comma behind ≡ None → expect_symbol RightParenthesis behind ≡ Ok rest
    → constants.parameters_from (n - i) outer tokens ≡ total → total ≡ Ok (inner, rest)
unfolding constants.parameters_from
given_last n i outer inner tokens behind rest total less is ends closed so_far =
    let k : n - i ≡ suc (n - (i + 1)) = omega arith in
    let one : constants.parameters_from (n - i) outer tokens ≡ Ok (inner, rest) = rw (k, is, ends, closed) refl in
    sym so_far ∙ one

pub given_unclosed : (e : SourceError) (n i : ℕ) (outer inner : Scope) (tokens behind : List Token) (total : Read Scope) → i < n
    → parameter_at outer tokens ≡ Ok (inner, behind) → after_symbol Comma behind ≡ None → ReturnsFault e (expect_symbol RightParenthesis behind)
    → constants.parameters_from (n - i) outer tokens ≡ total → ReturnsFault e total
unfolding constants.parameters_from
given_unclosed e n i outer inner tokens behind total less is ends unclosed so_far =
    let k : n - i ≡ suc (n - (i + 1)) = omega arith in
    fault_of e (expect_symbol RightParenthesis behind) total
    (λ f bad. let one : constants.parameters_from (n - i) outer tokens ≡ Err f = rw (k, is, ends, bad) refl in sym so_far ∙ one) unclosed

-- ---- compares

pub compares_fault : (e : SourceError) (cs : Constants) (n i : ℕ) (xs : List Compare) (tokens : List Token) (total : Read (List Compare)) → i < n → ReturnsFault e (compare_at cs tokens)
    → compares_from cs (n - i) xs tokens ≡ total → ReturnsFault e total
unfolding compares_from
compares_fault e cs n i xs tokens total less is so_far =
    let k : n - i ≡ suc (n - (i + 1)) = omega arith in
    fault_of e (compare_at cs tokens) total (λ f bad. let one : compares_from cs (n - i) xs tokens ≡ Err f = rw (k, bad) refl in sym so_far ∙ one) is

pub compares_more : (cs : Constants) (n i : ℕ) (xs : List Compare) (x : Compare) (tokens behind next : List Token) (total : Read (List Compare)) → i < n → compare_at cs tokens ≡ Ok (x, behind)
    → after_symbol And behind ≡ Some next → compares_from cs (n - i) xs tokens ≡ total
    → compares_from cs (n - (i + 1)) (xs ++ x ∷ []) next ≡ total
unfolding compares_from
compares_more cs n i xs x tokens behind next total less is follows so_far =
    let k : n - i ≡ suc (n - (i + 1)) = omega arith in
    let one : compares_from cs (n - i) xs tokens ≡ compares_from cs (n - (i + 1)) (xs ++ x ∷ []) next = rw (k, is, follows) refl in
    sym one ∙ so_far

pub compares_over : (e : SourceError) (cs : Constants) (n i : ℕ) (xs : List Compare) (tokens : List Token) (total : Read (List Compare)) → n ≤ i → e ≡ Bad (unexpected tokens)
    → compares_from cs (n - i) xs tokens ≡ total → ReturnsFault e total
unfolding compares_from
compares_over e cs n i xs tokens total over is so_far =
    let k : n - i ≡ 0 = omega arith in
    let one : compares_from cs (n - i) xs tokens ≡ Err (unexpected tokens) = rw k refl in
    rw is (sym so_far ∙ one)

pub compares_last : (cs : Constants) (n i : ℕ) (xs : List Compare) (x : Compare) (tokens behind : List Token) (total : Read (List Compare)) → i < n → compare_at cs tokens ≡ Ok (x, behind)
    → after_symbol And behind ≡ None → compares_from cs (n - i) xs tokens ≡ total → total ≡ Ok (xs ++ x ∷ [], behind)
unfolding compares_from
compares_last cs n i xs x tokens behind total less is ends so_far =
    let k : n - i ≡ suc (n - (i + 1)) = omega arith in
    let one : compares_from cs (n - i) xs tokens ≡ Ok (xs ++ x ∷ [], behind) = rw (k, is, ends) refl in
    sym so_far ∙ one

-- ---- names

pub names_fault : (e : SourceError) (n i : ℕ) (xs : List (List ℕ)) (tokens : List Token) (total : ReadNames) → i < n → ReturnsFault e (new_name_at xs tokens)
    → names_from (n - i) i xs tokens ≡ total → ReturnsFault e total
unfolding names_from
names_fault e n i xs tokens total less is so_far =
    let k : n - i ≡ suc (n - (i + 1)) = omega arith in
    fault_of e (new_name_at xs tokens) total (λ f bad. let one : names_from (n - i) i xs tokens ≡ Err f = rw (k, bad) refl in sym so_far ∙ one) is

pub names_more : (n i : ℕ) (xs : List (List ℕ)) (x : List ℕ) (tokens behind next : List Token) (total : ReadNames) → i < n
    → new_name_at xs tokens ≡ Ok (x, behind) → after_symbol Comma behind ≡ Some next → names_from (n - i) i xs tokens ≡ total
    → names_from (n - (i + 1)) (i + 1) (xs ++ x ∷ []) next ≡ total
unfolding names_from
names_more n i xs x tokens behind next total less is follows so_far =
    let k : n - i ≡ suc (n - (i + 1)) = omega arith in
    let one : names_from (n - i) i xs tokens ≡ names_from (n - (i + 1)) (i + 1) (xs ++ x ∷ []) next = rw (k, is, follows) refl in
    sym one ∙ so_far

pub names_over : (e : SourceError) (n i : ℕ) (xs : List (List ℕ)) (tokens : List Token) (total : ReadNames) → n ≤ i → e ≡ Bad (unexpected tokens)
    → names_from (n - i) i xs tokens ≡ total → ReturnsFault e total
unfolding names_from
names_over e n i xs tokens total over is so_far =
    let k : n - i ≡ 0 = omega arith in
    let one : names_from (n - i) i xs tokens ≡ Err (unexpected tokens) = rw k refl in
    rw is (sym so_far ∙ one)

pub names_last : (n i : ℕ) (xs : List (List ℕ)) (x : List ℕ) (tokens behind : List Token) (total : ReadNames) → i < n
    → new_name_at xs tokens ≡ Ok (x, behind) → after_symbol Comma behind ≡ None → names_from (n - i) i xs tokens ≡ total
    → total ≡ Ok (i + 1, xs ++ x ∷ [], behind)
unfolding names_from
names_last n i xs x tokens behind total less is ends so_far =
    let k : n - i ≡ suc (n - (i + 1)) = omega arith in
    let one : names_from (n - i) i xs tokens ≡ Ok (i + 1, xs ++ x ∷ [], behind) = rw (k, is, ends) refl in
    sym so_far ∙ one

-- ---- operations

pub operations_closed : (cs : Constants) (n i : ℕ) (xs : List Op) (tokens rest : List Token) (total : Read (List Op)) → i < n → after_symbol RightBrace tokens ≡ Some rest
    → operations_from cs (n - i) xs tokens ≡ total → total ≡ Ok (xs, rest)
unfolding operations_from
operations_closed cs n i xs tokens rest total less closed so_far =
    let k : n - i ≡ suc (n - (i + 1)) = omega arith in
    let one : operations_from cs (n - i) xs tokens ≡ Ok (xs, rest) = rw (k, closed) refl in
    sym so_far ∙ one

pub operations_fault : (e : SourceError) (cs : Constants) (n i : ℕ) (xs : List Op) (tokens : List Token) (total : Read (List Op)) → i < n
    → after_symbol RightBrace tokens ≡ None → ReturnsFault e (operation_at cs tokens) → operations_from cs (n - i) xs tokens ≡ total → ReturnsFault e total
unfolding operations_from
operations_fault e cs n i xs tokens total less unclosed is so_far =
    let k : n - i ≡ suc (n - (i + 1)) = omega arith in
    fault_of e (operation_at cs tokens) total
    (λ f bad. let one : operations_from cs (n - i) xs tokens ≡ Err f = rw (k, unclosed, bad) refl in sym so_far ∙ one) is

pub operations_more : (cs : Constants) (n i : ℕ) (xs : List Op) (x : Op) (tokens behind : List Token) (total : Read (List Op)) → i < n
    → after_symbol RightBrace tokens ≡ None → operation_at cs tokens ≡ Ok (x, behind) → operations_from cs (n - i) xs tokens ≡ total
    → operations_from cs (n - (i + 1)) (xs ++ x ∷ []) (skip_semicolon behind) ≡ total
unfolding operations_from
operations_more cs n i xs x tokens behind total less unclosed is so_far =
    let k : n - i ≡ suc (n - (i + 1)) = omega arith in
    let one : operations_from cs (n - i) xs tokens ≡ operations_from cs (n - (i + 1)) (xs ++ x ∷ []) (skip_semicolon behind) = rw (k, unclosed, is) refl in
    sym one ∙ so_far

pub operations_over : (e : SourceError) (cs : Constants) (n i : ℕ) (xs : List Op) (tokens : List Token) (total : Read (List Op)) → n ≤ i → e ≡ Bad (unexpected tokens)
    → operations_from cs (n - i) xs tokens ≡ total → ReturnsFault e total
unfolding operations_from
operations_over e cs n i xs tokens total over is so_far =
    let k : n - i ≡ 0 = omega arith in
    let one : operations_from cs (n - i) xs tokens ≡ Err (unexpected tokens) = rw k refl in
    rw is (sym so_far ∙ one)

-- ---- turns

pub turns_end : (n i : ℕ) (story : Story) (tokens : List Token) (total : Outcome (Story × List Token)) → i < n → is_turn tokens ≡ false
    → turns_from (n - i) story tokens ≡ total → total ≡ Ok (story, tokens)
unfolding turns_from
turns_end n i story tokens total less none so_far =
    let k : n - i ≡ suc (n - (i + 1)) = omega arith in
    let one : turns_from (n - i) story tokens ≡ Ok (story, tokens) = rw (k, none) refl in
    sym so_far ∙ one

pub turns_fault : (e : SourceError) (n i : ℕ) (story : Story) (tokens : List Token) (total : Outcome (Story × List Token)) → i < n → is_turn tokens ≡ true
    → ReturnsFault e (turn_at story tokens) → turns_from (n - i) story tokens ≡ total → ReturnsFault e total
unfolding turns_from
turns_fault e n i story tokens total less some is so_far =
    let k : n - i ≡ suc (n - (i + 1)) = omega arith in
    fault_of e (turn_at story tokens) total (λ f bad. let one : turns_from (n - i) story tokens ≡ Err f = rw (k, some, bad) refl in sym so_far ∙ one) is

pub turns_more : (n i : ℕ) (story after : Story) (tokens behind : List Token) (total : Outcome (Story × List Token)) → i < n → is_turn tokens ≡ true
    → turn_at story tokens ≡ Ok (after, behind) → turns_from (n - i) story tokens ≡ total → turns_from (n - (i + 1)) after behind ≡ total
unfolding turns_from
turns_more n i story after tokens behind total less some is so_far =
    let k : n - i ≡ suc (n - (i + 1)) = omega arith in
    let one : turns_from (n - i) story tokens ≡ turns_from (n - (i + 1)) after behind = rw (k, some, is) refl in
    sym one ∙ so_far

pub turns_over : (n i : ℕ) (story : Story) (tokens : List Token) (total : Outcome (Story × List Token)) → n ≤ i
    → turns_from (n - i) story tokens ≡ total → total ≡ Ok (story, tokens)
unfolding turns_from
turns_over n i story tokens total over so_far =
    let k : n - i ≡ 0 = omega arith in
    let one : turns_from (n - i) story tokens ≡ Ok (story, tokens) = rw k refl in
    sym so_far ∙ one

-- ---- items

pub items_end : (all : List Token) (n i : ℕ) (d : Definitions) (story : Story) (tokens : List Token) (total : Outcome (Definitions × Story)) → i < n → at_end tokens ≡ true
    → items_from all (n - i) d story tokens ≡ total → total ≡ Ok (d, story)
unfolding items_from
items_end all n i d story tokens total less ended so_far =
    let k : n - i ≡ suc (n - (i + 1)) = omega arith in
    let one : items_from all (n - i) d story tokens ≡ Ok (d, story) = rw (k, ended) refl in
    sym so_far ∙ one

pub items_fault : (e : SourceError) (all : List Token) (n i : ℕ) (d : Definitions) (story : Story) (tokens : List Token) (total : Outcome (Definitions × Story)) → i < n
    → at_end tokens ≡ false → ReturnsFault e (item_at all d story tokens) → items_from all (n - i) d story tokens ≡ total → ReturnsFault e total
unfolding items_from
items_fault e all n i d story tokens total less goes is so_far =
    let k : n - i ≡ suc (n - (i + 1)) = omega arith in
    fault_of e (item_at all d story tokens) total
    (λ f bad. let one : items_from all (n - i) d story tokens ≡ Err f = rw (k, goes, bad) refl in sym so_far ∙ one) is

pub items_more : (all : List Token) (n i : ℕ) (d f : Definitions) (story after : Story) (tokens behind : List Token) (total : Outcome (Definitions × Story)) → i < n
    → at_end tokens ≡ false → item_at all d story tokens ≡ Ok (f, after, behind) → items_from all (n - i) d story tokens ≡ total
    → items_from all (n - (i + 1)) f after behind ≡ total
unfolding items_from
items_more all n i d f story after tokens behind total less goes is so_far =
    let k : n - i ≡ suc (n - (i + 1)) = omega arith in
    let one : items_from all (n - i) d story tokens ≡ items_from all (n - (i + 1)) f after behind = rw (k, goes, is) refl in
    sym one ∙ so_far

pub items_over : (e : SourceError) (all : List Token) (n i : ℕ) (d : Definitions) (story : Story) (tokens : List Token) (total : Outcome (Definitions × Story)) → n ≤ i
    → e ≡ Bad (unexpected tokens) → items_from all (n - i) d story tokens ≡ total → ReturnsFault e total
unfolding items_from
items_over e all n i d story tokens total over is so_far =
    let k : n - i ≡ 0 = omega arith in
    let one : items_from all (n - i) d story tokens ≡ Err (unexpected tokens) = rw k refl in
    rw is (sym so_far ∙ one)

-- ---- starts

pub starts_fault : (e : SourceError) (at : ℕ) (program : ProgramTree) (o : Options) (n i : ℕ) (story : Story) (total : Outcome Story) → i < n
    → ReturnsFault e (start_one at program o true story) → start_named at program o (n - i) story ≡ total → ReturnsFault e total
starts_fault e at program o n i story total less faulty so_far =
    let k : n - i ≡ suc (n - (i + 1)) = omega arith in
    fault_of e (start_one at program o true story) total
    (λ f bad. let one : start_named at program o (n - i) story ≡ Err f = rw (k, bad) refl in sym so_far ∙ one) faulty

pub starts_more : (at : ℕ) (program : ProgramTree) (o : Options) (n i : ℕ) (story after : Story) (total : Outcome Story) → i < n
    → start_one at program o true story ≡ Ok after → start_named at program o (n - i) story ≡ total
    → start_named at program o (n - (i + 1)) after ≡ total
starts_more at program o n i story after total less started so_far =
    let k : n - i ≡ suc (n - (i + 1)) = omega arith in
    let one : start_named at program o (n - i) story ≡ start_named at program o (n - (i + 1)) after = rw (k, started) refl in
    sym one ∙ so_far

pub starts_over : (at : ℕ) (program : ProgramTree) (o : Options) (n i : ℕ) (story : Story) (total : Outcome Story) → n ≤ i
    → start_named at program o (n - i) story ≡ total → total ≡ Ok story
starts_over at program o n i story total over so_far =
    let k : n - i ≡ 0 = omega arith in
    let one : start_named at program o (n - i) story ≡ Ok story = rw k refl in
    sym so_far ∙ one

-- ---- options

pub options_none : (more : ℕ) (o : Options) (story : Story) (tokens : List Token) → more ≡ 0 → options_from more o story tokens ≡ Ok (o, story, tokens)
unfolding options_from
options_none more o story tokens none = rw none refl

pub options_some : (more : ℕ) (o : Options) (story : Story) (tokens : List Token) → 0 < more
    → options_from more o story tokens ≡ next_option (options_from (more - 1)) o story tokens
unfolding options_from
options_some more o story tokens some =
    let k : more ≡ suc (more - 1) = omega arith in
    ap (λ (n : ℕ). options_from n o story tokens) k

-- ---- turns that are counted

pub copies_more : {A : Type 0} (front : List A) (n i : ℕ) (x : A) → i < n
    → front ++ copies (n - i) x ≡ (front ++ x ∷ []) ++ copies (n - (i + 1)) x
copies_more front n i x less =
    let k : n - i ≡ suc (n - (i + 1)) = omega arith in
    ap (λ (m : ℕ). front ++ copies m x) k ∙ sym (append_assoc front (x ∷ []) (copies (n - (i + 1)) x))

pub copies_out : {A : Type 0} (front : List A) (n i : ℕ) (x : A) → n ≤ i → front ++ copies (n - i) x ≡ front
copies_out front n i x over =
    let k : n - i ≡ 0 = omega arith in
    ap (λ (m : ℕ). front ++ copies m x) k ∙ append-nil front

pub open_more : (front : List Given) (n i : ℕ) → i < n → front ++ open_given (n - i) ≡ (front ++ given_as Either 0 ∷ []) ++ open_given (n - (i + 1))
open_more front n i less =
    let k : n - i ≡ suc (n - (i + 1)) = omega arith in
    ap (λ (m : ℕ). front ++ open_given m) k ∙ sym (append_assoc front (given_as Either 0 ∷ []) (open_given (n - (i + 1))))

pub open_out : (front : List Given) (n i : ℕ) → n ≤ i → front ++ open_given (n - i) ≡ front
open_out front n i over =
    let k : n - i ≡ 0 = omega arith in
    ap (λ (m : ℕ). front ++ open_given m) k ∙ append-nil front
