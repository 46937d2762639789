-- What the exact answer of reading a program says in the words of the grammar and of the first fault.
use Rattle.std.proofs.Common.{◌≡◌, inl, inr, ℕ, List, ◌∷◌, Option, None, Some, Result, Ok, Err, refl, ap, subst, ◌∙◌, MatchResult, arith}
use Rattle.std.proofs.lemmas.Bool.Decides.{nat_tests}
use Rattle.serde_json.specs.Data.{Data, Items, no_items, item}
use Rattle.serde_json.specs.Find.{as_array}
use Rattle.serde_json.specs.View.{view, items_view}
use Rattle.serde_json.specs.declared.value.Value.{Value}
use Rattle.stm_program.specs.declared.program.Program.{Program}
use Rattle.stm_json.specs.declared.read_error.ReadError.{ReadError}
use Rattle.stm_json.specs.declared.read_error.ReadError.TheVariants as error
use Rattle.stm_program.specs.Syntax.{Block, End, ProgramTree, of_statements}
use Rattle.stm_program.specs.Limits.{BlockFits, Fits}
use Rattle.stm_program.proofs.ListLemmas.{list_whole, fits_behind}
use Rattle.stm_json.specs.Returns.{Returns}
use Rattle.stm_json.specs.Faults.{IsFirstFault}
use Rattle.stm_json.specs.Outcome.{◌>>=◌, within}
use Rattle.stm_json.specs.Elements.{worded, one_of}
use Rattle.stm_program_json.specs.Grammar.{SpellsElements, SpellsProgram}
use Rattle.stm_program_json.specs.Reading.{statement_at, statements_from, list_of, list_parts, program_after, program_list, program_of}
use Rattle.stm_program_json.specs.FirstFault.{first_fault}
use Rattle.stm_json.proofs.OutcomeLemmas.{bind_ok, within_ok}
use Rattle.stm_json.proofs.PartLemmas.{list_is}
use Rattle.stm_program_json.proofs.KeyLists.{list_parts-is, list_sound}
use Rattle.stm_program_json.proofs.StatementSound.{program_statements}
use Rattle.stm_program_json.proofs.StatementMarks.{fault_of, program_fault}
use Rattle.stm_program.specs.declared.limits.TheConstants.{MAX_DEPTH, MAX_NODES}

-- the elements of a program that was read
abbrev ElementsRead : Items → ProgramTree → Type 0
ElementsRead ds p = SpellsElements ds p × Fits p

-- a program with a list
abbrev listing : List (List ℕ) → Block → ProgramTree
listing keys b = record { statements = b; prefetch = keys }

alone_sound : (ds : Items) (p : ProgramTree) → (statements_from (statement_at MAX_DEPTH) 0 MAX_NODES ds >>= λ b. Ok (of_statements b.0)) ≡ Ok p → ElementsRead ds p
alone_sound ds p h =
    let q = bind_ok (statements_from (statement_at MAX_DEPTH) 0 MAX_NODES ds) _ p h in
    let r = program_statements 0 ds q.0 q.1 in
    let is : of_statements q.0.0 ≡ p = cc q.2 in
    subst (ElementsRead ds) is (inl (refl, r.spelled), r.fits)

after_sound : (d : Data) (ds : Items) (o : Option Items) (p : ProgramTree) → list_parts (worded d) ≡ o → program_after o (item d ds) ds ≡ Ok p
    → ElementsRead (item d ds) p
after_sound d ds None p e h = alone_sound (item d ds) p h
after_sound d ds (Some parts) p e h =
    let keys = bind_ok (within 0 (list_of (one_of parts))) _ p h in
    let rest = bind_ok (statements_from (statement_at MAX_DEPTH) 1 MAX_NODES ds) _ p keys.2 in
    let r = program_statements 1 ds rest.0 rest.1 in
    let l = list_sound d parts (one_of parts) keys.0 (list_parts-is d (worded d) parts refl e) refl (within_ok 0 _ _ keys.1) in
    let is : listing keys.0 rest.0.0 ≡ p = cc rest.2 in
    subst (ElementsRead (item d ds)) is (
      inr (d, ds, refl, l.0, r.spelled),
      fits_behind keys.0 (BlockFits MAX_DEPTH MAX_NODES rest.0.0) (list_whole keys.0 l.1) r.fits,
    )

list_read : (d : Data) (o : Option Items) (p : ProgramTree) → as_array d ≡ o → program_list o ≡ Ok p → SpellsProgram d p × Fits p
list_read d None p e h = absurd (cc)
list_read d (Some no_items) p e h =
    let is : of_statements End ≡ p = cc h in
    subst (λ (t : ProgramTree). SpellsProgram d t × Fits t) is (
      (no_items, list_is d no_items e, inl (refl, refl)),
      record { depth = omega arith; nodes = omega arith; ranges = tt },
    )
list_read d (Some (item a ds)) p e h =
    let r = after_sound a ds (list_parts (worded a)) p refl h in
    ((item a ds, list_is d (item a ds) e, r.0), r.1)

pub program_sound : (d : Data) (p : ProgramTree) → program_of d ≡ Ok p → SpellsProgram d p × Fits p
unfolding program_of
program_sound d p h = list_read d (as_array d) p refl h

pub faulted : (d : Data) (r : Result ProgramTree ReadError) → Returns (λ p. p) r (program_of d) → MatchResult r (λ p. first_fault d ≡ None) (IsFirstFault (first_fault d))
faulted d (Ok p) h = program_fault d ∙ ap fault_of h
faulted d (Err error.OutOfMemory) h = tt
faulted d (Err (error.Bad f)) h = program_fault d ∙ ap fault_of h

-- ---- the reader

-- what is read of a program whose first element is a list, and of one that has none
pub program_reported : (r : Result Program ReadError) (d : Data) (vs rest : List Value) (v : Value) (parts : Option Items) → as_array d ≡ Some (items_view vs)
    → vs ≡ v ∷ rest → list_parts (worded (view v)) ≡ parts → Returns (λ p. p) r (program_after parts (items_view vs) (items_view rest))
    → Returns (λ p. p) r (program_of d)
unfolding program_of
program_reported r d vs rest v parts is split first reported = grind (arith, nat_tests)
