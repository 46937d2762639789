-- Reading statements one after the other, as a loop does.
use Rattle.std.proofs.Common.{◌≡◌, ℕ, suc, ◌+◌, ◌<◌, List, [], ◌∷◌, ◌++◌, length, drop, get_or, Ok, Err, refl, sym, ap, ◌∙◌, arith, add-one}
use Rattle.std.proofs.Math.Seq.{drop-cons}
use Rattle.serde_json.specs.Data.{Data}
use Rattle.serde_json.specs.View.{view, items_view}
use Rattle.serde_json.specs.declared.value.Value.{Value}
use Rattle.stm_json.specs.declared.read_error.ReadError.{ReadError}
use Rattle.stm_json.specs.declared.read_error.ReadError.TheVariants as error
use Rattle.stm_program.specs.Syntax.{Statement, Block, End, Then}
use Rattle.stm_program.specs.BlockView.{block_of}
use Rattle.stm_json.specs.Outcome.{◌>>=◌, within}
use Rattle.stm_json.specs.Returns.{ReturnsFault}
use Rattle.stm_program_json.specs.Reading.{Read, statements_from}

-- a block after statements
abbrev pub block_after : List Statement → Block → Block
block_after [] b = b
block_after (s ∷ ss) b = Then s (block_after ss b)

pub block_after-end : (ss : List Statement) → block_after ss End ≡ block_of ss
block_after-end [] = refl
block_after-end (s ∷ ss) = ap (Then s) (block_after-end ss)

pub block_after-snoc : (ss : List Statement) (s : Statement) (b : Block) → block_after (ss ++ s ∷ []) b ≡ block_after ss (Then s b)
block_after-snoc [] s b = refl
block_after-snoc (t ∷ ss) s b = ap (Then t) (block_after-snoc ss s b)

-- what was read before, and what is still read
abbrev pub with_front : List Statement → Read Block → Read Block
with_front front reading = reading >>= λ b. Ok (block_after front b.0, b.1)

regroup : (front : List Statement) (s : Statement) (reading : Read Block)
    → with_front front (reading >>= λ b. Ok (Then s b.0, b.1)) ≡ with_front (front ++ s ∷ []) reading
regroup front s (Ok b) = ap (λ (c : Block). Ok (c, b.1)) (sym (block_after-snoc front s b.0))
regroup front s (Err f) = refl

one_more : (vs : List Value) (i : ℕ) (v : Value) → i < length vs → v ≡ get_or vs i v → drop i vs ≡ v ∷ drop (i + 1) vs
one_more vs i v h e = drop-cons vs i v h ∙ rw (sym e, add-one) refl

pub goes_on : (read : ℕ → Data → Read Statement) (front : List Statement) (vs : List Value) (start i room rest : ℕ) (v : Value) (s : Statement) (total : Read Block)
    → i < length vs → v ≡ get_or vs i v → within (i + start) (read room (view v)) ≡ Ok (s, rest)
    → with_front front (statements_from read (i + start) room (items_view (drop i vs))) ≡ total
    → with_front (front ++ s ∷ []) (statements_from read (i + 1 + start) rest (items_view (drop (i + 1) vs))) ≡ total
unfolding statements_from
goes_on read front vs start i room rest v s total lt at is so_far =
    let k : i + 1 + start ≡ suc (i + start) = omega arith in
    let one : with_front front (statements_from read (i + start) room (items_view (drop i vs)))
    ≡ with_front (front ++ s ∷ []) (statements_from read (i + 1 + start) rest (items_view (drop (i + 1) vs))) =
    ap (λ (ws : List Value). with_front front (statements_from read (i + start) room (items_view ws))) (one_more vs i v lt at)
    ∙ rw (is, k) (regroup front s (statements_from read (suc (i + start)) rest (items_view (drop (i + 1) vs)))) in
    sym one ∙ so_far

pub ends : (e : ReadError) (read : ℕ → Data → Read Statement) (front : List Statement) (vs : List Value) (start i room : ℕ) (v : Value) (total : Read Block)
    → i < length vs → v ≡ get_or vs i v → ReturnsFault e (within (i + start) (read room (view v)))
    → with_front front (statements_from read (i + start) room (items_view (drop i vs))) ≡ total → ReturnsFault e total
unfolding statements_from
ends error.OutOfMemory read front vs start i room v total lt at is so_far = tt
ends (error.Bad f) read front vs start i room v total lt at is so_far =
    let one : with_front front (statements_from read (i + start) room (items_view (drop i vs))) ≡ Err f =
    ap (λ (ws : List Value). with_front front (statements_from read (i + start) room (items_view ws))) (one_more vs i v lt at) ∙ rw is refl in
    sym so_far ∙ one

pub is_done : (read : ℕ → Data → Read Statement) (front : List Statement) (vs : List Value) (start i room : ℕ) (total : Read Block)
    → drop i vs ≡ [] → with_front front (statements_from read (i + start) room (items_view (drop i vs))) ≡ total → total ≡ Ok (block_of front, room)
unfolding statements_from
is_done read front vs start i room total h so_far =
    let one : with_front front (statements_from read (i + start) room (items_view (drop i vs))) ≡ Ok (block_of front, room) =
    rw h (ap (λ (b : Block). Ok (b, room)) (block_after-end front)) in
    sym so_far ∙ one
