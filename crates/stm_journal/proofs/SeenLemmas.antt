-- What the compare at a place is about.
use Rattle.std.proofs.Common.{◌≡◌, ℕ, suc, zero, ◌+◌, ◌<◌, ◌≤◌, List, [], ◌∷◌, ◌++◌, map, length, Option, Some, refl, ◌∙◌, ap, arith, length-append}
use Rattle.std.proofs.lemmas.List.{length-map}
use Rattle.std.specs.Prelude.{slice_get}
use Rattle.std.proofs.lemmas.Bool.Decides.{nat_tests}
use Rattle.stm_history.specs.declared.key_state.ReadAnswer.{ReadAnswer}
use Rattle.stm_program.specs.declared.level.Level.{Level}
use Rattle.stm_history.specs.declared.change.Change.{Change}
use Rattle.stm_compile.specs.CommitTxn.{first_carried, compares_of}
use Rattle.stm_compile.specs.Conflicts.{Seen, seen_of_read, seen_of_write, seen_by, seen_in}

-- ---- how many there are

pub seen_count : (reads : List ReadAnswer) (writes : List Change) → length (seen_by reads writes) ≡ length reads + length writes
seen_count reads writes = grind (arith, nat_tests, length-append, length-map)

pub compares_are_seen : (level : Level) (reads : List ReadAnswer) (writes : List Change) →
    length (compares_of level reads writes) ≤ length (seen_by reads writes)
compares_are_seen level reads writes = grind (arith, nat_tests, seen_count, length-map, length-append)

-- ---- of a key read

among_reads : (reads : List ReadAnswer) (more : List Seen) (place : ℕ) (a : ReadAnswer) → slice_get reads place ≡ Some a →
    slice_get (map seen_of_read reads ++ more) place ≡ Some (seen_of_read a)
among_reads [] more place a at = absurd (cc)
among_reads (x ∷ reads) more zero a at = let same : x ≡ a = cc in ap (λ (y : ReadAnswer). Some (seen_of_read y)) same
among_reads (x ∷ reads) more (suc place) a at = among_reads reads more place a at

pub read_seen : (reads : List ReadAnswer) (writes : List Change) (place : ℕ) (a : ReadAnswer) → slice_get reads place ≡ Some a →
    seen_in (slice_get (seen_by reads writes) place) ≡ seen_of_read a
read_seen reads writes place a at = ap seen_in (among_reads reads (map (seen_of_write (first_carried reads)) writes) place a at)

-- ---- of a written key

past_reads : (reads : List ReadAnswer) (more : List Seen) (place rest : ℕ) → place ≡ length reads + rest →
    slice_get (map seen_of_read reads ++ more) place ≡ slice_get more rest
past_reads [] more place rest is = let same : place ≡ rest = omega (arith, is) in ap (λ (n : ℕ). slice_get more n) same
past_reads (x ∷ reads) more zero rest is = let more_is : zero ≡ suc (length reads) + rest = is in absurd (omega (arith, more_is))
past_reads (x ∷ reads) more (suc place) rest is =
    let more_is : suc place ≡ suc (length reads) + rest = is in
    let fewer : place ≡ length reads + rest = omega (arith, more_is) in
    past_reads reads more place rest fewer

among_writes : (first : ℕ) (writes : List Change) (place : ℕ) (w : Change) → slice_get writes place ≡ Some w →
    slice_get (map (seen_of_write first) writes) place ≡ Some (seen_of_write first w)
among_writes first [] place w at = absurd (cc)
among_writes first (x ∷ writes) zero w at = let same : x ≡ w = cc in ap (λ (y : Change). Some (seen_of_write first y)) same
among_writes first (x ∷ writes) (suc place) w at = among_writes first writes place w at

pub write_seen : (reads : List ReadAnswer) (writes : List Change) (place rest : ℕ) (w : Change) → place ≡ length reads + rest →
    slice_get writes rest ≡ Some w → seen_in (slice_get (seen_by reads writes) place) ≡ seen_of_write (first_carried reads) w
write_seen reads writes place rest w is at =
    ap seen_in (past_reads reads (map (seen_of_write (first_carried reads)) writes) place rest is ∙ among_writes (first_carried reads) writes rest w at)

first_at : (first : ℕ) (writes : List Change) (place : ℕ) → place < length writes →
    (seen_in (slice_get (map (seen_of_write first) writes) place)).mod_rev ≡ first
first_at first [] place below = absurd (omega (arith, below))
first_at first (w ∷ writes) zero below = refl
first_at first (w ∷ writes) (suc place) below =
    let more_below : suc place < suc (length writes) = below in
    let fewer : place < length writes = omega (arith, more_below) in
    first_at first writes place fewer

pub first_seen : (reads : List ReadAnswer) (writes : List Change) (place rest : ℕ) → place ≡ length reads + rest → rest < length writes →
    (seen_in (slice_get (seen_by reads writes) place)).mod_rev ≡ first_carried reads
first_seen reads writes place rest is below =
    ap (λ (o : Option Seen). (seen_in o).mod_rev) (past_reads reads (map (seen_of_write (first_carried reads)) writes) place rest is)
    ∙ first_at (first_carried reads) writes rest below
