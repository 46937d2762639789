-- One item of the programs with marks, at turn i of n: what it adds is what all of it does.
use Rattle.std.proofs.Common.{◌≡◌, ℕ, suc, ◌-◌, ◌+◌, ◌<◌, ◌≤◌, List, true, false, Ok, Err, refl, sym, ◌∙◌, arith}
use Rattle.stm_tokens.specs.declared.token.Token.{Token}
use Rattle.stm_terms.specs.declared.faults.SourceError.{SourceError}
use Rattle.stm_terms.specs.declared.faults.SourceError.TheVariants.{Bad}
use Rattle.stm_terms.specs.Cursor.{unexpected}
use Rattle.stm_terms.specs.Outcome.{Outcome, ReturnsFault}
use Rattle.stm_source.specs.declared.definitions.Definitions.{Definitions}
use Rattle.stm_source.specs.declared.places.MarkedPrograms.{MarkedPrograms}
use Rattle.stm_source.specs.declared.story.Story.{Story}
use Rattle.stm_source.specs.Places.{next_element, programs_from, with_item}
use Rattle.stm_source.specs.Sources.{at_end, item_at}
use Rattle.stm_source.proofs.StepLemmas.{fault_of}

pub programs_end : (all : List Token) (n i : ℕ) (d : Definitions) (story : Story) (programs : MarkedPrograms) (tokens : List Token)
    (total : Outcome MarkedPrograms) → i < n → at_end tokens ≡ true → programs_from all (n - i) d story programs tokens ≡ total → total ≡ Ok programs
unfolding programs_from
programs_end all n i d story programs tokens total less ended so_far =
    let k : n - i ≡ suc (n - (i + 1)) = omega arith in
    let one : programs_from all (n - i) d story programs tokens ≡ Ok programs = rw (k, ended) refl in
    sym so_far ∙ one

pub programs_fault : (e : SourceError) (all : List Token) (n i : ℕ) (d : Definitions) (story : Story) (programs : MarkedPrograms) (tokens : List Token)
    (total : Outcome MarkedPrograms) → i < n → at_end tokens ≡ false → ReturnsFault e (item_at all d story tokens)
    → programs_from all (n - i) d story programs tokens ≡ total → ReturnsFault e total
unfolding programs_from
programs_fault e all n i d story programs tokens total less goes is so_far =
    let k : n - i ≡ suc (n - (i + 1)) = omega arith in
    fault_of e (item_at all d story tokens) total
    (λ f bad. let one : programs_from all (n - i) d story programs tokens ≡ Err f = rw (k, goes, bad) refl in sym so_far ∙ one) is

pub programs_more : (all : List Token) (n i : ℕ) (d f : Definitions) (story after : Story) (programs : MarkedPrograms) (tokens behind : List Token)
    (total : Outcome MarkedPrograms) → i < n → at_end tokens ≡ false → item_at all d story tokens ≡ Ok (f, after, behind)
    → programs_from all (n - i) d story programs tokens ≡ total
    → programs_from all (n - (i + 1)) f after (with_item all f after (next_element story) programs tokens) behind ≡ total
unfolding programs_from
programs_more all n i d f story after programs tokens behind total less goes is so_far =
    let k : n - i ≡ suc (n - (i + 1)) = omega arith in
    let one : programs_from all (n - i) d story programs tokens
    ≡ programs_from all (n - (i + 1)) f after (with_item all f after (next_element story) programs tokens) behind = rw (k, goes, is) refl in
    sym one ∙ so_far

pub programs_over : (e : SourceError) (all : List Token) (n i : ℕ) (d : Definitions) (story : Story) (programs : MarkedPrograms) (tokens : List Token)
    (total : Outcome MarkedPrograms) → n ≤ i → e ≡ Bad (unexpected tokens) → programs_from all (n - i) d story programs tokens ≡ total
    → ReturnsFault e total
unfolding programs_from
programs_over e all n i d story programs tokens total over is so_far =
    let k : n - i ≡ 0 = omega arith in
    let one : programs_from all (n - i) d story programs tokens ≡ Err (unexpected tokens) = rw k refl in
    rw is (sym so_far ∙ one)
