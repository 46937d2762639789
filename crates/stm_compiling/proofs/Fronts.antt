-- What is too long by a byte is too long however it goes on, so who reads no further answers the same.
use Rattle.std.proofs.Common.{◌≡◌, ◌∙◌, ℕ, ◌<◌, ◌≤◌, List, [], length, take, Bool, true, false, nat_lt, Option, Ok, Err, refl, sym, ap, subst, arith, take_all}
use Rattle.std.proofs.lemmas.Bool.{ltb-true, ltb-false}
use Rattle.std.proofs.lemmas.Bool.Decides.{nat_tests}
use Rattle.std.proofs.lemmas.List.{length-take-le, nil_from_length}
use Rattle.stm_devices.specs.declared.transfer.TheConstants.{MOST_READ}
use Rattle.stm_json.specs.declared.limits.TheConstants.{MOST_BYTES}
use Rattle.stm_terms.specs.declared.faults.BadSource.{BadSource}
use Rattle.stm_terms.specs.declared.faults.SourceCause.TheVariants.{TooLong}
use Rattle.stm_terms.specs.Outcome.{Outcome}
use Rattle.stm_source.specs.Sources.{source_in}
use Rattle.stm_tokens.specs.Positions.{place_after}
use Rattle.stm_compiling.specs.Parts.{printed_by}
use Rattle.stm_compiling.specs.Wholes.{compiled_in}
use Rattle.stm_compiling.specs.declared.part.Part.{Part}
use Rattle.stm_compiling.specs.declared.part.Part.TheVariants as of
use Rattle.stm_compiling.specs.Faults.{SaysAt, SaysFault, SaysWrong, place_of}

abbrev pub too_long : BadSource
too_long = record { at = 0; cause = TooLong }

-- a way of reading answers so of what is too long
abbrev pub RefusesLong : {A : Type 0} → (List ℕ → Outcome A) → Type 0
RefusesLong read = (bytes : List ℕ) → MOST_BYTES < length bytes → read bytes ≡ Err too_long

source_in-long : (bytes : List ℕ) → MOST_BYTES < length bytes → source_in bytes ≡ Err too_long
unfolding source_in
source_in-long bytes long = grind (arith, nat_tests)

pub compiled_in-long : RefusesLong compiled_in
compiled_in-long bytes long = rw (source_in-long bytes long) refl

pub printed_by-long : (part : Part) → RefusesLong (printed_by part)
printed_by-long of.Scenario bytes long = rw (source_in-long bytes long) refl
printed_by-long (of.Program name words) bytes long = rw (source_in-long bytes long) refl

-- what is read of a source that is too long is too long, too
front-long : (all : List ℕ) → MOST_BYTES < length all → MOST_BYTES < length (take MOST_READ all)
front-long all long =
    let front : length (take MOST_READ all) ≡ MOST_READ = length-take-le MOST_READ all (omega arith) in
    omega arith

-- the fault of an answer
abbrev fault_or : {A : Type 0} → BadSource → Outcome A → BadSource
fault_or other (Ok answer) = other
fault_or other (Err bad) = bad

first_place : (source : List ℕ) → place_of source 0 ≡ place_after []
first_place source = ap place_after (nil_from_length (take 0 source) (length-take-le 0 source (omega arith)))

same_place : (name : Option (List ℕ)) (said front all : List ℕ) → SaysFault name front too_long said → SaysFault name all too_long said
same_place name said front all =
    subst (λ (place : ℕ × ℕ). SaysAt name place TooLong said) (first_place front ∙ sym (first_place all))

front_by_length : (P : List ℕ → Type 0) → ((all : List ℕ) → MOST_BYTES < length all → P (take MOST_READ all) → P all) → (long : Bool) (all : List ℕ)
    → nat_lt MOST_BYTES (length all) ≡ long → P (take MOST_READ all) → P all
front_by_length P when_long true all is holds = when_long all (ltb-true MOST_BYTES (length all) is) holds
front_by_length P when_long false all is holds =
    let short : length all ≤ MOST_BYTES = ltb-false MOST_BYTES (length all) is in
    subst P (take_all MOST_READ all (omega arith)) holds

module _ {A : Type 0} (read : List ℕ → Outcome A) (text : List ℕ → List ℕ) (refuses : RefusesLong read) where
  same_saying : (name : Option (List ℕ)) (said front all : List ℕ) → MOST_BYTES < length front → MOST_BYTES < length all
      → SaysWrong name (text front) (read front) said → SaysWrong name (text all) (read all) said
  same_saying name said front all short whole (bad, e, says) =
      let is : bad ≡ too_long = ap (fault_or too_long) (sym e ∙ refuses front short) in
      (too_long, refuses all whole, same_place name said (text front) (text all) (subst (λ (b : BadSource). SaysFault name (text front) b said) is says))

  pub Ok-front : (answer : A) (all : List ℕ) → read (take MOST_READ all) ≡ Ok answer → read all ≡ Ok answer
  Ok-front answer all =
      front_by_length (λ (s : List ℕ). read s ≡ Ok answer)
      (λ whole long holds. refuses whole long ∙ sym (refuses (take MOST_READ whole) (front-long whole long)) ∙ holds)
      (nat_lt MOST_BYTES (length all)) all refl

  pub SaysWrong-front : (name : Option (List ℕ)) (said all : List ℕ)
      → SaysWrong name (text (take MOST_READ all)) (read (take MOST_READ all)) said → SaysWrong name (text all) (read all) said
  SaysWrong-front name said all =
      front_by_length (λ (s : List ℕ). SaysWrong name (text s) (read s) said)
      (λ whole long holds. same_saying name said (take MOST_READ whole) whole (front-long whole long) long holds)
      (nat_lt MOST_BYTES (length all)) all refl
