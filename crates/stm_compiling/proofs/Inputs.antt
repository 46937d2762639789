-- From what is answered of the bytes that were read to what is so of the input that has them.
use Rattle.std.proofs.Common.{◌≡◌, ℕ, List, take, IfSome, Some, None, Bool, false, Option, Result, Ok, Err, subst}
use Rattle.stm_devices.specs.declared.transfer.TheConstants.{MOST_READ}
use Rattle.stm_terms.specs.Outcome.{Outcome}
use Rattle.stm_compiling.specs.Faults.{SaysWrong}
use Rattle.stm_compiling.specs.Command.{Answers, Gives, IsUnread}
use Rattle.stm_compiling.specs.declared.fault.CompileFault.{CompileFault}
use Rattle.stm_compiling.specs.declared.fault.CompileFault.TheVariants.{OutOfMemory, Bad, Device}
use Rattle.stm_compiling.proofs.Fronts.{RefusesLong, Ok-front, SaysWrong-front}

of_input : (input : Option (List ℕ)) (source : List ℕ) (P : List ℕ → Type 0) → ((all : List ℕ) → P (take MOST_READ all) → P all)
    → IfSome input (λ all. source ≡ take MOST_READ all) → P source → IfSome input P
of_input None source P front read holds = tt
of_input (Some all) source P front read holds = front all (subst P read holds)

module _ {A : Type 0} (read : List ℕ → Outcome A) (text : List ℕ → List ℕ) (refuses : RefusesLong read) where
  pub Gives-from_Answers : (name input : Option (List ℕ)) (failed : Bool) (source : List ℕ) (result : Result A CompileFault) → failed ≡ false
      → IfSome input (λ all. source ≡ take MOST_READ all) → Answers name (text source) (read source) result → Gives read text name input failed result
  Gives-from_Answers name input failed source (Ok answer) works is answers =
      (works, of_input input source (λ s. read s ≡ Ok answer) (Ok-front read text refuses answer) is answers)
  Gives-from_Answers name input failed source (Err OutOfMemory) works is answers = works
  Gives-from_Answers name input failed source (Err (Bad said)) works is answers =
      (works, of_input input source (λ s. SaysWrong name (text s) (read s) said) (SaysWrong-front read text refuses name said) is answers)
  Gives-from_Answers name input failed source (Err Device) works is answers = absurd answers

  -- an input that was not read
  pub Gives-from_unread : (name input : Option (List ℕ)) (failed : Bool) (fault : CompileFault) → IsUnread failed fault
      → Gives read text name input failed (Err fault)
  Gives-from_unread name input failed OutOfMemory is = is
  Gives-from_unread name input failed (Bad said) is = absurd is
  Gives-from_unread name input failed Device is = is
