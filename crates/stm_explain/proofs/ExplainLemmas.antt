-- What is said of a fault, and the explanation after it.
use Rattle.std.proofs.Common.{◌≡◌, ◌++◌, ◌∙◌, List, [], ℕ, Bool, Option, Result, Ok, Err, sym, subst, true≢false, append-nil}
use Rattle.stm_devices.specs.Transfers.{HasWritten}
use Rattle.stm_explain.specs.Saying.{Says, Reports}

-- what was written was said
pub says : {A E : Type 0} (before after : Option (List ℕ)) (failed : Bool) (result : Result A E) (text : List ℕ) → HasWritten before after failed result text
    → Says before after failed text
says before after failed (Ok u) text (works, done) = ((text, [], sym (append-nil text), done), λ _. done)
says before after failed (Err e) text (fails, front) = (front, λ works. absurd (true≢false (sym fails ∙ works)))

-- what is said of a message, as what is said of the fault that has it
pub reports_of : (before after : Option (List ℕ)) (failed : Bool) (status code own : ℕ) (message text : List ℕ) → Reports code message before after failed status
    → code ≡ own → message ≡ text → Reports own text before after failed status
reports_of before after failed status code own message text said same_code same_text =
    (said.0 ∙ same_code, subst (Says before after failed) same_text said.1)

-- the same, where something follows the message
pub reports_with_of : (before after : Option (List ℕ)) (failed : Bool) (status code own : ℕ) (message text more : List ℕ)
    → Reports code (message ++ more) before after failed status → code ≡ own → message ≡ text → Reports own (text ++ more) before after failed status
reports_with_of before after failed status code own message text more said same_code same_text =
    (said.0 ∙ same_code, subst (λ (begin : List ℕ). Says before after failed (begin ++ more)) same_text said.1)
