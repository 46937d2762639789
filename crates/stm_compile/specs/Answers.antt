-- The answers that an attempt has read, as a program looks them up.
use Rattle.std.specs.Prelude.{ℕ, bytes_eq, if◌then◌else◌, List, [], ◌∷◌, Option, None, Some, option_map}
use Rattle.stm_history.specs.declared.key_state.KeyState.{KeyState}
use Rattle.stm_history.specs.declared.key_state.ReadAnswer.{ReadAnswer}
use Rattle.stm_history.specs.History.{History, now, key_now, key_at, value_of, mod_of, IsTrueAnswer}
use Rattle.stm_meaning.specs.Answer.{Answer, Lookup}

-- the answer for a key, if there is one
abbrev pub answer_in : List ℕ → List ReadAnswer → Option ReadAnswer
answer_in key [] = None
answer_in key (a ∷ answers) = if bytes_eq a.key key then Some a else answer_in key answers

-- what a program sees of a key's state: value and modification revision, "" and 0 where the key is absent
abbrev pub seen_of : Option KeyState → Answer
seen_of s = record { value = value_of s; mod_rev = mod_of s }

-- what an answer says of its key
abbrev pub said : ReadAnswer → Answer
said a = seen_of a.kv

-- the look-up of a run on answers: these, and nothing of other keys
abbrev pub look_up : List ReadAnswer → Lookup
look_up answers key = option_map said (answer_in key answers)

-- the look-up of a direct run: every key as it is now
abbrev pub state_now : History → Lookup
state_now h key = Some (seen_of (key_now h key))

-- every key as it was at a revision
abbrev pub state_as_of : History → ℕ → Lookup
state_as_of h r key = Some (seen_of (key_at h key r))

-- all these answers are true of a history
abbrev pub AreTrue : History → List ReadAnswer → Type 0
AreTrue h [] = Unit {0}
AreTrue h (a ∷ answers) = IsTrueAnswer h a × AreTrue h answers

-- the answer to a read of a key as it is now
abbrev pub answer_now : History → List ℕ → ReadAnswer
answer_now h key = record { key = key; kv = key_now h key; of_rev = now h; revision = now h }
