-- The numbers that a store gives in an answer fit into 63 bits: revisions, versions, counts, and the leases of states.
use Rattle.std.specs.Prelude.{ℕ, ◌≤◌, List, [], ◌∷◌, IfSome}
use Rattle.stm_history.specs.declared.change.Change.{Change}
use Rattle.stm_history.specs.declared.change.Change.TheVariants.{Put as PutChange, Del as DelChange}
use Rattle.stm_history.specs.declared.key_state.KeyState.{KeyState}
use Rattle.stm_history.specs.declared.key_state.ReadAnswer.{ReadAnswer}
use Rattle.stm_history.specs.declared.revisions.TheConstants.{HIGHEST_NUMBER}
use Rattle.stm_history.specs.Opening.{Opening, opened_state}
use Rattle.stm_history.specs.History.{History, key_at}
use Rattle.stm_keys.specs.Keys.{HasSmallNumbers}
use Rattle.stm_keys.specs.declared.event.Event.{Event}
use Rattle.stm_keys.specs.declared.event.Event.TheVariants.{Put as PutEvent, Delete as DeleteEvent}
use Rattle.stm_outcome.specs.declared.advance.Expired.{Expired}
use Rattle.stm_outcome.specs.declared.answer.OpAnswer.{OpAnswer}
use Rattle.stm_outcome.specs.declared.answer.OpAnswer.TheVariants.{Get, Put, Del}
use Rattle.stm_outcome.specs.declared.answer.FailedCompare.{FailedCompare}
use Rattle.stm_outcome.specs.declared.answer.TxnAnswer.{TxnAnswer}

-- the lease of a state: an id, or 0
abbrev pub LeaseFits : KeyState → Type 0
LeaseFits s = s.lease ≤ HIGHEST_NUMBER

-- the lease that a change names
abbrev pub ChangeFits : Change → Type 0
ChangeFits (PutChange key value lease) = lease ≤ HIGHEST_NUMBER
ChangeFits (DelChange key) = Unit {0}

abbrev pub ChangesFit : List Change → Type 0
ChangesFit [] = Unit {0}
ChangesFit (c ∷ cs) = ChangeFits c × ChangesFit cs

abbrev pub RevisionsFit : List (List Change) → Type 0
RevisionsFit [] = Unit {0}
RevisionsFit (changes ∷ older) = ChangesFit changes × RevisionsFit older

-- the leases of the keys at an opening
abbrev pub OpeningFits : Opening → Type 0
OpeningFits opening = (key : List ℕ) → IfSome (opened_state opening key) LeaseFits

-- the leases that a history names
abbrev pub LeasesFit : History → Type 0
LeasesFit h = OpeningFits h.opening × RevisionsFit h.revisions

-- each number of a state
pub record StateFits (s : KeyState) : Type 0 where
  pub numbers : HasSmallNumbers s
  pub lease : LeaseFits s

-- each number of what a key was at any revision
abbrev pub StatesFit : History → Type 0
StatesFit h = (key : List ℕ) (revision : ℕ) → IfSome (key_at h key revision) StateFits

-- each number of an event: of a put those of the state, of a deletion its revision
abbrev pub EventFits : Event → Type 0
EventFits (PutEvent key state) = StateFits state
EventFits (DeleteEvent key revision) = revision ≤ HIGHEST_NUMBER

abbrev pub EventsFit : List Event → Type 0
EventsFit [] = Unit {0}
EventsFit (e ∷ es) = EventFits e × EventsFit es

pub record ReadFits (a : ReadAnswer) : Type 0 where
  pub of_rev : a.of_rev ≤ HIGHEST_NUMBER
  pub revision : a.revision ≤ HIGHEST_NUMBER
  pub state : IfSome a.kv StateFits

abbrev pub OpFits : OpAnswer → Type 0
OpFits (Get answer) = ReadFits answer
OpFits Put = Unit {0}
OpFits (Del count) = count ≤ 1

abbrev pub OpsFit : List OpAnswer → Type 0
OpsFit [] = Unit {0}
OpsFit (answer ∷ answers) = OpFits answer × OpsFit answers

pub record AnswerFits (answer : TxnAnswer) : Type 0 where
  pub revision : answer.revision ≤ HIGHEST_NUMBER
  pub answers : OpsFit answer.answers
  pub failed : IfSome answer.failed (λ (f : FailedCompare). f.mod_rev ≤ HIGHEST_NUMBER)

-- a lease that expired, and the revision after it
abbrev pub ExpiredFits : Expired → Type 0
ExpiredFits e = (e.id ≤ HIGHEST_NUMBER) × (e.revision ≤ HIGHEST_NUMBER)

abbrev pub AllExpiredFit : List Expired → Type 0
AllExpiredFit [] = Unit {0}
AllExpiredFit (e ∷ es) = ExpiredFits e × AllExpiredFit es
