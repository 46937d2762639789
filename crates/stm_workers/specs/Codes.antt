-- What a run keeps is an equation of sets: of entries, halls, histories, numbers and truth values.
use Rattle.std.specs.Prelude.{List, ℕ, Bool, refl}
use Rattle.std.specs.Coded.{Coded, Coded-set, code_by, coded×, coded_list, coded_ℕ, coded_bool}
use Rattle.stm_history.specs.declared.change.Change.{Change}
use Rattle.stm_history.specs.contracts.change.Change as changes
use Rattle.stm_history.specs.contracts.key_state.KeyState as states
use Rattle.stm_history.specs.Opening.{Opening, States}
use Rattle.stm_history.specs.History.{History}
use Rattle.stm_entries.specs.declared.entry.Entry.{Entry}
use Rattle.stm_entries.specs.contracts.entry.Entry as entries
use Rattle.stm_hall.specs.contracts.hall.Hall as halls
use Rattle.stm_journal.specs.JournalState.{JournalState}

pub entries_set : IsSet (List Entry)
entries_set = Coded-set (coded_list entries.the_row.coded)

pub halls_set : IsSet JournalState
halls_set = Coded-set halls.the_row.coded

coded_opening : Coded Opening
coded_opening =
    code_by (ℕ × States) (coded× coded_ℕ (coded_list (coded× (coded_list coded_ℕ) states.the_row.coded)))
    (λ o. (o.number, o.states)) (λ o. record { number = o.0; states = o.1 }) (λ _. refl)

coded_history : Coded History
coded_history =
    code_by (Opening × List (List Change)) (coded× coded_opening (coded_list (coded_list changes.the_row.coded)))
    (λ h. (h.opening, h.revisions)) (λ h. record { opening = h.0; revisions = h.1 }) (λ _. refl)

pub histories_set : IsSet History
histories_set = Coded-set coded_history

pub numbers_set : IsSet ℕ
numbers_set = Coded-set coded_ℕ

pub truths_set : IsSet Bool
truths_set = Coded-set coded_bool
