-- Which answers a hall's history shows.
--
-- etcd's API reference, "Range": a read names a revision, and 0 the current one. That an answer is looked at again later is our own.
use Rattle.std.specs.Prelude.{◌≡◌, ◌≤◌, ℕ, List, [], ◌∷◌}
use Rattle.stm_history.specs.declared.key_state.ReadAnswer.{ReadAnswer}
use Rattle.stm_history.specs.History.{History, IsTrueAnswer}

-- the answer is true of the history, at a revision that is not 0
abbrev pub IsShown : History → ReadAnswer → Type 0
IsShown h a = (1 ≤ a.of_rev) × IsTrueAnswer h a

-- all these are, at this revision
abbrev pub AreShownAt : History → ℕ → List ReadAnswer → Type 0
AreShownAt h revision [] = Unit {0}
AreShownAt h revision (a ∷ answers) = ((a.of_rev ≡ revision) × IsShown h a) × AreShownAt h revision answers
