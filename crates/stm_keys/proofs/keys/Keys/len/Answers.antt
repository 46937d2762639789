use Rattle.std.proofs.Common.{◌∙◌, List, ℕ, length, reverse, sym, ap, subst, Option}
use Rattle.std.specs.Prelude.{string_bytes}
use Rattle.std.specs.Map.{keys_of}
use Rattle.indexmap.specs.IndexMap.{get_by_text}
use Rattle.stm_history.specs.declared.key_state.KeyState.{KeyState}
use Rattle.stm_history.specs.Opening.{Opening}
use Rattle.stm_history.specs.History.{key_after}
use Rattle.stm_keys.specs.declared.event.Event.{Event}
use Rattle.stm_keys.specs.Keys.{Contents, ListsPresent, changes_of}
use Rattle.stm_keys.specs.Chains.{versions_in, names_of, opening_of}
use Rattle.stm_keys.proofs.Present.{present_found, distinct_present, distinct_texts, not_found}
use Rattle.stm_keys.proofs.Order.{present_count}
use Rattle.stm_keys.proofs.Walked.{unchanged_key}
use Rattle.stm_keys.proofs.keys.Keys.len.Goals as goal

pub returns-clause-count : goal.returns-clause-count
returns-clause-count c =
    let opening : Opening = opening_of c.self.inside.below c.self.inside.chains in
    let state : List ℕ → Option KeyState = λ key. key_after opening key (changes_of (reverse c.self.inside.revisions.items)) in
    sym (present_count state c.self.inside.present (names_of c.self.inside.chains) c.self.invariant.1)
    ∙ ap (λ (v : Contents). length v.present) c.self.view_is

pub returns-clause-listed : goal.returns-clause-listed
returns-clause-listed c =
    let recorded : List (List Event) = reverse c.self.inside.revisions.items in
    let opening : Opening = opening_of c.self.inside.below c.self.inside.chains in
    let state : List ℕ → Option KeyState = λ key. key_after opening key (changes_of recorded) in
    let names : List (List ℕ) = names_of c.self.inside.chains in
    subst (λ (v : Contents). ListsPresent v.history v.present) c.self.view_is record {
      states = λ key.
          present_found state key names
          (λ others.
          unchanged_key opening recorded (get_by_text c.self.inside.chains) key c.self.invariant.0
          (ap versions_in (not_found string_bytes key c.self.inside.chains.entries others)));
      once = distinct_present state names (distinct_texts string_bytes (keys_of c.self.inside.chains.entries) c.len-count.ensures.unique);
    }
