use Rattle.std.proofs.Common.{◌≡◌, ◌≤◌, ◌-◌, ℕ, List, [], ◌∷◌, ◌++◌, length, None, Some, sym, ap, ◌∙◌, subst, arith, drop, All}
use Rattle.std.specs.Prelude.{bytes_eq, string_bytes}
use Rattle.std.specs.Map.{update}
use Rattle.std.proofs.lemmas.List.{length-drop}
use Rattle.std.proofs.lemmas.List.Elements.{All-push}
use Rattle.std.proofs.lemmas.Map.Text.{hash_map_updates_text}
use Rattle.indexmap.specs.IndexMap.{get_by_text}
use Rattle.stm_history.specs.declared.key_state.ReadAnswer.{ReadAnswer}
use Rattle.stm_outcome.specs.Numbers.{ReadFits}
use Rattle.stm_compile.specs.Answers.{answer_in}
use Rattle.stm_compile.specs.declared.read_set.TheConstants.{MOST_SEARCHED}
use Rattle.stm_compile.specs.Places.{AreRead}
use Rattle.stm_compile.proofs.AnswerLemmas.{read_indexed}
use Rattle.stm_compile.proofs.read_set.ReadSet.add_indexed.Goals as goal

-- the index has the added answer's place under its key
pub invariant_of-self-2 : goal.invariant_of-self-2
invariant_of-self-2 c =
    let answers : List ReadAnswer = c.self.inside.answers.items in
    let many : MOST_SEARCHED ≤ length answers = omega (arith, c.requires.place, ap (λ (l : List ReadAnswer). length l) c.self.view_is) in
    let items : c.push_reserved.new.self.items ≡ answers ++ c.args.answer ∷ [] =
    c.push_reserved.ensures.items ∙ ap (λ l. l ++ c.args.answer ∷ []) c.in_ok-reserve.ensures.items in
    let behind : ℕ = length (drop MOST_SEARCHED answers) in
    let count : c.len-place.result - MOST_SEARCHED ≡ behind =
    omega (arith, c.len-place.ensures, c.reserve.new.self.ok, ap (λ (l : List ReadAnswer). length l) c.in_ok-reserve.ensures.items, length-drop MOST_SEARCHED answers) in
    let key_is : string_bytes c.in_ok-key.key ≡ c.args.answer.key = c.in_ok-key.ensures.ok ∙ c.as_str.ensures in
    let new : answer_in c.args.answer.key answers ≡ None = ap (answer_in c.args.answer.key) c.self.view_is ∙ c.requires.new_key in (
      subst (λ l. All ReadFits l) (sym items) (All-push ReadFits answers c.args.answer c.self.invariant.0 c.requires.in_range),
      subst (λ l. AreRead MOST_SEARCHED l (get_by_text c.insert.new.self)) (sym items)
          (read_indexed MOST_SEARCHED answers c.args.answer (get_by_text c.self.inside.places) (get_by_text c.insert.new.self) c.self.invariant.1 many new
          (λ key. hash_map_updates_text (string_bytes c.in_ok-key.key) c.self.inside.places c.insert.new.self (Some (c.len-place.result - MOST_SEARCHED))
          c.in_ok-insert.ensures.updates key
          ∙ ap (λ (n : ℕ). update bytes_eq (get_by_text c.self.inside.places) (string_bytes c.in_ok-key.key) (Some n) key) count
          ∙ ap (λ k. update bytes_eq (get_by_text c.self.inside.places) k (Some behind) key) key_is)),
    )
