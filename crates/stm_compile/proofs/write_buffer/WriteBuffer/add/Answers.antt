use Rattle.std.proofs.Common.{◌≡◌, List, [], ◌∷◌, ◌++◌, None, ap, ◌∙◌}
use Rattle.std.specs.Prelude.{bytes_eq}
use Rattle.std.specs.List.{position}
use Rattle.stm_history.specs.declared.change.Change.{Change}
use Rattle.stm_history.specs.History.{key_of}
use Rattle.stm_program.specs.Writes.{latest_writes}
use Rattle.stm_compile.proofs.BufferLemmas.{added_write, distinct_latest}
use Rattle.stm_compile.proofs.write_buffer.WriteBuffer.add.Goals as goal

-- where a key is new, one write more goes to the end
pub invariant_of-self-2 : goal.invariant_of-self-2
invariant_of-self-2 c =
    let ws : List Change = c.self.inside.writes.items in
    let new : position (λ w. bytes_eq (key_of w) (key_of c.args.write)) ws ≡ None =
    ap (λ (l : List Change). position (λ w. bytes_eq (key_of w) (key_of c.args.write)) l) c.self.view_is ∙ c.requires in
    distinct_latest (ws ++ c.args.write ∷ []) c.push.new.self.items (c.in_ok-push.ensures.items ∙ added_write c.args.write ws c.self.invariant new)

pub returns-clause-ok : goal.returns-clause-ok
returns-clause-ok c =
    let ws : List Change = c.self.inside.writes.items in
    let new : position (λ w. bytes_eq (key_of w) (key_of c.args.write)) ws ≡ None =
    ap (λ (l : List Change). position (λ w. bytes_eq (key_of w) (key_of c.args.write)) l) c.self.view_is ∙ c.requires in
    c.in_ok-push.ensures.items ∙ added_write c.args.write ws c.self.invariant new
    ∙ ap (λ (l : List Change). latest_writes (l ++ c.args.write ∷ [])) c.self.view_is
