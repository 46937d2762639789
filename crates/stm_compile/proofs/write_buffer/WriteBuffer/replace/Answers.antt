use Rattle.std.proofs.Common.{◌≡◌, ◌<◌, List, [], ◌∷◌, ◌++◌, Some, length, set, ap, ◌∙◌, arith}
use Rattle.std.specs.Prelude.{bytes_eq}
use Rattle.std.specs.List.{position}
use Rattle.stm_history.specs.declared.change.Change.{Change}
use Rattle.stm_history.specs.History.{key_of}
use Rattle.stm_program.specs.Writes.{latest_writes}
use Rattle.stm_compile.proofs.BufferLemmas.{replaced_write, distinct_latest}
use Rattle.stm_compile.proofs.write_buffer.WriteBuffer.replace.Goals as goal

pub index_mut-requires : goal.index_mut-requires
index_mut-requires c =
    let ws : List Change = c.self.inside.writes.items in
    let found : position (λ w. bytes_eq (key_of w) (key_of c.args.write)) ws ≡ Some c.args.place =
    ap (λ (l : List Change). position (λ w. bytes_eq (key_of w) (key_of c.args.write)) l) c.self.view_is ∙ c.requires in
    let within : c.args.place < length ws = (replaced_write c.args.write ws c.args.place c.self.invariant found).0 in
    omega (arith, within, c.self.inside.writes.ok)

pub invariant_of-self : goal.invariant_of-self
invariant_of-self c =
    let ws : List Change = c.self.inside.writes.items in
    let found : position (λ w. bytes_eq (key_of w) (key_of c.args.write)) ws ≡ Some c.args.place =
    ap (λ (l : List Change). position (λ w. bytes_eq (key_of w) (key_of c.args.write)) l) c.self.view_is ∙ c.requires in
    distinct_latest (ws ++ c.args.write ∷ []) (set ws c.args.place c.args.write)
    (replaced_write c.args.write ws c.args.place c.self.invariant found).1

pub returns : goal.returns
returns c =
    let ws : List Change = c.self.inside.writes.items in
    let found : position (λ w. bytes_eq (key_of w) (key_of c.args.write)) ws ≡ Some c.args.place =
    ap (λ (l : List Change). position (λ w. bytes_eq (key_of w) (key_of c.args.write)) l) c.self.view_is ∙ c.requires in
    (replaced_write c.args.write ws c.args.place c.self.invariant found).1
    ∙ ap (λ (l : List Change). latest_writes (l ++ c.args.write ∷ [])) c.self.view_is
