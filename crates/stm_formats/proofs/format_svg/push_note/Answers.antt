use Rattle.std.proofs.Common.{◌≡◌, ◌++◌, ℕ, List, OnOk, subst}
use Rattle.stm_formats.specs.FormatSvg.{note_svg}
use Rattle.stm_formats.proofs.format_svg.push_note.Goals as goal

pub returns : goal.returns
unfolding note_svg
returns c =
    subst (λ (text : List ℕ). OnOk c.push_pieces.result (c.push_pieces.new.out.items ≡ c.args.out.now.items ++ note_svg c.args.number text))
    c.as_slice.ensures c.push_pieces.ensures
