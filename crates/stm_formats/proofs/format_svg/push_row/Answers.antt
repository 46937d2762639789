use Rattle.std.proofs.Common.{◌≡◌, ◌++◌, ℕ, List, OnOk, ap, subst, ◌∙◌}
use Rattle.stm_formats.specs.FormatColumns.{column}
use Rattle.stm_formats.specs.FormatSvg.{line_at, shape, colour, placed_svg}
use Rattle.stm_formats.proofs.format_svg.push_row.Goals as goal

pub returns : goal.returns
unfolding placed_svg
returns c =
    let row = c.args.row.now in
    let x : c.line_at-x.result ≡ line_at c.args.places.now (column row.lane) = c.line_at-x.ensures.place ∙ ap (line_at c.args.places.now) c.column.ensures.number in
    subst (λ (at : ℕ). OnOk c.push_pieces.result (c.push_pieces.new.out.items
    ≡ c.args.out.now.items ++ placed_svg at row.number (shape row.mark) (colour row.mark) row.lane row.words)) x
    (subst (λ (drawn : List ℕ). OnOk c.push_pieces.result (c.push_pieces.new.out.items
    ≡ c.args.out.now.items ++ placed_svg c.line_at-x.result row.number drawn (colour row.mark) row.lane row.words)) c.shape.ensures
    (subst (λ (coloured : List ℕ). OnOk c.push_pieces.result (c.push_pieces.new.out.items
    ≡ c.args.out.now.items ++ placed_svg c.line_at-x.result row.number c.shape.result.now coloured row.lane row.words)) c.colour.ensures
    (subst (λ (words : List ℕ). OnOk c.push_pieces.result (c.push_pieces.new.out.items
    ≡ c.args.out.now.items ++ placed_svg c.line_at-x.result row.number c.shape.result.now c.colour.result.now row.lane words)) c.as_slice.ensures
    c.push_pieces.ensures)))
