use Rattle.std.proofs.Common.{◌≡◌, ◌++◌, ℕ, List, OnOk, subst}
use Rattle.stm_formats.specs.FormatHtml.{class_of, cell_html}
use Rattle.stm_formats.proofs.format_html.push_words.Goals as goal

pub returns : goal.returns
unfolding cell_html
returns c =
    let row = c.args.row.now in
    subst (λ (at : ℕ). OnOk c.push_pieces.result (c.push_pieces.new.out.items
    ≡ c.args.out.now.items ++ cell_html at (class_of row.mark) row.lane row.words)) c.column.ensures.number
    (subst (λ (class : List ℕ). OnOk c.push_pieces.result (c.push_pieces.new.out.items
    ≡ c.args.out.now.items ++ cell_html c.column.result class row.lane row.words)) c.class_of.ensures
    (subst (λ (words : List ℕ). OnOk c.push_pieces.result (c.push_pieces.new.out.items
    ≡ c.args.out.now.items ++ cell_html c.column.result c.class_of.result.now row.lane words)) c.as_slice.ensures
    c.push_pieces.ensures))
