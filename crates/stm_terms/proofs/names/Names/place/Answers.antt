use Rattle.std.proofs.Common.{sym, ◌∙◌, ap}
use Rattle.std.specs.Prelude.{string_bytes, bytes_eq}
use Rattle.std.specs.List.{position}
use Rattle.stm_terms.proofs.NameLemmas.{position_of}
use Rattle.stm_terms.proofs.names.Names.place.Goals as goal

pub returns : goal.returns
returns c =
    c.get_index_of.ensures.index ∙ sym (position_of (bytes_eq c.args.name.now) string_bytes c.self.inside.names.keys)
    ∙ ap (position (bytes_eq c.args.name.now)) c.self.view_is
