use Rattle.std.proofs.Common.{sym, ◌∙◌, ap}
use Rattle.std.specs.Prelude.{string_bytes, bytes_eq}
use Rattle.std.specs.List.{list_any}
use Rattle.stm_terms.proofs.NameLemmas.{any_of}
use Rattle.stm_terms.proofs.names.Names.contains.Goals as goal

pub returns : goal.returns
returns c =
    c.contains.ensures ∙ sym (any_of (bytes_eq c.args.name.now) string_bytes c.self.inside.names.keys)
    ∙ ap (list_any (bytes_eq c.args.name.now)) c.self.view_is
