use Rattle.std.proofs.Common.{List, ℕ, length, sym, ◌∙◌, ap}
use Rattle.std.specs.Prelude.{string_bytes}
use Rattle.stm_terms.proofs.NameLemmas.{length_of}
use Rattle.stm_terms.proofs.names.Names.len.Goals as goal

pub returns : goal.returns
returns c = c.len.ensures.len ∙ sym (length_of string_bytes c.self.inside.names.keys) ∙ ap (λ (l : List (List ℕ)). length l) c.self.view_is
