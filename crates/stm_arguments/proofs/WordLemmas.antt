-- The words of an argument that may have several, by what `get_strs` gives.
use Rattle.std.proofs.Common.{◌≡◌, ◌∙◌, ap, List, [], Option, option_map}
use Rattle.std.specs.Prelude.{unwrap_or}
use Rattle.clap.specs.Words.{Text, matched_of, raw_values, rows_of}
use Rattle.clap.specs.declared.parser.matches.Found.{Found}
use Rattle.clap.proofs.WalkLemmas.{raw_values-rows}
use Rattle.stm_arguments.specs.Asking.{words_at}

pub all_words : (found : Found) (name : Text) (given : Option (List Text)) → given ≡ option_map raw_values (matched_of found name)
    → unwrap_or given [] ≡ words_at name (rows_of found)
all_words found name given is = ap (λ (o : Option (List Text)). unwrap_or o []) (is ∙ raw_values-rows found name)
