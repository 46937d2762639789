-- The names of what can be wrong with an input, as the formats spell them.
use Rattle.std.specs.Prelude.{ℕ, List, codes}
use Rattle.stm_json.specs.declared.cause.Cause.{Cause}
use Rattle.stm_json.specs.declared.cause.Cause.TheVariants.{NotJson, Shape, Range, TooDeep, TooManyNodes, TooLong, TooMany}

abbrev pub cause_name : Cause → List ℕ
cause_name NotJson = codes "NotJson"
cause_name Shape = codes "Shape"
cause_name Range = codes "Range"
cause_name TooDeep = codes "TooDeep"
cause_name TooManyNodes = codes "TooManyNodes"
cause_name TooLong = codes "TooLong"
cause_name TooMany = codes "TooMany"
