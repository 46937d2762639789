-- The names of what can be wrong with a source.
use Rattle.std.specs.Prelude.{ℕ, List, codes}
use Rattle.stm_terms.specs.declared.faults.SourceCause.{SourceCause}
use Rattle.stm_terms.specs.declared.faults.SourceCause.TheVariants.{NotUtf8, TooLong, Token, Syntax, Return, Sort, Name, Range, Arguments, Kind, Key, TooMany, TooDeep, TooManyNodes}

abbrev pub cause_name : SourceCause → List ℕ
cause_name NotUtf8 = codes "NotUtf8"
cause_name TooLong = codes "TooLong"
cause_name Token = codes "Token"
cause_name Syntax = codes "Syntax"
cause_name Return = codes "Return"
cause_name Sort = codes "Sort"
cause_name Name = codes "Name"
cause_name Range = codes "Range"
cause_name Arguments = codes "Arguments"
cause_name Kind = codes "Kind"
cause_name Key = codes "Key"
cause_name TooMany = codes "TooMany"
cause_name TooDeep = codes "TooDeep"
cause_name TooManyNodes = codes "TooManyNodes"
