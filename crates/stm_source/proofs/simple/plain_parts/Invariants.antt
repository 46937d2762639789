use Rattle.std.proofs.Common.{◌≡◌, ◌++◌, map, drop}
use Rattle.stm_leaving.specs.Source.{Plain}
use Rattle.stm_source.proofs.simple.plain_parts.Given as goal

-- those so far, and those that are left
abbrev pub invariant-loop-statement : goal.invariant-loop-statement
invariant-loop-statement l = l.parts ++ map Plain (drop l.statement-index l.statements) ≡ map Plain l.statements
