-- What a value is: a text, a number, or either, where it is not known or not looked at.
use Rattle.std.specs.Prelude.{ℕ, List, Bool, true, false, Ok, get_or, unwrap_or, if◌then◌else◌}
use Rattle.stm_program.specs.Syntax.{Expression}
use Rattle.stm_terms.specs.declared.faults.SourceCause.TheVariants as cause
use Rattle.stm_terms.specs.declared.kinds.Kind.{Kind}
use Rattle.stm_terms.specs.declared.kinds.Kind.TheVariants.{Either, Text, Number}
use Rattle.stm_terms.specs.declared.kinds.Valued.{Valued}
use Rattle.stm_terms.specs.declared.look_ups.LookUp.{LookUp}
use Rattle.stm_terms.specs.declared.scope.Scope.{Scope}
use Rattle.stm_terms.specs.Outcome.{Outcome, bad}

-- a value may be of both kinds
abbrev pub agrees : Kind → Kind → Bool
agrees Either k = true
agrees Text Either = true
agrees Text Text = true
agrees Text Number = false
agrees Number Either = true
agrees Number Text = false
agrees Number Number = true

abbrev pub valued : Scope → Expression → Kind → List LookUp → Valued
valued scope e k ls = record { expression = e; kind = if scope.looks_at_kinds then k else Either; look_ups = ls }

-- variables that are called by their numbers may be either
abbrev pub kind_of : Scope → ℕ → Kind
kind_of scope v = get_or scope.kinds v Either

-- a value that begins at a byte, where one of a kind is wanted
abbrev pub want : Scope → Kind → Kind → ℕ → Outcome (Unit {0})
want scope wanted k at = if agrees wanted k then Ok tt else bad (unwrap_or scope.kinds_at at) cause.Kind
