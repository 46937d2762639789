-- The look-ups of a value, in the order in which they are evaluated, and what is set in front of its statement where one has an `else`.
use Rattle.std.specs.Prelude.{ℕ, zero, suc, ◌+◌, List, [], ◌∷◌, ◌++◌, length, take, drop, Bool, Option, Some, None, is_some, Ok, slice_get, nat_lt, if◌then◌else◌}
use Rattle.stm_program.specs.declared.limits.TheConstants.{MAX_VARIABLE}
use Rattle.stm_program.specs.Syntax.{Expression, Text, Number, Variable, Get, Rev, Arithmetic, Cat, TextOf, NumOf, Equal, Statement, Set, If, Block, End}
use Rattle.stm_program.specs.BlockView.{block_of}
use Rattle.stm_terms.specs.declared.limits.TheConstants.{MOST_PLANS}
use Rattle.stm_terms.specs.declared.faults.SourceCause.TheVariants as cause
use Rattle.stm_terms.specs.declared.look_ups.LookUp.{LookUp}
use Rattle.stm_terms.specs.declared.look_ups.Other.{Other}
use Rattle.stm_terms.specs.declared.kinds.Valued.{Valued}
use Rattle.stm_terms.specs.declared.look_ups.Lift.{Lift}
use Rattle.stm_terms.specs.declared.look_ups.Fronts.{Fronts}
use Rattle.stm_terms.specs.declared.look_ups.Fronted.{Fronted}
use Rattle.stm_terms.specs.declared.look_ups.FrontedPair.{FrontedPair}
use Rattle.stm_terms.specs.declared.scope.Scope.{Scope}
use Rattle.stm_terms.specs.Outcome.{Outcome, bad, ◌>>=◌}

-- ---- look-ups; those of the value behind an `else` follow the one that has it

abbrev pub other_as : ℕ → Expression → ℕ → Other
other_as at e own = record { at = at; value = e; own = own }

abbrev pub look_up_as : ℕ → Option Other → LookUp
look_up_as at other = record { at = at; other = other }

-- one more
abbrev pub with_look_up : List LookUp → ℕ → List LookUp
with_look_up ls at = ls ++ look_up_as at None ∷ []

abbrev pub else_or : Option Other → Option ℕ → Option ℕ
else_or (Some o) more = Some o.at
else_or None more = more

-- where the first `else` of these stands
abbrev pub first_else : List LookUp → Option ℕ
first_else [] = None
first_else (l ∷ ls) = else_or l.other (first_else ls)

abbrev pub has_else : List LookUp → Bool
has_else ls = is_some (first_else ls)

-- those of the value behind an `else`, where one has an `else`, too
abbrev pub own_look_ups : Valued → List LookUp
own_look_ups x = if has_else x.look_ups then x.look_ups else []

-- one that has an `else`, and behind it those of the value that this gives
abbrev pub with_else : List LookUp → ℕ → ℕ → Valued → List LookUp
with_else ls at else_at x = (ls ++ look_up_as at (Some (other_as else_at x.expression (length (own_look_ups x)))) ∷ []) ++ own_look_ups x

-- ---- the statements, and the value behind them

-- what the key has, and where that is "" what is set then
abbrev pub else_front : ℕ → Option Block → List Statement
else_front v None = []
else_front v (Some other) = If (Equal (Variable v) (Text [])) other End ∷ []

abbrev pub front_of : Lift → Expression → List Statement
front_of l look_up = Set l.variable look_up ∷ else_front l.variable l.other

abbrev pub no_fronts : Fronts
no_fronts = record { done = 0; statements = [] }

-- a look-up, or its variable where it is set in front
abbrev pub set_in_front : Expression → Fronts → Option Lift → Expression × Fronts
set_in_front look_up f None = (look_up, f)
set_in_front look_up f (Some l) = (Variable l.variable, record { done = f.done + 1; statements = f.statements ++ front_of l look_up })

abbrev pub looked_up : List Lift → (Expression → Expression) → Expression × Fronts → Expression × Fronts
looked_up plan look x = set_in_front (look x.0) x.1 (slice_get plan x.1.done)

abbrev pub of_one : (Expression → Expression) → Expression × Fronts → Expression × Fronts
of_one make x = (make x.0, x.1)

abbrev pub of_two : (Expression → Expression → Expression) → Expression × Fronts → (Fronts → Expression × Fronts) → Expression × Fronts
of_two make x right = of_one (make x.0) (right x.1)

-- a value whose look-ups are set in front by this plan, behind those that were
abbrev pub lifted : List Lift → Expression → Fronts → Expression × Fronts
lifted plan (Text t) f = (Text t, f)
lifted plan (Number z) f = (Number z, f)
lifted plan (Variable v) f = (Variable v, f)
lifted plan (Get e) f = looked_up plan Get (lifted plan e f)
lifted plan (Rev e) f = looked_up plan Rev (lifted plan e f)
lifted plan (Arithmetic o l r) f = of_two (Arithmetic o) (lifted plan l f) (lifted plan r)
lifted plan (Cat l r) f = of_two Cat (lifted plan l f) (lifted plan r)
lifted plan (TextOf e) f = of_one TextOf (lifted plan e f)
lifted plan (NumOf e) f = of_one NumOf (lifted plan e f)

-- ---- which look-ups are set in front: those up to the last that has an `else`, each in the next variable that nothing has

abbrev pub fronted_by : Expression × Fronts → Fronted
fronted_by x = record { front = x.1.statements; expression = x.0 }

-- how look-ups are planned, behind those that were, from a variable on
abbrev pub Planning : Type 0
Planning = List Lift → ℕ → List LookUp → Outcome (List Lift)

abbrev pub as_it_stands : Expression → Fronted
as_it_stands e = record { front = []; expression = e }

-- a value of these look-ups, from a variable on
abbrev pub planned_front : Planning → ℕ → Expression → List LookUp → Outcome Fronted
planned_front planned v e ls = if has_else ls then (planned [] v ls >>= λ plan. Ok (fronted_by (lifted plan e no_fronts))) else Ok (as_it_stands e)

abbrev pub set_behind : ℕ → Fronted → Block
set_behind v f = block_of (f.front ++ Set v f.expression ∷ [])

-- what sets a variable to the value behind an `else`: that is set in front of, too, from the next variable on
abbrev pub else_block : Planning → ℕ → Option Other → List LookUp → Outcome (Option Block)
else_block planned v None own = Ok None
else_block planned v (Some o) own = planned_front planned (v + 1) o.value own >>= λ f. Ok (Some (set_behind v f))

abbrev pub own_in : Option Other → ℕ
own_in None = 0
own_in (Some o) = o.own

abbrev pub lift_as : ℕ → Option Block → Lift
lift_as v other = record { variable = v; other = other }

abbrev pub plan_first : Planning → List Lift → ℕ → LookUp → List LookUp → Outcome (List Lift)
plan_first planned plan v l ls =
    if nat_lt MAX_VARIABLE v then bad l.at cause.TooMany
    else (else_block planned v l.other (take (own_in l.other) ls) >>= λ other. planned (plan ++ lift_as v other ∷ []) (v + 1) (drop (own_in l.other) ls))

abbrev pub plan_by : Planning → List Lift → ℕ → List LookUp → Outcome (List Lift)
plan_by planned plan v [] = Ok plan
plan_by planned plan v (l ∷ ls) = if has_else (l ∷ ls) then plan_first planned plan v l ls else Ok plan

-- at most so many: each takes a variable of its own
unfoldable pub planned : ℕ → List Lift → ℕ → List LookUp → Outcome (List Lift)
planned zero plan v ls = Ok plan
planned (suc most) plan v ls = plan_by (planned most) plan v ls

-- ---- the values of a statement, before which these names are in sight

abbrev pub with_front : Scope → Valued → Outcome Fronted
with_front scope x = planned_front (planned MOST_PLANS) (length scope.names) x.expression x.look_ups

abbrev pub paired_by : Expression → Expression × Fronts → FrontedPair
paired_by l x = record { front = x.1.statements; left = l; right = x.0 }

abbrev pub paired : List Lift → Expression → Expression × Fronts → FrontedPair
paired plan right x = paired_by x.0 (lifted plan right x.1)

abbrev pub pair_by : Scope → Expression → Expression → List LookUp → Outcome FrontedPair
pair_by scope l r ls =
    if has_else ls then (planned MOST_PLANS [] (length scope.names) ls >>= λ plan. Ok (paired plan r (lifted plan l no_fronts)))
    else Ok (record { front = []; left = l; right = r })

-- its two values
abbrev pub pair_with_front : Scope → Valued → Valued → Outcome FrontedPair
pair_with_front scope x y = pair_by scope x.expression y.expression (x.look_ups ++ y.look_ups)
