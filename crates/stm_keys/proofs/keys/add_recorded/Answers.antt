use Rattle.std.proofs.Common.{arith, subst, List}
use Rattle.stm_keys.specs.declared.event.Event.{Event}
use Rattle.stm_keys.specs.Events.{event_about}
use Rattle.stm_keys.specs.Chains.{StandFirst, is_left, names_of}
use Rattle.stm_keys.proofs.Order.{names_long}
use Rattle.stm_keys.proofs.keys.add_recorded.Goals as goal

pub add_versions-requires-clause-bound : goal.add_versions-requires-clause-bound
add_versions-requires-clause-bound c =
    omega (arith, c.requires.bound, c.make_room.ensures.present.longer, names_long c.args.chains.now, names_long c.make_room.new.chains)

pub returns-clause-first : goal.returns-clause-first
returns-clause-first c = λ is_present absent first.
    subst (λ (es : List Event). StandFirst (λ k. is_left (event_about k es) (is_present k)) c.add_versions.new.present (names_of c.add_versions.new.chains))
    c.as_slice-2.ensures
    (c.add_versions.ensures.first is_present (c.in_ok-make_room.ensures.present.first is_present c.args.present.now absent first))
