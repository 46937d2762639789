use Rattle.std.proofs.Common.{◌≡◌, true, arith, rules}
use Rattle.std.specs.Prelude.{bytes_eq}
use Rattle.stm_keys.specs.Events.{key_of_event}
use Rattle.stm_keys.proofs.Apart.{stands_there}
use Rattle.stm_keys.proofs.event.find_event_at.Goals as goal

-- the event at the spot is the one of the key
pub returns-then-eq : goal.returns-then-eq
returns-then-eq c =
    let found = c.index-events-spot in
    let same : bytes_eq (key_of_event found.result) c.args.key.now ≡ true = search rules in
    stands_there c.args.events.now c.args.key.now c.args.spot found.result c.requires (omega (arith, c.if-spot-events.true)) found.is same
