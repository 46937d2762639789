use Rattle.std.proofs.Common.{◌∷◌, [], cond}
use Rattle.std.specs.Prelude.{bytes_eq}
use Rattle.stm_keys.specs.Events.{key_of_event, event_about, is_put}
use Rattle.stm_keys.specs.Chains.{is_left, names_of}
use Rattle.stm_keys.proofs.Order.{same_presence, left_only}
use Rattle.stm_keys.proofs.keys.add_only.Goals as goal

pub returns-clause-first : goal.returns-clause-first
returns-clause-first c = λ is_present absent first.
    same_presence (λ k. cond (bytes_eq (key_of_event c.args.event) k) (is_put c.args.event) (is_present k))
    (λ k. is_left (event_about k (c.args.event ∷ [])) (is_present k)) c.add_version_at.new.present (names_of c.add_version_at.new.chains)
    (λ k. left_only c.args.event k (is_present k))
    (c.add_version_at.ensures.first is_present (c.in_ok-index.ensures.present.first is_present c.args.present.now absent first))
