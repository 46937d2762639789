use Rattle.std.proofs.Common.{◌≡◌, ◌<◌, ℕ, Option, Some, None, sym, ◌∙◌, arith}
use Rattle.std.proofs.lemmas.List.{get_or_default}
use Rattle.std.specs.Prelude.{MatchOption}
use Rattle.stm_leases.specs.declared.tournament.DueAt.{DueAt}
use Rattle.stm_leases.specs.declared.tournament.Tournament.{Tournament}
use Rattle.stm_leases.specs.Tournament.{IsPlayed, Leads, node_in, slot_of}
use Rattle.stm_leases.proofs.Played.{empty_root, root_is_first, root_of_slots}
use Rattle.stm_leases.proofs.tournament.Tournament.first.Goals as goal

by_root : (t : Tournament) → IsPlayed t → 0 < t.slots → (root : Option DueAt) → node_in t.nodes.items 1 ≡ root →
    MatchOption root ((slot : ℕ) → slot_of t slot ≡ None) (Leads t)
by_root t played some None is = empty_root t.nodes.items t.slots played is
by_root t played some (Some d) is =
    let place = root_of_slots t.nodes.items t.slots played d some is in
    record { slot = place.0; stands = place.1; leads = root_is_first t.nodes.items t.slots played d is }

pub returns : goal.returns
returns c = by_root c.args.self.now c.requires (omega (arith, c.if-self-eq0.false)) c.index.result.now
    (let size = c.requires.size in get_or_default c.args.self.now.nodes.items 1 None c.index.result.now (omega (arith, c.if-self-eq0.false))
    ∙ sym c.index.ensures)
