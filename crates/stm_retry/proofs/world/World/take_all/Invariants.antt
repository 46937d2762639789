use Rattle.std.proofs.Common.{◌≡◌, ◌+◌, ◌≤◌, ◌++◌, length, take, drop, vec_len, vec_capacity}
use Rattle.stm_world.specs.World.{world_after, replies_to}
use Rattle.stm_retry.proofs.world.World.take_all.Given as goal

-- the replies so far and those to the rest, and the world after the events so far
abbrev pub invariant-loop-event : goal.invariant-loop-event
invariant-loop-event l = record {
  counted : l.done ≡ l.event-index;
  room : vec_len l.replies + length (drop l.event-index l.events) ≤ vec_capacity l.replies;
  reported : l.replies.items ++ replies_to (drop l.event-index l.events) l.self ≡ replies_to l.events l.fn.self;
  rest : world_after (drop l.event-index l.events) l.self ≡ world_after l.events l.fn.self;
  reached : l.self ≡ world_after (take l.event-index l.events) l.fn.self;
}
