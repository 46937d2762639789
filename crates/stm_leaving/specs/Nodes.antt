-- How many nodes the program of a source has, without the program.
use Rattle.std.specs.Prelude.{◌≡◌, ℕ, ◌+◌, ◌&&◌, if◌then◌else◌}
use Rattle.stm_program.specs.Size.{expression_nodes, condition_nodes, statement_nodes, block_nodes}
use Rattle.stm_leaving.specs.Source.{Source, Sources, Copies, Plain, Choice, Items, Count, Return, Break, Continue, Nil, Next, NoCopy, Copy, in_copies}
use Rattle.stm_leaving.specs.Leaving.{goes_on, keeps_to, keep_to}
use Rattle.stm_leaving.specs.declared.follow.Follow.{Follow}
use Rattle.stm_leaving.specs.Closed.{nothing, is_abort, closed}

-- the nodes of what follows
pub record FollowNodes : Type 0 where
  pub next : ℕ
  pub broken : ℕ
  pub continued : ℕ

abbrev pub no_nodes : FollowNodes
no_nodes = record { next = 0; broken = 0; continued = 0 }

abbrev pub nodes_of : Follow → FollowNodes
nodes_of k = record { next = block_nodes k.next; broken = block_nodes k.broken; continued = block_nodes k.continued }

abbrev pub nodes_behind : Source → FollowNodes → FollowNodes
nodes_behind first k = if is_abort first then no_nodes else k

unfoldable mutual
  pub closed_nodes : Sources → FollowNodes → ℕ
  closed_nodes Nil k = k.next
  closed_nodes (Next first rest) k = one_nodes first (record k { next = closed_nodes rest (nodes_behind first k) })

  pub one_nodes : Source → FollowNodes → ℕ
  one_nodes (Plain p) k = statement_nodes p + k.next
  one_nodes (Choice c a b) k =
      if keeps_to goes_on a && keeps_to goes_on b then 1 + condition_nodes c + closed_nodes a no_nodes + closed_nodes b no_nodes + k.next else 1
      + condition_nodes c + closed_nodes a k + closed_nodes b k
  one_nodes (Items cs) k = if keep_to (in_copies goes_on) cs then copies_nodes cs 0 + k.next else copies_nodes cs k.next
  one_nodes (Count v e limit body) k = 1 + expression_nodes e + closed_nodes body no_nodes + k.next
  one_nodes Return k = 0
  one_nodes Break k = k.broken
  one_nodes Continue k = k.continued

  pub copies_nodes : Copies → ℕ → ℕ
  copies_nodes NoCopy after = after
  copies_nodes (Copy c cs) after = closed_nodes c (record { next = copies_nodes cs after; broken = after; continued = copies_nodes cs after })

abbrev pub NodesAreTold : Type 0
NodesAreTold = (statements : Sources) → block_nodes (closed statements nothing) ≡ closed_nodes statements no_nodes
