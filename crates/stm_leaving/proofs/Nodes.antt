-- The nodes of the program of a source.
use Rattle.std.proofs.Common.{◌≡◌, ℕ, ◌+◌, Bool, ◌&&◌, refl, ◌∙◌, ap, arith}
use Rattle.std.specs.Prelude.{if◌then◌else◌}
use Rattle.std.proofs.lemmas.Bool.Decides.{nat_tests}
use Rattle.stm_program.specs.Syntax.{Block, If, End, Then}
use Rattle.stm_program.specs.Size.{condition_nodes, block_nodes}
use Rattle.stm_leaving.specs.Source.{Source, Sources, Copies, Plain, Choice, Items, Count, Return, Break, Continue, Nil, Next, NoCopy, Copy, in_copies}
use Rattle.stm_leaving.specs.Leaving.{goes_on, keeps_to, keep_to}
use Rattle.stm_leaving.specs.declared.follow.Follow.{Follow}
use Rattle.stm_leaving.specs.Closed.{nothing, with_next, copy_follow, one_behind, is_abort, behind, closed, closed_one, closed_copies}
use Rattle.stm_leaving.specs.Nodes.{no_nodes, nodes_of, closed_nodes, one_nodes, copies_nodes, NodesAreTold}

nodes-one_behind : (a b : Block) → block_nodes (one_behind a b) ≡ block_nodes a + block_nodes b
nodes-one_behind End b = omega arith
nodes-one_behind (Then first rest) b = omega (arith, nodes-one_behind rest b)

nodes-behind : (x : Bool) (k : Follow) → nodes_of (if x then nothing else k) ≡ (if x then no_nodes else nodes_of k)
nodes-behind x k = grind (arith, nat_tests)

nodes-test : (x : Bool) (a b : Block) (m n : ℕ) → block_nodes a ≡ m → block_nodes b ≡ n → block_nodes (if x then a else b) ≡ (if x then m else n)
nodes-test x a b m n e f = grind (arith, nat_tests)

mutual
  unfolding closed closed_nodes

  nodes-closed : (p : Sources) (k : Follow) → block_nodes (closed p k) ≡ closed_nodes p (nodes_of k)
  nodes-closed Nil k = refl
  nodes-closed (Next first rest) k =
      nodes-one first (with_next k (closed rest (behind first k)))
      ∙ ap (λ n. one_nodes first (record (nodes_of k) { next = n })) (nodes-closed rest (behind first k) ∙ ap (λ f. closed_nodes rest f) (nodes-behind (is_abort first) k))

  nodes-one : (q : Source) (k : Follow) → block_nodes (closed_one q k) ≡ one_nodes q (nodes_of k)
  nodes-one (Plain p) k = refl
  nodes-one (Choice c a b) k =
      nodes-test (keeps_to goes_on a && keeps_to goes_on b) (Then (If c (closed a nothing) (closed b nothing)) k.next) (Then (If c (closed a k) (closed b k)) End)
      (1 + condition_nodes c + closed_nodes a no_nodes + closed_nodes b no_nodes + block_nodes k.next)
      (1 + condition_nodes c + closed_nodes a (nodes_of k) + closed_nodes b (nodes_of k))
      (rw (nodes-closed a nothing, nodes-closed b nothing) refl) (omega (arith, nodes-closed a k, nodes-closed b k))
  nodes-one (Items cs) k =
      nodes-test (keep_to (in_copies goes_on) cs) (one_behind (closed_copies cs End) k.next) (closed_copies cs k.next) (copies_nodes cs 0 + block_nodes k.next)
      (copies_nodes cs (block_nodes k.next)) (nodes-one_behind (closed_copies cs End) k.next ∙ ap (λ n. n + block_nodes k.next) (nodes-copies cs End))
      (nodes-copies cs k.next)
  nodes-one (Count v e limit body) k = rw (nodes-closed body nothing) refl
  nodes-one Return k = refl
  nodes-one Break k = refl
  nodes-one Continue k = refl

  nodes-copies : (cs : Copies) (after : Block) → block_nodes (closed_copies cs after) ≡ copies_nodes cs (block_nodes after)
  nodes-copies NoCopy after = refl
  nodes-copies (Copy c cs) after =
      nodes-closed c (copy_follow (closed_copies cs after) after)
      ∙ ap (λ n. closed_nodes c (record { next = n; broken = block_nodes after; continued = n })) (nodes-copies cs after)

pub nodes_are_told : NodesAreTold
nodes_are_told statements = nodes-closed statements nothing
