-- The lease log, and which leases live after it. The rule is that of the Lease part of etcd's API
-- reference: a grant makes a lease of an id for a time to live, a keep-alive renews it, and a
-- revocation or its expiry ends it.
use Rattle.std.specs.Prelude.{ℕ, ◌+◌, nat_eq, List, [], ◌∷◌, Option, Some, None, option_map, if◌then◌else◌}

-- one item of the log, with the moment where it has one
pub data LogItem : Type 0 where
  Grant : (id ttl at : ℕ) → LogItem
  Renew : (id at : ℕ) → LogItem
  Revoke : (id : ℕ) → LogItem
  Expire : (id : ℕ) → LogItem

-- a live lease: how long it lives without a renewal, and when it was last renewed
pub record Term : Type 0 where
  pub ttl : ℕ
  pub renewed : ℕ

-- the moment from which a lease is due
abbrev pub due : Term → ℕ
due term = term.renewed + term.ttl

-- what an item makes of the lease of an id: a grant makes it live and renewed at that moment, a
-- renewal moves that moment, a revocation or expiry ends it, and an item of another id leaves it
abbrev pub term_after : LogItem → ℕ → Option Term → Option Term
term_after (Grant id ttl at) asked before =
    if nat_eq id asked then Some (record { ttl = ttl; renewed = at }) else before
term_after (Renew id at) asked before =
    if nat_eq id asked then option_map (λ (term : Term). record term { renewed = at }) before else before
term_after (Revoke id) asked before = if nat_eq id asked then None else before
term_after (Expire id) asked before = if nat_eq id asked then None else before

-- the lease of an id after a log, whose newest item stands first; nothing where the id is not live
abbrev pub term_of : List LogItem → ℕ → Option Term
term_of [] asked = None
term_of (item ∷ earlier) asked = term_after item asked (term_of earlier asked)
