-- The table of attached keys by the bytes of its keys. No public clause cites this module.
use Rattle.std.specs.Prelude.{ℕ, List, map, String, string_bytes}
use Rattle.indexmap.specs.IndexMap.{IndexMap}
use Rattle.stm_leases.specs.declared.lease.Attachment.{Attachment}

abbrev pub by_bytes : {A : Type 0} → String A × Attachment → List ℕ × Attachment
by_bytes e = (string_bytes e.0, e.1)

-- the entries, whatever room their texts have
abbrev pub named_entries : {A R : Type 0} → IndexMap (String A) Attachment R → List (List ℕ × Attachment)
named_entries attached = map by_bytes attached.entries
