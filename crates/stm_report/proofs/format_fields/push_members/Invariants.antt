use Rattle.std.proofs.Common.{◌≡◌, ◌++◌, false, map, drop, string_bytes}
use Rattle.serde_json.specs.View.{items_view}
use Rattle.serde_json.specs.Written.{items_have_float}
use Rattle.stm_report.specs.FormatFields.{members_text}
use Rattle.stm_report.proofs.format_fields.push_members.Given as goal

-- the members so far, and those of the values that are left, which have no float
abbrev pub invariant-loop-index : goal.invariant-loop-index
invariant-loop-index l = record {
  text : string_bytes l.text ++ members_text (map (λ name. name.now) l.names) l.index (items_view (drop l.index l.values))
      ≡ string_bytes l.fn.text ++ members_text (map (λ name. name.now) l.names) 0 (items_view l.values);
  plain : items_have_float (items_view (drop l.index l.values)) ≡ false;
}
