use Rattle.std.proofs.Common.{◌≡◌, []}
use Rattle.stm_formats.specs.FormatKeys.{with_changed}
use Rattle.stm_formats.proofs.format_keys.all_changed.Given as goal

-- the keys that the revisions so far changed
abbrev pub invariant-loop-more : goal.invariant-loop-more
invariant-loop-more l = l.keys.items ≡ with_changed l.most [] l.store.history l.since l.more
