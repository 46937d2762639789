-- The entries that are about leases.
use Rattle.std.specs.Prelude.{Bool, true, false, List, filter}
use Rattle.stm_entries.specs.declared.entry.Entry.{Entry}
use Rattle.stm_entries.specs.declared.entry.Entry.TheVariants.{Program, Foreign}

abbrev pub is_about_lease : Entry → Bool
is_about_lease (Program program level answers output trace revision) = false
is_about_lease (Foreign txn) = false
is_about_lease other = true

abbrev pub leases_of : List Entry → List Entry
leases_of entries = filter is_about_lease entries
