-- How live leases are stored.
use Rattle.std.specs.Coded.{Coded, coded_ℕ}
use Rattle.std.specs.FinMap as finmap
use Rattle.stm_leases.specs.Leases.{term_code}
use Rattle.stm_leases.specs.Live.{Live}

abbrev pub coded_live : Coded Live
coded_live = finmap.code coded_ℕ term_code
