use Rattle.std.specs.Prelude.{ℕ, List, codes}
use Rattle.stm_audit.specs.declared.anomaly.Anomaly.{Anomaly}
use Rattle.stm_audit.specs.declared.anomaly.Anomaly.TheVariants.{DirtyRead, LostUpdate, FracturedRead, WriteSkew, StaleRead, BlindWrite}

abbrev pub anomaly_name : Anomaly → List ℕ
anomaly_name DirtyRead = codes "DirtyRead"
anomaly_name LostUpdate = codes "LostUpdate"
anomaly_name FracturedRead = codes "FracturedRead"
anomaly_name WriteSkew = codes "WriteSkew"
anomaly_name StaleRead = codes "StaleRead"
anomaly_name BlindWrite = codes "BlindWrite"
