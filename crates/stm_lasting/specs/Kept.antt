-- What a file of scenarios leads to.
--
-- A world that lasts is kept as what it was asked: each record of its file is the text of a scenario, in their order. That the events of a log are
-- taken again, in order, is how a store comes back from its log ("command logging"); which texts are scenarios is `stm_texts`.
use Rattle.std.specs.Prelude.{◌≡◌, ◌⊎◌, ◌≤◌, ◌^◌, ℕ, if◌then◌else◌, List, [], ◌∷◌, ◌++◌, length, Option, None, Some, option_and_then, Ok, Err}
use Rattle.stm_txn.specs.Standing.{at_revision}
use Rattle.stm_json.specs.Outcome.{Outcome}
use Rattle.stm_texts.specs.declared.scenario.Scenario.{Scenario}
use Rattle.stm_texts.specs.Opens.{setup_of}
use Rattle.stm_texts.specs.Reading.{scenario_in}
use Rattle.stm_world.specs.World.{World, opened, world_after}
use Rattle.stm_world.specs.Restored.{restored_world}
use Rattle.stm_txn.specs.declared.restored.Checkpoint.{Checkpoint}
use Rattle.stm_txn.specs.Restored.{can_restore}
use Rattle.stm_lasting.specs.CheckpointText.{checkpoint_in}
use Rattle.stm_frames.specs.Frame.{log, Opens}
use Rattle.stm_records.specs.Head.{BeginsWhole}
use Rattle.stm_records.specs.RecordFiles.{NoChance, IsBeforeOrAfter}

-- the world after the events of a scenario that was read: what it opens with is of no use over a world, and no such scenario is kept
abbrev pub taken : World → Outcome Scenario → Option World
taken w (Ok scenario) = Some (world_after scenario.events w)
taken w (Err fault) = None

-- the world after these records, one after another, from a world on
abbrev pub led : List (List ℕ) → World → Option World
led [] w = Some w
led (record_text ∷ texts) w = option_and_then (led texts) (taken w (scenario_in record_text))

-- the first scenario says what the store opens with
abbrev pub begun : Outcome Scenario → Option World
begun (Ok scenario) = Some (world_after scenario.events (opened (setup_of scenario.opening)))
begun (Err fault) = None

-- the world after the scenario of a checkpoint, where a store can open with what it has
abbrev pub resumed : Option (Checkpoint × Scenario) → Option World
resumed None = None
resumed (Some kept) = if can_restore kept.0 then Some (world_after (kept.1).events (restored_world kept.0)) else None

-- The world that the first record leads to. A text that is no scenario may be a checkpoint.
abbrev pub begun_with : Outcome Scenario → List ℕ → Option World
begun_with (Ok scenario) text = begun (Ok scenario)
begun_with (Err fault) text = resumed (checkpoint_in text)

-- The world that records lead to. No records lead to one with an empty store at revision 1; where a record spells no scenario, they lead to none. The first
-- one may be a checkpoint.
abbrev pub world_in : List (List ℕ) → Option World
world_in [] = Some (opened (at_revision 1))
world_in (first ∷ texts) = option_and_then (led texts) (begun_with (scenario_in first) first)

-- the file has these records and nothing else, and they lead to this world
pub record IsKept (file : List ℕ) (world : World) : Type 0 where
  pub records : List (List ℕ)
  pub whole : file ≡ log 0 records
  pub leads : world_in records ≡ Some world

-- opening the file, as it was found, comes to this world
pub record OpensTo (file : List ℕ) (world : World) : Type 0 where
  pub head : BeginsWhole file
  pub records : List (List ℕ)
  pub opens : Opens file records
  pub leads : world_in records ≡ Some world

-- opening the file comes to no world: a record spells no scenario
pub record LeadsNowhere (file : List ℕ) : Type 0 where
  pub head : BeginsWhole file
  pub records : List (List ℕ)
  pub opens : Opens file records
  pub nowhere : world_in records ≡ None

-- the file has so many records and nothing else
pub record HasRecords (file : List ℕ) (count : ℕ) : Type 0 where
  pub records : List (List ℕ)
  pub whole : file ≡ log 0 records
  pub number : count ≡ length records

-- the file has these records and nothing else, and with this text as one more they lead to this world
pub record LeadsTo (file text : List ℕ) (world : World) : Type 0 where
  pub records : List (List ℕ)
  pub whole : file ≡ log 0 records
  pub leads : world_in (records ++ text ∷ []) ≡ Some world

-- of a crash while a record is added: the records from before it, with the text or without, in a file that begins as it should
abbrev pub LeavesWhole : List ℕ → List ℕ → List ℕ → Type 0
LeavesWhole file text c = IsBeforeOrAfter file text c × (BeginsWhole file → BeginsWhole c)

-- a file, or the text that is to be its next record, has 2^60 bytes or more
abbrev pub IsTooLong : List ℕ → List ℕ → Type 0
IsTooLong file text = (2 ^ 60 ≤ length file) ⊎ (2 ^ 60 ≤ length text)

-- What may be run over this world: the first scenario of a file, over the empty store that it opens with, or a further one, over the world that the file
-- leads to.
abbrev pub IsReady : List ℕ → World → Scenario → Type 0
IsReady file world scenario =
    ((file ≡ []) × (world ≡ opened (setup_of scenario.opening))) ⊎ ((file ≡ [] → ⊥) × IsKept file world)

-- What a crash left opens to the world that the file led to, or to the world with the text in flight, unless bytes behind the file are a frame by chance.
abbrev pub IsWorldBeforeOrAfter : List ℕ → List ℕ → World → List ℕ → Type 0
IsWorldBeforeOrAfter file text after c =
    (before : World) → IsKept file before → NoChance file text c → OpensTo c before ⊎ OpensTo c after

-- what a crash left opens to one of two worlds
abbrev pub OpensToEither : World → World → List ℕ → Type 0
OpensToEither before after c = OpensTo c before ⊎ OpensTo c after
