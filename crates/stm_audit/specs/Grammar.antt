-- Which bytes spell which trace: the grammar, apart from reading, of which it has only the values that a beginning stands for (`stood`, `began`).
use Rattle.std.specs.Prelude.{◌≡◌, ℕ, ◌≤◌, List, [], ◌∷◌, length, Option, Some, None, codes}
use Rattle.serde_json.specs.Data.{Data, null, string, array, Items, item}
use Rattle.serde_json.specs.View.{items_of}
use Rattle.stm_history.specs.declared.revisions.TheConstants.{HIGHEST_NUMBER, HIGHEST_REVISION}
use Rattle.stm_json.specs.declared.limits.TheConstants.{MOST_BYTES}
use Rattle.stm_json.specs.Bytes.{data_of}
use Rattle.stm_json.specs.Parts.{spelled, SpellsNumberIn, SpellsEach}
use Rattle.stm_history.specs.declared.key_state.KeyState.{KeyState}
use Rattle.stm_history.specs.declared.change.Change.{Change}
use Rattle.stm_history.specs.declared.change.Change.TheVariants.{Put, Del}
use Rattle.stm_events.specs.declared.reply.CommittedRead.{CommittedRead}
use Rattle.stm_txn.specs.declared.restored.Checkpoint.{Checkpoint}
use Rattle.stm_texts.specs.Grammar.{level_text}
use Rattle.stm_audit.specs.declared.commit.Commit.{Commit}
use Rattle.stm_audit.specs.declared.trace.Trace.{Trace}
use Rattle.stm_audit.specs.Reading.{stood, began}

-- the value of a key, and null for that of an absent one
abbrev pub SpellsValue : Data → Option (List ℕ) → Type 0
SpellsValue d None = d ≡ null
SpellsValue d (Some value) = d ≡ string value

-- the key, the value, the modification revision and the revision that the answer is of
abbrev pub SpellsRead : Data → CommittedRead → Type 0
SpellsRead d a = (x : Data) × (y : Data) × (z : Data) × (d ≡ array (items_of (string a.key ∷ x ∷ y ∷ z ∷ []))) × SpellsValue x a.value
    × SpellsNumberIn 0 HIGHEST_NUMBER y a.mod_rev × SpellsNumberIn 0 HIGHEST_NUMBER z a.of_rev

-- a trace has no leases
abbrev pub SpellsWrite : Data → Change → Type 0
SpellsWrite d (Put key value lease) = (d ≡ spelled (codes "put") (string key ∷ string value ∷ [])) × (lease ≡ 0)
SpellsWrite d (Del key) = d ≡ spelled (codes "del") (string key ∷ [])

-- the level, the revision, the reads and the writes
abbrev pub SpellsCommit : Data → Commit → Type 0
SpellsCommit d t = (n : Data) × (rs : Items) × (ws : Items) × (d ≡ array (items_of (string (level_text t.level) ∷ n ∷ array rs ∷ array ws ∷ [])))
    × SpellsNumberIn 1 HIGHEST_REVISION n t.revision × SpellsEach SpellsRead rs t.reads × SpellsEach SpellsWrite ws t.writes

-- a key, its value and its modification revision
abbrev pub SpellsKey : Data → List ℕ × KeyState → Type 0
SpellsKey d e = (n : Data) × (d ≡ array (items_of (string e.0 ∷ string e.1.value ∷ n ∷ []))) × SpellsNumberIn 1 HIGHEST_REVISION n e.1.mod_rev
    × (e.1 ≡ stood e.1.value e.1.mod_rev)

-- the word begin, the store's revision and its keys
abbrev pub SpellsBeginning : Data → Checkpoint → Type 0
SpellsBeginning d c = (n : Data) × (ks : Items) × (d ≡ spelled (codes "begin") (n ∷ array ks ∷ [])) × SpellsNumberIn 1 HIGHEST_REVISION n c.revision
    × SpellsEach SpellsKey ks c.states × (c ≡ began c.revision c.states)

-- commits one after the other, alone or after what the trace begins with
abbrev pub SpellsElements : Items → Option Checkpoint → List Commit → Type 0
SpellsElements ds None ts = SpellsEach SpellsCommit ds ts
SpellsElements ds (Some c) ts = (a : Data) × (rest : Items) × (ds ≡ item a rest) × SpellsBeginning a c × SpellsEach SpellsCommit rest ts

-- the JSON of an array of them, in not too many bytes
abbrev pub SpellsTrace : List ℕ → Trace → Type 0
SpellsTrace bytes t =
    (length bytes ≤ MOST_BYTES) × (d : Data) × (data_of bytes ≡ Some d) × (ds : Items) × (d ≡ array ds) × SpellsElements ds t.opening t.commits
