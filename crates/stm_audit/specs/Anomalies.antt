-- What is wrong with a commit of a trace, by the history that the commits before it made.
--
-- The levels are those of the Go package `clientv3/concurrency`, "STM": all but ReadCommitted compare the keys read, and SerializableSnapshot the keys
-- written too. The names are those of Berenson and others, "A Critique of ANSI SQL Isolation Levels", 1995.
use Rattle.std.specs.Prelude.{ℕ, ◌-◌, Bool, true, false, ◌&&◌, nat_lt, if◌then◌else◌, List, find, fold, min, Option, Some, None, option_map, slice_get}
use Rattle.std.specs.Option.{option_or}
use Rattle.std.specs.List.{list_any}
use Rattle.stm_history.specs.declared.revisions.TheConstants.{HIGHEST_REVISION}
use Rattle.stm_history.specs.History.{History, key_now, mod_of, key_of}
use Rattle.stm_program.specs.declared.level.Level.{Level}
use Rattle.stm_program.specs.declared.level.Level.TheVariants.{SerializableSnapshot, Serializable, RepeatableReads, ReadCommitted}
use Rattle.stm_history.specs.declared.change.Change.{Change}
use Rattle.stm_program.specs.Levels.{is_comparing}
use Rattle.stm_events.specs.declared.reply.CommittedRead.{CommittedRead}
use Rattle.stm_audit.specs.declared.anomaly.Anomaly.{Anomaly}
use Rattle.stm_audit.specs.declared.anomaly.Anomaly.TheVariants.{DirtyRead, LostUpdate, FracturedRead, WriteSkew, StaleRead, BlindWrite}
use Rattle.stm_audit.specs.declared.commit.Commit.{Commit}
use Rattle.stm_audit.specs.declared.finding.Finding.{Finding}
use Rattle.stm_audit.specs.Reads.{is_untrue, is_stale, changed_at, shows_from, is_among}

-- ---- what came of a stale read

-- one of these reads shows a change that was made with or after that of the stale one's key
abbrev pub is_fractured : History → Option ℕ → List CommittedRead → Bool
is_fractured h None reads = false
is_fractured h (Some changed) reads = list_any (shows_from h changed) reads

-- the commit that made a revision, among those that changed something since the opening, the oldest first
abbrev pub maker : ℕ → List Commit → ℕ → Option Commit
maker opened made revision = slice_get made (revision - opened - 1)

-- a commit had read a key that these writes are of
abbrev pub has_read : List Change → Option Commit → Bool
has_read writes None = false
has_read writes (Some c) = list_any (λ (a : CommittedRead). is_among writes a.key) c.reads

-- what made the stale read's key another one had itself read what this commit writes
abbrev pub is_skewed : ℕ → List Commit → Option ℕ → List Change → Bool
is_skewed opened made None writes = false
is_skewed opened made (Some changed) writes = has_read writes (maker opened made changed)

-- the commit writes the key of a stale read,
abbrev pub is_lost_update : History → Commit → CommittedRead → Bool
is_lost_update h t a = is_stale h a && is_among t.writes a.key

-- or another of its reads does not go with that one,
abbrev pub is_fractured_read : History → Commit → CommittedRead → Bool
is_fractured_read h t a = is_stale h a && is_fractured h (changed_at h a) t.reads

-- or what made that one stale had read what the commit writes
abbrev pub is_write_skew : History → List Commit → Commit → CommittedRead → Bool
is_write_skew h made t a = is_stale h a && is_skewed h.opening.number made (changed_at h a) t.writes

-- an anomaly with a read that shows it, where there is one
abbrev pub shown_by : Anomaly → Option CommittedRead → Anomaly × CommittedRead → Anomaly × CommittedRead
shown_by anomaly None next = next
shown_by anomaly (Some a) next = (anomaly, a)

-- what came of the stale reads of a commit, of which this is the first: the first of the anomalies that one of them shows, with the first of these
abbrev pub came_of : History → List Commit → Commit → CommittedRead → Anomaly × CommittedRead
came_of h made t a =
    shown_by LostUpdate (find (is_lost_update h t) t.reads)
    (shown_by FracturedRead (find (is_fractured_read h t) t.reads)
    (shown_by WriteSkew (find (is_write_skew h made t) t.reads)
    (StaleRead, a)))

-- ---- what is found

abbrev pub of_read : History → ℕ → Anomaly → Bool → CommittedRead → Finding
of_read h number anomaly is_broken a =
    record { commit = number; anomaly = anomaly; is_broken = is_broken; key = a.key; seen = a.mod_rev; held = mod_of (key_now h a.key) }

-- the first read that says what was not so: no level allows it
abbrev pub untrue_in : History → ℕ → ℕ → Commit → Option Finding
untrue_in h known number t = option_map (of_read h number DirtyRead true) (find (is_untrue h known) t.reads)

-- what came of them: a level that compares the keys read promises that there is none
abbrev pub of_stale : History → List Commit → ℕ → Commit → CommittedRead → Finding
of_stale h made number t a = of_read h number (came_of h made t a).0 (is_comparing t.level) (came_of h made t a).1

-- the same, where there is one
abbrev pub stale_in : History → List Commit → ℕ → Commit → Option Finding
stale_in h made number t = option_map (of_stale h made number t) (find (is_stale h) t.reads)

abbrev pub compares_writes : Level → Bool
compares_writes SerializableSnapshot = true
compares_writes Serializable = false
compares_writes RepeatableReads = false
compares_writes ReadCommitted = false

-- the revision of the first read, wherever it stands: the least one that a read is of, and the highest one where nothing was read
unfoldable pub first_read : List CommittedRead → ℕ
first_read reads = fold (λ least (a : CommittedRead). min least a.of_rev) HIGHEST_REVISION reads

-- a written key was put above a revision
abbrev pub is_put_above : History → ℕ → Change → Bool
is_put_above h revision w = nat_lt revision (mod_of (key_now h (key_of w)))

abbrev pub of_write : History → ℕ → ℕ → Change → Finding
of_write h number first w =
    record { commit = number; anomaly = BlindWrite; is_broken = true; key = key_of w; seen = first; held = mod_of (key_now h (key_of w)) }

-- the first written key that was put above the revision of the first read: a level that compares the keys written promises that there is none
abbrev pub overwritten_in : History → ℕ → Commit → Option Finding
overwritten_in h number t =
    if compares_writes t.level then option_map (of_write h number (first_read t.reads)) (find (is_put_above h (first_read t.reads)) t.writes)
    else None

-- what is wrong with a commit, if anything is
abbrev pub found_in : History → ℕ → List Commit → ℕ → Commit → Option Finding
found_in h known made number t = option_or (untrue_in h known number t) (option_or (stale_in h made number t) (overwritten_in h number t))
