-- How rows show keys: a long one without its middle, where no other key of the report has its front and its end.
use Rattle.std.specs.Prelude.{ℕ, zero, suc, ◌+◌, ◌-◌, List, [], ◌∷◌, ◌++◌, map, length, Bool, not, ◌&&◌, ◌||◌, nat_le, bytes_eq, if◌then◌else◌, Result, Ok, Err}
use Rattle.std.specs.List.{list_any}
use Rattle.stm_history.specs.History.{History, now}
use Rattle.stm_keys.specs.Events.{events_of, key_of_event}
use Rattle.stm_events.specs.declared.reply.Reply.{Reply}
use Rattle.stm_events.specs.declared.reply.Reply.TheVariants.{Prefetched, Fetched, Conflict, GaveUp}
use Rattle.stm_events.specs.declared.reply.KeyRead.{KeyRead}
use Rattle.stm_events.specs.declared.refusal.Denied.{Denied}
use Rattle.stm_formats.specs.declared.format_keys.TheConstants.{MOST_KEYS}
use Rattle.stm_formats.specs.declared.format_keys.Cuts.{Cuts}
use Rattle.stm_formats.specs.FormatShown.{plain, key_front, key_back, key_cut}

-- ---- a key in a row

unfoldable pub is_among : List ℕ → List (List ℕ) → Bool
is_among key keys = list_any (λ (other : List ℕ). bytes_eq other key) keys

-- another key has its front and its end
abbrev pub is_twin : ℕ → List ℕ → List ℕ → Bool
is_twin most key other =
    not (bytes_eq other key) && (bytes_eq (key_front most other) (key_front most key) && bytes_eq (key_back most other) (key_back most key))

unfoldable pub has_twin : ℕ → List ℕ → List (List ℕ) → Bool
has_twin most key keys = list_any (is_twin most key) keys

-- one of the report's long keys without its middle, where no other one of them looks like that
abbrev pub key_words : Cuts → List ℕ → List ℕ
key_words cuts key = if is_among key cuts.keys && not (has_twin cuts.key key cuts.keys) then key_cut cuts.key key else plain key

-- ---- the long keys of a report: the first ones of more than so many bytes, each once

abbrev pub with_key : ℕ → List (List ℕ) → List ℕ → List (List ℕ)
with_key most keys key =
    if nat_le (length key) most || nat_le MOST_KEYS (length keys) then keys else (if is_among key keys then keys else keys ++ key ∷ [])

abbrev pub with_keys : ℕ → List (List ℕ) → List (List ℕ) → List (List ℕ)
with_keys most keys [] = keys
with_keys most keys (key ∷ more) = with_keys most (with_key most keys key) more

abbrev pub keys_read : List KeyRead → List (List ℕ)
keys_read reads = map (λ (read : KeyRead). read.key) reads

-- those that a reply names
abbrev pub keys_told : Result Reply Denied → List (List ℕ)
keys_told (Ok (Prefetched runner revision reads)) = keys_read reads
keys_told (Ok (Fetched runner key mod_rev of_rev revision)) = key ∷ []
keys_told (Ok (Conflict runner key seen now)) = key ∷ []
keys_told (Ok (GaveUp runner attempts key seen now)) = key ∷ []
keys_told (Ok other) = []
keys_told (Err denied) = []

abbrev pub with_told : ℕ → List (List ℕ) → List (Result Reply Denied) → List (List ℕ)
with_told most keys [] = keys
with_told most keys (reply ∷ replies) = with_told most (with_keys most keys (keys_told reply)) replies

-- those that so many revisions above one changed
abbrev pub with_changed : ℕ → List (List ℕ) → History → ℕ → ℕ → List (List ℕ)
with_changed most keys h since zero = keys
with_changed most keys h since (suc count) =
    with_keys most (with_changed most keys h since count) (map key_of_event (events_of h (since + count + 1)))

-- all that rows name, where the store was at a revision before the first of them
abbrev pub long_keys : ℕ → History → ℕ → List (Result Reply Denied) → List (List ℕ)
long_keys most h since replies = with_told most (with_changed most [] h since (now h - since)) replies

-- so many bytes of a value and of a key in the rows of such a report
abbrev pub cuts_of : ℕ → ℕ → History → ℕ → List (Result Reply Denied) → Cuts
cuts_of value key h since replies = record { value = value; key = key; keys = long_keys key h since replies }

-- so many bytes of a value, and keys whole
abbrev pub whole_keys : ℕ → Cuts
whole_keys value = record { value = value; key = 0; keys = [] }
