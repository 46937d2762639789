-- The words of a row have no line feed, and so each row is one line.
use Rattle.std.proofs.Common.{◌≡◌, ℕ, ℤ, zero, suc, pred, ◌+◌, ◌/◌, ◌%◌, Bool, true, false, cond, ◌==◌, List, [], ◌∷◌, ◌++◌, length, replicate}
use Rattle.std.proofs.Common.{nat_eq, nat_lt, Option, None, codes, decimal, Result, refl, ap, ◌∙◌, arith}
use Rattle.std.proofs.lemmas.Bool.Decides.{nat_tests}
use Rattle.std.specs.Fmt.{digits, digits_onto, digit_glyph, signed_decimal}
use Rattle.std.proofs.lemmas.Bool.{cond-false, or_from, or_parts}
use Rattle.stm_program.specs.declared.level.Level.{Level}
use Rattle.stm_texts.specs.Grammar.{level_text}
use Rattle.stm_history.specs.declared.key_state.KeyState.{KeyState}
use Rattle.stm_history.specs.History.{History, now}
use Rattle.stm_keys.specs.declared.event.Event.{Event}
use Rattle.stm_outcome.specs.declared.advance.Expired.{Expired}
use Rattle.stm_events.specs.declared.event.WorldEvent.{WorldEvent}
use Rattle.stm_events.specs.declared.reply.Reply.{Reply}
use Rattle.stm_events.specs.declared.reply.Reply.TheVariants.{Conflict, GaveUp, Aborted, Faulted, Ended}
use Rattle.stm_events.specs.declared.refusal.Denied.{Denied}
use Rattle.stm_events.specs.declared.refusal.EventRefusal.{EventRefusal}
use Rattle.stm_events.specs.Names.{refusal_name}
use Rattle.stm_meaning.specs.Faults.{fault_name}
use Rattle.stm_program.specs.Syntax.{ProgramTree}
use Rattle.stm_steps.specs.declared.value.Value.{Value}
use Rattle.stm_formats.specs.declared.format_keys.Cuts.{Cuts}
use Rattle.stm_formats.specs.declared.format_label.RunnerLabel.{RunnerLabel}
use Rattle.stm_formats.specs.declared.format_row.Lane.{Lane}
use Rattle.stm_formats.specs.FormatShown.{shown, source_shown, around, hidden, hidden_from, coded, byte_text, shown_after}
use Rattle.stm_formats.specs.FormatKeys.{key_words}
use Rattle.stm_formats.specs.FormatPieces.{tag_text}
use Rattle.stm_formats.specs.FormatSource.{source_words}
use Rattle.stm_events.specs.declared.reply.KeyRead.{KeyRead}
use Rattle.stm_reasons.specs.Counters.{counter_after}
use Rattle.stm_formats.specs.FormatChanges.{state_words, known_words, change_words, changes_after, revision_words, changed_since}
use Rattle.stm_formats.specs.FormatWords.{reported_words, called_words, start_words, seen_words, fetched_words, reads_after}
use Rattle.stm_formats.specs.FormatWords.{commit_words, compared_words, txn_words, ends_after, watched_words, batch_words}
use Rattle.stm_formats.specs.FormatWords.{asked_words, refusal_words, reply_words, told_words, words_of}
use Rattle.stm_formats.specs.FormatOutput.{value_words, output_after, emitted_words}
use Rattle.stm_formats.specs.FormatRows.{row_of, rows_of}
use Rattle.stm_formats.specs.FormatText.{row_text, rows_text}
use Rattle.stm_report_laws.specs.FormatLaws.{has, count, OneLineARow}
use Rattle.stm_report_laws.proofs.FormatEscapedLaws.{has_both}

-- ---- what stands in words

coded_without : (b : ℕ) → has 10 (coded b) ≡ false
coded_without b = grind (arith, nat_tests, or_from)

byte_without : (exact : Bool) (hidden b : ℕ) → (nat_eq hidden 0 ≡ true → nat_eq b 10 ≡ false) → has 10 (byte_text exact hidden b) ≡ false
byte_without exact hidden b other = grind (arith, nat_tests, coded_without, or_from)

-- a byte that belongs to no hidden character that began before it
next_without : (exact : Bool) (left x : ℕ) (xs : List ℕ) → has 10 (byte_text exact (hidden_from left (x ∷ xs)) x) ≡ false
next_without exact left x xs = grind (arith, nat_tests, byte_without, coded_without)

after_without : (exact : Bool) (left : ℕ) (xs : List ℕ) → has 10 (shown_after exact left xs) ≡ false
after_without exact left [] = refl
after_without exact left (x ∷ xs) =
    grind (arith, has_both, next_without exact left x xs, after_without exact (pred (hidden_from left (x ∷ xs))) xs)

around_without : (exact : Bool) (mark : List ℕ) (most : ℕ) (text : List ℕ) → has 10 mark ≡ false → has 10 (around exact mark most text) ≡ false
around_without exact mark most text none = grind (arith, nat_tests, has_both, after_without)

cut_by : (exact b : Bool) (most : ℕ) (text : List ℕ) → has 10 (cond b (shown_after exact 0 text) (around exact (codes "..") most text)) ≡ false
cut_by exact b most text = grind (arith, nat_tests, after_without, around_without)

shown_without : (most : ℕ) (text : List ℕ) → has 10 (shown most text) ≡ false
shown_without most text = cut_by true _ most text

source_without : (most : ℕ) (text : List ℕ) → has 10 (source_shown most text) ≡ false
source_without most text = cut_by false _ (most + most) text

key_without : (cuts : Cuts) (key : List ℕ) → has 10 (key_words cuts key) ≡ false
key_without cuts key = grind (arith, nat_tests, around_without, after_without)

glyph_by : (b : Bool) (d : ℕ) → nat_eq (cond b (48 + d) (87 + d)) 10 ≡ false
glyph_by b d = grind (arith, nat_tests)

digits_by : (b : Bool) (glyph : ℕ) (acc more : List ℕ) → nat_eq glyph 10 ≡ false → has 10 acc ≡ false → has 10 more ≡ false
    → has 10 (cond b (glyph ∷ acc) more) ≡ false
digits_by b glyph acc more other none rest = grind (arith, nat_tests, or_from)

digits_without : (k n : ℕ) (acc : List ℕ) → has 10 acc ≡ false → has 10 (digits_onto k 10 false n acc) ≡ false
digits_without zero n acc none = none
digits_without (suc k) n acc none =
    let glyph : nat_eq (digit_glyph false (n % 10)) 10 ≡ false = glyph_by (nat_lt (n % 10) 10) (n % 10) in
    digits_by (n / 10 == 0) (digit_glyph false (n % 10)) acc (digits_onto k 10 false (n / 10) (digit_glyph false (n % 10) ∷ acc)) glyph none
    (digits_without k (n / 10) (digit_glyph false (n % 10) ∷ acc) (or_from (nat_eq (digit_glyph false (n % 10)) 10) (has 10 acc) glyph none))

decimal_without : (n : ℕ) → has 10 (decimal n) ≡ false
unfolding digits
decimal_without n = digits_without 64 n [] refl

level_without : (level : Level) → has 10 (level_text level) ≡ false
level_without level = grind (arith, nat_tests)

-- ---- words

behind_spaces : (text : List ℕ) → has 10 text ≡ false → has 10 (codes "  " ++ (text ++ [])) ≡ false
behind_spaces text none = grind (arith, nat_tests, has_both)

source_words_without : (most : ℕ) (source : List ℕ) → has 10 (source_words most source) ≡ false
source_words_without most [] = refl
source_words_without most (b ∷ bs) = behind_spaces (source_shown most (b ∷ bs)) (source_without most (b ∷ bs))

called_without : (most : ℕ) (call : Option (List ℕ)) (program : ProgramTree) → has 10 (called_words most call program) ≡ false
called_without most call program = grind (arith, nat_tests, source_words_without)

start_without : (most : ℕ) (labels : List RunnerLabel) (runner : ℕ) (e : WorldEvent) → has 10 (start_words most labels runner e) ≡ false
start_without most labels runner e = grind (arith, nat_tests, has_both, level_without, called_without)

txn_without : (most : ℕ) (e : WorldEvent) (succeeded : Bool) (revision : ℕ) → has 10 (txn_words most e succeeded revision) ≡ false
txn_without most e succeeded revision = grind (arith, nat_tests, has_both, source_without, decimal_without)

reported_without : (most : ℕ) (word text : List ℕ) → has 10 word ≡ false → has 10 (reported_words most word text) ≡ false
reported_without most word text none = grind (arith, nat_tests, has_both, shown_without)

-- ---- what keys are, and what changed

state_without : (most : ℕ) (found : Option KeyState) → has 10 (state_words most found) ≡ false
state_without most found = grind (arith, nat_tests, has_both, shown_without, decimal_without)

known_without : (most : ℕ) (h : History) (key : List ℕ) (mod_rev revision : ℕ) → has 10 (known_words most h key mod_rev revision) ≡ false
known_without most h key mod_rev revision = grind (arith, nat_tests, has_both, state_without, decimal_without)

change_without : (cuts : Cuts) (e : Event) → has 10 (change_words cuts e) ≡ false
change_without cuts e = grind (arith, nat_tests, has_both, key_without, shown_without, decimal_without)

changes_without : (cuts : Cuts) (count : ℕ) (events : List Event) → has 10 (changes_after cuts count events) ≡ false
changes_without cuts count [] = refl
changes_without cuts count (e ∷ es) = grind (arith, nat_tests, has_both, change_without, changes_without cuts (suc count) es)

revision_without : (cuts : Cuts) (h : History) (revision : ℕ) → has 10 (revision_words cuts h revision) ≡ false
revision_without cuts h revision = grind (arith, nat_tests, changes_without)

changed_without : (cuts : Cuts) (h : History) (before after : ℕ) → has 10 (changed_since cuts h before after) ≡ false
changed_without cuts h before after = grind (arith, nat_tests, has_both, revision_without)

-- ---- reads and commits

seen_without : (cuts : Cuts) (h : History) (key : List ℕ) (mod_rev revision : ℕ) → has 10 (seen_words cuts h key mod_rev revision) ≡ false
seen_without cuts h key mod_rev revision = grind (arith, nat_tests, has_both, key_without, known_without)

fetched_without : (cuts : Cuts) (h : History) (key : List ℕ) (mod_rev of_rev revision : ℕ) → has 10 (fetched_words cuts h key mod_rev of_rev revision) ≡ false
fetched_without cuts h key mod_rev of_rev revision = grind (arith, nat_tests, has_both, seen_without, decimal_without)

reads_without : (cuts : Cuts) (h : History) (revision count : ℕ) (reads : List KeyRead) → has 10 (reads_after cuts h revision count reads) ≡ false
reads_without cuts h revision count [] = refl
reads_without cuts h revision count (r ∷ rs) = grind (arith, nat_tests, has_both, seen_without, reads_without cuts h revision (suc count) rs)

commit_without : (before revision attempts : ℕ) → has 10 (commit_words before revision attempts) ≡ false
commit_without before revision attempts = grind (arith, nat_tests, has_both, decimal_without)

compared_without : (cuts : Cuts) (h : History) (word key : List ℕ) (seen now : ℕ) → has 10 word ≡ false → has 10 (compared_words cuts h word key seen now) ≡ false
compared_without cuts h word key seen now none = grind (arith, nat_tests, has_both, key_without, known_without)

-- ---- other events

asked_without : (e : WorldEvent) → has 10 (asked_words e) ≡ false
asked_without e = grind (arith, nat_tests, has_both, decimal_without)

ends_without : (count : ℕ) (expired : List Expired) → has 10 (ends_after count expired) ≡ false
ends_without count [] = refl
ends_without count (lease ∷ expired) = grind (arith, nat_tests, has_both, decimal_without, ends_without (suc count) expired)

watched_without : (cuts : Cuts) (e : WorldEvent) → has 10 (watched_words cuts e) ≡ false
watched_without cuts e = grind (arith, nat_tests, has_both, key_without, decimal_without)

batch_without : (cuts : Cuts) (watcher upto : ℕ) (events : List Event) → has 10 (batch_words cuts watcher upto events) ≡ false
batch_without cuts watcher upto events = grind (arith, nat_tests, has_both, decimal_without, changes_without)

refusal_without : (cause : EventRefusal) → has 10 (refusal_words cause) ≡ false
refusal_without cause = grind (arith, nat_tests)

reply_without : (cuts : Cuts) (labels : List RunnerLabel) (h : History) (before : ℕ) (e : WorldEvent) (reply : Reply) → has 10 (reply_words cuts labels h before e reply) ≡ false
reply_without cuts labels h before e (Conflict runner key seen now) = compared_without cuts h (codes "CONFLICT") key seen now refl
reply_without cuts labels h before e (GaveUp runner attempts key seen now) = compared_without cuts h (codes "GAVE UP") key seen now refl
reply_without cuts labels h before e (Aborted runner text) = reported_without cuts.value (codes "ABORT") text refl
reply_without cuts labels h before e (Ended runner cause) = reported_without cuts.value (codes "ENDED") (refusal_name cause) refl
reply_without cuts labels h before e (Faulted runner fault) = reported_without cuts.value (codes "FAULT") (fault_name fault) refl
reply_without cuts labels h before e reply =
    grind (arith, nat_tests, has_both, decimal_without, start_without, reads_without, fetched_without, commit_without, txn_without, ends_without, watched_without, batch_without, asked_without)

told_without : (cuts : Cuts) (labels : List RunnerLabel) (h : History) (before : ℕ) (e : WorldEvent) (reply : Result Reply Denied) → has 10 (told_words cuts labels h before e reply) ≡ false
told_without cuts labels h before e reply = grind (arith, nat_tests, has_both, reply_without, asked_without, refusal_without)

signed_without : (z : ℤ) → has 10 (signed_decimal z) ≡ false
signed_without z = grind (arith, nat_tests, decimal_without, or_from)

value_without : (most : ℕ) (value : Value) → has 10 (value_words most value) ≡ false
value_without most value = grind (arith, nat_tests, has_both, shown_without, signed_without)

output_without : (most count : ℕ) (output : List Value) → has 10 (output_after most count output) ≡ false
output_without most count [] = refl
output_without most count (v ∷ vs) = grind (arith, nat_tests, has_both, value_without, output_without most (suc count) vs)

emitted_without : (most : ℕ) (reply : Result Reply Denied) → has 10 (emitted_words most reply) ≡ false
emitted_without most reply = grind (arith, nat_tests, output_without)

words_without : (cuts : Cuts) (labels : List RunnerLabel) (h : History) (before : ℕ) (e : WorldEvent) (reply : Result Reply Denied) → has 10 (words_of cuts labels h before e reply) ≡ false
words_without cuts labels h before e reply = grind (arith, nat_tests, has_both, told_without, changed_without, emitted_without)

-- ---- a row

spaces_without : (n : ℕ) → has 10 (replicate n 32) ≡ false
spaces_without zero = refl
spaces_without (suc n) = spaces_without n

tag_without : (lane : Lane) → has 10 (tag_text lane) ≡ false
tag_without lane = grind (arith, nat_tests, has_both, decimal_without)

-- a text without line feeds before another
count-before : (xs ys : List ℕ) → has 10 xs ≡ false → count 10 (xs ++ ys) ≡ count 10 ys
count-before [] ys none = refl
count-before (x ∷ xs) ys none =
    cond-false (nat_eq x 10) (count 10 (xs ++ ys) + 1) (count 10 (xs ++ ys)) (or_parts (nat_eq x 10) (has 10 xs) none).0 ∙ count-before xs ys (or_parts (nat_eq x 10) (has 10 xs) none).1

line_by : (b : Bool) (n m : ℕ) → cond b ((n + m) + 1) (n + m) ≡ cond b (n + 1) n + m
line_by b n m = grind (arith, nat_tests)

count-append : (xs ys : List ℕ) → count 10 (xs ++ ys) ≡ count 10 xs + count 10 ys
count-append [] ys = omega arith
count-append (x ∷ xs) ys = ap (λ (n : ℕ). cond (nat_eq x 10) (n + 1) n) (count-append xs ys) ∙ line_by (nat_eq x 10) (count 10 xs) (count 10 ys)

one_line : (cuts : Cuts) (labels : List RunnerLabel) (places : List ℕ) (n : ℕ) (h : History) (before : ℕ) (e : WorldEvent)
    (reply : Result Reply Denied) → count 10 (row_text None places (row_of cuts labels h before n e reply)) ≡ 1
one_line cuts labels places n h before e reply = grind (arith, nat_tests, count-before, has_both, spaces_without, decimal_without, tag_without, words_without)

one_more : (m : ℕ) → 1 + m ≡ suc m
one_more m = omega arith

pub one_line_a_row : OneLineARow
one_line_a_row cuts labels places n h before [] replies = refl
one_line_a_row cuts labels places n h before (e ∷ es) [] = refl
one_line_a_row cuts labels places n h before (e ∷ es) (r ∷ rs) =
    let rest = rows_of cuts labels h (counter_after before r) (suc n) es rs in
    count-append (row_text None places (row_of cuts labels h before n e r)) (rows_text None places rest)
    ∙ ap (λ (m : ℕ). m + count 10 (rows_text None places rest)) (one_line cuts labels places n h before e r)
    ∙ ap (λ (m : ℕ). 1 + m) (one_line_a_row cuts labels places (suc n) h (counter_after before r) es rs)
    ∙ one_more (length rest)
