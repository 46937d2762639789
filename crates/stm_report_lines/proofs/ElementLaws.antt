-- What stands in the lists of lines: its faults are those that reading answers, what was read is spelled, and what is spelled is read.
use Rattle.std.proofs.Common.{◌≡◌, ℕ, ◌≤◌, List, Option, Ok, refl, codes}
use Rattle.serde_json.specs.Data.{Data}
use Rattle.stm_history.specs.declared.key_state.KeyState.{KeyState}
use Rattle.stm_json.specs.Elements.{number_up_to}
use Rattle.stm_json.specs.Faults.{AnyText, NumberIn, By, faults_by, worded_faults}
use Rattle.stm_steps.specs.declared.trace_item.TraceItem.{TraceItem}
use Rattle.stm_steps.specs.declared.trace_item.TraceItem.TheVariants as trace
use Rattle.stm_outcome.specs.declared.advance.Expired.{Expired}
use Rattle.stm_keys.specs.declared.event.Event.{Event}
use Rattle.stm_keys.specs.declared.event.Event.TheVariants as event
use Rattle.stm_events.specs.declared.reply.CommittedRead.{CommittedRead}
use Rattle.stm_events.specs.declared.reply.OpReply.{OpReply}
use Rattle.stm_events.specs.declared.reply.OpReply.TheVariants as op
use Rattle.stm_events.specs.declared.reply.KeyRead.{KeyRead}
use Rattle.stm_json.specs.Parts.{text_of}
use Rattle.stm_report_lines.specs.FirstFault.{or_null, plain_faults, trace_table, answer_sorts, op_table, read_sorts, expired_sorts, watched_table}
use Rattle.stm_report_lines.specs.Grammar.{Spells, CountFits}
use Rattle.stm_report_lines.specs.LineData.{whole, trace_data, text_or_null, answer_data, op_data, read_data, expired_data, event_data}
use Rattle.stm_report_lines.specs.Parts.{or_null_of, trace_get_of, trace_rev_of, trace_of, answer_with, answer_parts, answer_of, op_get_of, op_put_of}
use Rattle.stm_report_lines.specs.Parts.{op_del_of, op_of, expired_with, expired_parts, expired_of, key_read_with, key_read_parts, key_read_of, watched_delete_of}
use Rattle.stm_report_lines.specs.Parts.{watched_of}
use Rattle.stm_report_lines.proofs.ReadLaws.{Laws, AnyFits}
use Rattle.stm_report_lines.proofs.PartLaws.{count_reported, count_means, count_reads, text_or_null_laws}
use Rattle.stm_report_lines.proofs.Rows.{Part, part_by, nothing, ◌&◌, second, third, fourth}
use Rattle.stm_report_lines.proofs.Forms.{Form, form, also_made, array_laws, after_reads, Words, no_word, or_word, words_laws}
use Rattle.stm_report_lines.proofs.StateLaws.{State, whole_part, text_part, state_or_null_part, keyed_form, parts_of_keyed}

-- ---- trace items

abbrev get_form : Form (List ℕ × (List ℕ × Unit {0})) TraceItem 1
get_form =
    form 1 (text_part & text_part & nothing) (λ x. trace.Get x.0 (second x)) trace_get_of
    (λ d. refl)

abbrev rev_form : Form (List ℕ × (ℕ × Unit {0})) TraceItem 1
rev_form =
    form 1 (text_part & whole_part & nothing) (λ x. trace.Rev x.0 (second x)) trace_rev_of
    (λ d. refl)

abbrev trace_words : Words TraceItem trace_data AnyFits
trace_words =
    or_word trace_data AnyFits (codes "get") get_form (λ x. refl) (λ x f. tt)
    (or_word trace_data AnyFits (codes "rev") rev_form (λ x. refl) (λ x f. tt) (no_word trace_data AnyFits))

trace_reads : (d : Data) (t : TraceItem) → Spells d (trace_data t) → AnyFits t → trace_of d ≡ Ok t
unfolding trace_of
trace_reads d (trace.Get key value) s fits = after_reads get_form (codes "get") trace_of (λ ds. refl) d (key, (value, tt)) s (tt, (tt, tt))
trace_reads d (trace.Rev key mod_rev) s fits = after_reads rev_form (codes "rev") trace_of (λ ds. refl) d (key, (mod_rev, tt)) s (tt, (tt, tt))

pub trace_laws : Laws TraceItem trace_of trace_data AnyFits (worded_faults trace_table)
unfolding trace_of
trace_laws = words_laws trace_data AnyFits trace_words trace_table (λ w. refl) trace_reads

-- ---- answers of a commit

abbrev text_or_null_part : Part (Option (List ℕ))
text_or_null_part = part_by (λ d. or_null_of text_of d) text_or_null AnyFits (By (or_null (faults_by AnyText))) text_or_null_laws

abbrev answer_form : Form (List ℕ × (Option (List ℕ) × (ℕ × (ℕ × Unit {0})))) CommittedRead 0
answer_form =
    form 0 (text_part & text_or_null_part & whole_part & whole_part & nothing) (λ x. answer_with x.0 (second x) (third x) (fourth x))
    answer_parts (λ d. refl)

pub answer_laws : Laws CommittedRead answer_of answer_data AnyFits (plain_faults answer_sorts)
unfolding answer_of
answer_laws =
    array_laws answer_form answer_data (λ a. (a.key, (a.value, (a.mod_rev, (a.of_rev, tt))))) (λ x. refl) (λ a. refl)
    (λ a. (tt, (tt, (tt, (tt, tt)))))

-- ---- answers of operations

abbrev op_get_form : Form (ℕ × (Option KeyState × Unit {0})) OpReply 1
op_get_form =
    form 1 (whole_part & state_or_null_part & nothing) (λ x. op.Get x.0 (second x)) op_get_of
    (λ d. refl)

abbrev op_put_form : Form (Unit {0}) OpReply 1
op_put_form = form 1 nothing (λ x. op.Put) op_put_of (λ d. refl)

abbrev count_part : Part ℕ
count_part = record {
  read = number_up_to 1;
  spell = whole;
  sort = NumberIn 0 1;
  Fits = λ n. n ≤ 1;
  reported = count_reported;
  means = count_means;
  reads = count_reads;
}

abbrev op_del_form : Form (ℕ × Unit {0}) OpReply 1
op_del_form = form 1 (count_part & nothing) (λ x. op.Del x.0) op_del_of (λ d. refl)

abbrev op_words : Words OpReply op_data CountFits
op_words =
    or_word op_data CountFits (codes "get") op_get_form (λ x. refl) (λ x f. tt)
    (or_word op_data CountFits (codes "put") op_put_form (λ x. refl) (λ x f. tt)
    (or_word op_data CountFits (codes "del") op_del_form (λ x. refl) (λ x f. f.0) (no_word op_data CountFits)))

op_reads : (d : Data) (o : OpReply) → Spells d (op_data o) → CountFits o → op_of d ≡ Ok o
unfolding op_of
op_reads d (op.Get revision kv) s fits = after_reads op_get_form (codes "get") op_of (λ ds. refl) d (revision, (kv, tt)) s (tt, (tt, tt))
op_reads d op.Put s fits = after_reads op_put_form (codes "put") op_of (λ ds. refl) d tt s tt
op_reads d (op.Del count) s fits = after_reads op_del_form (codes "del") op_of (λ ds. refl) d (count, tt) s (fits, tt)

pub op_laws : Laws OpReply op_of op_data CountFits (worded_faults op_table)
unfolding op_of
op_laws = words_laws op_data CountFits op_words op_table (λ w. refl) op_reads

-- ---- keys of a list

abbrev read_form : Form (List ℕ × (ℕ × Unit {0})) KeyRead 0
read_form =
    form 0 (text_part & whole_part & nothing) (λ x. key_read_with x.0 (second x)) key_read_parts
    (λ d. refl)

pub read_laws : Laws KeyRead key_read_of read_data AnyFits (plain_faults read_sorts)
unfolding key_read_of
read_laws = array_laws read_form read_data (λ r. (r.key, (r.mod_rev, tt))) (λ x. refl) (λ r. refl) (λ r. (tt, (tt, tt)))

-- ---- expired leases

abbrev expired_form : Form (ℕ × (ℕ × Unit {0})) Expired 0
expired_form =
    form 0 (whole_part & whole_part & nothing) (λ x. expired_with x.0 (second x)) expired_parts
    (λ d. refl)

pub expired_laws : Laws Expired expired_of expired_data AnyFits (plain_faults expired_sorts)
unfolding expired_of
expired_laws = array_laws expired_form expired_data (λ e. (e.id, (e.revision, tt))) (λ x. refl) (λ e. refl) (λ e. (tt, (tt, tt)))

-- ---- events of watchers

abbrev put_form : Form (List ℕ × State) Event 1
put_form = also_made 1 keyed_form (λ q. event.Put q.0 q.1)

abbrev delete_form : Form (List ℕ × (ℕ × Unit {0})) Event 1
delete_form =
    form 1 (text_part & whole_part & nothing) (λ x. event.Delete x.0 (second x)) watched_delete_of
    (λ d. refl)

abbrev event_words : Words Event event_data AnyFits
event_words =
    or_word event_data AnyFits (codes "PUT") put_form (λ x. refl) (λ x f. tt)
    (or_word event_data AnyFits (codes "DELETE") delete_form (λ x. refl) (λ x f. tt) (no_word event_data AnyFits))

event_reads : (d : Data) (e : Event) → Spells d (event_data e) → AnyFits e → watched_of d ≡ Ok e
unfolding watched_of
event_reads d (event.Put key state) s fits =
    after_reads put_form (codes "PUT") watched_of (λ ds. refl) d (parts_of_keyed key state) s (tt, (tt, (tt, (tt, (tt, (tt, tt))))))
event_reads d (event.Delete key revision) s fits =
    after_reads delete_form (codes "DELETE") watched_of (λ ds. refl) d (key, (revision, tt)) s (tt, (tt, tt))

pub event_laws : Laws Event watched_of event_data AnyFits (worded_faults watched_table)
unfolding watched_of
event_laws = words_laws event_data AnyFits event_words watched_table (λ w. refl) event_reads
