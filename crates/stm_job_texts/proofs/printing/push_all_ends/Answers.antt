use Rattle.std.proofs.Common.{◌∷◌, ◌++◌, map, refl, string_bytes, codes}
use Rattle.stm_job.specs.Ends.{attempts_of}
use Rattle.stm_job_texts.specs.Lines.{attempts_in_all, conflicts_line, count_line, lines_of_ends}
use Rattle.stm_job_texts.proofs.LineLemmas.{three_parts}
use Rattle.stm_job_texts.proofs.printing.push_all_ends.Goals as goal

pub returns : goal.returns
returns c =
    let made = map attempts_of c.args.lost.now in
    let tally = c.in_ok-tally.tally.entries in
    let first = count_line (codes "attempts") (attempts_in_all made) in (
      first ∷ map conflicts_line tally ++ lines_of_ends made 0 c.args.ends.now,
      (tally, c.in_ok-tally.ensures, refl),
      rw (
        c.in_ok-push_ends.ensures,
        c.in_ok-push_conflicts.ensures,
        c.in_ok-push_count.ensures,
        c.attempts_in_all.ensures,
        c.as_slice.ensures.value,
        c.as_slice-2.ensures.value,
        c.in_ok-attempts.ensures,
      ) (three_parts (string_bytes c.args.text.now) first (map conflicts_line tally) (lines_of_ends made 0 c.args.ends.now)),
    )
