use Rattle.std.proofs.Common.{◌≡◌, ◌<◌, length, List, sym, ap, ◌∙◌, arith, drop}
use Rattle.std.specs.Prelude.{slice_get}
use Rattle.stm_history.specs.declared.change.Change.{Change}
use Rattle.stm_program.specs.Writes.{last_write}
use Rattle.stm_steps.specs.declared.searched.TheConstants.{MOST_SEARCHED}
use Rattle.stm_steps.specs.LastPlaces.{write_at}
use Rattle.stm_steps.proofs.write_log.WriteLog.last_indexed.Goals as goal

pub split_at-requires : goal.split_at-requires
split_at-requires c =
    omega (arith, c.requires, ap (λ (l : List Change). length l) c.self.view_is, ap (λ (l : List Change). length l) c.as_slice.ensures.value)

-- what the index has under the key is the place of its last write
pub write_at-requires : goal.write_at-requires
write_at-requires c =
    let behind : List Change = drop MOST_SEARCHED c.self.inside.writes.items in
    let cut : c.split_at.result.1.now ≡ behind =
    c.split_at.ensures.back ∙ ap (λ (l : List Change). drop MOST_SEARCHED l) c.as_slice.ensures.value in
    let within : c.in_ok-place.field-0.now < length behind =
    c.self.invariant.within c.args.key.now c.in_ok-place.field-0.now (sym c.in_ok-place.ensures.value) in
    omega (arith, within, ap (λ (l : List Change). length l) cut)

pub returns : goal.returns
returns c =
    let behind : List Change = drop MOST_SEARCHED c.self.inside.writes.items in
    let cut : c.split_at.result.1.now ≡ behind =
    c.split_at.ensures.back ∙ ap (λ (l : List Change). drop MOST_SEARCHED l) c.as_slice.ensures.value in
    sym c.write_at.ensures
    ∙ ap (λ (l : List Change). slice_get l c.in_ok-place.field-0.now) cut
    ∙ ap (λ place. write_at behind place) c.in_ok-place.ensures.value
    ∙ c.self.invariant.last c.args.key.now
    ∙ ap (λ (ws : List Change). last_write c.args.key.now (drop MOST_SEARCHED ws)) c.self.view_is
