use Rattle.stm_records.specs.RecordFiles.{LeavesRecords}
use Rattle.stm_records.proofs.Moments.{started, goes_on}
use Rattle.stm_records.proofs.Crash.{unchanged, append_crash}
use Rattle.stm_records.proofs.record_file.RecordFile.append.Goals as goal

pub returns-then-self-ge-MOST_BYTES-clause-any_moment : goal.returns-then-self-ge-MOST_BYTES-clause-any_moment
returns-then-self-ge-MOST_BYTES-clause-any_moment g c =
    let file = g.D.Disk.seen c.args.self.now.disk in
    let payload = c.args.payload.now in
    let P = LeavesRecords file payload in
    let at_start = started g.D.Disk.moment g.D.Disk.left_since c.args.self.now.disk P (λ f left. unchanged file payload f (c.requires.durable f (g.met.D.Disk.only_now c.args.self.now.disk f left))) in
    at_start

pub returns-in_err-bytes-clause-any_moment : goal.returns-in_err-bytes-clause-any_moment
returns-in_err-bytes-clause-any_moment g c =
    let file = g.D.Disk.seen c.args.self.now.disk in
    let payload = c.args.payload.now in
    let P = LeavesRecords file payload in
    let at_start = started g.D.Disk.moment g.D.Disk.left_since c.args.self.now.disk P (λ f left. unchanged file payload f (c.requires.durable f (g.met.D.Disk.only_now c.args.self.now.disk f left))) in
    at_start

pub returns-in_err-write_at-clause-any_moment : goal.returns-in_err-write_at-clause-any_moment
returns-in_err-write_at-clause-any_moment g c =
    let file = g.D.Disk.seen c.args.self.now.disk in
    let payload = c.args.payload.now in
    let P = LeavesRecords file payload in
    let at_start = started g.D.Disk.moment g.D.Disk.left_since c.args.self.now.disk P (λ f left. unchanged file payload f (c.requires.durable f (g.met.D.Disk.only_now c.args.self.now.disk f left))) in
    let torn = append_crash file payload c.args.self.now.end _ _ _ c.requires.end c.requires.durable c.write_at.ensures.crash in
    let written = goes_on g.D.Disk.moment g.D.Disk.left_since c.args.self.now.disk c.args.self.now.disk c.write_at.new.self P _ at_start c.write_at.ensures.time (λ f now. torn f now) in
    written

pub returns-in_err-sync-clause-any_moment : goal.returns-in_err-sync-clause-any_moment
returns-in_err-sync-clause-any_moment g c =
    let file = g.D.Disk.seen c.args.self.now.disk in
    let payload = c.args.payload.now in
    let P = LeavesRecords file payload in
    let at_start = started g.D.Disk.moment g.D.Disk.left_since c.args.self.now.disk P (λ f left. unchanged file payload f (c.requires.durable f (g.met.D.Disk.only_now c.args.self.now.disk f left))) in
    let torn = append_crash file payload c.args.self.now.end _ _ _ c.requires.end c.requires.durable c.write_at.ensures.crash in
    let written = goes_on g.D.Disk.moment g.D.Disk.left_since c.args.self.now.disk c.args.self.now.disk c.write_at.new.self P _ at_start c.write_at.ensures.time (λ f now. torn f now) in
    let synced = goes_on g.D.Disk.moment g.D.Disk.left_since c.args.self.now.disk c.write_at.new.self c.sync.new.self P _ written c.sync.ensures.time (λ f now. torn f (c.sync.ensures.crash f now)) in
    synced

pub returns-clause-any_moment : goal.returns-clause-any_moment
returns-clause-any_moment g c =
    let file = g.D.Disk.seen c.args.self.now.disk in
    let payload = c.args.payload.now in
    let P = LeavesRecords file payload in
    let at_start = started g.D.Disk.moment g.D.Disk.left_since c.args.self.now.disk P (λ f left. unchanged file payload f (c.requires.durable f (g.met.D.Disk.only_now c.args.self.now.disk f left))) in
    let torn = append_crash file payload c.args.self.now.end _ _ _ c.requires.end c.requires.durable c.write_at.ensures.crash in
    let written = goes_on g.D.Disk.moment g.D.Disk.left_since c.args.self.now.disk c.args.self.now.disk c.write_at.new.self P _ at_start c.write_at.ensures.time (λ f now. torn f now) in
    let synced = goes_on g.D.Disk.moment g.D.Disk.left_since c.args.self.now.disk c.write_at.new.self c.sync.new.self P _ written c.sync.ensures.time (λ f now. torn f (c.sync.ensures.crash f now)) in
    synced
