use Rattle.std.proofs.Common.{refl, ◌≤◌, ◌≡◌, ◌<◌, ◌^◌, List, ℕ, length, take, drop, ap, subst, sym, ◌∙◌, arith, length-take-le}
use Rattle.stm_frames.specs.Frame.{log, Opens, NoneIn, NoFrame, SomeIn, at_places}
use Rattle.stm_records.specs.RecordFiles.{OpensAlike}
use Rattle.stm_records.proofs.Moments.{started, goes_on}
use Rattle.stm_records.proofs.Crash.{alike, cut_crash, found_opens, found_damage, told}
use Rattle.stm_records.proofs.opening.recover.Goals as goal

pub returns-then-has_frame-clause-damaged : goal.returns-then-has_frame-clause-damaged
returns-then-has_frame-clause-damaged g c =
    let file = g.D.Disk.seen c.args.disk.now in
    let end = c.in_ok-found.found.end in
    let here : c.deref.result.now ≡ file = c.deref.ensures.value ∙ c.requires.bytes in
    let again : c.deref-2.result.now ≡ file = c.deref-2.ensures.value ∙ c.requires.bytes in
    let room = subst (λ (l : List ℕ). end ≤ length l) here c.in_ok-found.ensures.room in
    let frames = subst (λ (l : List ℕ). take end l ≡ log 0 (at_places l c.in_ok-found.found.payloads.items)) here c.in_ok-found.ensures.frames in
    let stops = subst (λ (l : List ℕ). NoFrame end (drop end l)) here c.in_ok-found.ensures.stops in
    let some = subst (λ (l : List ℕ). SomeIn end (drop end l)) again (c.if-has_frame.ensures.some refl) in
    λ at is. (
      found_damage file (at_places file c.in_ok-found.found.payloads.items) end at (told end at is) room frames stops some,
      started g.D.Disk.moment g.D.Disk.left_since c.args.disk.now (λ f. f ≡ file) (λ f left. c.requires.durable f (g.met.D.Disk.only_now c.args.disk.now f left)),
    )

pub returns-in_err-cut-clause-any_moment : goal.returns-in_err-cut-clause-any_moment
returns-in_err-cut-clause-any_moment g c =
    let file = g.D.Disk.seen c.args.disk.now in
    let end = c.in_ok-found.found.end in
    let here : c.deref.result.now ≡ file = c.deref.ensures.value ∙ c.requires.bytes in
    let again : c.deref-2.result.now ≡ file = c.deref-2.ensures.value ∙ c.requires.bytes in
    let room = subst (λ (l : List ℕ). end ≤ length l) here c.in_ok-found.ensures.room in
    let frames = subst (λ (l : List ℕ). take end l ≡ log 0 (at_places l c.in_ok-found.found.payloads.items)) here c.in_ok-found.ensures.frames in
    let none = subst (λ (l : List ℕ). NoneIn end (drop end l)) again (c.if-has_frame.ensures.none refl) in
    let qs = at_places file c.in_ok-found.found.payloads.items in
    let opens = found_opens file qs end room frames none in
    let end_is : end ≡ length (log 0 qs) = sym (length-take-le end file room) ∙ ap length frames in
    let short : length file < 2 ^ 64 = omega (arith, ap length c.requires.bytes, c.args.bytes.small) in
    let P = OpensAlike file in
    let at_start = started g.D.Disk.moment g.D.Disk.left_since c.args.disk.now P (λ f left. alike file f (c.requires.durable f (g.met.D.Disk.only_now c.args.disk.now f left))) in
    let after_cut = cut_crash file qs end _ _ short c.requires.head opens end_is c.requires.durable c.cut.ensures.crash in
    let cut = goes_on g.D.Disk.moment g.D.Disk.left_since c.args.disk.now c.args.disk.now c.cut.new.self P _ at_start c.cut.ensures.time (λ f now. after_cut f now) in
    cut

pub returns-in_err-sync-clause-any_moment : goal.returns-in_err-sync-clause-any_moment
returns-in_err-sync-clause-any_moment g c =
    let file = g.D.Disk.seen c.args.disk.now in
    let end = c.in_ok-found.found.end in
    let here : c.deref.result.now ≡ file = c.deref.ensures.value ∙ c.requires.bytes in
    let again : c.deref-2.result.now ≡ file = c.deref-2.ensures.value ∙ c.requires.bytes in
    let room = subst (λ (l : List ℕ). end ≤ length l) here c.in_ok-found.ensures.room in
    let frames = subst (λ (l : List ℕ). take end l ≡ log 0 (at_places l c.in_ok-found.found.payloads.items)) here c.in_ok-found.ensures.frames in
    let none = subst (λ (l : List ℕ). NoneIn end (drop end l)) again (c.if-has_frame.ensures.none refl) in
    let qs = at_places file c.in_ok-found.found.payloads.items in
    let opens = found_opens file qs end room frames none in
    let end_is : end ≡ length (log 0 qs) = sym (length-take-le end file room) ∙ ap length frames in
    let short : length file < 2 ^ 64 = omega (arith, ap length c.requires.bytes, c.args.bytes.small) in
    let P = OpensAlike file in
    let at_start = started g.D.Disk.moment g.D.Disk.left_since c.args.disk.now P (λ f left. alike file f (c.requires.durable f (g.met.D.Disk.only_now c.args.disk.now f left))) in
    let after_cut = cut_crash file qs end _ _ short c.requires.head opens end_is c.requires.durable c.cut.ensures.crash in
    let cut = goes_on g.D.Disk.moment g.D.Disk.left_since c.args.disk.now c.args.disk.now c.cut.new.self P _ at_start c.cut.ensures.time (λ f now. after_cut f now) in
    let synced = goes_on g.D.Disk.moment g.D.Disk.left_since c.args.disk.now c.cut.new.self c.sync.new.self P _ cut c.sync.ensures.time (λ f now. after_cut f (c.sync.ensures.crash f now)) in
    synced

pub returns-clause-any_moment : goal.returns-clause-any_moment
returns-clause-any_moment g c =
    let file = g.D.Disk.seen c.args.disk.now in
    let end = c.in_ok-found.found.end in
    let here : c.deref.result.now ≡ file = c.deref.ensures.value ∙ c.requires.bytes in
    let again : c.deref-2.result.now ≡ file = c.deref-2.ensures.value ∙ c.requires.bytes in
    let room = subst (λ (l : List ℕ). end ≤ length l) here c.in_ok-found.ensures.room in
    let frames = subst (λ (l : List ℕ). take end l ≡ log 0 (at_places l c.in_ok-found.found.payloads.items)) here c.in_ok-found.ensures.frames in
    let none = subst (λ (l : List ℕ). NoneIn end (drop end l)) again (c.if-has_frame.ensures.none refl) in
    let qs = at_places file c.in_ok-found.found.payloads.items in
    let opens = found_opens file qs end room frames none in
    let end_is : end ≡ length (log 0 qs) = sym (length-take-le end file room) ∙ ap length frames in
    let short : length file < 2 ^ 64 = omega (arith, ap length c.requires.bytes, c.args.bytes.small) in
    let P = OpensAlike file in
    let at_start = started g.D.Disk.moment g.D.Disk.left_since c.args.disk.now P (λ f left. alike file f (c.requires.durable f (g.met.D.Disk.only_now c.args.disk.now f left))) in
    let after_cut = cut_crash file qs end _ _ short c.requires.head opens end_is c.requires.durable c.cut.ensures.crash in
    let cut = goes_on g.D.Disk.moment g.D.Disk.left_since c.args.disk.now c.args.disk.now c.cut.new.self P _ at_start c.cut.ensures.time (λ f now. after_cut f now) in
    let synced = goes_on g.D.Disk.moment g.D.Disk.left_since c.args.disk.now c.cut.new.self c.sync.new.self P _ cut c.sync.ensures.time (λ f now. after_cut f (c.sync.ensures.crash f now)) in
    synced

pub returns-clause-opens : goal.returns-clause-opens
returns-clause-opens g c =
    let file = g.D.Disk.seen c.args.disk.now in
    let end = c.in_ok-found.found.end in
    let here : c.deref.result.now ≡ file = c.deref.ensures.value ∙ c.requires.bytes in
    let again : c.deref-2.result.now ≡ file = c.deref-2.ensures.value ∙ c.requires.bytes in
    let room = subst (λ (l : List ℕ). end ≤ length l) here c.in_ok-found.ensures.room in
    let frames = subst (λ (l : List ℕ). take end l ≡ log 0 (at_places l c.in_ok-found.found.payloads.items)) here c.in_ok-found.ensures.frames in
    let none = subst (λ (l : List ℕ). NoneIn end (drop end l)) again (c.if-has_frame.ensures.none refl) in
    let qs = at_places file c.in_ok-found.found.payloads.items in
    let opens = found_opens file qs end room frames none in
    subst (λ (l : List ℕ). Opens file (at_places l c.in_ok-found.found.payloads.items)) (sym c.requires.bytes) opens
