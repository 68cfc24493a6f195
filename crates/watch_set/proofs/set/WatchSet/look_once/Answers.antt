use Rattle.std.proofs.Common.{◌≡◌, ◌∙◌, None, List, Some, option_copied, subst, sym}
use Rattle.mem_txn.proofs.OneLook.{looks_once}
use Rattle.watch_set.specs.Checks.{AreQuiet, Finds, FindsWoken}
use Rattle.watch_set.specs.Members.{AreHeldBy, Member, watches_of}
use Rattle.watch_set.proofs.ChecksInTurn.{all_kept, found_first, looks_from, looks_then}
use Rattle.watch_set.proofs.set.WatchSet.look_once.Goals as goal

pub returns-in_err-state-clause-held : goal.returns-in_err-state-clause-held
returns-in_err-state-clause-held g c = all_kept c.args.pass.now c.read.new.pass _ c.read.ensures.keeps c.requires.held

pub look_at-requires-clause-held : goal.look_at-requires-clause-held
look_at-requires-clause-held g c =
    let same : c.deref.result.now ≡ c.args.self.now = c.deref.ensures.value ∙ c.self.view_is in
    all_kept c.args.pass.now c.read.new.pass _ c.read.ensures.keeps (subst (λ (ms : List Member). AreHeldBy c.args.pass.now (watches_of ms)) (sym same) c.requires.held)

pub returns-in_err-woken-clause-held : goal.returns-in_err-woken-clause-held
returns-in_err-woken-clause-held g c =
    all_kept c.read.new.pass c.look_at.new.pass _ c.look_at.ensures.keeps (all_kept c.args.pass.now c.read.new.pass _ c.read.ensures.keeps c.requires.held)

pub returns-in-Some-clause-held : goal.returns-in-Some-clause-held
returns-in-Some-clause-held g c =
    all_kept c.read.new.pass c.look_at.new.pass _ c.look_at.ensures.keeps (all_kept c.args.pass.now c.read.new.pass _ c.read.ensures.keeps c.requires.held)

pub returns-clause-held : goal.returns-clause-held
returns-clause-held g c =
    all_kept c.look_at.new.pass c.look_until.new.pass _ c.look_until.ensures.keeps
    (all_kept c.read.new.pass c.look_at.new.pass _ c.look_at.ensures.keeps (all_kept c.args.pass.now c.read.new.pass _ c.read.ensures.keeps c.requires.held))

pub returns-in-Some-clause-look : goal.returns-in-Some-clause-look
returns-in-Some-clause-look g c =
    let old = c.args.pass.now in
    let read = c.read.new.pass in
    let same : c.deref.result.now ≡ c.args.self.now = c.deref.ensures.value ∙ c.self.view_is in
    let once = c.in_ok-state.ensures.once in
    let told : FindsWoken old read c.look_at.new.pass c.args.self.now None c.in-Some.woken =
    subst (λ (ms : List Member). FindsWoken old read c.look_at.new.pass ms None c.in-Some.woken) same
    (subst (λ w. Finds old read c.look_at.new.pass c.deref.result.now None w) c.in-Some.is (c.in_ok-woken.ensures.look old (looks_once old read once))) in
    (read, once, found_first old read c.look_at.new.pass c.args.self.now (option_copied c.args.until) c.in-Some.woken told)

pub returns-clause-look : goal.returns-clause-look
returns-clause-look g c =
    let old = c.args.pass.now in
    let read = c.read.new.pass in
    let mid = c.look_at.new.pass in
    let same : c.deref.result.now ≡ c.args.self.now = c.deref.ensures.value ∙ c.self.view_is in
    let once = c.in_ok-state.ensures.once in
    let quiet : AreQuiet old read (watches_of c.args.self.now) mid =
    subst (λ (ms : List Member). AreQuiet old read (watches_of ms) mid) same
    (subst (λ w. Finds old read mid c.deref.result.now None w) c.in-None.is (c.in_ok-woken.ensures.look old (looks_once old read once))) in
    looks_from old read c.look_until.new.pass c.args.self.now (option_copied c.args.until) c.look_until.result once
    (looks_then old read mid c.look_until.new.pass c.args.self.now (option_copied c.args.until) c.look_until.result quiet (c.look_until.ensures.look old (c.in_ok-woken.ensures.once old (looks_once old read once))))
