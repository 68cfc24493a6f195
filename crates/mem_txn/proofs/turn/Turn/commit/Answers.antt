use Rattle.std.proofs.Common.{◌≡◌, ◌∙◌, ◌++◌, ◌∷◌, ◌-◌, [], length, sym, ap, subst}
use Rattle.std.specs.Arc.{arc_value}
use Rattle.db_front.specs.Commits.{HasFirstFirings}
use Rattle.db_front.specs.Passes.{Known}
use Rattle.radix_node.specs.Cells.{AreCellsOf}
use Rattle.radix_node.specs.Ids.{Book}
use Rattle.watch_word.specs.Logs.{IsLater, Log}
use Rattle.mem_txn.specs.Database.{cells_seen}
use Rattle.mem_txn.specs.inner.Commits.{IsNext}
use Rattle.mem_txn.specs.inner.Firing.{AreGone, cells_told}
use Rattle.mem_txn.specs.inner.Steps.{AreSteps, HasLastFirings}
use Rattle.mem_txn.specs.inner.Versions.{IsBegun, IsBookOf, Turned, Version, Versions, caller_of}
use Rattle.mem_txn.proofs.AlongHistory.{tells_changes, watches_hold}
use Rattle.mem_txn.proofs.OneHistory.{committed, committed_token, number_shown}
use Rattle.mem_txn.proofs.StepsAlong.{gone_of, log_of, next_stands, same_book, turn_book, turn_fires, turn_fires_seen, turn_of_book}
use Rattle.mem_txn.proofs.turn.Turn.commit.Goals as goal

pub publish-requires-clause-stands : goal.publish-requires-clause-stands
publish-requires-clause-stands g c =
    let t = c.self.inside in
    next_stands t.token (arc_value t.base) c.args.ready c.self.invariant.stands (subst (λ (p : Turned). IsNext p c.args.ready) (sym c.self.view_is) c.requires.next)

-- the cells that are gone are of the log's book
pub fire_tables-log-requires-clause-book : goal.fire_tables-log-requires-clause-book
fire_tables-log-requires-clause-book g c =
    let t = c.self.inside in
    let v : Version = arc_value t.base in
    let gone : AreGone v.trees c.args.ready.trees (cells_told c.args.gone.now) = subst (λ (p : Turned). AreGone p.base.trees c.args.ready.trees (cells_told c.args.gone.now)) (sym c.self.view_is) c.requires.gone in
    let stands = c.self.invariant.stands in
    let log = log_of v.view.number t.token.seen t.token.log stands.begun c.self.invariant.log in
    let front : t.token.log ≡ c.log.result.now = ap (λ (k : Known Version). k.log) (sym c.publish.ensures.pass) ∙ sym c.log.ensures in
    subst (λ (b : Book). AreCellsOf b (cells_told c.args.gone.now)) (same_book t.token.seen v.ids.book t.token.log.book stands.book log ∙ ap (λ (l : Log). l.book) front) (gone_of v.ids v.trees c.args.ready.trees (cells_told c.args.gone.now) stands.within gone)

-- they fire by the number of the commit that was published
pub fire_tables-log-requires-clause-commit : goal.fire_tables-log-requires-clause-commit
fire_tables-log-requires-clause-commit g c =
    let t = c.self.inside in
    let made : c.publish.new.pass.seen ≡ t.token.seen ++ (t.token.number, c.args.ready) ∷ [] = ap (λ (k : Known Version). k.seen) c.publish.ensures.pass in
    number_shown t.token.seen c.publish.new.pass.seen (t.token.number, c.args.ready) _ c.self.invariant.stands.begun made (c.count-number.ensures.number ∙ ap (λ (p : Turned). length p.caller.seen) (sym c.self.view_is))

pub finish-requires-clause-log : goal.finish-requires-clause-log
finish-requires-clause-log g c =
    let t = c.self.inside in
    let v : Version = arc_value t.base in
    let made : c.publish.new.pass.seen ≡ t.token.seen ++ (t.token.number, c.args.ready) ∷ [] = ap (λ (k : Known Version). k.seen) c.publish.ensures.pass in
    let gone : AreGone v.trees c.args.ready.trees (cells_told c.args.gone.now) = subst (λ (p : Turned). AreGone p.base.trees c.args.ready.trees (cells_told c.args.gone.now)) (sym c.self.view_is) c.requires.gone in
    let f = c.fire_tables-log.ensures in
    let later : IsLater t.token.log c.fire_tables-log.result = subst (λ (l : Log). IsLater l c.fire_tables-log.result) (c.log.ensures ∙ ap (λ (k : Known Version). k.log) c.publish.ensures.pass) f.later in
    subst (λ (log : Log). HasFirstFirings HasLastFirings (length c.publish.new.pass.seen - 1) c.publish.new.pass.seen log) (sym c.share.ensures)
    (turn_fires t.token v c.args.ready c.self.invariant.stands c.publish.new.pass made t.token.log c.fire_tables-log.result (cells_told c.args.gone.now) c.self.invariant.log later gone f.fired)

pub invariant_of-result : goal.invariant_of-result
invariant_of-result g c =
    let t = c.self.inside in
    let v : Version = arc_value t.base in
    let next : IsNext (record { caller = caller_of t.token; base = v }) c.args.ready = subst (λ (p : Turned). IsNext p c.args.ready) (sym c.self.view_is) c.requires.next in
    let made : c.publish.new.pass.seen ≡ t.token.seen ++ (t.token.number, c.args.ready) ∷ [] = ap (λ (k : Known Version). k.seen) c.publish.ensures.pass in
    let gone : AreGone v.trees c.args.ready.trees (cells_told c.args.gone.now) = subst (λ (p : Turned). AreGone p.base.trees c.args.ready.trees (cells_told c.args.gone.now)) (sym c.self.view_is) c.requires.gone in
    let f = c.fire_tables-log.ensures in
    let later : IsLater t.token.log c.fire_tables-log.result = subst (λ (l : Log). IsLater l c.fire_tables-log.result) (c.log.ensures ∙ ap (λ (k : Known Version). k.log) c.publish.ensures.pass) f.later in
    let stands = next_stands t.token v c.args.ready c.self.invariant.stands next in
    let book = turn_of_book t.token v c.args.ready c.self.invariant.stands c.publish.new.pass made t.token.log c.fire_tables-log.result (cells_told c.args.gone.now) c.self.invariant.log later gone f.fired in
    committed_token t.token c.publish.new.pass c.finish.new.pass c.keep.new.self c.args.ready c.fire_tables-log.result c.self.invariant.token stands.steps
    (subst (λ (h : Versions). IsBookOf h c.fire_tables-log.result.book) made book) c.publish.ensures.pass c.finish.ensures
    (c.keep.ensures ∙ ap (λ (l : Log). let r : Known Version = record c.finish.new.pass { log = l } in r) c.share-2.ensures)

pub returns-clause-pass : goal.returns-clause-pass
returns-clause-pass g c =
    let t = c.self.inside in
    let log : Log = c.fire_tables-log.result in
    let w = c.args.ready in
    subst (λ (p : Turned). caller_of c.keep.new.self ≡ record p.caller {
      seen = p.caller.seen ++ record { caller = p.caller.number; writes = w.writes } ∷ [];
      trees = p.caller.trees ++ w.trees ∷ [];
      own = p.caller.own ++ record { caller = p.caller.number; writes = w.writes } ∷ [];
      log = log;
    }) c.self.view_is
    (committed t.token c.publish.new.pass c.finish.new.pass c.keep.new.self w log c.self.invariant.stands.begun c.publish.ensures.pass c.finish.ensures
    (c.keep.ensures ∙ ap (λ (l : Log). let r : Known Version = record c.finish.new.pass { log = l } in r) c.share-2.ensures))

pub returns-clause-later : goal.returns-clause-later
returns-clause-later g c =
    let later : IsLater c.self.inside.token.log c.fire_tables-log.result = subst (λ (l : Log). IsLater l c.fire_tables-log.result) (c.log.ensures ∙ ap (λ (k : Known Version). k.log) c.publish.ensures.pass) c.fire_tables-log.ensures.later in
    subst (λ (p : Turned). IsLater p.caller.log c.fire_tables-log.result) c.self.view_is later

pub returns-clause-book : goal.returns-clause-book
returns-clause-book g c =
    let t = c.self.inside in
    let v : Version = arc_value t.base in
    let made : c.keep.new.self.seen ≡ t.token.seen ++ (t.token.number, c.args.ready) ∷ [] = ap (λ (k : Known Version). k.seen) (c.keep.ensures ∙ ap (λ (k : Known Version). let r : Known Version = record k { log = c.share-2.result } in r) c.finish.ensures) ∙ ap (λ (k : Known Version). k.seen) c.publish.ensures.pass in
    let gone : AreGone v.trees c.args.ready.trees (cells_told c.args.gone.now) = subst (λ (p : Turned). AreGone p.base.trees c.args.ready.trees (cells_told c.args.gone.now)) (sym c.self.view_is) c.requires.gone in
    let f = c.fire_tables-log.ensures in
    let later : IsLater t.token.log c.fire_tables-log.result = subst (λ (l : Log). IsLater l c.fire_tables-log.result) (c.log.ensures ∙ ap (λ (k : Known Version). k.log) c.publish.ensures.pass) f.later in
    turn_book t.token v c.args.ready c.self.invariant.stands c.keep.new.self made t.token.log c.fire_tables-log.result (cells_told c.args.gone.now) c.self.invariant.log later gone f.fired

pub returns-clause-fired : goal.returns-clause-fired
returns-clause-fired g c =
    let t = c.self.inside in
    let v : Version = arc_value t.base in
    let made : c.keep.new.self.seen ≡ t.token.seen ++ (t.token.number, c.args.ready) ∷ [] = ap (λ (k : Known Version). k.seen) (c.keep.ensures ∙ ap (λ (k : Known Version). let r : Known Version = record k { log = c.share-2.result } in r) c.finish.ensures) ∙ ap (λ (k : Known Version). k.seen) c.publish.ensures.pass in
    let gone : AreGone v.trees c.args.ready.trees (cells_told c.args.gone.now) = subst (λ (p : Turned). AreGone p.base.trees c.args.ready.trees (cells_told c.args.gone.now)) (sym c.self.view_is) c.requires.gone in
    let f = c.fire_tables-log.ensures in
    let later : IsLater t.token.log c.fire_tables-log.result = subst (λ (l : Log). IsLater l c.fire_tables-log.result) (c.log.ensures ∙ ap (λ (k : Known Version). k.log) c.publish.ensures.pass) f.later in
    turn_fires_seen t.token v c.args.ready c.self.invariant.stands c.keep.new.self made t.token.log c.fire_tables-log.result (cells_told c.args.gone.now) c.self.invariant.log later gone f.fired

pub returns-clause-told : goal.returns-clause-told
returns-clause-told g c =
    let t = c.self.inside in
    let v : Version = arc_value t.base in
    let next : IsNext (record { caller = caller_of t.token; base = v }) c.args.ready = subst (λ (p : Turned). IsNext p c.args.ready) (sym c.self.view_is) c.requires.next in
    let made : c.keep.new.self.seen ≡ t.token.seen ++ (t.token.number, c.args.ready) ∷ [] = ap (λ (k : Known Version). k.seen) (c.keep.ensures ∙ ap (λ (k : Known Version). let r : Known Version = record k { log = c.share-2.result } in r) c.finish.ensures) ∙ ap (λ (k : Known Version). k.seen) c.publish.ensures.pass in
    let gone : AreGone v.trees c.args.ready.trees (cells_told c.args.gone.now) = subst (λ (p : Turned). AreGone p.base.trees c.args.ready.trees (cells_told c.args.gone.now)) (sym c.self.view_is) c.requires.gone in
    let f = c.fire_tables-log.ensures in
    let later : IsLater t.token.log c.fire_tables-log.result = subst (λ (l : Log). IsLater l c.fire_tables-log.result) (c.log.ensures ∙ ap (λ (k : Known Version). k.log) c.publish.ensures.pass) f.later in
    let stands = next_stands t.token v c.args.ready c.self.invariant.stands next in
    let holds = watches_hold c.keep.new.self (subst IsBegun (sym made) stands.begun) (subst AreSteps (sym made) stands.steps) in
    tells_changes (cells_seen (caller_of c.keep.new.self)) c.fire_tables-log.result holds
    (turn_fires_seen t.token v c.args.ready c.self.invariant.stands c.keep.new.self made t.token.log c.fire_tables-log.result (cells_told c.args.gone.now) c.self.invariant.log later gone f.fired)
