use Rattle.std.proofs.Common.{◌≡◌, ◌∙◌, ◌+◌, ◌++◌, List, map, ap, sym, subst, refl, Some, None}
use Rattle.std.specs.Borrow.{Bor}
use Rattle.std.specs.Prelude.{reverse}
use Rattle.mdb_datum.specs.Bytes.{Bytes}
use Rattle.mdb_schema.specs.History.{state_at}
use Rattle.mdb_schema.specs.Schema.{DbSchema}
use Rattle.mdb_schema.specs.State.{State}
use Rattle.client_script.specs.Reply.{changed_lines, did_lines}
use Rattle.run_check.specs.declared.client.Client.{Client}
use Rattle.run_check.specs.declared.sight.Sight.{Sight}
use Rattle.run_check.specs.inner.ChangeView.{ShowsState, changes_of}
use Rattle.run_check.specs.inner.ClientView.{changed_of}
use Rattle.run_check.specs.inner.SessionView.{IsKnown}
use Rattle.run_check.specs.inner.StoreView.{state_seen}
use Rattle.run_check.proofs.CommitTold.{commit_told, shows_before, shows_now}
use Rattle.run_check.proofs.KnownKept.{closed_keeps}
use Rattle.run_check.proofs.session.Sessions.commit.Goals as goal

pub returns-clause-keeps : goal.returns-clause-keeps
returns-clause-keeps c = λ schema H txns k within.
    let s = c.args.self.now in
    let v = c.args.knows.now in
    let w = c.in_ok-writing.writing in
    let with_last : Client → Client = λ x. record x { last = w.number + 1 } in
    subst (λ (x : Client). IsKnown schema H txns (record s { text = c.write_deferred.new.out }) (with_last x)) (sym c.in_ok-writing.ensures.closed)
    (closed_keeps schema H txns s (record s { text = c.write_deferred.new.out }) v (w.number + 1) within refl k)

pub returns-clause-told : goal.returns-clause-told
returns-clause-told c = λ schema H now txns k.
    let s = c.args.self.now in
    let v = c.args.knows.now in
    let w = c.in_ok-writing.writing in
    let with_last : Client → Client = λ x. record x { last = w.number + 1 } in
    let opened = c.in_ok-writing.ensures.taken in
    let before : Sight = record { commits = w.number; own = None } in
    let after : Sight = record { commits = w.number; own = Some w.own } in
    let made = c.write_numbered.new.out.items in
    let changes : (old new : State) → ShowsState schema old before s.store → ShowsState schema new after s.store → c.write_changes.new.out.items ≡ made ++ changed_lines (changes_of schema old new (changed_of w)) =
    subst (λ (x : DbSchema). (old new : State) → ShowsState x old before s.store → ShowsState x new after s.store → c.write_changes.new.out.items ≡ made ++ changed_lines (changes_of x old new (changed_of w))) k.schema_is c.in_ok-write_changes.ensures in
    let texts = c.in_ok-write_deferred.ensures ∙ ap (λ (ts : List (Bor Bytes)). c.write_changes.new.out.items ++ did_lines (reverse (map (λ (t : Bor Bytes). t.now) ts))) c.deref.ensures.value in
    commit_told schema H txns s v k w opened now s.text.items made c.write_changes.new.out.items c.write_deferred.new.out.items (with_last c.take_writing.new.self) c.in_ok-write_numbered.ensures
    (changes (state_at schema H w.number) (state_seen schema H txns after) (shows_before schema H txns s v k w opened) (shows_now schema H txns s v k w opened)) texts (ap with_last c.in_ok-writing.ensures.closed)
