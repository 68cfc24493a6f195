use Rattle.std.proofs.Common.{◌≡◌, ap, ◌∙◌, subst, sym, refl, true, false, Some, None, Ok}
use Rattle.std.specs.Prelude.{slice_get}
use Rattle.mdb_datum.specs.Bytes.{Bytes}
use Rattle.mdb_schema.specs.Schema.{DbSchema, table_place}
use Rattle.mdb_schema.specs.Watchable.{is_watchable}
use Rattle.client_script.specs.Client as plain
use Rattle.client_script.specs.Reply.{answered}
use Rattle.run_check.specs.declared.client.Client.{Client}
use Rattle.client_script.specs.declared.rule.Rule.TheVariants as rules
use Rattle.run_check.specs.declared.session.Refused.TheVariants as refusals
use Rattle.run_check.specs.inner.ClientView.{known}
use Rattle.run_check.specs.inner.LookupView.{IsLookup, TellsNoLookup}
use Rattle.run_check.proofs.KnownKept.{known_after}
use Rattle.run_check.proofs.QuestionsTold.{its_lookup, no_lookup}
use Rattle.run_check.proofs.SightsSeen.{stands_here}
use Rattle.run_check.proofs.Watched.{watched_index, watched_table}
use Rattle.run_check.proofs.WatchesKept.{known_more, sound_watch}
use Rattle.run_check.proofs.WatchesAsked.{err_is, name_taken, question_answers, question_refuses, question_told_so, refused_told, uncommitted, unknown, unwatchable, watch_sound}
use Rattle.run_check.proofs.session.Sessions.watch.Goals as goal

pub returns-then-is_some : goal.returns-then-is_some
returns-then-is_some c = record {
  told = λ schema H txns laws k sight.
      let v = c.args.knows.now in
      let watches = v.watching.watches in
      (name_taken schema H txns v c.args.sight c.args.name.now c.args.query.now (watches.paired ∙ watches.values.ok.0) c.place.result c.place.ensures (sym c.is_some.ensures ∙ c.if-is_some.true), txns, refl, k);
}

pub returns-then-is_some-2 : goal.returns-then-is_some-2
returns-then-is_some-2 c = record {
  told = λ schema H txns laws k sight.
      let v = c.args.knows.now in
      let watches = v.watching.watches in
      (uncommitted schema H txns v c.args.sight c.args.name.now c.args.query.now (watches.paired ∙ watches.values.ok.0) c.place.result c.place.ensures (sym c.is_some.ensures ∙ c.if-is_some.false) (sym c.is_some-2.ensures ∙ c.if-is_some-2.true), txns, refl, k);
}

pub returns-in_err-table : goal.returns-in_err-table
returns-in_err-table c = record {
  told = λ schema H txns laws k sight.
      let v = c.args.knows.now in
      let q = c.args.query.now in
      let watches = v.watching.watches in
      let none : table_place q.table schema ≡ None =
      subst (λ (x : DbSchema). table_place q.table x ≡ None) k.schema_is (subst (λ (n : Bytes). table_place n c.args.self.now.schema.now ≡ None) c.table.ensures c.in_err-table.ensures.none.1) in
      refused_told schema H txns _ (known txns v) c.args.self.now.text.items c.args.self.now v rules.UnknownTable c.from_residual.result (err_is c.from_residual.result c.in_err-table.field-0.0 (refusals.By rules.UnknownTable) c.from_residual.ensures.1 c.in_err-table.ensures.none.0)
      (unknown schema H txns v c.args.sight c.args.name.now q (watches.paired ∙ watches.values.ok.0) c.place.result c.place.ensures (sym c.is_some.ensures ∙ c.if-is_some.false) (sym c.is_some-2.ensures ∙ c.if-is_some-2.false) none) refl k;
}

pub returns-then-not-is_watchable : goal.returns-then-not-is_watchable
returns-then-not-is_watchable c = record {
  told = λ schema H txns laws k sight.
      let v = c.args.knows.now in
      let q = c.args.query.now in
      let p = c.in_ok-table.field-0 in
      let watches = v.watching.watches in
      let other : is_watchable q.ask ≡ false = ap is_watchable (sym c.ask.ensures) ∙ sym c.is_watchable.ensures ∙ c.if-not-is_watchable.true in
      let there : (table_place q.table schema ≡ Some p.0) × (slice_get schema p.0 ≡ Some p.1.now) =
      subst (λ (x : DbSchema). (table_place q.table x ≡ Some p.0) × (slice_get x p.0 ≡ Some p.1.now)) k.schema_is
      (subst (λ (n : Bytes). (table_place n c.args.self.now.schema.now ≡ Some p.0) × (slice_get c.args.self.now.schema.now p.0 ≡ Some p.1.now)) c.table.ensures c.in_ok-table.ensures.found) in
      (unwatchable schema H txns v c.args.sight c.args.name.now q (watches.paired ∙ watches.values.ok.0) c.place.result c.place.ensures (sym c.is_some.ensures ∙ c.if-is_some.false) (sym c.is_some-2.ensures ∙ c.if-is_some-2.false) p.0 p.1.now there.0 there.1 other, txns, refl, k);
}

pub returns-in_err-at : goal.returns-in_err-at
returns-in_err-at c = record {
  told = λ schema H txns laws k sight.
      let v = c.args.knows.now in
      let q = c.args.query.now in
      let watches = v.watching.watches in
      let error = c.in_err-at.field-0.0 in
      let may : is_watchable q.ask ≡ true = ap is_watchable (sym c.ask.ensures) ∙ sym c.is_watchable.ensures ∙ c.if-not-is_watchable.false in
      let none : TellsNoLookup schema q error = subst (λ (x : DbSchema). TellsNoLookup x q error) k.schema_is (no_lookup c.args.self.now.schema.now q c.ask-2.result error c.ask-2.ensures c.in_err-at.ensures) in
      question_told_so schema H txns _ (known txns v) c.args.self.now.text.items c.args.self.now v q error c.from_residual-in_err-at.result c.from_residual-in_err-at.ensures.1 none
      (question_refuses schema H txns v c.args.sight c.args.name.now q (watches.paired ∙ watches.values.ok.0) c.place.result c.place.ensures (sym c.is_some.ensures ∙ c.if-is_some.false) (sym c.is_some-2.ensures ∙ c.if-is_some-2.false) may) refl k;
}

pub answer-requires-clause-table : goal.answer-requires-clause-table
answer-requires-clause-table c =
    let s = c.args.self.now in
    let r = stands_here s c.args.knows.now c.requires.known in
    watched_table s.schema.now r.0 r.1 s.store r.2 c.args.query.now c.in_ok-at.at (its_lookup s.schema.now c.args.query.now c.ask-2.result c.in_ok-at.at c.ask-2.ensures c.in_ok-at.ensures)

pub answer-requires-clause-index : goal.answer-requires-clause-index
answer-requires-clause-index c =
    let s = c.args.self.now in
    let r = stands_here s c.args.knows.now c.requires.known in
    watched_index s.schema.now r.0 r.1 s.store r.2 c.args.query.now c.in_ok-at.at (its_lookup s.schema.now c.args.query.now c.ask-2.result c.in_ok-at.at c.ask-2.ensures c.in_ok-at.ensures)

pub returns : goal.returns
returns c = record {
  told = λ schema H txns laws k sight.
      let s = c.args.self.now in
      let v = c.args.knows.now in
      let q = c.args.query.now in
      let at = c.in_ok-at.at in
      let watches = v.watching.watches in
      let paired = watches.paired ∙ watches.values.ok.0 in
      let free = sym c.is_some.ensures ∙ c.if-is_some.false in
      let settled = sym c.is_some-2.ensures ∙ c.if-is_some-2.false in
      let may : is_watchable q.ask ≡ true = ap is_watchable (sym c.ask.ensures) ∙ sym c.is_watchable.ensures ∙ c.if-not-is_watchable.false in
      let look : IsLookup schema q at = subst (λ (x : DbSchema). IsLookup x q at) k.schema_is (its_lookup s.schema.now q c.ask-2.result at c.ask-2.ensures c.in_ok-at.ensures) in
      let told = c.in_ok-has_row.ensures.told schema H txns q laws k.stands look (sym c.ask-3.ensures) sight in
      let after : Client = record v { watching = record v.watching { watches = c.add.new.self } } in
      let made = known_more schema H txns v after k.sound c.args.name.now _ paired refl c.in_ok-add.ensures.names c.in_ok-add.ensures.values in
      let sound = sound_watch schema H txns v after k.sound c.args.name.now _ paired refl c.in_ok-add.ensures.names c.in_ok-add.ensures.values
      (watch_sound schema H txns s.store k.stands q at look c.args.sight sight settled may told.0 told.1 _ c.in_ok-has_row.has_row told.3 refl refl refl c.has_found.ensures) in (
        txns,
        record {
          reply = answered told.0;
          is = question_answers schema H txns v c.args.sight c.args.name.now q paired c.place.result c.place.ensures free settled may told.0 told.1 ∙ ap (λ (x : plain.Client). Ok (answered told.0, x)) (sym made);
          text = told.2;
        },
        known_after schema H txns s c.answer.new.self v after c.in_ok-has_row.ensures.kept k sound,
      );
}
