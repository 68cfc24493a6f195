-- What a wipe tells, by what the code took out.
use Rattle.std.proofs.Common.{◌≡◌, ◌∙◌, ◌<◌, ◌+◌, ◌++◌, ℕ, List, Bool, true, false, Option, None, Some, option_map, option_and_then, Result, Ok, Err, length, slice_get, refl, sym, ap, subst, inl, inr, arith}
use Rattle.std.specs.Prelude.{codes, decimal, IsErrAnd}
use Rattle.std.proofs.lemmas.List.Elements.{All-contains}
use Rattle.std.proofs.lemmas.Option.{slice_get_within}
use Rattle.mdb_datum.specs.Bytes.{Bytes}
use Rattle.mdb_datum.specs.Pairs.{rows_of, with_prefix}
use Rattle.mdb_datum.specs.Row.{Fields, Pair}
use Rattle.mdb_datum.proofs.ListPlaces.{there_within}
use Rattle.mdb_schema.specs.Answer.{AskRefusal, Asked, Lookup, is_prefix_name, lookup_of, no_prefix_name, unknown_table}
use Rattle.mdb_schema.specs.Entries.{entries}
use Rattle.mdb_schema.specs.History.{History}
use Rattle.mdb_schema.specs.LawfulSchema.{IsLawfulTable}
use Rattle.mdb_schema.specs.Query.{Query}
use Rattle.mdb_schema.specs.Schema.{DbSchema, TableSchema, table_place}
use Rattle.mdb_schema.specs.State.{State, Table, table_at}
use Rattle.mdb_schema.specs.Tests.{◌>>=◌, needed, passed}
use Rattle.mdb_schema.specs.Wipe.{once, removals, wipe, wipe_by_prefix, wiped_rows}
use Rattle.mdb_schema.specs.Write.{Write}
use Rattle.mdb_schema.specs.declared.ask.Ask.TheVariants.{Get}
use Rattle.mdb_schema.specs.declared.ask_error.AskError.{AskError}
use Rattle.mdb_schema.specs.declared.ask_error.AskError.TheVariants as ask_errors
use Rattle.mdb_schema.proofs.IdKeys.{id_index, id_of-taken}
use Rattle.mdb_schema.proofs.Membership.{Contains-slice_get}
use Rattle.mdb_schema.proofs.Tables.{IsTableAt, rows_lawful, table_at-some}
use Rattle.mdb_schema.proofs.WipeLaws.{listed_rows, listed_rows-within}
use Rattle.client_script.specs.Reply.{wiped}
use Rattle.client_script.proofs.RuleNames.{question_same}
use Rattle.run_check.specs.declared.client.Writing.{Writing}
use Rattle.run_check.specs.declared.lookup.Lookup as code
use Rattle.client_script.specs.declared.rule.Rule.TheVariants as rules
use Rattle.run_check.specs.declared.session.Refused.{Refused}
use Rattle.run_check.specs.declared.session.Refused.TheVariants as refusals
use Rattle.run_check.specs.declared.session.Sessions.{Sessions}
use Rattle.run_check.specs.declared.sight.Sight.{Sight}
use Rattle.run_check.specs.inner.AskedView.{question_refused}
use Rattle.run_check.specs.inner.ClientView.{changed_of}
use Rattle.run_check.specs.inner.EditView.{seen_of}
use Rattle.run_check.specs.inner.HistoryView.{removed_each}
use Rattle.run_check.specs.inner.IndexView.{KeyVersions}
use Rattle.run_check.specs.inner.LookupView.{IsLookup, TellsNoLookup, looked_up}
use Rattle.run_check.specs.inner.StoreView.{Begun, indexes_at}
use Rattle.run_check.specs.inner.WritingView.{HasMore, IsWriting, TellsWrite, Told, state_now, told_wipe}
use Rattle.run_check.proofs.CommitWrites.{state_long}
use Rattle.run_check.proofs.MadeOneByOne.{all_once}
use Rattle.run_check.proofs.OwnSteps.{has_none}
use Rattle.run_check.proofs.OwnWipes.{has_writes}
use Rattle.run_check.proofs.OwnWrites.{carried_sight, now_lawful, rows_there}
use Rattle.run_check.proofs.QuestionsTold.{refused_by}

abbrev pub getting : Query → Query
getting q = record q { ask = Get }

-- ---- the definition, at a table

abbrev wipes_at : Query → Option Table → Asked (List Write)
wipes_at q o = needed unknown_table o >>= (λ (t : Table). wiped_rows t.schema t.rows q >>= (λ (gone : List Fields). Ok (removals q.table gone)))

abbrev made : ℕ → TableSchema → List Fields → Table
made place t rows = record { place = place; schema = t; rows = rows }

abbrev rows_at : State → ℕ → TableSchema → Option Table
rows_at s place t = option_map (made place t) (slice_get s place)

abbrev tables_at : DbSchema → State → ℕ → Option Table
tables_at schema s place = option_and_then (rows_at s place) (slice_get schema place)

-- what a table's rows wipe, where its look-up is this
wipes_by : (q : Query) (t : Table) (a : Asked Lookup) → lookup_of t.schema (getting q) ≡ a
    → wipes_at q (Some t) ≡ ((a >>= (λ (at : Lookup). Ok (once t.schema (rows_of (with_prefix at.key (entries t.schema at.index t.rows)))))) >>= (λ (gone : List Fields). Ok (removals q.table gone)))
wipes_by q t a e = ap (λ (l : Asked Lookup). (l >>= (λ (at : Lookup). Ok (once t.schema (rows_of (with_prefix at.key (entries t.schema at.index t.rows)))))) >>= (λ (gone : List Fields). Ok (removals q.table gone))) e

-- ---- one that is refused

module _ (schema : DbSchema) (s : State) (long : length s ≡ length schema) (q : Query) (why : AskRefusal) where
  same_refusal : {A B : Type 0} (x y : AskRefusal) → ◌≡◌ {A = Asked A} (Err x) (Err y) → ◌≡◌ {A = Asked B} (Err x) (Err y)
  same_refusal {A} {B} x y e = let same : x ≡ y = cc in ap (λ (r : AskRefusal). Err r) same

  by_schema : (place : ℕ) (o : Option TableSchema) → slice_get schema place ≡ o → (needed unknown_table o >>= (λ (t : TableSchema). lookup_of t (getting q))) ≡ Err why → wipes_at q (option_and_then (rows_at s place) o) ≡ Err why
  by_schema place None there e = same_refusal unknown_table why e
  by_schema place (Some t) there e =
      let rows = there_within s place (omega (arith, slice_get_within schema place t there, long)) in
      ap (λ (r : Option (List Fields)). wipes_at q (option_map (made place t) r)) rows.1
      ∙ wipes_by q (made place t rows.0) (Err why) e

  by_place : (o : Option ℕ) → (needed unknown_table o >>= (λ (place : ℕ). needed unknown_table (slice_get schema place) >>= (λ (t : TableSchema). lookup_of t (getting q)))) ≡ Err why
      → wipes_at q (option_and_then (tables_at schema s) o) ≡ Err why
  by_place None e = same_refusal unknown_table why e
  by_place (Some place) e = by_schema place (slice_get schema place) refl e

  wipe_refused : looked_up schema (getting q) ≡ Err why → wipe schema s q ≡ Err why
  wipe_refused e = by_place (table_place q.table schema) e

-- ---- one by a name that ends in `_prefix`

abbrev prefixed : Query → Option Table → Bool → Asked (List Write)
prefixed q o b = needed unknown_table o >>= (λ (t : Table). (passed no_prefix_name b >>= (λ (u : Unit {0}). wiped_rows t.schema t.rows q)) >>= (λ (gone : List Fields). Ok (removals q.table gone)))

pub by_prefix : (schema : DbSchema) (s : State) (q : Query) → is_prefix_name q.index ≡ true → wipe_by_prefix schema s q ≡ wipe schema s q
by_prefix schema s q e = ap (prefixed q (table_at schema s q.table)) e

-- ---- in an open transaction

module _ (schema : DbSchema) (H : History) (txns : List Begun) (s : Sessions) (w : Writing) (writing : IsWriting schema H txns s w) (q : Query) (text : Bytes) where
  abbrev base : State
  base = state_now schema H txns w.number w.own

  abbrev here : Sight
  here = record { commits = w.number; own = Some w.own }

  abbrev Tells : Told → Refused → Type 0
  Tells told e = TellsWrite schema H txns told w text s w (Err e)

  -- the check tells so where a wipe looks nowhere
  pub wipe_nowhere : (e : AskError) (r : Result (Unit {0}) Refused) → IsErrAnd r (λ f. f ≡ question_refused e) → TellsNoLookup schema (getting q) e → TellsWrite schema H txns (told_wipe (wipe schema base q)) w text s w r
  wipe_nowhere e (Ok u) is none = absurd is
  wipe_nowhere e (Err f) is (inl memory) = subst (λ (r : Refused). Tells (told_wipe (wipe schema base q)) r) (sym (is ∙ ap question_refused memory)) tt
  wipe_nowhere e (Err f) is (inr (why, none, error)) =
      subst (λ (r : Refused). Tells (told_wipe (wipe schema base q)) r) (sym (is ∙ ap question_refused error ∙ refused_by why)) (
        ap told_wipe (wipe_refused schema base (state_long schema base (now_lawful schema H txns w.number w.own)) q why none)
            ∙ ap (λ (b : Bytes). Err b) (sym (question_same why)),
        has_none schema H txns s w writing s refl writing.stands,
      )

  -- the name of the index doesn't end so
  pub wipe_unnamed : (place : ℕ) (t : TableSchema) → table_place q.table schema ≡ Some place → slice_get schema place ≡ Some t → is_prefix_name q.index ≡ false
      → TellsWrite schema H txns (told_wipe (wipe_by_prefix schema base q)) w text s w (Err (refusals.By (rules.Question ask_errors.NoPrefixName)))
  wipe_unnamed place t named there none =
      let rows = rows_there schema H txns w.number w.own (changed_of w) writing.carried s.store writing.stands place t there in
      let table : Table = made place t rows.0 in (
        ap (λ (o : Option Table). told_wipe (prefixed q o (is_prefix_name q.index))) (table_at-some schema base q.table table (record { place = named; schema = there; rows = rows.1 }))
            ∙ ap (λ (b : Bool). told_wipe (prefixed q (Some table) b)) none,
        has_none schema H txns s w writing s refl writing.stands,
      )

  -- ---- one that is made

  module _ (l : code.Lookup) (look : IsLookup schema (getting q) l) where
    abbrev t : TableSchema
    t = look.table

    pub table_within : l.table < length s.store.tables.items
    table_within = omega (arith, slice_get_within schema l.table look.table look.there, writing.stands.tables)

    pub index_within : l.index < length (indexes_at s.store l.table)
    index_within = omega (arith, slice_get_within look.table.indexes l.index look.at.index look.index, writing.stands.indexes l.table look.table look.there)

    abbrev held : (rows : List Fields) × (slice_get base l.table ≡ Some rows)
    held = rows_there schema H txns w.number w.own (changed_of w) writing.carried s.store writing.stands l.table t look.there

    abbrev table : Table
    table = made l.table t held.0

    is_table : IsTableAt schema base q.table table
    is_table = record { place = look.named; schema = look.there; rows = held.1 }

    abbrev gone : List Write
    gone = removals q.table (once t (listed_rows t held.0 look.at))

    wipe_found : wipe schema base q ≡ Ok gone
    wipe_found = ap (wipes_at q) (table_at-some schema base q.table table is_table) ∙ wipes_by q table (Ok look.at) look.looked

    module _ (listed : List Fields) (told : (x : KeyVersions) → slice_get (indexes_at s.store l.table) l.index ≡ Some x → listed ≡ rows_of (with_prefix l.key.items (seen_of here x))) where
      lists : listed ≡ listed_rows t held.0 look.at
      lists =
          let x = there_within (indexes_at s.store l.table) l.index index_within in
          let seen = (writing.stands.each l.table l.index t look.at.index x.0 look.there look.index x.1).seen here held.0 (carried_sight schema H txns w.number w.own (changed_of w) writing.carried) held.1 in
          told x.0 x.1 ∙ ap (λ (k : Bytes). rows_of (with_prefix k (seen_of here x.0))) look.key ∙ ap (λ (es : List Pair). rows_of (with_prefix look.at.key es)) seen

      same_writes : removed_each schema q.table listed base ≡ gone
      same_writes =
          let lawful = rows_lawful schema base l.table t held.0 (now_lawful schema H txns w.number w.own) look.there held.1 in
          let lawful_table : IsLawfulTable t = All-contains IsLawfulTable schema t writing.lawful.each (Contains-slice_get schema l.table t look.there) in
          let at = id_index t lawful_table in
          let within = listed_rows-within t held.0 look.at in
          ap (λ (rs : List Fields). removed_each schema q.table rs base) lists
          ∙ all_once schema q.table base table (listed_rows t held.0 look.at) is_table lawful.rising (λ r h. id_of-taken t at r (lawful.taken at.index r at.within (within r h))) within

      -- so many are out
      pub wipe_tells : (x : Sessions) (y : Writing) → HasMore schema H txns (removed_each schema q.table listed base) w x y → (n : ℕ) → (n + w.own.writes ≡ y.own.writes) → x.text.items ≡ text ++ (codes "deleted " ++ decimal n)
          → TellsWrite schema H txns (told_wipe (wipe schema base q)) w text x y (Ok tt)
      wipe_tells x y has n count said =
          let more : HasMore schema H txns gone w x y = subst (λ (ws : List Write). HasMore schema H txns ws w x y) same_writes has in
          let many : n ≡ length gone = omega (arith, count, has_writes schema H txns s w writing gone x y more) in (
            wiped (length gone),
            gone,
            ap told_wipe wipe_found,
            said ∙ ap (λ (k : ℕ). text ++ (codes "deleted " ++ decimal k)) many,
            more,
          )

      -- there are no fewer writes than before
      pub wipe_count : (x : Sessions) (y : Writing) → HasMore schema H txns (removed_each schema q.table listed base) w x y → y.own.writes ≡ w.own.writes + length (removed_each schema q.table listed base)
      wipe_count x y has = has_writes schema H txns s w writing (removed_each schema q.table listed base) x y has
