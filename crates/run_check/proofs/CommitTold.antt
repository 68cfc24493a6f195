-- What a commit is told, as the code writes it.
use Rattle.std.proofs.Common.{◌≡◌, ◌∙◌, ◌+◌, ◌++◌, ℕ, List, map, reverse, Some, None, Ok, sym, ap, codes, decimal}
use Rattle.std.proofs.lemmas.List.{append_assoc}
use Rattle.std.specs.Borrow.{Bor}
use Rattle.mdb_datum.specs.Bytes.{Bytes}
use Rattle.mdb_schema.specs.Entries.{entries}
use Rattle.mdb_schema.specs.History.{History, state_at}
use Rattle.mdb_schema.specs.Schema.{DbSchema, IndexSchema}
use Rattle.mdb_schema.specs.State.{IsLawfulState}
use Rattle.mdb_schema.proofs.LawfulStates.{state_at_lawful, writes_keep}
use Rattle.mdb_schema.proofs.Tables.{rows_lawful}
use Rattle.mdb_schema.specs.Tests.{◌>>=◌}
use Rattle.client_script.specs.Client as plain
use Rattle.client_script.specs.Client.{write_open}
use Rattle.client_script.specs.Reply.{Changed, changed_lines, did_lines}
use Rattle.client_script.specs.Turn.{Turn, after_commit, changed_rows, commit_reply, transaction_turn}
use Rattle.client_script.specs.declared.command.TransactionCommand.TheVariants as transaction_line
use Rattle.run_check.specs.declared.client.Client.{Client}
use Rattle.run_check.specs.declared.client.Open.{Open}
use Rattle.run_check.specs.declared.client.Open.TheVariants as opens
use Rattle.run_check.specs.declared.client.Writing.{Writing}
use Rattle.run_check.specs.declared.session.Sessions.{Sessions}
use Rattle.run_check.specs.declared.sight.Sight.{Sight}
use Rattle.run_check.specs.declared.store.Store.{Store}
use Rattle.run_check.specs.inner.ChangeView.{ShowsState, changes_of}
use Rattle.run_check.specs.inner.ClientView.{changed_of, known, transaction_known, writing_known}
use Rattle.run_check.specs.inner.EditView.{seen_of}
use Rattle.run_check.specs.inner.SessionView.{IsKnown, TellsReply}
use Rattle.run_check.specs.inner.StoreView.{Begun, IsSightOf, StandsFor, first_writes, indexes_at, state_seen}
use Rattle.run_check.proofs.ChangesTold.{changes_told}
use Rattle.run_check.proofs.CommitWrites.{maps_same, state_long}

-- ---- the rows that a store shows

module _ (schema : DbSchema) (H : History) (txns : List Begun) (st : Store) (stands : StandsFor schema H txns st) (s : Sight) (sight : IsSightOf H txns s) where
  pub seen_lawful : IsLawfulState schema (state_seen schema H txns s)
  seen_lawful = writes_keep schema (state_at schema H s.commits) (first_writes txns s.own) (state_at_lawful schema H s.commits)

  pub shows : ShowsState schema (state_seen schema H txns s) s st
  shows = record {
    tables = state_long schema (state_seen schema H txns s) seen_lawful;
    each = λ place t rows there held. record {
      lawful = rows_lawful schema (state_seen schema H txns s) place t rows seen_lawful there held;
      held = maps_same (seen_of s) (λ (i : IndexSchema). entries t i rows) (indexes_at st place) t.indexes (stands.indexes place t there)
          (λ at x i is index. (stands.each place at t i x there index is).seen s rows sight held);
    };
  }

-- ---- the text

parts_joined : (old a b c word number changed texts : Bytes) → a ≡ old ++ (word ++ number) → b ≡ a ++ changed → c ≡ b ++ texts → c ≡ old ++ (word ++ (number ++ (changed ++ texts)))
parts_joined old a b c word number changed texts first second third =
    third
    ∙ ap (λ (x : Bytes). x ++ texts) (second ∙ ap (λ (x : Bytes). x ++ changed) first)
    ∙ append_assoc (old ++ (word ++ number)) changed texts
    ∙ append_assoc old (word ++ number) (changed ++ texts)
    ∙ ap (λ (x : Bytes). old ++ x) (append_assoc word number (changed ++ texts))

module _ (schema : DbSchema) (H : History) (txns : List Begun) (s : Sessions) (v : Client) (k : IsKnown schema H txns s v) (w : Writing) (opened : v.«open» ≡ opens.Writing w) where
  abbrev before : Sight
  before = record { commits = w.number; own = None }

  abbrev now : Sight
  now = record { commits = w.number; own = Some w.own }

  before_there : IsSightOf H txns (record { commits = w.number; own = None })
  before_there = record { there = (k.sound.carried w opened).there; own = λ x e. cc }

  pub shows_before : ShowsState schema (state_at schema H w.number) (record { commits = w.number; own = None }) s.store
  shows_before = shows schema H txns s.store k.stands before before_there

  pub shows_now : ShowsState schema (state_seen schema H txns (record { commits = w.number; own = Some w.own })) (record { commits = w.number; own = Some w.own }) s.store
  shows_now = shows schema H txns s.store k.stands now (k.sound.writing w opened)

  pub changed_so : changes_of schema (state_at schema H w.number) (state_seen schema H txns (record { commits = w.number; own = Some w.own })) (changed_of w) ≡ changed_rows schema (state_at schema H w.number) (state_seen schema H txns (record { commits = w.number; own = Some w.own }))
  changed_so =
      let carried = k.sound.carried w opened in
      changes_told schema (state_at schema H w.number) (state_seen schema H txns now)
      (state_at_lawful schema H w.number) (seen_lawful schema H txns s.store k.stands now (k.sound.writing w opened)) (changed_of w) carried.tracked carried.cover carried.rise

  abbrev texts : List Bytes
  texts = map (λ (text : Bor Bytes). text.now) w.texts.items

  pub commit_told : (n : ℕ) (old a b c : Bytes) (x : Client) → a ≡ old ++ (codes "commit @" ++ decimal (w.number + 1))
      → b ≡ a ++ changed_lines (changes_of schema (state_at schema H w.number) (state_seen schema H txns (record { commits = w.number; own = Some w.own })) (changed_of w))
      → c ≡ b ++ did_lines (reverse (map (λ (text : Bor Bytes). text.now) w.texts.items))
      → x ≡ record v { last = w.number + 1; «open» = opens.Nothing }
      → TellsReply (transaction_turn schema H n (known txns v) transaction_line.Commit) old c (known txns x)
  commit_told n old a b c x first second third after =
      let t = writing_known txns w in
      let told : Open → Turn = λ o. write_open (transaction_known txns o) >>= (λ (y : plain.Writing). Ok (commit_reply schema H y, after_commit y (known txns v))) in
      let with_client : plain.Client → Turn = λ y. Ok (commit_reply schema H t, y) in
      record {
        reply = commit_reply schema H t;
        is = ap told opened ∙ ap with_client (sym (ap (known txns) after));
        text = parts_joined old a b c (codes "commit @") (decimal (w.number + 1)) (changed_lines (changed_rows schema (state_at schema H w.number) (state_seen schema H txns now))) (did_lines (reverse texts)) first
            (second ∙ ap (λ (cs : List Changed). a ++ changed_lines cs) changed_so) third;
      }
