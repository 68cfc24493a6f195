-- What a client may be told at the lines that tell how many commits there are: `read`, `write` and
-- `check`.
use Rattle.std.proofs.Common.{arith, ◌≡◌, ◌≢◌, refl, ap, subst, sym, ◌∙◌, ℕ, ◌^◌, ◌<◌, ◌≤◌, ◌⊎◌, inl, inr, [], ◌++◌, length, Bool, true, nat_lt, Option, Some, None, Ok, Err, decimal, codes, append-nil, unwrap_or}
use Rattle.std.proofs.lemmas.Bool.Decides.{nat_tests}
use Rattle.mdb_datum.specs.Bytes.{Bytes}
use Rattle.mdb_schema.specs.Guarded.{IsUnchanged}
use Rattle.mdb_schema.specs.History.{History}
use Rattle.mdb_schema.specs.Schema.{DbSchema}
use Rattle.mdb_schema.specs.Tests.{◌>>=◌, passed}
use Rattle.mdb_schema.specs.Watchable.{IsTouched}
use Rattle.client_script.specs.Client.{Client, Transaction, Watch, closed, none_open, reading, writing}
use Rattle.client_script.specs.Reply.{Reply, fired_at, quiet_at, read_at, reply_text, write_at}
use Rattle.client_script.specs.Session.{Answers, IsAnswered, IsEntry}
use Rattle.client_script.specs.Turn.{Turn, commit_limit, outcome, with_transaction}
use Rattle.client_script.specs.Watching.{IsChecked, check_judged, told_number}
use Rattle.client_script.specs.declared.command.Command.{Command}
use Rattle.client_script.specs.declared.command.Command.TheVariants as command
use Rattle.client_script.specs.declared.command.TransactionCommand.TheVariants as transaction_line
use Rattle.client_script.specs.declared.command.WatchesCommand.TheVariants as watches_line
use Rattle.run_check.specs.FirstBad.{IsTold}
use Rattle.run_check.specs.inner.Decided.{IsDecided}
use Rattle.run_check.specs.TextLines.{number_behind}
use Rattle.run_check.proofs.WrittenNumbers.{number_after}
use Rattle.run_check.proofs.DecidedTurns.{decided_none, judged_refused, judged_reply, judged_said, refusal_decided, said_judged}

some_none : (n : ℕ) → Some n ≡ None → ⊥
some_none n e = cc

module _ (schema : DbSchema) (H : History) (v : Client) (client : ℕ) where
  -- a number of commits that are there, and no fewer than the client was told of
  pub record IsPresent (n : ℕ) : Type 0 where
    pub not_older : v.last ≤ n
    pub there : n ≤ length H

  pub answers_present : {c : Command} {r : Reply} {next : Client} (a : Answers schema H client v c r next) → IsPresent a.now
  answers_present a = record { not_older = a.not_older; there = a.there }

  -- a reply that prints no commit is told so
  told_now : (c : Command) (r : Reply) (next : Client) (n : ℕ) → IsPresent n → IsAnswered schema H client n v c r next → IsEntry H client v.transaction r → IsTold schema H client v c (reply_text r) next
  told_now c r next n here says entry = record {
    reply = r;
    printed = refl;
    answers = record { now = n; not_older = here.not_older; there = here.there; says = says; entry = entry };
  }

  -- the number that a text tells behind a word
  pub its_number : length H ≤ 2 ^ 24 → (w text : Bytes) (n : ℕ) → IsPresent n → text ≡ w ++ decimal n → number_behind w text ≡ Some n
  its_number small w text n here is =
      let le = here.there in
      ap (number_behind w) (is ∙ ap (λ (x : Bytes). w ++ x) (sym (append-nil (decimal n))))
      ∙ number_after w [] n (omega (arith, le, small)) tt

  -- so a word and that number make the text
  pub same_text : length H ≤ 2 ^ 24 → (w text : Bytes) (n m : ℕ) → number_behind w text ≡ Some n → IsPresent m → text ≡ w ++ decimal m → w ++ decimal n ≡ text
  same_text small w text n m found here is =
      let number : n ≡ m = ap (λ (o : Option ℕ). unwrap_or o n) (sym found ∙ its_number small w text m here is) in
      ap (λ (k : ℕ). w ++ decimal k) number ∙ sym is

  -- ---- read

  read_command : Command
  read_command = command.Transaction transaction_line.Read

  free_turn : (t : Transaction) (f : Unit {0} → Turn) → t ≡ closed → outcome v (none_open t >>= f) ≡ outcome v (f tt)
  free_turn t f free = ap (λ (x : Transaction). outcome v (none_open x >>= f)) free

  pub read_told : v.transaction ≡ closed → (n : ℕ) → IsPresent n → IsTold schema H client v (command.Transaction transaction_line.Read) (codes "read @" ++ decimal n) (with_transaction n (reading n) v)
  read_told free n here = told_now (command.Transaction transaction_line.Read) (read_at n) (with_transaction n (reading n) v) n here (free_turn v.transaction (λ u. Ok (read_at n, with_transaction n (reading n) v)) free) tt

  -- what a `read` is told, and what the client knows then
  pub record IsReadTold (text : Bytes) (next : Client) : Type 0 where
    pub number : ℕ
    pub present : IsPresent number
    pub printed : text ≡ codes "read @" ++ decimal number
    pub known : next ≡ with_transaction number (reading number) v

  pub read_only : v.transaction ≡ closed → (text : Bytes) (next : Client) → IsTold schema H client v (command.Transaction transaction_line.Read) text next → IsReadTold text next
  read_only free text next told =
      let a = told.answers in
      let is : (read_at a.now, with_transaction a.now (reading a.now) v) ≡ (told.reply, next) = sym (free_turn v.transaction (λ u. Ok (read_at a.now, with_transaction a.now (reading a.now) v)) free) ∙ a.says in
      record {
        number = a.now;
        present = record { not_older = a.not_older; there = a.there };
        printed = sym told.printed ∙ sym (ap (λ (p : Reply × Client). reply_text p.0) is);
        known = sym (ap (λ (p : Reply × Client). p.1) is);
      }

  -- the text that a word and the number behind it make decides
  pub read_decided : length H ≤ 2 ^ 24 → v.transaction ≡ closed → (text : Bytes) (n : ℕ) → number_behind (codes "read @") text ≡ Some n → IsPresent n → IsDecided schema H client v (command.Transaction transaction_line.Read) text (codes "read @" ++ decimal n) (with_transaction n (reading n) v)
  read_decided small free text n found here = record {
    told = λ e. subst (λ (x : Bytes). IsTold schema H client v (command.Transaction transaction_line.Read) x (with_transaction n (reading n) v)) e (read_told free n here);
    untold = λ apart other told. let one : IsReadTold text other = read_only free text other told in apart (same_text small (codes "read @") text n one.number found one.present one.printed);
  }

  pub read_undecided : length H ≤ 2 ^ 24 → v.transaction ≡ closed → (text : Bytes) → text ≢ [] → ((n : ℕ) → number_behind (codes "read @") text ≡ Some n → IsPresent n → ⊥) → (next : Client) → IsDecided schema H client v (command.Transaction transaction_line.Read) text [] next
  read_undecided small free text some none next = decided_none schema H client v next (command.Transaction transaction_line.Read) text some
      (λ other told. let one : IsReadTold text other = read_only free text other told in none one.number (its_number small (codes "read @") text one.number one.present one.printed) one.present)

  -- ---- write

  -- a transaction that has written nothing
  abbrev begun_at : ℕ → Client
  begun_at n = with_transaction n (writing (record { number = n; writes = []; texts = [] })) v

  begun_turn : (n : ℕ) → v.transaction ≡ closed → nat_lt n commit_limit ≡ true → outcome v (none_open v.transaction >>= (λ u. passed (codes "commits-spent") (nat_lt n commit_limit) >>= (λ u'. Ok (write_at n, begun_at n)))) ≡ (write_at n, begun_at n)
  begun_turn n free few =
      free_turn v.transaction (λ u. passed (codes "commits-spent") (nat_lt n commit_limit) >>= (λ u'. Ok (write_at n, begun_at n))) free
      ∙ ap (λ (b : Bool). outcome v (passed (codes "commits-spent") b >>= (λ u'. Ok (write_at n, begun_at n)))) few

  limit_far : (n : ℕ) → n ≤ length H → length H ≤ 2 ^ 24 → nat_lt n commit_limit ≡ true
  limit_far n le small = let lt : n < 2 ^ 63 = omega (arith, le, small) in grind (arith, nat_tests, lt)

  pub begin_told : length H ≤ 2 ^ 24 → v.transaction ≡ closed → (n : ℕ) → IsPresent n → IsTold schema H client v (command.Transaction transaction_line.Write) (codes "write @" ++ decimal n) (with_transaction n (writing (record { number = n; writes = []; texts = [] })) v)
  begin_told small free n here = told_now (command.Transaction transaction_line.Write) (write_at n) (begun_at n) n here (begun_turn n free (limit_far n here.there small)) tt

  -- what a `write` is told, and what the client knows then
  pub record IsBeginTold (text : Bytes) (next : Client) : Type 0 where
    pub number : ℕ
    pub present : IsPresent number
    pub printed : text ≡ codes "write @" ++ decimal number
    pub known : next ≡ with_transaction number (writing (record { number = number; writes = []; texts = [] })) v

  pub begin_only : length H ≤ 2 ^ 24 → v.transaction ≡ closed → (text : Bytes) (next : Client) → IsTold schema H client v (command.Transaction transaction_line.Write) text next → IsBeginTold text next
  begin_only small free text next told =
      let a = told.answers in
      let is : (write_at a.now, begun_at a.now) ≡ (told.reply, next) = sym (begun_turn a.now free (limit_far a.now a.there small)) ∙ a.says in
      record {
        number = a.now;
        present = record { not_older = a.not_older; there = a.there };
        printed = sym told.printed ∙ sym (ap (λ (p : Reply × Client). reply_text p.0) is);
        known = sym (ap (λ (p : Reply × Client). p.1) is);
      }

  pub begin_decided : length H ≤ 2 ^ 24 → v.transaction ≡ closed → (text : Bytes) (n : ℕ) → number_behind (codes "write @") text ≡ Some n → IsPresent n → IsDecided schema H client v (command.Transaction transaction_line.Write) text (codes "write @" ++ decimal n) (with_transaction n (writing (record { number = n; writes = []; texts = [] })) v)
  begin_decided small free text n found here = record {
    told = λ e. subst (λ (x : Bytes). IsTold schema H client v (command.Transaction transaction_line.Write) x (begun_at n)) e (begin_told small free n here);
    untold = λ apart other told. let one : IsBeginTold text other = begin_only small free text other told in apart (same_text small (codes "write @") text n one.number found one.present one.printed);
  }

  pub begin_undecided : length H ≤ 2 ^ 24 → v.transaction ≡ closed → (text : Bytes) → text ≢ [] → ((n : ℕ) → number_behind (codes "write @") text ≡ Some n → IsPresent n → ⊥) → (next : Client) → IsDecided schema H client v (command.Transaction transaction_line.Write) text [] next
  begin_undecided small free text some none next = decided_none schema H client v next (command.Transaction transaction_line.Write) text some
      (λ other told. let one : IsBeginTold text other = begin_only small free text other told in none one.number (its_number small (codes "write @") text one.number one.present one.printed) one.present)

  -- ---- check

  module _ (name : Bytes) where
    -- where it breaks a rule, that is told
    pub check_refused : v.last ≤ length H → (rule : Bytes) → check_judged v name ≡ Err rule → (text : Bytes) → IsDecided schema H client v (command.Watches (watches_line.Check name)) text (codes "refused " ++ rule) v
    check_refused known rule is text = refusal_decided schema H v known client (command.Watches (watches_line.Check name)) text rule (judged_refused v (check_judged v name) rule _ is) (λ now r next told. judged_reply v next (check_judged v name) r rule _ is told)

    module _ (w : Watch) (judged : check_judged v name ≡ Ok w) where
      pub quiet_told : (n : ℕ) → IsPresent n → IsUnchanged schema H client w.query w.number n → IsTold schema H client v (command.Watches (watches_line.Check name)) (codes "quiet @" ++ decimal n) (told_number n v)
      quiet_told n here quiet = told_now (command.Watches (watches_line.Check name)) (quiet_at n) (told_number n v) n here (said_judged v (told_number n v) (check_judged v name) (quiet_at n) w _ judged (inl (refl, quiet), refl)) tt

      pub fired_told : (n : ℕ) → IsPresent n → IsTouched schema H w.query w.number n → IsTold schema H client v (command.Watches (watches_line.Check name)) (codes "fired @" ++ decimal n) (told_number n v)
      fired_told n here fired = told_now (command.Watches (watches_line.Check name)) (fired_at n) (told_number n v) n here (said_judged v (told_number n v) (check_judged v name) (fired_at n) w _ judged (inr (refl, fired), refl)) tt

      -- what a check is told: that the watch is quiet or has fired, where that is so
      abbrev pub IsLook : Bytes → ℕ → Type 0
      IsLook text n =
          ((text ≡ codes "quiet @" ++ decimal n) × IsUnchanged schema H client w.query w.number n)
          ⊎ ((text ≡ codes "fired @" ++ decimal n) × IsTouched schema H w.query w.number n)

      pub record IsCheckTold (text : Bytes) (next : Client) : Type 0 where
        pub number : ℕ
        pub present : IsPresent number
        pub look : IsLook text number
        pub known : next ≡ told_number number v

      pub check_only : (text : Bytes) (next : Client) → IsTold schema H client v (command.Watches (watches_line.Check name)) text next → IsCheckTold text next
      check_only text next told =
          let a = told.answers in
          let said : IsChecked schema H client a.now w told.reply × (next ≡ told_number a.now v) = judged_said v next (check_judged v name) told.reply w _ judged a.says in
          record {
            number = a.now;
            present = record { not_older = a.not_older; there = a.there };
            look = by a.now said.0;
            known = said.1;
          }
        where
          by : (n : ℕ) → IsChecked schema H client n w told.reply → IsLook text n
          by n (inl quiet) = inl (sym told.printed ∙ ap reply_text quiet.0, quiet.1)
          by n (inr fired) = inr (sym told.printed ∙ ap reply_text fired.0, fired.1)

      -- the text that a word and the number behind it make decides, where the watch may be told so
      pub quiet_decided : length H ≤ 2 ^ 24 → (text : Bytes) (n : ℕ) → number_behind (codes "quiet @") text ≡ Some n → IsPresent n → IsUnchanged schema H client w.query w.number n → IsDecided schema H client v (command.Watches (watches_line.Check name)) text (codes "quiet @" ++ decimal n) (told_number n v)
      quiet_decided small text n found here quiet = record {
        told = λ e. subst (λ (x : Bytes). IsTold schema H client v (command.Watches (watches_line.Check name)) x (told_number n v)) e (quiet_told n here quiet);
        untold = λ apart other told. let one : IsCheckTold text other = check_only text other told in by one.number one.present one.look apart;
      }
        where
          by : (m : ℕ) → IsPresent m → IsLook text m → (codes "quiet @" ++ decimal n ≡ text → ⊥) → ⊥
          by m there (inl look) apart = apart (same_text small (codes "quiet @") text n m found there look.0)
          by m there (inr look) apart = some_none n (sym found ∙ ap (number_behind (codes "quiet @")) look.0)

      pub fired_decided : length H ≤ 2 ^ 24 → (text : Bytes) (n : ℕ) → number_behind (codes "fired @") text ≡ Some n → IsPresent n → IsTouched schema H w.query w.number n → IsDecided schema H client v (command.Watches (watches_line.Check name)) text (codes "fired @" ++ decimal n) (told_number n v)
      fired_decided small text n found here fired = record {
        told = λ e. subst (λ (x : Bytes). IsTold schema H client v (command.Watches (watches_line.Check name)) x (told_number n v)) e (fired_told n here fired);
        untold = λ apart other told. let one : IsCheckTold text other = check_only text other told in by one.number one.present one.look apart;
      }
        where
          by : (m : ℕ) → IsPresent m → IsLook text m → (codes "fired @" ++ decimal n ≡ text → ⊥) → ⊥
          by m there (inl look) apart = some_none n (sym found ∙ ap (number_behind (codes "fired @")) look.0)
          by m there (inr look) apart = apart (same_text small (codes "fired @") text n m found there look.0)

      -- where it may be told neither
      pub check_undecided : (text : Bytes) → text ≢ [] → ((n : ℕ) → IsPresent n → IsLook text n → ⊥) → (next : Client) → IsDecided schema H client v (command.Watches (watches_line.Check name)) text [] next
      check_undecided text some none next = decided_none schema H client v next (command.Watches (watches_line.Check name)) text some
          (λ other told. let one : IsCheckTold text other = check_only text other told in none one.number one.present one.look)
