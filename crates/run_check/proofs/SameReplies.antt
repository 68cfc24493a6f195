-- Replies of one text to one command, from what a client knows, in histories with the same first
-- commits, where the client looks at no later ones: they are one reply.
use Rattle.std.proofs.Common.{arith, ◌≡◌, ◌≢◌, refl, ap, subst, sym, ◌∙◌, ℕ, ◌+◌, ◌^◌, ◌<◌, ◌≤◌, ◌⊎◌, inl, inr, List, [], ◌∷◌, ◌++◌, length, take, drop, get_or, ◌==◌, Bool, true, false, nat_lt, Option, Some, None, Ok, Err, Contains, decimal, codes, append_assoc}
use Rattle.std.proofs.lemmas.Bool.{eqb-false}
use Rattle.std.proofs.lemmas.Fmt.{decimal_injective}
use Rattle.std.proofs.lemmas.List.{append_cancel_left, length-take-le, take-append-drop}
use Rattle.mdb_datum.specs.Bytes.{Bytes}
use Rattle.mdb_datum.specs.Row.{Fields}
use Rattle.mdb_schema.proofs.Membership.{Contains-first}
use Rattle.mdb_schema.specs.History.{History}
use Rattle.mdb_schema.specs.Schema.{DbSchema}
use Rattle.mdb_schema.specs.Tests.{◌>>=◌, passed}
use Rattle.mdb_schema.specs.Wipe.{wipe, wipe_by_prefix}
use Rattle.mdb_schema.specs.Write.{put, remove, step}
use Rattle.mdb_schema.specs.declared.answer.Answer.TheVariants.{One, Many}
use Rattle.client_script.specs.Alone.{Request, to_transact, to_write, to_defer, to_ask, to_name, to_size, turn}
use Rattle.client_script.specs.Client.{Client, Judged, Watch, WatchSet, none_open, sight_of, state_seen, write_open, writing}
use Rattle.client_script.specs.Legal.{number_printed}
use Rattle.client_script.specs.Reply.{Changed, Reply, read_at, write_at, ended, committed, aborted, inserted, replaced, deleted, wiped, deferred, answered, snapshot_at, snapshot_within, quiet_at, fired_at, sized, woken_by, stopped_at, refused, changed_lines, did_lines, reply_text}
use Rattle.client_script.specs.Session.{IsAnswered}
use Rattle.client_script.specs.Spent.{IsWriteTold, by_turn, ids_spent, without_ids}
use Rattle.client_script.specs.Turn.{Turn, asked, commit_limit, indexes_of, insert_reply, outcome, stepped, with_transaction, write_turn}
use Rattle.client_script.specs.Watching.{IsAdded, IsChecked, IsJudged, IsStopped, IsWatchTold, IsWoken, check_judged, limit_judged, set_for, until_judged, wait_judged, watch_called}
use Rattle.client_script.specs.Within.{IsWithin}
use Rattle.client_script.specs.declared.command.Command.{Command}
use Rattle.client_script.specs.declared.command.Command.TheVariants as command
use Rattle.client_script.specs.declared.command.TransactionCommand.TheVariants as transaction_line
use Rattle.client_script.specs.declared.command.WatchesCommand.{WatchesCommand}
use Rattle.client_script.specs.declared.command.WatchesCommand.TheVariants as watches_line
use Rattle.client_script.specs.declared.command.WriteCommand.{WriteCommand}
use Rattle.client_script.specs.declared.command.WriteCommand.TheVariants as write_line
use Rattle.client_script.proofs.LongerHistory.{turn_longer}
use Rattle.run_check.proofs.CleanNames.{AreNamed, Gives, IsCleanClient, is_named, member_named, named_lacks, until_gives, wait_gives}
use Rattle.run_check.proofs.Outcomes.{IfOk, after_any}
use Rattle.run_check.proofs.PlainTexts.{byte_cut, decimal_flat, decimal_next}

-- ---- numbers and names in texts

-- a word and a number tell the number
number_same : (w : Bytes) (m n : ℕ) → m < 2 ^ 64 → n < 2 ^ 64 → w ++ decimal m ≡ w ++ decimal n → m ≡ n
number_same w m n small small' same = decimal_injective m n small small' (append_cancel_left w (decimal m) (decimal n) same)

-- `fired NAME @n` tells the name and the number
woken_same : (name other : Bytes) (m n : ℕ) → is_named name ≡ true → is_named other ≡ true → m < 2 ^ 64 → n < 2 ^ 64 → reply_text (woken_by name m) ≡ reply_text (woken_by other n) → woken_by name m ≡ woken_by other n
woken_same name other m n named named' small small' same =
    let rest : name ++ 32 ∷ 64 ∷ decimal m ≡ other ++ 32 ∷ 64 ∷ decimal n = append_cancel_left (codes "fired ") (name ++ 32 ∷ 64 ∷ decimal m) (other ++ 32 ∷ 64 ∷ decimal n) same in
    let cut : (name ≡ other) × (64 ∷ decimal m ≡ 64 ∷ decimal n) = byte_cut 32 name other (64 ∷ decimal m) (64 ∷ decimal n) (named_lacks 32 name refl named) (named_lacks 32 other refl named') rest in
    ap (λ (x : Bytes). woken_by x m) cut.0 ∙ ap (λ (x : ℕ). woken_by other x) (number_same (64 ∷ []) m n small small' cut.1)

first_byte : Bytes → ℕ
first_byte bs = get_or bs 0 0

-- texts differ that differ at a byte
differ_at : (k : ℕ) (a b : Bytes) → (get_or a k 0 == get_or b k 0) ≡ false → a ≡ b → ⊥
differ_at k a b test same = eqb-false (get_or a k 0) (get_or b k 0) test (ap (λ (x : Bytes). get_or x k 0) same)

-- ---- the commit that a text tells

-- a reply that prints a commit, or one whose text begins with another byte than that of such replies
data HowPrinted (r : Reply) : Type 0 where
  prints_commit : (n : ℕ) (changed : List Changed) (texts : List Bytes) → r ≡ committed n changed texts → HowPrinted r
  prints_none : number_printed r ≡ [] → (b : ℕ) (rest : Bytes) → b ≢ 99 → reply_text r ≡ b ∷ rest → HowPrinted r

how_printed : (r : Reply) → HowPrinted r
how_printed (committed n changed texts) = prints_commit n changed texts refl
how_printed (read_at n) = prints_none refl 114 _ (λ e. omega arith) refl
how_printed (write_at n) = prints_none refl 119 _ (λ e. omega arith) refl
how_printed ended = prints_none refl 101 _ (λ e. omega arith) refl
how_printed aborted = prints_none refl 97 _ (λ e. omega arith) refl
how_printed inserted = prints_none refl 105 _ (λ e. omega arith) refl
how_printed replaced = prints_none refl 114 _ (λ e. omega arith) refl
how_printed deleted = prints_none refl 100 _ (λ e. omega arith) refl
how_printed (wiped k) = prints_none refl 100 _ (λ e. omega arith) refl
how_printed deferred = prints_none refl 100 _ (λ e. omega arith) refl
how_printed (answered (One None)) = prints_none refl 110 _ (λ e. omega arith) refl
how_printed (answered (One (Some row))) = prints_none refl 114 _ (λ e. omega arith) refl
how_printed (answered (Many rows)) = prints_none refl 114 _ (λ e. omega arith) refl
how_printed (snapshot_at n) = prints_none refl 115 _ (λ e. omega arith) refl
how_printed (snapshot_within n) = prints_none refl 115 _ (λ e. omega arith) refl
how_printed (quiet_at n) = prints_none refl 113 _ (λ e. omega arith) refl
how_printed (fired_at n) = prints_none refl 102 _ (λ e. omega arith) refl
how_printed (sized k) = prints_none refl 115 _ (λ e. omega arith) refl
how_printed (woken_by name n) = prints_none refl 102 _ (λ e. omega arith) refl
how_printed (stopped_at n) = prints_none refl 115 _ (λ e. omega arith) refl
how_printed (refused rule) = prints_none refl 114 _ (λ e. omega arith) refl

-- what follows the number begins with a line feed, if there is one
feed_follows : (changed : List Changed) (texts : List Bytes) → (rest : Bytes) × ((changed_lines changed ++ did_lines texts) ++ 10 ∷ [] ≡ 10 ∷ rest)
feed_follows [] [] = ([], refl)
feed_follows [] (t ∷ texts) = (_, refl)
feed_follows (c ∷ changed) texts = (_, refl)

-- the text of a commit tells its number
commit_same : (m n : ℕ) (changed changed' : List Changed) (texts texts' : List Bytes) → m < 2 ^ 64 → n < 2 ^ 64 → reply_text (committed m changed texts) ≡ reply_text (committed n changed' texts') → m ≡ n
commit_same m n changed changed' texts texts' small small' same =
    let more : Bytes = changed_lines changed ++ did_lines texts in
    let more' : Bytes = changed_lines changed' ++ did_lines texts' in
    let rest : decimal m ++ more ≡ decimal n ++ more' = append_cancel_left (codes "commit @") (decimal m ++ more) (decimal n ++ more') same in
    let here = feed_follows changed texts in
    let there = feed_follows changed' texts' in
    let both : decimal m ++ 10 ∷ here.0 ≡ decimal n ++ 10 ∷ there.0 =
    ap (λ (x : Bytes). decimal m ++ x) (sym here.1)
    ∙ sym (append_assoc (decimal m) more (10 ∷ []))
    ∙ ap (λ (x : Bytes). x ++ 10 ∷ []) rest
    ∙ append_assoc (decimal n) more' (10 ∷ [])
    ∙ ap (λ (x : Bytes). decimal n ++ x) there.1 in
    decimal_injective m n small small' (byte_cut 10 (decimal m) (decimal n) here.0 there.0 (decimal_flat m) (decimal_flat n) both).0

-- the numbers that a reply prints are below 2^64
abbrev pub PrintsSmall : Reply → Type 0
PrintsSmall r = (m : ℕ) → Contains (number_printed r) m → m < 2 ^ 64

pub numbers_same : (r s : Reply) → PrintsSmall r → PrintsSmall s → reply_text r ≡ reply_text s → number_printed r ≡ number_printed s
unfolding first_byte
numbers_same r s small small' same = of (how_printed r) (how_printed s)
  where
    first_small : (q : Reply) (n : ℕ) (changed : List Changed) (texts : List Bytes) → q ≡ committed n changed texts → PrintsSmall q → n < 2 ^ 64
    first_small q n changed texts is all = all n (subst (λ (x : Reply). Contains (number_printed x) n) (sym is) (Contains-first n []))

    of : HowPrinted r → HowPrinted s → number_printed r ≡ number_printed s
    of (prints_commit m changed texts is) (prints_commit n changed' texts' is') =
        ap number_printed is
        ∙ ap (λ (x : ℕ). x ∷ []) (commit_same m n changed changed' texts texts' (first_small r m changed texts is small) (first_small s n changed' texts' is' small') (ap reply_text (sym is) ∙ same ∙ ap reply_text is'))
        ∙ sym (ap number_printed is')
    of (prints_commit m changed texts is) (prints_none none b rest apart text) =
        let first : reply_text (committed m changed texts) ≡ b ∷ rest = ap reply_text (sym is) ∙ same ∙ text in
        absurd (apart (sym (ap first_byte first)))
    of (prints_none none b rest apart text) (prints_commit n changed' texts' is') =
        let first : reply_text (committed n changed' texts') ≡ b ∷ rest = ap reply_text (sym is') ∙ sym same ∙ text in
        absurd (apart (sym (ap first_byte first)))
    of (prints_none none b rest apart text) (prints_none none' b' rest' apart' text') = none ∙ sym none'

-- ---- requests

-- replies of one text are one reply
SameByText : (p q : Reply × Client) → Type 0
SameByText p q = reply_text p.0 ≡ reply_text q.0 → p.0 ≡ q.0

then_same : {A : Type 0} (v : Client) (j : Judged A) (f g : A → Turn) → ((a : A) → SameByText (outcome v (f a)) (outcome v (g a))) → SameByText (outcome v (j >>= f)) (outcome v (j >>= g))
unfolding SameByText
then_same v (Ok a) f g each = each a
then_same v (Err rule) f g each = λ e. refl

begun : ℕ → Client → Bool → Turn
begun now v few = passed (codes "commits-spent") few >>= (λ u. Ok (write_at now, with_transaction now (writing (record { number = now; writes = []; texts = [] })) v))

begun_same : (v : Client) (now now' : ℕ) (few few' : Bool) → now < 2 ^ 64 → now' < 2 ^ 64 → SameByText (outcome v (begun now v few)) (outcome v (begun now' v few'))
unfolding SameByText begun
begun_same v now now' true true small small' = λ e. ap write_at (number_same (codes "write @") now now' small small' e)
begun_same v now now' true false small small' = λ e. absurd (differ_at 0 (reply_text (write_at now)) (reply_text (refused (codes "commits-spent"))) refl e)
begun_same v now now' false true small small' = λ e. absurd (differ_at 0 (reply_text (refused (codes "commits-spent"))) (reply_text (write_at now')) refl e)
begun_same v now now' false false small small' = λ e. refl

request_same : (schema : DbSchema) (H : History) (now now' : ℕ) (v : Client) (q : Request) → now < 2 ^ 64 → now' < 2 ^ 64 → SameByText (outcome v (turn schema H now v q)) (outcome v (turn schema H now' v q))
unfolding SameByText begun
request_same schema H now now' v (to_transact transaction_line.Read) small small' = then_same v (none_open v.transaction) _ _ (λ u e. ap read_at (number_same (codes "read @") now now' small small' e))
request_same schema H now now' v (to_transact transaction_line.Write) small small' = then_same v (none_open v.transaction) _ _ (λ u. begun_same v now now' (nat_lt now commit_limit) (nat_lt now' commit_limit) small small')
request_same schema H now now' v (to_transact transaction_line.End) small small' = λ e. refl
request_same schema H now now' v (to_transact transaction_line.Commit) small small' = λ e. refl
request_same schema H now now' v (to_transact transaction_line.Abort) small small' = λ e. refl
request_same schema H now now' v (to_write w) small small' = λ e. refl
request_same schema H now now' v (to_defer text) small small' = λ e. refl
request_same schema H now now' v (to_ask a) small small' = λ e. refl
request_same schema H now now' v (to_name n) small small' = λ e. refl
request_same schema H now now' v (to_size set) small small' = λ e. refl

-- ---- writes that break no rule are told something else than that there are too few ids

abbrev IsNotSpent : Reply × Client → Type 0
IsNotSpent p = reply_text p.0 ≡ reply_text ids_spent → ⊥

inserted_told : (was : Option Fields) → reply_text (insert_reply was) ≡ reply_text ids_spent → ⊥
inserted_told None e = differ_at 0 (reply_text inserted) (reply_text ids_spent) refl e
inserted_told (Some row) e = differ_at 2 (reply_text replaced) (reply_text ids_spent) refl e

written_told : (schema : DbSchema) (H : History) (v : Client) (w : WriteCommand) → IfOk IsNotSpent (write_turn schema H v w)
written_told schema H v (write_line.Insert table row) = after_any IsNotSpent (write_open v.transaction) _ (λ t. after_any IsNotSpent (stepped (indexes_of schema table) (step schema (state_seen schema H (sight_of t)) (put table row))) _ (λ was. inserted_told was))
written_told schema H v (write_line.Delete table row) = after_any IsNotSpent (write_open v.transaction) _ (λ t. after_any IsNotSpent (stepped (indexes_of schema table) (step schema (state_seen schema H (sight_of t)) (remove table row))) _ (λ was e. differ_at 0 (reply_text deleted) (reply_text ids_spent) refl e))
written_told schema H v (write_line.DeleteAll q) = after_any IsNotSpent (write_open v.transaction) _ (λ t. after_any IsNotSpent (asked (wipe schema (state_seen schema H (sight_of t)) q)) _ (λ gone e. differ_at 0 (reply_text (wiped (length gone))) (reply_text ids_spent) refl e))
written_told schema H v (write_line.DeletePrefix q) = after_any IsNotSpent (write_open v.transaction) _ (λ t. after_any IsNotSpent (asked (wipe_by_prefix schema (state_seen schema H (sight_of t)) q)) _ (λ gone e. differ_at 0 (reply_text (wiped (length gone))) (reply_text ids_spent) refl e))

-- ---- one client, in two histories

module _ (schema : DbSchema) (H H' : History) (client k now now' : ℕ) (there : k ≤ length H) (there' : k ≤ length H') (same : take k H ≡ take k H') (small : now < 2 ^ 64) (small' : now' < 2 ^ 64) (v : Client) (within : IsWithin k v) (clean : IsCleanClient v) where
  -- the request's turn looks at the first k commits alone
  turn_same : (at : ℕ) (q : Request) → turn schema H at v q ≡ turn schema H' at v q
  turn_same at q =
      ap (λ (G : History). turn schema G at v q) (sym (take-append-drop k H))
      ∙ turn_longer schema (take k H) (drop k H) at v q (subst (λ (n : ℕ). IsWithin n v) (sym (length-take-le k H there)) within)
      ∙ ap (λ (G : History). turn schema G at v q) same
      ∙ sym (turn_longer schema (take k H') (drop k H') at v q (subst (λ (n : ℕ). IsWithin n v) (sym (length-take-le k H' there')) within))
      ∙ ap (λ (G : History). turn schema G at v q) (take-append-drop k H')

  module _ (r r' : Reply) (next next' : Client) (text : reply_text r ≡ reply_text r') where
    turns : (q : Request) → outcome v (turn schema H now v q) ≡ (r, next) → outcome v (turn schema H' now' v q) ≡ (r', next') → r ≡ r'
    unfolding SameByText
    turns q is is' =
        let here : outcome v (turn schema H' now v q) ≡ (r, next) = ap (outcome v) (sym (turn_same now q)) ∙ is in
        let one : (outcome v (turn schema H' now v q)).0 ≡ r = ap (λ (p : Reply × Client). p.0) here in
        let other : (outcome v (turn schema H' now' v q)).0 ≡ r' = ap (λ (p : Reply × Client). p.0) is' in
        sym one ∙ request_same schema H' now now' v q small small' (ap reply_text one ∙ text ∙ sym (ap reply_text other)) ∙ other

    -- a write that is told so breaks no rule in the other history, where it would be told otherwise
    spent_only : (G : History) (w : WriteCommand) (ruled q : Reply) (after next'' : Client) → write_turn schema G v w ≡ Ok (ruled, after) → outcome v (write_turn schema G v w) ≡ (q, next'') → reply_text q ≡ reply_text ids_spent → ⊥
    spent_only G w ruled q after next'' allowed is told =
        let other : IsNotSpent (ruled, after) = subst (IfOk IsNotSpent) allowed (written_told schema G v w) in
        let first : ruled ≡ q = ap (λ (t : Turn). (outcome v t).0) (sym allowed) ∙ ap (λ (p : Reply × Client). p.0) is in
        other (ap reply_text first ∙ told)

    both : (w : WriteCommand) → IsWriteTold schema H v w r next → IsWriteTold schema H' v w r' next' → r ≡ r'
    both w (by_turn is) (by_turn is') = turns (to_write w) is is'
    both w (by_turn is) (without_ids s) = absurd (spent_only H w s.ruled r s.after next (turn_same now (to_write w) ∙ s.allowed) is (text ∙ ap reply_text s.reply))
    both w (without_ids s) (by_turn is') = absurd (spent_only H' w s.ruled r' s.after next' (sym (turn_same now (to_write w)) ∙ s.allowed) is' (sym text ∙ ap reply_text s.reply))
    both w (without_ids s) (without_ids s') = s.reply ∙ sym s'.reply

    -- ---- lines of watches

    -- replies that are made of numbers in one way
    by_number : (make : ℕ → Reply) (w : Bytes) → ((n : ℕ) → reply_text (make n) ≡ w ++ decimal n) → r ≡ make now → r' ≡ make now' → r ≡ r'
    by_number make w texts is is' =
        let both_texts : w ++ decimal now ≡ w ++ decimal now' = sym (texts now) ∙ ap reply_text (sym is) ∙ text ∙ ap reply_text is' ∙ texts now' in
        is ∙ ap make (number_same w now now' small small' both_texts) ∙ sym is'

    apart : (a b : Reply) → (reply_text a ≡ reply_text b → ⊥) → r ≡ a → r' ≡ b → r ≡ r'
    apart a b differ is is' = absurd (differ (ap reply_text (sym is) ∙ text ∙ ap reply_text is'))

    checked : (w : Watch) → IsChecked schema H client now w r → IsChecked schema H' client now' w r' → r ≡ r'
    checked w (inl quiet) (inl quiet') = by_number quiet_at (codes "quiet @") (λ n. refl) quiet.0 quiet'.0
    checked w (inl quiet) (inr fired) = apart (quiet_at now) (fired_at now') (differ_at 0 (reply_text (quiet_at now)) (reply_text (fired_at now')) refl) quiet.0 fired.0
    checked w (inr fired) (inl quiet) = apart (fired_at now) (quiet_at now') (differ_at 0 (reply_text (fired_at now)) (reply_text (quiet_at now')) refl) fired.0 quiet.0
    checked w (inr fired) (inr fired') = by_number fired_at (codes "fired @") (λ n. refl) fired.0 fired'.0

    next_size : (size : ℕ) → reply_text (sized size) ≡ reply_text (sized (size + 1)) → ⊥
    next_size size e = decimal_next size (append_cancel_left (codes "size ") (decimal size) (decimal (size + 1)) e)

    added : (set : Bytes) (w : Watch) → IsAdded set w v r next → IsAdded set w v r' next' → r ≡ r'
    added set w (inl m) (inl m') = m.reply ∙ sym m'.reply
    added set w (inl m) (inr d) = absurd (next_size (length (set_for set v).members) (ap reply_text (sym d.reply) ∙ sym text ∙ ap reply_text m.reply))
    added set w (inr d) (inl m) = absurd (next_size (length (set_for set v).members) (ap reply_text (sym d.reply) ∙ text ∙ ap reply_text m.reply))
    added set w (inr d) (inr d') = d.reply ∙ sym d'.reply

    woken : (s : WatchSet) → AreNamed s.members → IsWoken schema H client now v s r → IsWoken schema H' client now' v s r' → r ≡ r'
    woken s named w w' =
        w.reply
        ∙ woken_same w.member.name w'.member.name now now' (member_named s.members w.place w.member named w.there) (member_named s.members w'.place w'.member named w'.there) small small' (ap reply_text (sym w.reply) ∙ text ∙ ap reply_text w'.reply)
        ∙ sym w'.reply

    waited : (s : WatchSet) (until : Watch) → AreNamed s.members → IsWoken schema H client now v s r ⊎ IsStopped schema H client now v s until r → IsWoken schema H' client now' v s r' ⊎ IsStopped schema H' client now' v s until r' → r ≡ r'
    waited s until named (inl w) (inl w') = woken s named w w'
    waited s until named (inl w) (inr t') = apart (woken_by w.member.name now) (stopped_at now') (differ_at 0 (reply_text (woken_by w.member.name now)) (reply_text (stopped_at now')) refl) w.reply t'.reply
    waited s until named (inr t) (inl w') = apart (stopped_at now) (woken_by w'.member.name now') (differ_at 0 (reply_text (stopped_at now)) (reply_text (woken_by w'.member.name now')) refl) t.reply w'.reply
    waited s until named (inr t) (inr t') = by_number stopped_at (codes "stopped @") (λ n. refl) t.reply t'.reply

    by_judged : {A : Type 0} (P : A → Type 0) (j : Judged A) (said said' : A → Type 0) → Gives P j → IsJudged v j r next said → IsJudged v j r' next' said' → ((a : A) → P a → said a → said' a → r ≡ r') → r ≡ r'
    by_judged P (Ok a) said said' gives told told' each = each a gives told told'
    by_judged P (Err rule) said said' gives told told' each = told.0 ∙ sym told'.0

    simply_judged : {A : Type 0} (j : Judged A) (said said' : A → Type 0) → IsJudged v j r next said → IsJudged v j r' next' said' → ((a : A) → said a → said' a → r ≡ r') → r ≡ r'
    simply_judged (Ok a) said said' told told' each = each a told told'
    simply_judged (Err rule) said said' told told' each = told.0 ∙ sym told'.0

    watches : (c : WatchesCommand) → IsWatchTold schema H client now v c r next → IsWatchTold schema H' client now' v c r' next' → r ≡ r'
    watches (watches_line.Check name) told told' = simply_judged (check_judged v name) _ _ told told' (λ w said said'. checked w said.0 said'.0)
    watches (watches_line.Add set name) told told' = simply_judged (watch_called name v) _ _ told told' (λ w said said'. added set w said said')
    watches (watches_line.AddLimit set limit name other) told told' = simply_judged (limit_judged v set limit name other) _ _ told told' (λ w said said'. added set w said said')
    watches (watches_line.Wait set) told told' = by_judged (λ (s : WatchSet). AreNamed s.members) (wait_judged v set) _ _ (wait_gives v clean set) told told' (λ s named said said'. woken s named said.0 said'.0)
    watches (watches_line.WaitUntil set until) told told' = by_judged (λ (p : WatchSet × Watch). AreNamed p.0.members) (until_judged v set until) _ _ (until_gives v clean set until) told told' (λ p named said said'. waited p.0 p.1 named said.0 said'.0)

    -- ---- any line

    pub reply_same : (c : Command) → IsAnswered schema H client now v c r next → IsAnswered schema H' client now' v c r' next' → r ≡ r'
    reply_same (command.Transaction t) is is' = turns (to_transact t) is is'
    reply_same (command.Write w) is is' = both w is is'
    reply_same (command.Defer t) is is' = turns (to_defer t) is is'
    reply_same (command.Ask a) is is' = turns (to_ask a) is is'
    reply_same (command.Name n) is is' = turns (to_name n) is is'
    reply_same (command.Size set) is is' = turns (to_size set) is is'
    reply_same (command.Watches w) is is' = watches w is is'
