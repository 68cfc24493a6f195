-- What a client may be told at the lines that add a watch to a set.
use Rattle.std.proofs.Common.{arith, ◌≡◌, ◌≢◌, refl, ap, subst, sym, ◌∙◌, ℕ, ◌+◌, ◌^◌, ◌<◌, ◌≤◌, ◌⊎◌, inl, inr, [], ◌∷◌, ◌++◌, length, Contains, Option, Some, Ok, Err, decimal, codes, append-nil, unwrap_or}
use Rattle.mdb_datum.specs.Bytes.{Bytes}
use Rattle.mdb_schema.specs.History.{History}
use Rattle.mdb_schema.specs.Schema.{DbSchema}
use Rattle.client_script.specs.Client.{Client, Judged, Watch}
use Rattle.client_script.specs.Reply.{Reply, reply_text, sized}
use Rattle.client_script.specs.Session.{IsAnswered, IsEntry}
use Rattle.client_script.specs.Watching.{AreOfOneIndex, IsAdded, IsAmong, IsJudged, limit_judged, set_for, watch_called, with_set}
use Rattle.client_script.specs.declared.command.Command.{Command}
use Rattle.client_script.specs.declared.command.Command.TheVariants as command
use Rattle.client_script.specs.declared.command.WatchesCommand.TheVariants as watches_line
use Rattle.run_check.specs.FirstBad.{IsTold}
use Rattle.run_check.specs.TextLines.{number_behind}
use Rattle.run_check.specs.inner.Decided.{IsDecided}
use Rattle.run_check.specs.inner.SessionView.{IsDoubleTold, IsMemberTold, IsNoSize}
use Rattle.run_check.proofs.DecidedTurns.{decided_none, judged_refused, judged_reply, judged_said, refusal_decided, said_judged}
use Rattle.run_check.proofs.WrittenNumbers.{number_after}

-- a size and its text
size_number : (k : ℕ) → k < 2 ^ 64 → number_behind (codes "size ") (codes "size " ++ decimal k) ≡ Some k
size_number k small = ap (λ (x : Bytes). number_behind (codes "size ") (codes "size " ++ x)) (sym (append-nil (decimal k))) ∙ number_after (codes "size ") [] k small tt

-- of the client's set, by a watch more: one that is a member now, and one that has its cell
abbrev pub with_member : Bytes → Watch → Client → Client
with_member set w v = with_set (record {
  name = set;
  members = (set_for set v).members ++ w ∷ [];
  added = (set_for set v).added ++ w ∷ [];
}) v

abbrev pub with_double : Bytes → Watch → Client → Client
with_double set w v = with_set (record {
  name = set;
  members = (set_for set v).members;
  added = (set_for set v).added ++ w ∷ [];
}) v

-- a member watches the same index
pub record HasIndex (set : Bytes) (w : Watch) (v : Client) : Type 0 where
  pub member : Watch
  pub there : Contains (set_for set v).members member
  pub index : AreOfOneIndex member.query w.query

-- a line adds the watch that is judged to a set
module _ (schema : DbSchema) (H : History) (v : Client) (known : v.last ≤ length H) (client : ℕ) (c : Command) (set : Bytes) (judged : Judged Watch)
    (to : (now : ℕ) (r : Reply) (next : Client) → IsJudged v judged r next (λ w. IsAdded set w v r next) → IsAnswered schema H client now v c r next)
    (from : (now : ℕ) (r : Reply) (next : Client) → IsAnswered schema H client now v c r next → IsJudged v judged r next (λ w. IsAdded set w v r next)) where
  refused_decided : (rule : Bytes) → judged ≡ Err rule → (text : Bytes) → IsDecided schema H client v c text (codes "refused " ++ rule) v
  refused_decided rule is text = refusal_decided schema H v known client c text rule (to v.last _ v (judged_refused v judged rule _ is)) (λ now r next told. judged_reply v next judged r rule _ is (from now r next told))

  module _ (w : Watch) (is : judged ≡ Ok w) (few : length (set_for set v).members < 2 ^ 63) where
    size : ℕ
    size = length (set_for set v).members

    added_told : (r : Reply) (next : Client) → IsAdded set w v r next → IsEntry H client v.transaction r → IsTold schema H client v c (reply_text r) next
    added_told r next added entry = record {
      reply = r;
      printed = refl;
      answers = record { now = v.last; not_older = search (arith); there = known; says = to v.last r next (said_judged v next judged r w _ is added); entry = entry };
    }

    -- what is told is one of two numbers
    told_size : (text : Bytes) (other : Client) → IsTold schema H client v c text other → ((number_behind (codes "size ") text ≡ Some (length (set_for set v).members + 1)) × (IsAmong w (set_for set v).added → ⊥) × (codes "size " ++ decimal (length (set_for set v).members + 1) ≡ text)) ⊎ ((number_behind (codes "size ") text ≡ Some (length (set_for set v).members)) × HasIndex set w v × (codes "size " ++ decimal (length (set_for set v).members) ≡ text))
    told_size text other told = by (judged_said v other judged told.reply w _ is (from told.answers.now told.reply other told.answers.says))
      where
        by : IsAdded set w v told.reply other → ((number_behind (codes "size ") text ≡ Some (length (set_for set v).members + 1)) × (IsAmong w (set_for set v).added → ⊥) × (codes "size " ++ decimal (length (set_for set v).members + 1) ≡ text)) ⊎ ((number_behind (codes "size ") text ≡ Some (length (set_for set v).members)) × HasIndex set w v × (codes "size " ++ decimal (length (set_for set v).members) ≡ text))
        by (inl m) =
            let text_is : codes "size " ++ decimal (length (set_for set v).members + 1) ≡ text = sym (ap reply_text m.reply) ∙ told.printed in
            inl (ap (number_behind (codes "size ")) (sym text_is) ∙ size_number (length (set_for set v).members + 1) (omega (arith, few)), m.new, text_is)
        by (inr d) =
            let text_is : codes "size " ++ decimal (length (set_for set v).members) ≡ text = sym (ap reply_text d.reply) ∙ told.printed in
            inr (ap (number_behind (codes "size ")) (sym text_is) ∙ size_number (length (set_for set v).members) (omega (arith, few)), record { member = d.member; there = d.there; index = d.index }, text_is)

    apart_sizes : (k : ℕ) (o : Option ℕ) → o ≡ Some k → o ≡ Some (k + 1) → ⊥
    apart_sizes k o e e' = let same : k ≡ k + 1 = ap (λ (x : Option ℕ). unwrap_or x 0) (sym e ∙ e') in omega (arith, same)

    -- a text that tells one member more decides, where the watch is new to the set
    member_decided : (text : Bytes) → number_behind (codes "size ") text ≡ Some (length (set_for set v).members + 1) → (IsAmong w (set_for set v).added → ⊥) → IsDecided schema H client v c text (codes "size " ++ decimal (length (set_for set v).members + 1)) (with_member set w v)
    member_decided text found new = record {
      told = λ e. subst (λ (x : Bytes). IsTold schema H client v c x (with_member set w v)) e (added_told (sized (length (set_for set v).members + 1)) (with_member set w v) (inl (record { new = new; reply = refl; kept = refl })) tt);
      untold = λ apart other told. elim (told_size text other told) [ inl m ↦ apart m.2 | inr d ↦ apart_sizes (length (set_for set v).members) (number_behind (codes "size ") text) d.0 found ];
    }

    -- and one that tells as many, where a member watches the same index
    double_decided : (text : Bytes) → number_behind (codes "size ") text ≡ Some (length (set_for set v).members) → HasIndex set w v → IsDecided schema H client v c text (codes "size " ++ decimal (length (set_for set v).members)) (with_double set w v)
    double_decided text found there = record {
      told = λ e. subst (λ (x : Bytes). IsTold schema H client v c x (with_double set w v)) e (added_told (sized (length (set_for set v).members)) (with_double set w v) (inr (record { member = there.member; there = there.there; index = there.index; reply = refl; kept = refl })) tt);
      untold = λ apart other told. elim (told_size text other told) [ inl m ↦ apart_sizes (length (set_for set v).members) (number_behind (codes "size ") text) found m.0 | inr d ↦ apart d.2 ];
    }

    -- else none may be told
    undecided : (text : Bytes) → text ≢ [] → (number_behind (codes "size ") text ≡ Some (length (set_for set v).members + 1) → (IsAmong w (set_for set v).added → ⊥) → ⊥) → (number_behind (codes "size ") text ≡ Some (length (set_for set v).members) → HasIndex set w v → ⊥) → (next : Client) → IsDecided schema H client v c text [] next
    undecided text some no_member no_double next = decided_none schema H client v next c text some (λ other told. elim (told_size text other told) [ inl m ↦ no_member m.0 m.1 | inr d ↦ no_double d.0 d.1 ])

    -- so what the code adds decides, as the text tells a size
    size_decided : (text made : Bytes) (after : Client) → text ≢ [] → IsMemberTold set w v after text made ⊎ IsDoubleTold set w v after text made ⊎ IsNoSize set w v text made → IsDecided schema H client v c text made after
    size_decided text made after some (inl m) =
        subst (λ (x : Bytes). IsDecided schema H client v c text x after) (sym m.made_is)
        (subst (λ (y : Client). IsDecided schema H client v c text (codes "size " ++ decimal (length (set_for set v).members + 1)) y) (sym m.kept) (member_decided text m.size m.new))
    size_decided text made after some (inr (inl d)) =
        subst (λ (x : Bytes). IsDecided schema H client v c text x after) (sym d.made_is)
        (subst (λ (y : Client). IsDecided schema H client v c text (codes "size " ++ decimal (length (set_for set v).members)) y) (sym d.kept)
        (double_decided text d.size (record { member = d.member; there = d.there; index = d.index })))
    size_decided text made after some (inr (inr n)) =
        subst (λ (x : Bytes). IsDecided schema H client v c text x after) (sym n.none)
        (undecided text some n.member (λ told has. n.double told has.member has.there has.index) after)

-- ---- `add` and `add-limit`

module _ (schema : DbSchema) (H : History) (v : Client) (known : v.last ≤ length H) (client : ℕ) (set : Bytes) where
  module _ (name : Bytes) where
    pub add_refused : (rule : Bytes) → watch_called name v ≡ Err rule → (text : Bytes) → IsDecided schema H client v (command.Watches (watches_line.Add set name)) text (codes "refused " ++ rule) v
    add_refused = refused_decided schema H v known client (command.Watches (watches_line.Add set name)) set (watch_called name v) (λ now r next is. is) (λ now r next is. is)

    pub add_size : (w : Watch) → watch_called name v ≡ Ok w → length (set_for set v).members < 2 ^ 63 → (text made : Bytes) (after : Client) → text ≢ [] → IsMemberTold set w v after text made ⊎ IsDoubleTold set w v after text made ⊎ IsNoSize set w v text made → IsDecided schema H client v (command.Watches (watches_line.Add set name)) text made after
    add_size = size_decided schema H v known client (command.Watches (watches_line.Add set name)) set (watch_called name v) (λ now r next is. is) (λ now r next is. is)

  module _ (limit : ℕ) (name other : Bytes) where
    pub limit_refused : (rule : Bytes) → limit_judged v set limit name other ≡ Err rule → (text : Bytes) → IsDecided schema H client v (command.Watches (watches_line.AddLimit set limit name other)) text (codes "refused " ++ rule) v
    limit_refused = refused_decided schema H v known client (command.Watches (watches_line.AddLimit set limit name other)) set (limit_judged v set limit name other) (λ now r next is. is) (λ now r next is. is)

    pub limit_size : (w : Watch) → limit_judged v set limit name other ≡ Ok w → length (set_for set v).members < 2 ^ 63 → (text made : Bytes) (after : Client) → text ≢ [] → IsMemberTold set w v after text made ⊎ IsDoubleTold set w v after text made ⊎ IsNoSize set w v text made → IsDecided schema H client v (command.Watches (watches_line.AddLimit set limit name other)) text made after
    limit_size = size_decided schema H v known client (command.Watches (watches_line.AddLimit set limit name other)) set (limit_judged v set limit name other) (λ now r next is. is) (λ now r next is. is)
