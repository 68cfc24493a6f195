-- Names and texts without line feeds, in commands, schemas and what a client knows; and what is
-- judged of them.
use Rattle.std.proofs.Common.{arith, ◌≡◌, refl, ap, subst, sym, ◌∙◌, ℕ, zero, suc, inl, inr, List, [], ◌∷◌, ◌++◌, length, Bool, true, false, Option, Some, None, Ok, Err, slice_get, map, reverse, codes}
use Rattle.std.specs.Bool.{⊤}
use Rattle.std.specs.List.{list_all}
use Rattle.std.specs.Prelude.{if◌then◌else◌, nat_lt}
use Rattle.std.specs.Str.{bytes_eq}
use Rattle.std.proofs.lemmas.Bool.{and_from, and_parts, cases_eq}
use Rattle.std.proofs.lemmas.Bool.Decides.{nat_tests}
use Rattle.std.proofs.lemmas.List.{reverse-append}
use Rattle.mdb_datum.specs.Bytes.{Bytes}
use Rattle.mdb_encode.specs.ArgRefusal.{ArgRefusal, arg_count, arg_kind, arg_out_of_range, arg_bad_uuid, arg_too_long, no_prefix_form}
use Rattle.mdb_encode.specs.KeyRefusal.{KeyRefusal, wrong_kind, out_of_range, bad_uuid, too_many, too_long}
use Rattle.mdb_schema.specs.Answer as asks
use Rattle.mdb_schema.specs.Answer.{Asked, ask}
use Rattle.mdb_schema.specs.Names.{is_name_byte}
use Rattle.mdb_schema.specs.Net.{Change}
use Rattle.mdb_schema.specs.Schema.{DbSchema, IndexSchema}
use Rattle.mdb_schema.specs.Tests.{◌>>=◌, needed, passed}
use Rattle.mdb_schema.specs.Write as writes
use Rattle.mdb_schema.specs.Write.{Write, Stepped, put, remove, step}
use Rattle.mdb_schema.specs.declared.answer.Answer.{Answer}
use Rattle.client_script.specs.Client.{Client, Judged, Transaction, Watch, WatchSet, at_start, closed, no_write_open, none_open, read_open, reading, set_named, some_open, watch_named, write_open, writing}
use Rattle.client_script.specs.RefusedWord.{argument_word, index_part, key_word, question_word, write_word}
use Rattle.client_script.specs.Reply.{Reply}
use Rattle.client_script.specs.Turn.{asked, asked_watched, changed_row, indexes_of, name_of, set_called, stepped}
use Rattle.client_script.specs.Watching.{check_judged, limit_judged, put_set, set_for, set_or_new, until_judged, wait_judged, watch_called}
use Rattle.client_script.specs.declared.command.Command.{Command}
use Rattle.client_script.specs.declared.command.Command.TheVariants as command
use Rattle.client_script.specs.declared.command.NameCommand.TheVariants as name_line
pub use Rattle.run_check.specs.inner.Decided.{AreNamed, is_named}
use Rattle.run_check.proofs.IndentedTexts.{AreFlat, AreFlatChanges, IsCleanReply}
use Rattle.run_check.proofs.PlainTexts.{is_flat, is_other, lacks, lacks_both}

-- ---- names

other_byte : (c b : ℕ) → is_name_byte c ≡ false → is_name_byte b ≡ true → is_other c b ≡ true
other_byte c b other here = elim (cases_eq b c) [
  | inl same ↦ absurd (apart (sym here ∙ ap is_name_byte same ∙ other))
  | inr apart' ↦ grind (arith, nat_tests, apart')
]
  where
    apart : true ≡ false → ⊥
    apart e = cc

bytes_lack : (c : ℕ) (bs : Bytes) → is_name_byte c ≡ false → list_all is_name_byte bs ≡ true → lacks c bs ≡ true
bytes_lack c [] other named = refl
bytes_lack c (b ∷ bs) other named =
    let parts : (is_name_byte b ≡ true) × (list_all is_name_byte bs ≡ true) = and_parts (is_name_byte b) (list_all is_name_byte bs) named in
    and_from (is_other c b) (lacks c bs) (other_byte c b other parts.0) (bytes_lack c bs other parts.1)

-- so they lack every other byte
pub named_lacks : (c : ℕ) (bs : Bytes) → is_name_byte c ≡ false → is_named bs ≡ true → lacks c bs ≡ true
named_lacks c bs other named = bytes_lack c bs other (and_parts (nat_lt 0 (length bs)) (list_all is_name_byte bs) named).1

pub named_flat : (bs : Bytes) → is_named bs ≡ true → is_flat bs ≡ true
named_flat bs named = named_lacks 10 bs refl named

-- ---- what is asked of a command, a schema and a client

-- a deferred text has no line feed, and a new watch has a name
abbrev pub IsCleanCommand : Command → Type 0
IsCleanCommand (command.Defer text) = is_flat text ≡ true
IsCleanCommand (command.Name (name_line.Watch name q)) = is_named name ≡ true
IsCleanCommand (command.Name (name_line.WatchIn name snapshot q)) = is_named name ≡ true
IsCleanCommand c = ⊤

-- no name of a table or an index has a line feed
pub record IsCleanSchema (schema : DbSchema) : Type 0 where
  pub tables : (place : ℕ) → is_flat (name_of (slice_get schema place)) ≡ true
  pub indexes : (table : Bytes) (place : ℕ) → is_flat (index_part (indexes_of schema table) place) ≡ true

abbrev pub HasFlatTexts : Transaction → Type 0
HasFlatTexts closed = ⊤
HasFlatTexts (reading n) = ⊤
HasFlatTexts (writing t) = AreFlat t.texts

abbrev pub HaveNamedMembers : List WatchSet → Type 0
HaveNamedMembers [] = ⊤
HaveNamedMembers (s ∷ ss) = AreNamed s.members × HaveNamedMembers ss

-- its deferred texts have no line feed, and its watches and the members of its sets have names
pub record IsCleanClient (v : Client) : Type 0 where
  pub transaction : HasFlatTexts v.transaction
  pub watches : AreNamed v.watching.watches
  pub sets : HaveNamedMembers v.watching.sets

pub start_clean : IsCleanClient at_start
start_clean = record { transaction = tt; watches = tt; sets = tt }

-- a reply without line feeds in names and texts, and what the client knows then
abbrev pub IsClean : Reply × Client → Type 0
IsClean p = IsCleanReply p.0 × IsCleanClient p.1

-- ---- what is judged

-- it has P, or the rule that is broken has no line feed
abbrev pub Gives : {A : Type 0} → (A → Type 0) → Judged A → Type 0
Gives P (Ok a) = P a
Gives P (Err rule) = is_flat rule ≡ true

abbrev pub Any : {A : Type 0} → A → Type 0
Any a = ⊤

pub gives_then : {A B : Type 0} (P : A → Type 0) (Q : B → Type 0) (j : Judged A) (f : A → Judged B) → Gives P j → ((a : A) → P a → Gives Q (f a)) → Gives Q (j >>= f)
gives_then P Q (Ok a) f gives each = each a gives
gives_then P Q (Err rule) f gives each = gives

pub passed_gives : (rule : Bytes) (b : Bool) → is_flat rule ≡ true → Gives Any (passed rule b)
passed_gives rule true flat = tt
passed_gives rule false flat = flat

abbrev pub IfThere : {A : Type 0} → (A → Type 0) → Option A → Type 0
IfThere P None = ⊤
IfThere P (Some a) = P a

pub needed_gives : {A : Type 0} (P : A → Type 0) (rule : Bytes) (o : Option A) → is_flat rule ≡ true → IfThere P o → Gives P (needed rule o)
needed_gives P rule None flat there = flat
needed_gives P rule (Some a) flat there = there

pub any_there : {A : Type 0} (o : Option A) → IfThere Any o
any_there None = tt
any_there (Some a) = tt

pub none_open_gives : (t : Transaction) → Gives Any (none_open t)
none_open_gives closed = tt
none_open_gives (reading n) = refl
none_open_gives (writing t) = refl

pub some_open_gives : (t : Transaction) → Gives Any (some_open t)
some_open_gives closed = refl
some_open_gives (reading n) = tt
some_open_gives (writing t) = tt

pub read_open_gives : (t : Transaction) → Gives Any (read_open t)
read_open_gives closed = refl
read_open_gives (reading n) = tt
read_open_gives (writing t) = refl

no_write_open_gives : (t : Transaction) → Gives Any (no_write_open t)
no_write_open_gives closed = tt
no_write_open_gives (reading n) = tt
no_write_open_gives (writing t) = refl

pub write_open_gives : (t : Transaction) → HasFlatTexts t → Gives (λ x. AreFlat x.texts) (write_open t)
write_open_gives closed flat = refl
write_open_gives (reading n) flat = refl
write_open_gives (writing t) flat = flat

argument_flat : (r : ArgRefusal) → is_flat (argument_word r) ≡ true
argument_flat arg_count = refl
argument_flat arg_kind = refl
argument_flat arg_out_of_range = refl
argument_flat arg_bad_uuid = refl
argument_flat arg_too_long = refl
argument_flat no_prefix_form = refl

question_flat : (r : asks.AskRefusal) → is_flat (question_word r) ≡ true
question_flat asks.unknown_table = refl
question_flat asks.no_prefix_name = refl
question_flat asks.unknown_index = refl
question_flat asks.not_unique = refl
question_flat (asks.bad_argument r) = argument_flat r

key_flat : (r : KeyRefusal) → is_flat (key_word r) ≡ true
key_flat wrong_kind = refl
key_flat out_of_range = refl
key_flat bad_uuid = refl
key_flat too_many = refl
key_flat too_long = refl

write_flat : (is : List IndexSchema) → ((place : ℕ) → is_flat (index_part is place) ≡ true) → (r : writes.WriteRefusal) → is_flat (write_word is r) ≡ true
write_flat is names writes.unknown_table = refl
write_flat is names writes.no_id = refl
write_flat is names (writes.bad_key place r) = lacks_both 10 (key_word r) (index_part is place) (key_flat r) (names place)
write_flat is names (writes.missing place) = lacks_both 10 (codes "missing") (index_part is place) refl (names place)
write_flat is names (writes.key_taken place) = lacks_both 10 (codes "key-taken") (index_part is place) refl (names place)
write_flat is names writes.not_found = refl

pub asked_gives : {A : Type 0} (a : Asked A) → Gives Any (asked a)
asked_gives (Ok a) = tt
asked_gives (Err r) = question_flat r

pub asked_watched_gives : (b : Bool) (a : Asked Answer) → Gives Any (asked_watched b a)
asked_watched_gives true (Ok a) = tt
asked_watched_gives false (Ok a) = refl
asked_watched_gives true (Err asks.unknown_table) = refl
asked_watched_gives true (Err asks.no_prefix_name) = refl
asked_watched_gives true (Err asks.unknown_index) = refl
asked_watched_gives true (Err asks.not_unique) = refl
asked_watched_gives true (Err (asks.bad_argument r)) = argument_flat r
asked_watched_gives false (Err asks.unknown_table) = refl
asked_watched_gives false (Err asks.no_prefix_name) = refl
asked_watched_gives false (Err asks.unknown_index) = refl
asked_watched_gives false (Err asks.not_unique) = refl
asked_watched_gives false (Err (asks.bad_argument r)) = refl

pub stepped_gives : (is : List IndexSchema) → ((place : ℕ) → is_flat (index_part is place) ≡ true) → (s : Stepped) → Gives Any (stepped is s)
stepped_gives is names (Ok after) = tt
stepped_gives is names (Err r) = write_flat is names r

-- ---- lists

pub both_flat : (ts us : List Bytes) → AreFlat ts → AreFlat us → AreFlat (ts ++ us)
both_flat [] us flat others = others
both_flat (t ∷ ts) us flat others = (flat.0, both_flat ts us flat.1 others)

pub reverse_flat : (ts : List Bytes) → AreFlat ts → AreFlat (reverse ts)
reverse_flat [] flat = tt
reverse_flat (t ∷ ts) flat = subst AreFlat (sym (reverse-append (t ∷ []) ts)) (both_flat (reverse ts) (t ∷ []) (reverse_flat ts flat.1) (flat.0, tt))

pub changes_flat : (schema : DbSchema) → IsCleanSchema schema → (cs : List Change) → AreFlatChanges (map (changed_row schema) cs)
changes_flat schema names [] = tt
changes_flat schema names (c ∷ cs) = (names.tables c.table, changes_flat schema names cs)

pub one_more_named : (ws : List Watch) (w : Watch) → AreNamed ws → is_named w.name ≡ true → AreNamed (ws ++ w ∷ [])
one_more_named [] w named one = (one, tt)
one_more_named (x ∷ ws) w named one = (named.0, one_more_named ws w named.1 one)

found_if : {A : Type 0} (P : A → Type 0) (t : Bool) (a : A) (o : Option A) → P a → IfThere P o → IfThere P (if t then Some a else o)
found_if P true a o here there = here
found_if P false a o here there = there

watch_found : (name : Bytes) (ws : List Watch) → AreNamed ws → IfThere (λ (w : Watch). is_named w.name ≡ true) (watch_named name ws)
watch_found name [] named = tt
watch_found name (w ∷ ws) named = found_if (λ (w : Watch). is_named w.name ≡ true) (bytes_eq w.name name) w (watch_named name ws) named.0 (watch_found name ws named.1)

pub set_found : (name : Bytes) (ss : List WatchSet) → HaveNamedMembers ss → IfThere (λ (s : WatchSet). AreNamed s.members) (set_named name ss)
set_found name [] named = tt
set_found name (s ∷ ss) named = found_if (λ (s : WatchSet). AreNamed s.members) (bytes_eq s.name name) s (set_named name ss) named.0 (set_found name ss named.1)

pub set_or_new_named : (name : Bytes) (o : Option WatchSet) → IfThere (λ (s : WatchSet). AreNamed s.members) o → AreNamed (set_or_new name o).members
set_or_new_named name None there = tt
set_or_new_named name (Some s) there = there

pub put_set_named : (s : WatchSet) (ss : List WatchSet) → AreNamed s.members → HaveNamedMembers ss → HaveNamedMembers (put_set s ss)
put_set_named s [] one all = (one, tt)
put_set_named s (x ∷ ss) one all = by (bytes_eq x.name s.name) (put_set_named s ss one all.1)
  where
    by : (t : Bool) → HaveNamedMembers (put_set s ss) → HaveNamedMembers (if t then s ∷ ss else x ∷ put_set s ss)
    by true rest = (one, all.1)
    by false rest = (all.0, rest)

pub member_named : (ws : List Watch) (place : ℕ) (w : Watch) → AreNamed ws → slice_get ws place ≡ Some w → is_named w.name ≡ true
member_named [] place w named at = cc
member_named (x ∷ ws) zero w named at = subst (λ (o : Option Watch). IfThere (λ (y : Watch). is_named y.name ≡ true) o) at named.0
member_named (x ∷ ws) (suc place) w named at = member_named ws place w named.1 at

-- ---- what lines of watches are judged by

module _ (v : Client) (clean : IsCleanClient v) where
  pub set_gives : (set : Bytes) → Gives (λ (s : WatchSet). AreNamed s.members) (set_called set v)
  set_gives set = needed_gives (λ (s : WatchSet). AreNamed s.members) (codes "unknown-name") (set_named set v.watching.sets) refl (set_found set v.watching.sets clean.sets)

  pub watch_gives : (name : Bytes) → Gives (λ (w : Watch). is_named w.name ≡ true) (watch_called name v)
  watch_gives name = needed_gives (λ (w : Watch). is_named w.name ≡ true) (codes "unknown-name") (watch_named name v.watching.watches) refl (watch_found name v.watching.watches clean.watches)

  pub check_gives : (name : Bytes) → Gives (λ (w : Watch). is_named w.name ≡ true) (check_judged v name)
  check_gives name = gives_then Any (λ (w : Watch). is_named w.name ≡ true) (no_write_open v.transaction) _ (no_write_open_gives v.transaction) (λ free any. watch_gives name)

  pub limit_gives : (set : Bytes) (limit : ℕ) (name other : Bytes) → Gives (λ (w : Watch). is_named w.name ≡ true) (limit_judged v set limit name other)
  limit_gives set limit name other = gives_then (λ (w : Watch). is_named w.name ≡ true) (λ (w : Watch). is_named w.name ≡ true) (watch_called name v) _ (watch_gives name)
      (λ w named. gives_then (λ (w : Watch). is_named w.name ≡ true) (λ (w : Watch). is_named w.name ≡ true) (watch_called other v) _ (watch_gives other)
      (λ o named'. by (nat_lt (length (set_for set v).members) limit) w o named named'))
    where
      by : (t : Bool) (w o : Watch) → is_named w.name ≡ true → is_named o.name ≡ true → is_named (if t then w else o).name ≡ true
      by true w o named named' = named
      by false w o named named' = named'

  pub wait_gives : (set : Bytes) → Gives (λ (s : WatchSet). AreNamed s.members) (wait_judged v set)
  wait_gives set = gives_then Any (λ (s : WatchSet). AreNamed s.members) (no_write_open v.transaction) _ (no_write_open_gives v.transaction) (λ free any. set_gives set)

  pub until_gives : (set until : Bytes) → Gives (λ (p : WatchSet × Watch). AreNamed p.0.members) (until_judged v set until)
  until_gives set until = gives_then (λ (s : WatchSet). AreNamed s.members) (λ (p : WatchSet × Watch). AreNamed p.0.members) (wait_judged v set) _ (wait_gives set)
      (λ s named. gives_then (λ (w : Watch). is_named w.name ≡ true) (λ (p : WatchSet × Watch). AreNamed p.0.members) (watch_called until v) _ (watch_gives until) (λ w named'. named))
