-- The rules that a line breaks: those that the order of the lines decides, and others.
use Rattle.std.proofs.Common.{◌≡◌, refl, ap, subst, sym, ◌∙◌, ℕ, List, ◌++◌, Bool, true, false, ◌||◌, Option, Some, None, Ok, Err, codes}
use Rattle.std.specs.Bool.{⊤}
use Rattle.std.specs.Str.{bytes_eq}
use Rattle.std.proofs.lemmas.Bool.{or_left, or_right}
use Rattle.mdb_datum.specs.Bytes.{Bytes}
use Rattle.mdb_encode.specs.ArgRefusal.{ArgRefusal, arg_count, arg_kind, arg_out_of_range, arg_bad_uuid, arg_too_long, no_prefix_form}
use Rattle.mdb_encode.specs.KeyRefusal.{KeyRefusal, wrong_kind, out_of_range, bad_uuid, too_many, too_long}
use Rattle.mdb_schema.specs.Answer as asks
use Rattle.mdb_schema.specs.Answer.{Asked}
use Rattle.mdb_schema.specs.Schema.{IndexSchema}
use Rattle.mdb_schema.specs.Tests.{◌>>=◌, needed, passed}
use Rattle.mdb_schema.specs.Write as writes
use Rattle.mdb_schema.specs.Write.{Stepped}
use Rattle.client_script.specs.Client.{Client, Judged, Transaction, Writing, closed, no_write_open, none_open, read_open, reading, some_open, write_open, writing}
use Rattle.client_script.specs.RefusedWord.{argument_word, index_part, key_word, question_word, write_word}
use Rattle.client_script.specs.Reply.{Reply, refused}
use Rattle.client_script.specs.Turn.{Turn, asked, outcome, stepped}
use Rattle.client_script.specs.declared.command.Command.{Command}
use Rattle.run_check.specs.Forms.{has_form}
use Rattle.run_check.specs.Mode.{is_other_rule, needs_any, needs_no_writes, needs_nothing, needs_reads, needs_writes, order_rule}
use Rattle.run_check.specs.Shape.{is_refusal, may_answer}
use Rattle.run_check.specs.declared.mode.Mode.{Mode}
use Rattle.run_check.specs.declared.mode.Mode.TheVariants.{Idle, Reads, Writes}
use Rattle.run_check.proofs.ReplyLines.{head_text}
use Rattle.run_check.proofs.WrittenForms.{IsSmall}
use Rattle.run_check.proofs.WrittenNumbers.{same_bytes}

-- ---- the order of the lines

-- what is open, as the order of the lines tells it
abbrev pub Agrees : Mode → Transaction → Type 0
Agrees Idle closed = ⊤
Agrees Idle (reading n) = ⊥
Agrees Idle (writing t) = ⊥
Agrees Reads closed = ⊥
Agrees Reads (reading n) = ⊤
Agrees Reads (writing t) = ⊥
Agrees Writes closed = ⊥
Agrees Writes (reading n) = ⊥
Agrees Writes (writing t) = ⊤

-- a need is met, or its rule is the one that is broken
abbrev pub Matches : {A : Type 0} → Option Bytes → Judged A → Type 0
Matches None (Ok a) = ⊤
Matches None (Err rule) = ⊥
Matches (Some need) (Ok a) = ⊥
Matches (Some need) (Err rule) = need ≡ rule

-- what agrees is one of three pairs
by_mode : (P : Mode → Transaction → Type 0) → P Idle closed → ((n : ℕ) → P Reads (reading n)) → ((t : Writing) → P Writes (writing t))
    → (mode : Mode) (t : Transaction) → Agrees mode t → P mode t
by_mode P idle reads writes Idle closed same = idle
by_mode P idle reads writes Idle (reading n) same = absurd same
by_mode P idle reads writes Idle (writing t) same = absurd same
by_mode P idle reads writes Reads closed same = absurd same
by_mode P idle reads writes Reads (reading n) same = reads n
by_mode P idle reads writes Reads (writing t) same = absurd same
by_mode P idle reads writes Writes closed same = absurd same
by_mode P idle reads writes Writes (reading n) same = absurd same
by_mode P idle reads writes Writes (writing t) same = writes t

pub nothing_matches : (mode : Mode) (t : Transaction) → Agrees mode t → Matches (needs_nothing mode) (none_open t)
nothing_matches = by_mode (λ m t. Matches (needs_nothing m) (none_open t)) tt (λ n. refl) (λ t. refl)

pub any_matches : (mode : Mode) (t : Transaction) → Agrees mode t → Matches (needs_any mode) (some_open t)
any_matches = by_mode (λ m t. Matches (needs_any m) (some_open t)) refl (λ n. tt) (λ t. tt)

pub reads_match : (mode : Mode) (t : Transaction) → Agrees mode t → Matches (needs_reads mode) (read_open t)
reads_match = by_mode (λ m t. Matches (needs_reads m) (read_open t)) refl (λ n. tt) (λ t. refl)

pub writes_match : (mode : Mode) (t : Transaction) → Agrees mode t → Matches (needs_writes mode) (write_open t)
writes_match = by_mode (λ m t. Matches (needs_writes m) (write_open t)) refl (λ n. refl) (λ t. tt)

pub no_writes_match : (mode : Mode) (t : Transaction) → Agrees mode t → Matches (needs_no_writes mode) (no_write_open t)
no_writes_match = by_mode (λ m t. Matches (needs_no_writes m) (no_write_open t)) tt (λ n. tt) (λ t. refl)

-- ---- rules that the order doesn't decide

abbrev OtherRule : {A : Type 0} → Judged A → Type 0
OtherRule (Ok a) = ⊤
OtherRule (Err rule) = is_other_rule rule ≡ true

pub argument_other : (r : ArgRefusal) → is_other_rule (argument_word r) ≡ true
argument_other arg_count = refl
argument_other arg_kind = refl
argument_other arg_out_of_range = refl
argument_other arg_bad_uuid = refl
argument_other arg_too_long = refl
argument_other no_prefix_form = refl

pub question_other : (r : asks.AskRefusal) → is_other_rule (question_word r) ≡ true
question_other asks.unknown_table = refl
question_other asks.no_prefix_name = refl
question_other asks.unknown_index = refl
question_other asks.not_unique = refl
question_other (asks.bad_argument r) = argument_other r

key_other : (r : KeyRefusal) (more : Bytes) → is_other_rule (key_word r ++ more) ≡ true
key_other wrong_kind more = refl
key_other out_of_range more = refl
key_other bad_uuid more = refl
key_other too_many more = refl
key_other too_long more = refl

write_other : (is : List IndexSchema) (r : writes.WriteRefusal) → is_other_rule (write_word is r) ≡ true
write_other is writes.unknown_table = refl
write_other is writes.no_id = refl
write_other is (writes.bad_key place r) = key_other r (index_part is place)
write_other is (writes.missing place) = refl
write_other is (writes.key_taken place) = refl
write_other is writes.not_found = refl

pub asked_other : {A : Type 0} (a : Asked A) → OtherRule (asked a)
asked_other (Ok a) = tt
asked_other (Err r) = question_other r

pub stepped_other : (is : List IndexSchema) (s : Stepped) → OtherRule (stepped is s)
stepped_other is (Ok after) = tt
stepped_other is (Err r) = write_other is r

pub passed_other : (rule : Bytes) (b : Bool) → is_other_rule rule ≡ true → OtherRule (passed rule b)
passed_other rule true other = tt
passed_other rule false other = other

pub needed_other : {A : Type 0} (rule : Bytes) (o : Option A) → is_other_rule rule ≡ true → OtherRule (needed rule o)
needed_other rule None other = other
needed_other rule (Some a) other = tt

-- ---- a line

module _ (mode : Mode) (c : Command) where
  abbrev pub May : Bytes → Type 0
  May answer = may_answer mode c answer ≡ true

  decided_by : Bytes → Option Bytes → Bool
  decided_by answer None = is_refusal answer || has_form c answer
  decided_by answer (Some rule) = bytes_eq answer (codes "refused " ++ rule)

  -- the order decides nothing
  abbrev pub Free : {A : Type 0} → A → Type 0
  Free a = order_rule mode c ≡ None

  pub free_form : (answer : Bytes) → order_rule mode c ≡ None → has_form c answer ≡ true → May answer
  unfolding decided_by
  free_form answer free form = ap (decided_by answer) free ∙ or_right (is_refusal answer) (has_form c answer) form

  pub free_rule : (rule : Bytes) → order_rule mode c ≡ None → is_other_rule rule ≡ true → May (codes "refused " ++ rule)
  unfolding decided_by
  free_rule rule free other = ap (decided_by (codes "refused " ++ rule)) free ∙ or_left (is_other_rule rule) (has_form c (codes "refused " ++ rule)) other

  order_told : (rule : Bytes) → order_rule mode c ≡ Some rule → May (codes "refused " ++ rule)
  unfolding decided_by
  order_told rule told = ap (decided_by (codes "refused " ++ rule)) told ∙ same_bytes (codes "refused " ++ rule)

  -- it has P, or the refusal may be told
  abbrev pub Fits : {A : Type 0} → (A → Type 0) → Judged A → Type 0
  Fits P (Ok a) = P a
  Fits P (Err rule) = May (codes "refused " ++ rule)

  pub fits_then : {A B : Type 0} (P : A → Type 0) (Q : B → Type 0) (j : Judged A) (f : A → Judged B) → Fits P j → ((a : A) → P a → Fits Q (f a)) → Fits Q (j >>= f)
  fits_then P Q (Ok a) f fit each = each a fit
  fits_then P Q (Err rule) f fit each = fit

  -- what the order decides, and what it doesn't
  pub need_fits : {A : Type 0} (j : Judged A) → Matches (order_rule mode c) j → Fits Free j
  need_fits j same = of (order_rule mode c) refl j same
    where
      of : {A : Type 0} (o : Option Bytes) → order_rule mode c ≡ o → (j : Judged A) → Matches o j → Fits Free j
      of None is (Ok a) same' = is
      of None is (Err rule) same' = absurd same'
      of (Some need) is (Ok a) same' = absurd same'
      of (Some need) is (Err rule) same' = order_told rule (is ∙ ap (λ (x : Bytes). Some x) same')

  pub other_fits : {A : Type 0} (j : Judged A) → order_rule mode c ≡ None → OtherRule j → Fits Free j
  other_fits (Ok a) free other = free
  other_fits (Err rule) free other = free_rule rule free other

  -- the reply may be told, where its numbers are small
  abbrev pub Told : Reply × Client → Type 0
  Told p = IsSmall p.0 → May (head_text p.0)

  -- a turn whose reply has a form
  abbrev pub Formed : Reply → Type 0
  Formed r = IsSmall r → has_form c (head_text r) ≡ true

  pub told : (r : Reply) → order_rule mode c ≡ None → Formed r → IsSmall r → May (head_text r)
  told r free form small = free_form (head_text r) free (form small)

  pub fits_told : (v : Client) (t : Turn) (r : Reply) (next : Client) → Fits Told t → outcome v t ≡ (r, next) → IsSmall r → May (head_text r)
  fits_told v (Ok p) r next fit is small =
      let same : p.0 ≡ r = ap (λ (q : Reply × Client). q.0) is in
      subst (λ (x : Reply). May (head_text x)) same (fit (subst IsSmall (sym same) small))
  fits_told v (Err rule) r next fit is small =
      let same : refused rule ≡ r = ap (λ (q : Reply × Client). q.0) is in
      subst (λ (x : Reply). May (head_text x)) same fit
