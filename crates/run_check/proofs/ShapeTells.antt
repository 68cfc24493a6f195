-- A text that has the shape has a reply to each line, and no reply's text is empty.
use Rattle.std.proofs.Common.{arith, ◌≡◌, ◌≢◌, refl, ap, sym, ◌∙◌, ℕ, suc, ◌+◌, List, [], ◌∷◌, ◌++◌, length, Bool, true, false, ◌||◌, Option, Some, None, codes}
use Rattle.std.specs.Bool.{⊤}
use Rattle.std.specs.Str.{bytes_eq}
use Rattle.mdb_datum.specs.Bytes.{Bytes}
use Rattle.mdb_schema.proofs.PassedTests.{passed_holds}
use Rattle.mdb_schema.specs.Tests.{needed, passed}
use Rattle.mdb_schema.specs.Query.{Query}
use Rattle.mdb_schema.specs.declared.ask.Ask.{Ask}
use Rattle.mdb_schema.specs.declared.ask.Ask.TheVariants.{First}
use Rattle.client_script.specs.declared.command.AskCommand.TheVariants as ask_line
use Rattle.client_script.specs.declared.command.Command.{Command}
use Rattle.client_script.specs.declared.command.Command.TheVariants as command
use Rattle.client_script.specs.declared.command.NameCommand.TheVariants as name_line
use Rattle.client_script.specs.declared.command.TransactionCommand.TheVariants as transaction_line
use Rattle.client_script.specs.declared.command.WatchesCommand.TheVariants as watches_line
use Rattle.client_script.specs.declared.command.WriteCommand.TheVariants as write_line
use Rattle.client_script.specs.declared.line.Line.{Line}
use Rattle.run_check.specs.Forms.{has_form}
use Rattle.run_check.specs.Mode.{mode_after, order_rule}
use Rattle.run_check.specs.Shape.{Place, Printed, answer_in, at_end, is_heading, is_refusal, may_answer, shape, take_client, take_clients, take_further, take_line, take_replies, take_reply}
use Rattle.run_check.specs.TextLines.{text_lines}
use Rattle.run_check.specs.declared.mode.Mode.{Mode}
use Rattle.run_check.specs.declared.mode.Mode.TheVariants.{Idle}
use Rattle.run_check.proofs.Outcomes.{IfOk, after_any, ok_known, ok_then}

-- ---- no form is empty

ask_empty : (q : Query) (a : Ask) → q.ask ≡ a → has_form (command.Ask (ask_line.Question q)) [] ≡ false
ask_empty q First is = ap (λ (x : Ask). has_form (command.Ask (ask_line.Question (record q { ask = x }))) []) is
ask_empty q a is = ap (λ (x : Ask). has_form (command.Ask (ask_line.Question (record q { ask = x }))) []) is

form_empty : (c : Command) → has_form c [] ≡ false
form_empty (command.Transaction transaction_line.Read) = refl
form_empty (command.Write (write_line.Insert table row)) = refl
form_empty (command.Ask (ask_line.Question q)) = ask_empty q q.ask refl
form_empty (command.Ask (ask_line.InSnapshot name q)) = ask_empty q q.ask refl
form_empty (command.Name (name_line.Watch name q)) = ask_empty q q.ask refl
form_empty (command.Name (name_line.WatchIn name snapshot q)) = ask_empty q q.ask refl
form_empty (command.Watches (watches_line.Check name)) = refl
form_empty c = refl

judged : Bool → Option Bytes → Bool
judged form None = is_refusal [] || form
judged form (Some rule) = bytes_eq [] (codes "refused " ++ rule)

no_answer : (mode : Mode) (c : Command) → may_answer mode c [] ≡ true → ⊥
unfolding judged
no_answer mode c may = of (order_rule mode c) (same may)
  where
    same : may_answer mode c [] ≡ true → judged false (order_rule mode c) ≡ true
    same e = sym (ap (λ (b : Bool). judged b (order_rule mode c)) (form_empty c)) ∙ e

    of : (o : Option Bytes) → judged false o ≡ true → ⊥
    of None e = cc
    of (Some rule) e = cc

-- ---- replies

-- no text is empty
abbrev pub AreSome : List Printed → Type 0
AreSome [] = ⊤
AreSome (p ∷ ps) = (p.text ≢ []) × AreSome ps

-- a reply to each line
abbrev pub AreRepliesTo : List (List Line) → List (List Printed) → Type 0
AreRepliesTo [] [] = ⊤
AreRepliesTo [] (ps ∷ pss) = ⊥
AreRepliesTo (s ∷ ss) [] = ⊥
AreRepliesTo (s ∷ ss) (ps ∷ pss) = (length ps ≡ length s) × AreSome ps × AreRepliesTo ss pss

IsSomeReply : Printed × Place → Type 0
IsSomeReply t = t.0.text ≢ []

reply_some : (mode : Mode) (l : Line) (at : Place) → IfOk IsSomeReply (take_reply mode l at)
unfolding IsSomeReply
reply_some mode l at =
    after_any IsSomeReply (take_line at) _ (λ line. after_any IsSomeReply (needed at.next (answer_in l.number line.0)) _
    (λ answer. ok_known IsSomeReply (passed at.next (may_answer mode l.command answer)) _
    (λ good is. after_any IsSomeReply (take_further answer line.1) _ (λ further. by answer further.0 (passed_holds at.next (may_answer mode l.command answer) good is)))))
  where
    by : (answer more : Bytes) → may_answer mode l.command answer ≡ true → answer ++ more ≢ []
    by [] more may e = no_answer mode l.command may
    by (b ∷ answer) more may e = cc

AreFor : List Line → List Printed × Place → Type 0
AreFor ls t = (length t.0 ≡ length ls) × AreSome t.0

replies_some : (mode : Mode) (ls : List Line) (at : Place) → IfOk (AreFor ls) (take_replies mode ls at)
unfolding IsSomeReply AreFor
replies_some mode [] at = (refl, tt)
replies_some mode (l ∷ ls) at =
    ok_then IsSomeReply (AreFor (l ∷ ls)) (take_reply mode l at) _ (reply_some mode l at)
    (λ first some. ok_then (AreFor ls) (AreFor (l ∷ ls)) (take_replies (mode_after mode l.command) ls first.1) _ (replies_some (mode_after mode l.command) ls first.1) (λ others rest. (ap suc rest.0, (some, rest.1))))

client_some : (k : ℕ) (w : Bytes) (ls : List Line) (at : Place) → IfOk (AreFor ls) (take_client k w ls at)
client_some k w ls at = after_any (AreFor ls) (take_line at) _ (λ line. after_any (AreFor ls) (passed at.next (is_heading k w line.0)) _ (λ headed. replies_some Idle ls line.1))

AllFor : List (List Line) → List (List Printed) × Place → Type 0
AllFor ss t = AreRepliesTo ss t.0

clients_some : (k : ℕ) (ws : List Bytes) (ss : List (List Line)) (at : Place) → length ws ≡ length ss → IfOk (AllFor ss) (take_clients k ws ss at)
unfolding AreFor AllFor
clients_some k [] [] at named = tt
clients_some k [] (s ∷ ss) at named = absurd (omega (arith, named))
clients_some k (w ∷ ws) [] at named = absurd (omega (arith, named))
clients_some k (w ∷ ws) (s ∷ ss) at named =
    ok_then (AreFor s) (AllFor (s ∷ ss)) (take_client k w s at) _ (client_some k w s at)
    (λ first one. ok_then (AllFor ss) (AllFor (s ∷ ss)) (take_clients (k + 1) ws ss first.1) _ (clients_some (k + 1) ws ss first.1 (omega (arith, named))) (λ others rest. (one.0, one.1, rest)))

pub shape_tells : (names : List Bytes) (scripts : List (List Line)) (out : Bytes) → length names ≡ length scripts → IfOk (AreRepliesTo scripts) (shape names scripts out)
unfolding AllFor
shape_tells names scripts out named =
    ok_then (AllFor scripts) (AreRepliesTo scripts) (take_clients 1 names scripts (record { next = 1; lines = text_lines out })) _ (clients_some 1 names scripts (record { next = 1; lines = text_lines out }) named)
    (λ found rest. after_any (AreRepliesTo scripts) (at_end found.1) _ (λ ended. rest))
