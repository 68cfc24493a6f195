-- A line whose turn's reply was told is decided by the text that was written.
use Rattle.std.proofs.Common.{◌≡◌, ◌≤◌, ap, subst, sym, ◌∙◌, refl, ℕ, List, [], ◌++◌, length, codes, Bool, true, false, Result, Ok, Err, IfOk, IfErr}
use Rattle.std.specs.declared.alloc.Global.{Global}
use Rattle.std.specs.declared.vec.Vec.{Vec}
use Rattle.std.specs.Bool.{Decides}
use Rattle.std.proofs.lemmas.Bool.Decides.{not_from_Decides}
use Rattle.mdb_datum.specs.Bytes.{Bytes}
use Rattle.mdb_schema.specs.History.{History}
use Rattle.mdb_schema.specs.Schema.{DbSchema}
use Rattle.client_script.specs.Alone.{Request, as_command, turn}
use Rattle.client_script.specs.Client as plain
use Rattle.client_script.specs.Reply.{Reply, reply_text}
use Rattle.client_script.specs.Turn.{Turn, outcome}
use Rattle.client_script.specs.declared.command.Command.{Command}
use Rattle.client_script.specs.declared.rule.Rule.{Rule}
use Rattle.client_script.specs.RuleName.{rule_name}
use Rattle.run_check.specs.declared.client.Client.{Client}
use Rattle.run_check.specs.declared.session.Refused.{Refused}
use Rattle.run_check.specs.declared.session.Refused.TheVariants as refusals
use Rattle.run_check.specs.declared.session.Sessions.{Sessions}
use Rattle.run_check.specs.inner.ClientView.{known}
use Rattle.run_check.specs.inner.Decided.{IsDecided}
use Rattle.run_check.specs.inner.SessionView.{AnswersTold, IsDue, IsKnown, TellsLine, TellsMade, TellsTurn, TurnTold}
use Rattle.run_check.specs.inner.StoreView.{Begun}
use Rattle.run_check.proofs.DecidedTurns.{refused_decided}

-- ---- what is known has nothing to do with the text that is written

pub other_text : (schema : DbSchema) (H : History) (txns : List Begun) (s : Sessions) (v : Client) (text : Vec ℕ Global) → IsKnown schema H txns s v → IsKnown schema H txns (record s { text = text }) v
other_text schema H txns s v text known = record {
  schema_is = known.schema_is;
  lawful = known.lawful;
  stands = known.stands;
  begun = known.begun;
  counted = known.counted;
  placed = known.placed;
  made = known.made;
  sound = known.sound;
}

pub still_known : (schema : DbSchema) (H : History) (txns : List Begun) (s new : Sessions) (v : Client) → new ≡ record s { text = new.text } → IsKnown schema H txns s v → IsKnown schema H txns new v
still_known schema H txns s new v kept known = subst (λ (x : Sessions). IsKnown schema H txns x v) (sym kept) (other_text schema H txns s v new.text known)

-- ---- turns

-- a turn that was told, after which the check knows what the client does
pub turn_told : (schema : DbSchema) (H : History) (txns : List Begun) (t : Turn) (before : plain.Client) (old : Bytes) (s : Sessions) (v : Client) (r : Result (Unit {0}) Refused) → TellsTurn schema t before (known txns v) old s.text.items r → IsKnown schema H txns s v → TurnTold schema H t before old s v r
turn_told schema H txns t before old s v (Ok u) told known = (txns, told, known)
turn_told schema H txns t before old s v (Err refusals.Memory) told known = tt
turn_told schema H txns t before old s v (Err (refusals.By rule)) told known = (told.0, txns, told.1, known)

-- a turn after which it does where the turn is told, and where it is refused by a rule
pub turn_told_or_refused : (schema : DbSchema) (H : History) (txns : List Begun) (t : Turn) (before : plain.Client) (old : Bytes) (s : Sessions) (v : Client) (r : Result (Unit {0}) Refused) → TellsTurn schema t before (known txns v) old s.text.items r → IfOk r (λ u. IsKnown schema H txns s v) → IfErr r (λ e. (rule : Rule) → e ≡ refusals.By rule → IsKnown schema H txns s v) → TurnTold schema H t before old s v r
turn_told_or_refused schema H txns t before old s v (Ok u) told keeps refuses = (txns, told, keeps)
turn_told_or_refused schema H txns t before old s v (Err refusals.Memory) told keeps refuses = tt
turn_told_or_refused schema H txns t before old s v (Err (refusals.By rule)) told keeps refuses = (told.0, txns, told.1, refuses rule refl)

module _ (schema : DbSchema) (H : History) (client : ℕ) (before : plain.Client) (text : Bytes) (due : IsDue schema H client before text) (last : before.last ≤ length H) where
  pub turn_tells : (q : Request) (t : Turn) → ((now : ℕ) → turn schema H now before q ≡ t) → IsDecided schema H client before (as_command q) text (reply_text (outcome before t).0) (outcome before t).1 → (old : Bytes) → old ≡ [] → (s : Sessions) (v : Client) (r : Result (Unit {0}) Refused) → TurnTold schema H t before old s v r → TellsLine schema H client (as_command q) text before s v r
  turn_tells q t is decided old empty s v (Ok u) told =
      let reply : Reply = told.1.reply in
      let made : outcome before t ≡ (reply, known told.0 v) = ap (outcome before) told.1.is in
      let written : s.text.items ≡ reply_text reply = told.1.text ∙ ap (λ (bs : Bytes). bs ++ reply_text reply) empty in
      record {
        txns = told.0;
        decided = subst (λ (bs : Bytes). IsDecided schema H client before (as_command q) text bs (known told.0 v)) (sym written)
            (subst (λ (p : Reply × plain.Client). IsDecided schema H client before (as_command q) text (reply_text p.0) p.1) made decided);
        keeps = λ e. told.2;
      }
  turn_tells q t is decided old empty s v (Err refusals.Memory) told = tt
  turn_tells q t is decided old empty s v (Err (refusals.By rule)) told = record {
    txns = told.1;
    decided = subst (λ (after : plain.Client). IsDecided schema H client before (as_command q) text (codes "refused " ++ rule_name schema rule) after) (sym told.2)
        (refused_decided schema H before due.unspent last client text q (rule_name schema rule) (λ now. is now ∙ told.0));
    keeps = λ e. told.3;
  }

-- ---- the texts are compared

module _ (schema : DbSchema) (H : History) (client : ℕ) (c : Command) (text : Bytes) (before : plain.Client) (s : Sessions) (v : Client) where
  pub made_tells : (made : Bytes) → TellsMade schema H client c text made before s v → (b : Bool) → Decides b (made ≡ text) → AnswersTold schema H client c text before s v (Ok b)
  made_tells made tells true is = let e = is.0 refl in (tells.txns, tells.decided.told e, tells.keeps e)
  made_tells made tells false is = λ next told. tells.decided.untold (not_from_Decides false is refl) next told

  -- the text of a refusal is what stands behind one that was cleared
  pub refusal_told : (rule : Rule) (r : Result (Unit {0}) Refused) → r ≡ Err (refusals.By rule) → TellsLine schema H client c text before s v r → TellsMade schema H client c text (codes "refused " ++ rule_name schema rule) before s v
  refusal_told rule r is tells = subst (TellsLine schema H client c text before s v) is tells

  -- what was known holds with another text
  pub made_besides : (made : Bytes) (other : Vec ℕ Global) → TellsMade schema H client c text made before s v → TellsMade schema H client c text made before (record s { text = other }) v
  made_besides made other tells = record {
    txns = tells.txns;
    decided = tells.decided;
    keeps = λ e. other_text schema H tells.txns s v other (tells.keeps e);
  }
