-- What holds of each of some names or scripts, where one more is added.
use Rattle.std.proofs.Common.{◌≡◌, ap, subst, sym, List, [], ◌∷◌, ◌++◌, Ok, Err}
use Rattle.std.specs.Prelude.{All, OnOk, Result, if◌then◌else◌, is_ok}
use Rattle.std.proofs.lemmas.List.Elements.{All-push}
use Rattle.client_script.specs.Refusal.{ScriptRefusal}
use Rattle.client_script.specs.Script.{AnswersScript}
use Rattle.client_script.specs.declared.line.Line.{Line}

pub all_added : {A : Type 0} (P : A → Type 0) {E : Type 0} (r : Result (Unit {0}) E) (old new : List A) (x : A) → P x → new ≡ (if is_ok r then old ++ x ∷ [] else old) → OnOk r (All P old → All P new)
all_added P (Ok u) old new x holds is = λ all. subst (All P) (sym is) (All-push P old x all holds)
all_added P (Err e) old new x holds is = tt

-- a script that was read is what its text reads as
pub script_read : (j : Result (List Line) ScriptRefusal) (script : List Line) → AnswersScript j (Ok script) → j ≡ Ok script
script_read (Ok lines) script is = ap (λ (ls : List Line). Ok ls) (sym is)
script_read (Err why) script is = absurd is
