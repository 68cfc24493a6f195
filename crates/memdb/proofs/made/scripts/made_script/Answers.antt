use Rattle.std.proofs.Common.{arith, ◌≡◌, ◌<◌, ◌≤◌, ◌^◌, ap, ◌∙◌, subst, ℕ, List, ◌++◌}
use Rattle.std.specs.Prelude.{Result, Ok, Err}
use Rattle.mdb_datum.specs.Bytes.{Bytes}
use Rattle.client_script.specs.Refusal.{ScriptRefusal}
use Rattle.client_script.specs.Script.{script_in, AnswersScript}
use Rattle.client_script.specs.declared.line.Line.{Line}
use Rattle.client_script.specs.declared.script_error.ScriptError.{ScriptError}
use Rattle.client_script.specs.declared.script_error.ScriptError.TheVariants as script_errors
use Rattle.memdb.specs.Made.{items_behind}
use Rattle.memdb.specs.inner.MadeInputs.{rounds_behind}
use Rattle.memdb.specs.inner.MadeText.{lines_text, rounds_text}
use Rattle.memdb.proofs.MadeRows.{items_made}
use Rattle.memdb.proofs.ReadScripts.{script_read}
use Rattle.memdb.proofs.made.scripts.made_script.Goals as goal
use Rattle.memdb.proofs.ClientItems.{length-behind}

-- the script that is answered is the one that the text is read as
found : (told : Result (List Line) ScriptRefusal) (lines script : List Line) → told ≡ Ok lines → AnswersScript told (Ok script) → script ≡ lines
found told lines script is answer = subst (λ (t : Result (List Line) ScriptRefusal). AnswersScript t (Ok script)) is answer

-- and its error is nothing but want of memory
only_memory : (told : Result (List Line) ScriptRefusal) (lines : List Line) (e : ScriptError) → told ≡ Ok lines → AnswersScript told (Err e) → e ≡ script_errors.Memory
only_memory told lines e is answer = subst (λ (t : Result (List Line) ScriptRefusal). AnswersScript t (Err e)) is answer

-- the text of a client is read as its script
text_read : (number client count : ℕ) (bytes : Bytes) → client < 2 ^ 32 → count ≤ 1000 → bytes ≡ lines_text (rounds_text (items_behind number client 0 count)) → script_in bytes ≡ Ok (rounds_behind 0 (items_behind number client 0 count))
text_read number client count bytes fits few is =
    let items = items_behind number client 0 count in
    let size = length-behind number client 0 count in
    ap script_in is ∙ script_read items (items_made number client 0 count (omega (arith, fits))) (omega (arith, size, few))

pub returns-in-Ok : goal.returns-in-Ok
returns-in-Ok c =
    let items = items_behind c.args.drawing.now c.args.client 0 c.args.count in
    let text : Bytes = lines_text (rounds_text items) in
    let bytes : c.deref.result.now ≡ text = c.deref.ensures.value ∙ c.in_ok-write_rounds.ensures.text ∙ ap (λ l. l ++ text) c.new-text.ensures.items in
    let is = text_read c.args.drawing.now c.args.client c.args.count c.deref.result.now c.ranges.client.fits c.requires.few_rounds bytes in
    record {
      script = found (script_in c.deref.result.now) (rounds_behind 0 items) c.in-Ok.script is c.in-Ok.ensures;
      last = c.in_ok-write_rounds.ensures.last;
    }

pub want_of_memory-requires : goal.want_of_memory-requires
want_of_memory-requires c =
    let items = items_behind c.args.drawing.now c.args.client 0 c.args.count in
    let text : Bytes = lines_text (rounds_text items) in
    let bytes : c.deref.result.now ≡ text = c.deref.ensures.value ∙ c.in_ok-write_rounds.ensures.text ∙ ap (λ l. l ++ text) c.new-text.ensures.items in
    let is = text_read c.args.drawing.now c.args.client c.args.count c.deref.result.now c.ranges.client.fits c.requires.few_rounds bytes in
    only_memory (script_in c.deref.result.now) (rounds_behind 0 items) c.in-Err.error is c.in-Err.ensures
