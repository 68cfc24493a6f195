use Rattle.std.proofs.Common.{ap, sym, ◌∙◌, Ok, option_map}
use Rattle.std.specs.Borrow.{Bor}
use Rattle.mdb_datum.specs.Bytes.{Bytes}
use Rattle.run_check.specs.Shape as plain
use Rattle.run_check.specs.Views.{place_of}
use Rattle.run_check.proofs.ReplyCuts.{answer_short, answer_splits, reply_taken, text_fits, text_is}
use Rattle.run_check.proofs.shape.take_reply.Goals as goal

pub overflow_sub-front : goal.overflow_sub-front
overflow_sub-front c =
    let text : Bytes = c.in_ok-text.text.now in
    let answer : Bytes = c.in-Some.answer.now in
    let row = c.in_ok-behind.ensures in
    let told = sym c.answer_in.ensures ∙ ap (option_map (λ (x : Bor Bytes). x.now)) c.in-Some.is in
    answer_short c.args.at.rest.now text c.in_ok-text.second.rest.now answer row.text c.in_ok-behind.behind.rest.now c.in_ok-text.ensures.cut (answer_splits c.args.line.now.number text answer told) row.between

pub text_between-requires : goal.text_between-requires
text_between-requires c =
    let text : Bytes = c.in_ok-text.text.now in
    let answer : Bytes = c.in-Some.answer.now in
    let row = c.in_ok-behind.ensures in
    let told = sym c.answer_in.ensures ∙ ap (option_map (λ (x : Bor Bytes). x.now)) c.in-Some.is in
    text_fits c.args.at.rest.now text c.in_ok-text.second.rest.now answer row.text c.in_ok-behind.behind.rest.now c.in_ok-text.ensures.cut (answer_splits c.args.line.now.number text answer told) row.between

pub returns : goal.returns
returns c =
    let text : Bytes = c.in_ok-text.text.now in
    let answer : Bytes = c.in-Some.answer.now in
    let at = place_of c.args.at in
    let second = c.in_ok-text.second in
    let behind = c.in_ok-behind.behind in
    let row = c.in_ok-behind.ensures in
    let told = sym c.answer_in.ensures ∙ ap (option_map (λ (x : Bor Bytes). x.now)) c.in-Some.is in
    let is = text_is c.args.at.rest.now text second.rest.now answer row.text behind.rest.now c.in_ok-text.ensures.cut (answer_splits c.args.line.now.number text answer told) row.between in
    let with_text : Bytes → plain.Taken plain.Printed = λ t. Ok (record { line = c.args.at.next; text = t }, place_of behind) in
    ap with_text (c.text_between.ensures ∙ is)
    ∙ sym (reply_taken c.args.mode c.args.line.now at (place_of second) (place_of behind) text answer row.text (sym c.in_ok-text.ensures.taken) told (sym c.may_answer.ensures ∙ c.if-not-may_answer.false) row.taken)
