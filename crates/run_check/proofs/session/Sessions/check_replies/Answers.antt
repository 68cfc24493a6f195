use Rattle.std.proofs.Common.{rules, arith, ◌≡◌, ◌≤◌, ◌∙◌, sym, ap, [], length, map, option_copied, Some, None, slice_get}
use Rattle.std.proofs.lemmas.List.{length-map}
use Rattle.run_check.specs.Views.{printed_of}
use Rattle.run_check.specs.declared.shape.Printed as shape
use Rattle.run_check.proofs.LinesHeard.{all_are_told, are_known, is_due, no_line_less, one_is_untold, one_told_more, reply_at, told_none_yet}
use Rattle.run_check.proofs.session.Sessions.check_replies.Goals as goal

abbrev none : shape.Printed
none = record { line = 0; text = record { ref_ptr = (0, 0); now = [] } }

pub loop-at-init : goal.loop-at-init
loop-at-init c = λ schema found txns ready heard.
    told_none_yet schema found c.args.client c.args.script.now (map printed_of c.args.replies.now) heard txns c.args.self.now c.args.knows.now ready (c.requires.fresh txns)

pub returns-in_default : goal.returns-in_default
returns-in_default c = record {
  told = λ schema found txns ready heard.
      let l = c.loop-at in
      let none' : slice_get c.args.script.now l.at ≡ None = sym c.get.ensures ∙ ap option_copied c.in_default.is in
      no_line_less schema found c.args.client c.args.script.now c.args.replies.now heard l.at l.self none' (search (rules, arith));
}

pub is_told-requires : goal.is_told-requires
is_told-requires c =
    let l = c.loop-at in
    let ready = c.requires.heard in
    record { known = are_known ready.0 ready.1 c.args.client c.args.script.now (map printed_of c.args.replies.now) ready.4 l.at l.self l.knows (l.invariant ready.0 ready.1 ready.2 ready.3 ready.4) }

pub returns-then-not-branch : goal.returns-then-not-branch
returns-then-not-branch c = record {
  told = λ schema found txns ready heard.
      let l = c.loop-at in
      let line = c.in-Some.line.now in
      let there : slice_get c.args.script.now l.at ≡ Some line = sym c.get.ensures ∙ ap option_copied c.in-Some.is in
      let reply = reply_at c.args.replies.now l.at none (search (rules, arith)) in
      let so_far = l.invariant schema found txns ready heard in
      one_is_untold schema found c.args.client c.args.script.now (map printed_of c.args.replies.now) heard l.at l.self l.knows so_far line _ there reply c.is_told.new.self c.is_told.new.knows c.in_ok-is_told.field-0 c.if-not-branch.true
      (c.in_ok-is_told.ensures.told schema found.history so_far.txns so_far.known (is_due schema found c.args.client c.args.script.now (map printed_of c.args.replies.now) heard l.at l.self l.knows so_far line _ there reply));
}

pub loop-at-preserved : goal.loop-at-preserved
loop-at-preserved c = λ schema found txns ready heard.
    let l = c.loop-at in
    let line = c.in-Some.line.now in
    let there : slice_get c.args.script.now l.at ≡ Some line = sym c.get.ensures ∙ ap option_copied c.in-Some.is in
    let reply = reply_at c.args.replies.now l.at none (search (rules, arith)) in
    let so_far = l.invariant schema found txns ready heard in
    one_told_more schema found c.args.client c.args.script.now (map printed_of c.args.replies.now) heard l.at l.self l.knows so_far line _ there reply c.is_told.new.self c.is_told.new.knows c.in_ok-is_told.field-0 c.if-not-branch.false
    (c.in_ok-is_told.ensures.told schema found.history so_far.txns so_far.known (is_due schema found c.args.client c.args.script.now (map printed_of c.args.replies.now) heard l.at l.self l.knows so_far line _ there reply))

pub returns : goal.returns
returns c = record {
  told = λ schema found txns ready heard.
      let l = c.loop-at in
      let all : length c.args.replies.now ≤ l.at = search (rules, arith) in
      let as_many = length-map c.args.replies.now printed_of in
      all_are_told schema found c.args.client c.args.script.now (map printed_of c.args.replies.now) heard l.at l.self l.knows (l.invariant schema found txns ready heard) (omega (arith, all, as_many));
}
