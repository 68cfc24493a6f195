use Rattle.std.proofs.Common.{◌≡◌, ◌+◌, Some, codes, sym, subst}
use Rattle.std.specs.Prelude.{slice_get}
use Rattle.run_check.specs.declared.client.Client.{Client}
use Rattle.run_check.specs.inner.ClientView.{watches_known}
use Rattle.run_check.proofs.ChecksTold.{fired_next, nothing_next, quiet_looked}
use Rattle.run_check.proofs.NumbersTold.{IsSaid, number_said, said_known}
use Rattle.run_check.proofs.session.Sessions.look.Goals as goal
use Rattle.run_check.proofs.session.Sessions.look.Goals.{In_ok-number, In_ok-number-2}

-- what is said first, and then
said : (c : In_ok-number) → IsSaid (codes "quiet @") c.args.text.now c.args.self.now c.args.knows.now c.say_number.new.self c.say_number.new.knows c.in_ok-number.field-0
said c = record { said = c.in_ok-number.ensures.said; knows = c.in_ok-number.ensures.knows; kept = c.say_number.ensures.kept }

said_then : (c : In_ok-number-2) → IsSaid (codes "fired @") c.args.text.now c.say_number.new.self c.say_number.new.knows c.say_number-2.new.self c.say_number-2.new.knows c.in_ok-number-2.field-0
said_then c = record { said = c.in_ok-number-2.ensures.said; knows = c.in_ok-number-2.ensures.knows; kept = c.say_number-2.ensures.kept }

pub place_is_quiet-requires : goal.place_is_quiet-requires
place_is_quiet-requires c = record {
  known =
      let (schema, H, txns, knows) = c.requires.known in
      (schema, H, txns, said_known schema H txns c.args.self.now c.args.knows.now knows (codes "quiet @") c.args.text.now c.say_number.new.self c.say_number.new.knows c.in_ok-number.field-0 (said (goal.at.place_is_quiet-requires c).In_ok-number));
}

pub returns-in-Some : goal.returns-in-Some
returns-in-Some c = record {
  told = λ schema H txns name watch knows due empty judged at.
      let v = c.args.knows.now in
      let s = c.args.self.now in
      let x = c.say_number.new.self in
      let k = c.say_number.new.knows in
      let told = c.in_ok-number.field-0 in
      let quiet = said (goal.at.returns-in-Some c).In_ok-number in
      let number = number_said schema H txns s v knows (codes "quiet @") c.args.text.now x k told quiet c.in-Some.number c.in-Some.is in
      let there = subst (λ (u : Client). slice_get (watches_known u.watching) c.args.place ≡ Some watch) (sym number.after) at in
      let tells = c.in_ok-quiet.ensures schema H txns watch (said_known schema H txns s v knows (codes "quiet @") c.args.text.now x k told quiet) there number.there in
      quiet_looked schema H txns (c.args.client + 1) name c.args.text.now s v watch (record { knows = knows; due = due; judged = judged; empty = empty }) x k told quiet c.in-Some.number c.in-Some.is c.in_ok-quiet.quiet tells c.keep_if.new.self c.keep_if.ensures.text c.keep_if.ensures.kept;
}

pub place_has_fired-fired-requires : goal.place_has_fired-fired-requires
place_has_fired-fired-requires c = record {
  known =
      let (schema, H, txns, knows) = c.requires.known in
      let here = goal.at.place_has_fired-fired-requires c in
      let first = said_known schema H txns c.args.self.now c.args.knows.now knows (codes "quiet @") c.args.text.now c.say_number.new.self c.say_number.new.knows c.in_ok-number.field-0 (said here.In_ok-number) in
      (schema, H, txns, said_known schema H txns c.say_number.new.self c.say_number.new.knows first (codes "fired @") c.args.text.now c.say_number-2.new.self c.say_number-2.new.knows c.in_ok-number-2.field-0 (said_then here.In_ok-number-2));
}

pub returns-in-Some-2 : goal.returns-in-Some-2
returns-in-Some-2 c = record {
  told = λ schema H txns name watch knows due empty judged at.
      let here = goal.at.returns-in-Some-2 c in
      fired_next schema H txns (c.args.client + 1) name c.args.text.now c.args.self.now c.args.knows.now watch (record { knows = knows; due = due; judged = judged; empty = empty })
      c.say_number.new.self c.say_number.new.knows c.in_ok-number.field-0 (said here.In_ok-number) c.in_default.is c.say_number-2.new.self c.say_number-2.new.knows c.in_ok-number-2.field-0 (said_then here.In_ok-number-2)
      c.in-Some-2.number c.in-Some-2.is c.args.place at c.place_has_fired-fired.result (λ known_then. c.place_has_fired-fired.ensures schema H txns known_then) c.keep_if-in-Some-2.new.self c.keep_if-in-Some-2.ensures.text c.keep_if-in-Some-2.ensures.kept;
}

pub returns : goal.returns
returns c = record {
  told = λ schema H txns name watch knows due empty judged at.
      let here = goal.at.returns c in
      nothing_next schema H txns (c.args.client + 1) name c.args.text.now c.args.self.now c.args.knows.now watch (record { knows = knows; due = due; judged = judged; empty = empty })
      c.say_number.new.self c.say_number.new.knows c.in_ok-number.field-0 (said here.In_ok-number) c.in_default.is c.say_number-2.new.self c.say_number-2.new.knows c.in_ok-number-2.field-0 (said_then here.In_ok-number-2)
      c.in_default-2.is;
}
