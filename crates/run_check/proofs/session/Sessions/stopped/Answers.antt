use Rattle.std.proofs.Common.{◌+◌, ap, subst, sym, ◌∙◌, codes, Decides, List, None, Some, option_map, ℕ, unwrap_or}
use Rattle.std.specs.Borrow.{Bor}
use Rattle.run_check.specs.declared.watching.Set.{Set}
use Rattle.run_check.specs.inner.ClientView.{watches_known}
use Rattle.run_check.specs.inner.WaitView.{IsEnd}
use Rattle.run_check.proofs.MembersTold.{kept_as, lost_set}
use Rattle.run_check.proofs.NumbersTold.{IsSaid, said_known}
use Rattle.run_check.proofs.WaitsTold.{places_stay, set_stays, stop_known, stop_said, stop_unsaid}
use Rattle.run_check.proofs.session.Sessions.stopped.Goals as goal

pub returns-in_default : goal.returns-in_default
returns-in_default c = record {
  told = λ schema H txns line s u knows due empty waits there cancels some.
      let check = c.args.self.now in
      let v = c.args.knows.now in
      let mid = c.say_number.new.self in
      let w = c.say_number.new.knows in
      let o = c.in_ok-number.field-0 in
      let said : IsSaid (codes "stopped @") c.args.text.now check v mid w o = record { said = c.in_ok-number.ensures.said; knows = c.in_ok-number.ensures.knows; kept = c.say_number.ensures.kept } in
      stop_unsaid schema H txns check v knows (c.args.client + 1) c.args.text.now due line s u waits some empty mid w o said c.in_default.is;
}

pub returns-in_default-at : goal.returns-in_default-at
returns-in_default-at c = record {
  told = λ schema H txns line s u knows due empty waits there cancels some.
      let v = c.args.knows.now in
      let watches = v.watching.watches in
      let none = sym c.at.ensures ∙ ap (option_map (λ (x : Bor Set). x.now)) c.in_default-at.is in
      absurd (lost_set schema H txns v knows.sound (watches.paired ∙ watches.values.ok.0) c.args.set s there
      (set_stays v c.say_number.new.knows (unwrap_or c.in_ok-number.field-0 v.last) c.in_ok-number.ensures.knows c.args.set None none));
}

pub may_end-requires : goal.may_end-requires
may_end-requires c = record {
  known =
      let (schema, H, txns, knows) = c.requires.known in
      (schema, H, txns, said_known schema H txns c.args.self.now c.args.knows.now knows (codes "stopped @") c.args.text.now c.say_number.new.self c.say_number.new.knows c.in_ok-number.field-0 (record { said = c.in_ok-number.ensures.said; knows = c.in_ok-number.ensures.knows; kept = c.say_number.ensures.kept }));
}

pub returns : goal.returns
returns c = record {
  told = λ schema H txns line s u knows due empty waits there cancels some.
      let check = c.args.self.now in
      let v = c.args.knows.now in
      let watches = v.watching.watches in
      let mid = c.say_number.new.self in
      let w = c.say_number.new.knows in
      let o = c.in_ok-number.field-0 in
      let n = c.in-Some.number in
      let members = c.in-Some-at.members.now in
      let last = unwrap_or o v.last in
      let stays = c.in_ok-number.ensures.knows in
      let said : IsSaid (codes "stopped @") c.args.text.now check v mid w o = record { said = c.in_ok-number.ensures.said; knows = stays; kept = c.say_number.ensures.kept } in
      let found = set_stays v w last stays c.args.set (Some members) (sym c.at.ensures ∙ ap (option_map (λ (x : Bor Set). x.now)) c.in-Some-at.is) in
      let kept = kept_as schema H txns v knows.sound (watches.paired ∙ watches.values.ok.0) c.args.set s there members found in
      let still = stop_known schema H txns check v knows (c.args.client + 1) c.args.text.now due line s u waits some empty mid w o said in
      let ends = c.in_ok-may.ensures schema H txns still knows.sound.last (places_stay v w last stays members.members.items c.deref.result.now c.deref.ensures.value kept.within) in
      stop_said schema H txns check v knows (c.args.client + 1) c.args.text.now due line s u waits some empty mid w o said n c.in-Some.is c.args.set members kept c.args.until cancels c.keep_if.new.self c.keep_if.ensures.kept c.in_ok-may.may c.keep_if.ensures.text
      (subst (λ (ps : List ℕ). Decides c.in_ok-may.may (IsEnd schema H (c.args.client + 1) (watches_known w.watching) ps v.last c.args.until n)) c.deref.ensures.value ends);
}
