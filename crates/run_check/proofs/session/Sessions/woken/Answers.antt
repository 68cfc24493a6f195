use Rattle.std.proofs.Common.{◌≡◌, ◌+◌, ◌++◌, ap, refl, subst, ◌∙◌, codes, take, Some, unwrap_or}
use Rattle.std.specs.Prelude.{slice_get}
use Rattle.mdb_datum.specs.Bytes.{Bytes}
use Rattle.run_check.specs.declared.client.Client.{Client}
use Rattle.run_check.specs.declared.session.Sessions.{Sessions}
use Rattle.run_check.specs.inner.WaitView.{TellsMember}
use Rattle.run_check.proofs.MembersTold.{kept_set}
use Rattle.run_check.proofs.NumbersTold.{IsSaid, said_known, with_text}
use Rattle.run_check.proofs.WaitsTold.{places_stay, set_stays, woken_known, woken_said, woken_unnamed, woken_unsaid}
use Rattle.run_check.proofs.session.Sessions.woken.Goals as goal

pub returns-in_default : goal.returns-in_default
returns-in_default c = record {
  told = λ schema H txns line s u knows due empty waits there none.
      woken_unnamed schema H txns c.args.self.now c.args.knows.now knows (c.args.client + 1) c.args.text.now due line s u waits none empty
      (subst (TellsMember s.members c.args.text.now) c.in_default.is (c.told_member.ensures.told schema H txns s knows.sound there));
}

pub returns-in_default-2 : goal.returns-in_default-2
returns-in_default-2 c = record {
  told = λ schema H txns line s u knows due empty waits there none.
      let check = c.args.self.now in
      let v = c.args.knows.now in
      let told = c.in-Some.told in
      let spoken = c.say_fired.new.self in
      let mid = c.say_number.new.self in
      let w = c.say_number.new.knows in
      let o = c.in_ok-number.field-0 in
      let before = c.say_fired.ensures.kept in
      let said : IsSaid (codes " @") told.behind.now spoken v mid w o = record { said = c.in_ok-number.ensures.said; knows = c.in_ok-number.ensures.knows; kept = c.say_number.ensures.kept } in
      let cleared : Sessions = record mid { text = c.clear.new.self } in
      woken_unsaid schema H txns check v knows (c.args.client + 1) c.args.text.now due line s u waits none told (c.in-Some.ensures.told schema H txns s knows.sound there)
      spoken before mid w o said cleared refl c.in_default-2.is c.clear.ensures.items;
}

pub may_wake-requires : goal.may_wake-requires
may_wake-requires c =
    let v = c.args.knows.now in
    let w = c.say_number.new.knows in
    record {
      known =
          let (schema, H, txns, knows) = c.requires.known in
          let spoken = c.say_fired.new.self in
          (schema, H, txns, said_known schema H txns spoken v (with_text schema H txns c.args.self.now v knows spoken c.say_fired.ensures.kept) (codes " @") c.in-Some.told.behind.now c.say_number.new.self w c.in_ok-number.field-0 (record { said = c.in_ok-number.ensures.said; knows = c.in_ok-number.ensures.knows; kept = c.say_number.ensures.kept }));
      within = λ s there. c.in-Some.ensures.within s (set_stays v w (unwrap_or c.in_ok-number.field-0 v.last) c.in_ok-number.ensures.knows c.args.set (Some s) there);
    }

pub returns : goal.returns
returns c = record {
  told = λ schema H txns line s u knows due empty waits there none.
      let check = c.args.self.now in
      let v = c.args.knows.now in
      let watches = v.watching.watches in
      let told = c.in-Some.told in
      let spoken = c.say_fired.new.self in
      let mid = c.say_number.new.self in
      let w = c.say_number.new.knows in
      let o = c.in_ok-number.field-0 in
      let n = c.in-Some-2.number in
      let last = unwrap_or o v.last in
      let stays = c.in_ok-number.ensures.knows in
      let named = c.in-Some.ensures.told schema H txns s knows.sound there in
      let before = c.say_fired.ensures.kept in
      let said : IsSaid (codes " @") told.behind.now spoken v mid w o = record { said = c.in_ok-number.ensures.said; knows = stays; kept = c.say_number.ensures.kept } in
      let (x, kept) = kept_set schema H txns v knows.sound (watches.paired ∙ watches.values.ok.0) c.args.set s there in
      let members = x.members.items in
      let word : spoken.text.items ≡ codes "fired " ++ told.name.now =
      c.in_ok-say_fired.ensures.said ∙ ap (λ (old : Bytes). old ++ (codes "fired " ++ told.name.now)) empty in
      let still = woken_known schema H txns check v knows (c.args.client + 1) c.args.text.now due line s u waits none told named spoken before mid w o said in
      let at : slice_get w.watching.sets.values.items c.args.set ≡ Some x = ap (λ (y : Client). slice_get y.watching.sets.values.items c.args.set) stays ∙ kept.there in
      let ends = c.in_ok-may.ensures schema H txns x still knows.sound.last at (places_stay v w last stays members members refl kept.within) in
      woken_said schema H txns check v knows (c.args.client + 1) c.args.text.now due line s u waits none told named spoken before mid w o said
      c.keep_if.new.self c.keep_if.ensures.kept n c.in-Some-2.is word c.args.set x kept (take told.place members) refl (slice_get members told.place) refl c.in_ok-may.may c.keep_if.ensures.text ends;
}
