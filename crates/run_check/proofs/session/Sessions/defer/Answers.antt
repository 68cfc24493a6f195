use Rattle.std.proofs.Common.{◌≡◌, ◌∙◌, ap, sym, subst, refl}
use Rattle.run_check.specs.declared.client.Client.{Client}
use Rattle.run_check.specs.declared.client.Open.TheVariants as opens
use Rattle.run_check.specs.declared.client.Writing.{Writing}
use Rattle.run_check.specs.inner.SessionView.{IsKnown}
use Rattle.run_check.proofs.KnownKept.{known_after, whatever}
use Rattle.run_check.proofs.SoundKept.{sound_writing}
use Rattle.run_check.proofs.session.Sessions.defer.Goals as goal

pub returns-clause-keeps : goal.returns-clause-keeps
returns-clause-keeps c = λ schema H txns k.
    let v = c.args.knows.now in
    let w = c.in_ok-writing.writing in
    let x : Writing = record w { texts = c.push.new.self } in
    let after : c.put_writing.new.self ≡ record v { «open» = opens.Writing x } = c.put_writing.ensures ∙ ap (λ (y : Client). record y { «open» = opens.Writing x }) c.in_ok-writing.ensures.closed in
    whatever c.say.result _
    (subst (λ (y : Client). IsKnown schema H txns c.say.new.self y) (sym after)
    (known_after schema H txns c.args.self.now c.say.new.self v (record v { «open» = opens.Writing x }) c.say.ensures.kept k
    (sound_writing schema H txns v k.sound w x c.in_ok-writing.ensures.taken refl refl refl)))
