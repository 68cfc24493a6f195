use Rattle.std.proofs.Common.{◌≡◌, ◌∙◌, ap, sym, subst}
use Rattle.client_script.specs.Turn.{write_turn}
use Rattle.run_check.specs.declared.client.Client.{Client}
use Rattle.run_check.specs.declared.client.Open.TheVariants as opens
use Rattle.run_check.specs.inner.ClientView.{known}
use Rattle.run_check.specs.inner.SessionView.{TurnTold}
use Rattle.run_check.proofs.WritesKnown.{are_writing, known_writing, line_told}
use Rattle.run_check.proofs.session.Sessions.write.Goals as goal

pub write_in-told-requires : goal.write_in-told-requires
write_in-told-requires c = are_writing c.args.self.now c.args.knows.now c.in_ok-writing.writing c.requires.known c.in_ok-writing.ensures.taken

pub returns : goal.returns
returns c = record {
  told = λ schema H txns laws k.
      let s = c.args.self.now in
      let v = c.args.knows.now in
      let w = c.in_ok-writing.writing in
      let x = c.write_in-told.new.writing in
      let was = c.in_ok-writing.ensures.taken in
      let after : c.put_writing.new.self ≡ record v { «open» = opens.Writing x } = c.put_writing.ensures ∙ ap (λ (y : Client). record y { «open» = opens.Writing x }) c.in_ok-writing.ensures.closed in
      subst (λ (y : Client). TurnTold schema H (write_turn schema H (known txns v) c.args.line.now) (known txns v) s.text.items c.write_in-told.new.self y c.write_in-told.result) (sym after)
      (line_told schema H txns s v k w was c.args.line.now c.write_in-told.new.self x c.write_in-told.result c.write_in-told.ensures.kept (c.write_in-told.ensures.told schema H txns (known_writing schema H txns s v k w was)));
}
