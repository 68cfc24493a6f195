use Rattle.std.proofs.Common.{◌∙◌, refl, sym}
use Rattle.client_session.proofs.WatchesTold.{refused_so, watch_kept, watch_refused}
use Rattle.client_session.proofs.watching.Watching.ask_read.Goals as goal

pub returns-in_ok-keep-in-Ok : goal.returns-in_ok-keep-in-Ok
returns-in_ok-keep-in-Ok c p v s knows holds read =
    let g = c.args.self.now in
    watch_kept p v s c.args.name.now c.args.query.now g knows holds c.requires.free c.args.txn.now read (record { watches = c.keep.new.self; sets = g.sets }) c.in-Ok.answer c.in-Ok.held c.in-Ok.ensures.answers c.in-Ok.ensures.held c.in_ok-keep-in-Ok.ensures.kept refl

pub returns-in-Err : goal.returns-in-Err
returns-in-Err c =
    refused_so c.of_question.result c.refused.result _ c.refused.ensures
    (λ rule is p v s knows holds read.
    watch_refused p v s c.args.name.now c.args.query.now c.args.self.now knows holds c.requires.free c.args.txn.now read c.in-Err.error rule c.in-Err.ensures.answers (sym c.of_question.ensures ∙ is))
