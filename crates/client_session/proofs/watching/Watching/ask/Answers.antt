use Rattle.std.proofs.Common.{◌∙◌, subst, sym}
use Rattle.std.specs.Prelude.{option_copied}
use Rattle.std.proofs.lemmas.Result.{IfOk-weaker}
use Rattle.mem_txn.specs.Database.{Caller}
use Rattle.client_script.specs.Client.{Client, Sight}
use Rattle.client_session.specs.inner.ReplyOf.{reply_of}
use Rattle.client_session.specs.inner.WatchingView.{AsksWatch, Holds, IsReadBy, IsSeenIn, Knows}
use Rattle.client_session.proofs.WatchesTold.{name_taken, not_committed}
use Rattle.client_session.proofs.watching.Watching.ask.Goals as goal

pub returns-then-has : goal.returns-then-has
returns-then-has c p v s knows holds seen =
    name_taken p v s c.args.name.now c.args.query.now c.args.self.now knows holds (sym c.has.ensures ∙ c.if-has.true)

pub returns-in_default : goal.returns-in_default
returns-in_default c p v s knows holds seen =
    not_committed p v s c.args.name.now c.args.query.now c.args.self.now knows holds (sym c.has.ensures ∙ c.if-has.false)
    (subst (λ o. IsSeenIn p (option_copied o) s) c.in_default.is seen)

pub returns : goal.returns
returns c =
    let g = c.args.self.now in
    let name = c.args.name.now in
    let query = c.args.query.now in
    let txn = c.in-Some.txn.now in
    let new = c.ask_read.new.self in
    IfOk-weaker c.ask_read.result (λ r. (p : Caller) (v : Client) (s : Sight) → Knows p g v.watching → Holds p g → IsReadBy p txn s → AsksWatch p new v s name query (reply_of p.schema r)) _
    (λ r asks p v s knows holds seen. asks p v s knows holds (subst (λ o. IsSeenIn p (option_copied o) s) c.in-Some.is seen))
    c.ask_read.ensures
