use Rattle.std.proofs.Common.{ap, ◌∙◌, List}
use Rattle.std.specs.Prelude.{slice_get}
use Rattle.run_check.specs.inner.IndexView.{KeyVersions}
use Rattle.run_check.proofs.AnswerSeen.{answer_written, index_rises, index_there}
use Rattle.run_check.proofs.session.Sessions.answer.Goals as goal

pub returns-clause-told : goal.returns-clause-told
returns-clause-told c = λ schema H txns query laws stands look asked sight.
    let st = c.args.self.now.store in
    let l = c.args.at.now in
    let s = c.args.sight in
    let x = index_there schema H txns st stands query l look s sight in
    answer_written schema H txns st stands query l look s sight c.args.ask c.args.self.now.text.items c.write_answer.new.out.items c.write_answer.result asked
    (c.write_answer.ensures x.0 (ap (λ (xs : List KeyVersions). slice_get xs l.index) c.table-indexes.ensures ∙ x.1) (index_rises schema H txns st stands query l look s sight))
