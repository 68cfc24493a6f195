use Rattle.std.proofs.Common.{◌≡◌, ◌∙◌, ◌<◌, length, Some, ap, sym, arith}
use Rattle.std.proofs.lemmas.Option.{slice_get-get_or}
use Rattle.mdb_datum.specs.Bytes.{Bytes}
use Rattle.mdb_schema.specs.Schema.{DbSchema, table_place}
use Rattle.mdb_schema.specs.Write.{remove}
use Rattle.run_check.specs.Commits.{accepted_step}
use Rattle.run_check.specs.declared.session.Sessions.{Sessions}
use Rattle.run_check.proofs.OwnWipes.{one_removed, still_writing}
use Rattle.run_check.proofs.session.Sessions.wipe_rows.Goals as goal

pub loop-at-preserved : goal.loop-at-preserved
loop-at-preserved c =
    let s = c.args.self.now in
    let mid = c.loop-at.self in
    let new = c.wipe_row.new.self in
    let w = c.args.writing.now in
    let x = c.loop-at.writing in
    let y = c.wipe_row.new.writing in
    let rows = c.args.rows.now in
    let r = c.index-rows-at.result in
    let holds = c.loop-at.invariant in
    let done = c.in_ok-wipe_row.ensures in
    let place = c.args.table in
    let same = ap (λ (z : Sessions). z.schema.now) holds.1 in
    let named_so = λ (name : Bytes) (named : table_place name s.schema.now ≡ Some place). ap (λ (d : DbSchema). table_place name d) same ∙ named in
    let within : c.loop-at.at < length rows = omega arith in (
      still_writing (λ schema b. accepted_step schema b (remove c.requires.named.0 r)) mid new x y (done.done c.requires.named.0 (named_so c.requires.named.0 c.requires.named.1)) holds.0,
      done.kept ∙ ap (λ (z : Sessions). record z { store = new.store }) holds.1,
      λ name named.
          one_removed name s mid new w x y rows c.loop-at.at r (slice_get-get_or rows c.loop-at.at r within ∙ ap Some (sym c.index-rows-at.is))
          (holds.2 name named) (done.done name (named_so name named)),
    )
