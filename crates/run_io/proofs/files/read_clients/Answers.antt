-- One more file is whole, or the reading ends at it.
use Rattle.std.proofs.Common.{arith, ◌≡◌, ◌+◌, ◌++◌, ◌∷◌, [], map, ap, ◌∙◌, Err, ℕ, length, length-append}
use Rattle.std.specs.Prelude.{Vec}
use Rattle.std.specs.declared.alloc.Global.{Global}
use Rattle.std.proofs.lemmas.List.{map-append}
use Rattle.std.proofs.lemmas.Result.{err_from_is_err_and}
use Rattle.run_io.specs.Observed.{observed}
use Rattle.run_io.specs.inner.Reading.{content_of, contents_in}
use Rattle.run_io.proofs.FilesInOrder.{whole_next, reads_since, reads_stopped}
use Rattle.run_io.proofs.files.read_clients.Goals as goal

pub returns-in_err-add_file-clause-reads : goal.returns-in_err-add_file-clause-reads
returns-in_err-add_file-clause-reads g c =
    let l = c.loop-at in
    let names = c.args.names.now in
    let name = c.index-names-at.result in
    let e = c.in_err-add_file.field-0.0 in
    let p = err_from_is_err_and c.from_residual.result c.from_residual.ensures.1 in
    let told = g.F.Files.told c.args.files.now in
    let reliable = g.F.Files.reliable c.args.files.now in
    let before = g.F.Files.faults c.args.files.now in
    let now = g.F.Files.faults c.add_file.new.files in
    let numbered : l.at + 1 ≡ 1 + l.at = omega arith in
    let whole = rw l.invariant.same_files at l.invariant.whole in
    let ends = reads_since content_of told (g.F.Files.told l.files) reliable (g.F.Files.reliable l.files) before (g.F.Files.faults l.files) now (l.at + 1) (name ∷ []) (Err e) l.invariant.same_files l.invariant.same_reliance l.invariant.no_fault c.in_err-add_file.ensures.adds.1 in
    rw (p.1, p.2) (reads_stopped content_of contents_in (observed told reliable before now) 1 names (contents_in l.contents) l.at (l.at + 1) name e c.loop-at-test.true c.index-names-at.is whole numbered ends)

pub loop-at-preserved : goal.loop-at-preserved
loop-at-preserved g c =
    let l = c.loop-at in
    let added = c.in_ok-add_file.ensures.adds in
    let bytes = added.0 in
    let items = λ (v : Vec ℕ Global). v.items in
    let made : c.add_file.new.contents.items ≡ l.contents.items ++ bytes ∷ [] = added.1 in
    let stays = c.add_file.ensures.stays in
    record {
      same_files = ◌∙◌ {a = g.F.Files.told c.add_file.new.files} {b = g.F.Files.told l.files} stays.same_files l.invariant.same_files;
      same_reliance = ◌∙◌ {a = g.F.Files.reliable c.add_file.new.files} {b = g.F.Files.reliable l.files} stays.same_reliance l.invariant.same_reliance;
      no_fault = ◌∙◌ {a = g.F.Files.faults c.add_file.new.files} {b = g.F.Files.faults l.files} added.2 l.invariant.no_fault;
      whole = whole_next (g.F.Files.told l.files) (g.F.Files.told c.add_file.new.files) c.args.names.now (contents_in l.contents) (contents_in c.add_file.new.contents) l.at c.index-names-at.result bytes.items stays.same_files c.loop-at-test.true c.index-names-at.is (ap (map items) made ∙ map-append items l.contents.items (bytes ∷ [])) l.invariant.whole added.3;
      as_many = omega (arith, ap length made, length-append l.contents.items (bytes ∷ []), c.add_file.new.contents.ok.0, l.contents.ok.0, l.invariant.as_many);
    }
