-- Where nothing is left the bytes are the file; a piece past the limit shows one that is too large.
use Rattle.std.proofs.Common.{arith, ◌≡◌, ◌≤◌, length, ◌∙◌}
use Rattle.run_io.proofs.Pieces.{front_whole, front_too_large, front_next, fits_next}
use Rattle.run_io.proofs.file.read_into.Goals as goal

pub returns-then-count-eq0-clause-loads : goal.returns-then-count-eq0-clause-loads
returns-then-count-eq0-clause-loads g c =
    let l = c.loop-count in
    let bytes = l.bytes.items in
    let at : c.len.result ≡ length bytes = c.len.ensures ∙ l.bytes.ok.0 in
    let got = rw (c.as_str.ensures, at) at c.in-Ok.ensures.bytes in
    let whole = front_whole c.args.limit _ c.args.name.now bytes _ _ l.invariant.begun got c.if-count-eq0.true l.invariant.fits in
    record { whole = rw l.invariant.same_files at whole; no_fault = c.in-Ok.ensures.cause.kept ∙ l.invariant.no_fault }

pub returns-then-count-limit-clause-loads : goal.returns-then-count-limit-clause-loads
returns-then-count-limit-clause-loads g c =
    let l = c.loop-count in
    let bytes = l.bytes.items in
    let at : c.len.result ≡ length bytes = c.len.ensures ∙ l.bytes.ok.0 in
    let got = rw (c.as_str.ensures, at) at c.in-Ok.ensures.bytes in
    let again : c.len-in-loop-count.result ≡ length bytes = c.len-in-loop-count.ensures ∙ l.bytes.ok.0 in
    let past = rw again at c.if-count-limit.true in
    let within : c.in-Ok.count ≤ length c.fetch.new.into = omega (arith, c.in-Ok.ensures.bound) in
    let large = front_too_large c.args.limit _ c.args.name.now bytes _ _ got within past in
    record { large = rw l.invariant.same_files at large; no_fault = c.in-Ok.ensures.cause.kept ∙ l.invariant.no_fault }

pub loop-count-preserved : goal.loop-count-preserved
loop-count-preserved g c =
    let l = c.loop-count in
    let bytes = l.bytes.items in
    let at : c.len.result ≡ length bytes = c.len.ensures ∙ l.bytes.ok.0 in
    let got = rw (c.as_str.ensures, at) at c.in-Ok.ensures.bytes in
    let again : c.len-in-loop-count.result ≡ length bytes = c.len-in-loop-count.ensures ∙ l.bytes.ok.0 in
    let allowed = rw again at c.if-count-limit.false in
    let made = c.in_ok-extend_from_slice.ensures.items in
    let within : c.in-Ok.count ≤ length c.fetch.new.into = omega (arith, c.in-Ok.ensures.bound) in
    record {
      fits = fits_next c.args.limit bytes _ _ _ made l.invariant.fits within allowed;
      same_files = c.in-Ok.ensures.same_files ∙ l.invariant.same_files;
      stays = c.in-Ok.ensures.stays ∙ l.invariant.stays;
      no_fault = c.in-Ok.ensures.cause.kept ∙ l.invariant.no_fault;
      begun = front_next _ _ c.args.name.now bytes _ _ _ c.in-Ok.ensures.same_files made l.invariant.begun got within;
    }
