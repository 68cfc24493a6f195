use Rattle.std.proofs.Common.{drop, ap, ◌∙◌, take_all, length-drop, arith}
use Rattle.fast_float.specs.Text.{scan}
use Rattle.mdb_datum.proofs.PlainNumbers.{negative_read}
use Rattle.mdb_datum.proofs.plain.negative_in.Goals as goal

pub returns-then-n-lt0 : goal.returns-then-n-lt0
returns-then-n-lt0 c =
    let s = c.as_bytes.result.now in
    let rest = take_all _ (drop 1 s) (omega (arith, length-drop 1 s)) in
    negative_read c.args.text.now c.scan.result c.in_ok-n.n c.requires.minus (c.scan.ensures.parts ∙ ap scan rest ∙ ap (λ t. scan (drop 1 t)) c.as_bytes.ensures.value) c.in_ok-n.ensures c.if-n-lt0.true
