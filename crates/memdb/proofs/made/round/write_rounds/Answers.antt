use Rattle.std.proofs.Common.{arith, ◌≡◌, ap, ◌∙◌, suc, ◌+◌, ◌++◌}
use Rattle.memdb.specs.Made.{drawn}
use Rattle.memdb.proofs.DrawnNumbers.{round_more, text_of}
use Rattle.memdb.proofs.made.round.write_rounds.Goals as goal

pub loop-preserved : goal.loop-preserved
loop-preserved c =
    let l = c.loop in
    let number = c.args.drawing.now in
    let out = c.args.out.now.items in
    let next : suc l.counter ≡ l.counter + 1 = omega arith in
    let value : c.next.result ≡ drawn number (suc l.counter) = c.next.ensures.result ∙ ap (λ v. drawn v 1) l.invariant.last in
    let written = round_more number c.args.client l.counter c.next.result out l.out.items c.write_round.new.out.items value l.invariant.text c.in_ok-write_round.ensures in
    record {
      last = c.next.ensures.last ∙ value ∙ ap (drawn number) next;
      text = written ∙ ap (λ k. out ++ text_of number c.args.client k) next;
    }
