use Rattle.std.proofs.Common.{rules, ◌++◌, ap, ◌∙◌, sym, option_to_list}
use Rattle.db_front.proofs.SeatNumbers.{none_first, gathered, gathered_all}
use Rattle.db_front.proofs.close.gather.Goals as goal

pub loop-pass-preserved : goal.loop-pass-preserved
loop-pass-preserved g c =
    let i = c.loop-pass.invariant in
    let k = gathered (c.args.board.now.table_id, c.args.board.now.key.1) c.args.place.now.me c.loop-pass.place.me c.absorb.new.place.me c.args.passes.passes i.3 _ _ c.in-Some.pass i.4 c.in-Some.ensures.rest i.5 c.absorb.ensures.joined i.2 in
    (search rules, search rules, k.0, k.1, k.2, k.3)

pub returns-clause-joined : goal.returns-clause-joined
returns-clause-joined g c = let i = c.loop-pass.invariant in gathered_all c.args.place.now.me _ _ i.3 _ i.4 (sym c.take.ensures.first ∙ c.in_default.is) i.5

pub end-requires : goal.end-requires
end-requires g c =
    let none = c.in_default.is in
    sym (c.take.ensures.rest ∙ ap (λ o. option_to_list o ++ c.take.new.self.passes) none) ∙ none_first _ (sym c.take.ensures.first ∙ none)
