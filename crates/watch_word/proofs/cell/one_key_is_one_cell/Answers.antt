use Rattle.std.proofs.Common.{ap, sym, ◌∙◌, ◌≡◌, ℕ, Some}
use Rattle.std.proofs.lemmas.Option.{same_Some}
use Rattle.watch_word.specs.inner.Rule.{id_in}
use Rattle.watch_word.proofs.Events.{id_later, same_parts}
use Rattle.watch_word.proofs.cell.one_key_is_one_cell.Goals as goal

pub returns : goal.returns
returns c = λ key.
    let log = c.learn.new.self.log in
    let keys : c.one.inside.word.key ≡ c.other.inside.word.key =
    ap (λ x. x.key) c.one.view_is ∙ (key ∙ sym (ap (λ x. x.key) c.other.view_is)) in
    let one : id_in c.one.inside.word.key log ≡ Some c.one.inside.id =
    id_later _ _ _ _ c.learn.ensures.2 (ap (λ s. id_in c.one.inside.word.key s.log) c.again-seen.ensures ∙ c.one.invariant.2) in
    let other : id_in c.other.inside.word.key log ≡ Some c.other.inside.id =
    id_later _ _ _ _ c.learn.ensures.3 c.other.invariant.2 in
    let ids = same_Some c.one.inside.id c.other.inside.id (sym one ∙ (ap (λ (k : ℕ). id_in k log) keys ∙ other)) in
    let books = ap (λ x. x.book) c.one.view_is ∙ (c.requires ∙ sym (ap (λ x. x.book) c.other.view_is)) in
    sym c.one.view_is ∙ (same_parts _ _ _ _ _ _ books keys ids ∙ c.other.view_is)
