-- One more script, drawn on from those before it.
use Rattle.std.proofs.Common.{arith, ◌≡◌, ap, ap₂, sym, ◌∙◌, ℕ, zero, suc, ◌+◌, ◌-◌, ◌*◌, List, [], ◌∷◌, ◌++◌}
use Rattle.client_script.specs.declared.line.Line.{Line}
use Rattle.memdb.specs.Made.{Numbers, drawn, items_behind}
use Rattle.memdb.specs.inner.MadeInputs.{made_script, rounds_behind, scripts_from}
use Rattle.memdb.proofs.DrawnNumbers.{drawn_on, items_on}

-- the script of the last client stands at the end
scripts_more : (n : Numbers) (k m : ℕ) → scripts_from n k (suc m) ≡ scripts_from n k m ++ made_script n (k + m) ∷ []
scripts_more n k zero =
    let same : k ≡ k + 0 = omega arith in
    ap (λ c. made_script n c ∷ []) same
scripts_more n k (suc m) =
    let same : k + 1 + m ≡ k + suc m = omega arith in
    ap (λ ss. made_script n k ∷ ss) (scripts_more n (k + 1) m ∙ ap (λ c. scripts_from n (k + 1) m ++ made_script n c ∷ []) same)

-- the script that is drawn behind those of so many clients
pub script_drawn : (n : Numbers) (m value : ℕ) → value ≡ drawn n.number (m * n.count) → rounds_behind 0 (items_behind value (m + 1) 0 n.count) ≡ made_script n (m + 1)
script_drawn n m value is =
    let place : m * n.count + 0 ≡ (m + 1 - 1) * n.count = add_none (m * n.count) ∙ ap (λ k. k * n.count) (the_same m) in
    ap (λ v. rounds_behind 0 (items_behind v (m + 1) 0 n.count)) is
    ∙ ap (rounds_behind 0) (items_on n.number (m * n.count) (m + 1) 0 n.count ∙ ap (λ p. items_behind n.number (m + 1) p n.count) place)
  where
    the_same : (m : ℕ) → m ≡ m + 1 - 1
    the_same m = omega arith

    add_none : (k : ℕ) → k + 0 ≡ k
    add_none k = omega arith

-- what is drawn behind one client more
pub drawn_more : (n : Numbers) (m value : ℕ) → value ≡ drawn n.number (m * n.count) → drawn value n.count ≡ drawn n.number ((m + 1) * n.count)
drawn_more n m value is =
    let place : m * n.count + n.count ≡ (m + 1) * n.count = omega arith in
    ap (λ v. drawn v n.count) is ∙ drawn_on n.number (m * n.count) n.count ∙ ap (drawn n.number) place

-- a script is added behind those of so many clients
pub script_added : (n : Numbers) (m : ℕ) (before now : List (List Line)) (script : List Line) → before ≡ scripts_from n 1 m → script ≡ made_script n (m + 1) → now ≡ before ++ script ∷ []
    → now ≡ scripts_from n 1 (m + 1)
script_added n m before now script so_far made is =
    let one : 1 + m ≡ m + 1 = omega arith in
    let next : suc m ≡ m + 1 = omega arith in
    is
    ∙ ap₂ (λ ss s. ss ++ s ∷ []) so_far (made ∙ ap (made_script n) (sym one))
    ∙ sym (scripts_more n 1 m)
    ∙ ap (scripts_from n 1) next
