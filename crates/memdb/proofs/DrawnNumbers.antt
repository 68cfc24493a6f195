-- Numbers and rows that are drawn in turn.
use Rattle.std.proofs.Common.{arith, ◌≡◌, refl, ap, ap₂, sym, ◌∙◌, ℕ, zero, suc, ◌+◌, ◌*◌, ◌%◌, List, [], ◌∷◌, ◌++◌, append_assoc}
use Rattle.memdb.specs.Made.{Item, drawn, item_of, items_behind}
use Rattle.memdb.specs.inner.MadeText.{lines_text, round_text, rounds_text}
use Rattle.mdb_datum.specs.Bytes.{Bytes}

-- ---- drawn on from what was drawn

-- numbers
pub drawn_on : (number m i : ℕ) → drawn (drawn number m) i ≡ drawn number (m + i)
drawn_on number m zero = ap (drawn number) (omega arith)
drawn_on number m (suc i) =
    let next : suc (m + i) ≡ m + suc i = omega arith in
    ap (λ v. (75 * v + 74) % 65537) (drawn_on number m i) ∙ ap (drawn number) next

-- and the rows of a client
pub items_on : (number m client place rounds : ℕ) → items_behind (drawn number m) client place rounds ≡ items_behind number client (m + place) rounds
items_on number m client place zero = refl
items_on number m client place (suc rounds) =
    let next : m + suc place ≡ suc (m + place) = omega arith in
    ap₂ (λ x xs. x ∷ xs)
    (ap (item_of client) (drawn_on number m (suc place) ∙ ap (drawn number) next))
    (items_on number m client (suc place) rounds ∙ ap (λ p. items_behind number client p rounds) next)

-- ---- one more round

-- the row of the last round stands at the end
items_more : (number client place k : ℕ) → items_behind number client place (suc k) ≡ items_behind number client place k ++ item_of client (drawn number (suc (place + k))) ∷ []
items_more number client place zero =
    let same : suc place ≡ suc (place + 0) = omega arith in
    ap (λ p. item_of client (drawn number p) ∷ []) same
items_more number client place (suc k) =
    let same : suc (suc place + k) ≡ suc (place + suc k) = omega arith in
    ap (λ xs. item_of client (drawn number (suc place)) ∷ xs)
    (items_more number client (suc place) k ∙ ap (λ p. items_behind number client (suc place) k ++ item_of client (drawn number p) ∷ []) same)

-- the lines of some rounds, and then those of others
rounds_text-append : (xs ys : List Item) → rounds_text (xs ++ ys) ≡ rounds_text xs ++ rounds_text ys
rounds_text-append [] ys = refl
rounds_text-append (x ∷ xs) ys = ap (λ ls. round_text x ++ ls) (rounds_text-append xs ys) ∙ sym (append_assoc (round_text x) (rounds_text xs) (rounds_text ys))

-- the text of some lines, and then that of others
lines_text-append : (ls ms : List Bytes) → lines_text (ls ++ ms) ≡ lines_text ls ++ lines_text ms
lines_text-append [] ms = refl
lines_text-append (l ∷ ls) ms = ap (λ t. l ++ 10 ∷ t) (lines_text-append ls ms) ∙ sym (append_assoc l (10 ∷ lines_text ls) (lines_text ms))

-- the text of so many rounds
abbrev pub text_of : ℕ → ℕ → ℕ → Bytes
text_of number client rounds = lines_text (rounds_text (items_behind number client 0 rounds))

-- it ends with the last round
text_more : (number client k : ℕ) → text_of number client (suc k) ≡ text_of number client k ++ lines_text (round_text (item_of client (drawn number (suc k))))
text_more number client k =
    let same : suc (0 + k) ≡ suc k = omega arith in
    let xs = items_behind number client 0 k in
    let last : List Item = item_of client (drawn number (suc k)) ∷ [] in
    ap (λ ys. lines_text (rounds_text ys)) (items_more number client 0 k ∙ ap (λ p. xs ++ item_of client (drawn number p) ∷ []) same)
    ∙ ap lines_text (rounds_text-append xs last)
    ∙ lines_text-append (rounds_text xs) (rounds_text last)
    ∙ ap (λ ls. lines_text (rounds_text xs) ++ lines_text ls) (append_none (item_of client (drawn number (suc k))))
  where
    append_none : (x : Item) → round_text x ++ [] ≡ round_text x
    append_none x = refl

-- a round is written behind those before it
pub round_more : (number client k value : ℕ) (out before now : Bytes) → value ≡ drawn number (suc k) → before ≡ out ++ text_of number client k
    → now ≡ before ++ lines_text (round_text (item_of client value)) → now ≡ out ++ text_of number client (suc k)
round_more number client k value out before now drawn_so so_far is =
    is
    ∙ ap₂ (λ b v. b ++ lines_text (round_text (item_of client v))) so_far drawn_so
    ∙ append_assoc out (text_of number client k) (lines_text (round_text (item_of client (drawn number (suc k)))))
    ∙ ap (λ t. out ++ t) (sym (text_more number client k))
