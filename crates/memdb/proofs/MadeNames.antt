-- The name of a made row tells its client.
use Rattle.std.proofs.Common.{◌≡◌, ◌∙◌, ◌++◌, ◌+◌, ◌<◌, ◌≤◌, ◌%◌, ◌^◌, ℕ, zero, suc, [], ◌∷◌, decimal, Contains, false, arith, refl, sym, ap, inl, inr}
use Rattle.std.specs.Prelude.{⊤}
use Rattle.std.specs.Str.{bytes_eq}
use Rattle.std.proofs.lemmas.Bool.{false_from_ne_true}
use Rattle.std.proofs.lemmas.Fmt.{decimal_by_steps, decimal_injective}
use Rattle.std.proofs.lemmas.List.Elements.{Contains-append_cases}
use Rattle.mdb_encode.specs.Bytes.{Bytes}
use Rattle.mdb_schema.proofs.Membership.{Contains-nil, Contains-cons_cases, same_key}
use Rattle.memdb.specs.Made.{Item, Numbers, drawn, item_of, items_behind, items_by, items_from}

-- ---- numbers in decimal

-- no byte is below that of 0
abbrev AreDigits : Bytes → Type 0
AreDigits [] = ⊤
AreDigits (b ∷ s) = (48 ≤ b) × AreDigits s

digits_more : (s : Bytes) (b : ℕ) → AreDigits s → 48 ≤ b → AreDigits (s ++ b ∷ [])
digits_more [] b digits le = (le, tt)
digits_more (a ∷ s) b digits le = (digits.0, digits_more s b digits.1 le)

decimal_digits : (n : ℕ) → n < 2 ^ 64 → AreDigits (decimal n)
decimal_digits n small =
    decimal_by_steps (λ n s. AreDigits s) (λ n few. (omega arith, tt))
    (λ n s many digits. digits_more s (48 + n % 10) digits (omega arith)) n small

-- a hyphen ends the digits
same_digits : (a b s t : Bytes) → AreDigits a → AreDigits b → a ++ 45 ∷ s ≡ b ++ 45 ∷ t → a ≡ b
same_digits [] [] s t f g e = refl
same_digits [] (y ∷ b) s t f g e = let first : 45 ≡ y = cc in let le = g.0 in absurd (omega arith)
same_digits (x ∷ a) [] s t f g e = let first : x ≡ 45 = cc in let le = f.0 in absurd (omega arith)
same_digits (x ∷ a) (y ∷ b) s t f g e =
    let first : x ≡ y = cc in
    let rest : a ++ 45 ∷ s ≡ b ++ 45 ∷ t = cc in
    λ i. first i ∷ same_digits a b s t f.1 g.1 rest i

pub client_told : (c d v w : ℕ) → c ≤ 64 → d ≤ 64 → (item_of c v).name ≡ (item_of d w).name → c ≡ d
client_told c d v w few less same =
    let rest : decimal c ++ 45 ∷ decimal (v % 100) ≡ decimal d ++ 45 ∷ decimal (w % 100) = cc in
    decimal_injective c d (omega arith) (omega arith)
    (same_digits (decimal c) (decimal d) (decimal (v % 100)) (decimal (w % 100))
    (decimal_digits c (omega arith)) (decimal_digits d (omega arith)) rest)

-- ---- whose the rows are

-- the client writes this row
abbrev pub IsBy : ℕ → Item → Type 0
IsBy client x = (v : ℕ) × (x ≡ item_of client v)

-- rows of different clients have different names
pub names_apart : (c d : ℕ) (x y : Item) → c ≤ 64 → d ≤ 64 → (c ≡ d → ⊥) → IsBy c x → IsBy d y
    → bytes_eq x.name y.name ≡ false
names_apart c d x y few less apart by of = false_from_ne_true (bytes_eq x.name y.name) (λ same.
    apart (client_told c d by.0 of.0 few less
    (ap (λ (z : Item). z.name) (sym by.1) ∙ same_key x.name y.name same ∙ ap (λ (z : Item). z.name) of.1)))

behind_by : (number client place rounds : ℕ) (x : Item)
    → Contains (items_behind number client place rounds) x → IsBy client x
behind_by number client place zero x h = absurd (Contains-nil x h)
behind_by number client place (suc rounds) x h =
    let first = item_of client (drawn number (suc place)) in
    let rest = items_behind number client (suc place) rounds in
    elim (Contains-cons_cases first rest x h) [
      | inl same ↦ (drawn number (suc place), sym same)
      | inr later ↦ behind_by number client (suc place) rounds x later
    ]

pub items_by-by : (n : Numbers) (client : ℕ) (x : Item) → Contains (items_by n client) x → IsBy client x
items_by-by n client x h = behind_by n.number client _ n.count x h

-- each row of these clients is one's
pub record IsOneOf (first more : ℕ) (x : Item) : Type 0 where
  pub client : ℕ
  pub least : first ≤ client
  pub most : client < first + more
  pub by : IsBy client x

pub items_from-by : (n : Numbers) (k more : ℕ) (x : Item) → Contains (items_from n k more) x → IsOneOf k more x
items_from-by n k zero x h = absurd (Contains-nil x h)
items_from-by n k (suc more) x h = elim (Contains-append_cases (items_by n k) (items_from n (k + 1) more) x h) [
  | inl own ↦ record {
    client = k;
    least = omega arith;
    most = omega arith;
    by = items_by-by n k x own;
  }
  | inr others ↦
      let w = items_from-by n (k + 1) more x others in
      let least = w.least in
      let most = w.most in
      record { client = w.client; least = omega arith; most = omega arith; by = w.by }
]
