-- What stands before a step of a chain that was passed.
use Rattle.std.proofs.Common.{◌≡◌, refl, sym, ap, ◌∙◌, Some, None, Option, Bool, true, false, subst, List, [], ◌∷◌, length, arith}
use Rattle.std.specs.Prelude.{Result, Ok, Err, if◌then◌else◌, All}
use Rattle.std.proofs.lemmas.List.Elements.{All-nil, All-cons}
use Rattle.mdb_encode.specs.Bytes.{Bytes}
use Rattle.mdb_schema.specs.Broken.{◌>>=◌, needed, passed, at_names, each, Checked}
use Rattle.mdb_schema.specs.Shapes.{both}
use Rattle.mdb_schema.specs.declared.schema_rule.SchemaRule.{SchemaRule}

pub passed_on : {A B E : Type 0} (r : Result A E) (f : A → Result B E) (y : B) → (r >>= f) ≡ Ok y → (x : A) × (r ≡ Ok x) × (f x ≡ Ok y)
passed_on (Ok x) f y e = (x, refl, e)
passed_on (Err r) f y e = cc

pub needed_there : {A : Type 0} (r : SchemaRule) (o : Option A) (x : A) → needed r o ≡ Ok x → o ≡ Some x
needed_there r (Some z) x e = cc
needed_there r None x e = cc

pub passed_true : (r : SchemaRule) (b : Bool) (u : Unit {0}) → passed r b ≡ Ok u → b ≡ true
passed_true r true u e = refl
passed_true r false u e = cc

pub unnamed : {A : Type 0} (t i : Option Bytes) (r : Checked A) (x : A) → at_names t i r ≡ Ok x → r ≡ Ok x
unnamed t i (Ok y) x e = cc
unnamed t i (Err r) x e = cc

pub both_there : {A B : Type 0} (o : Option A) (q : Option B) (p : A × B) → both o q ≡ Some p → (o ≡ Some p.0) × (q ≡ Some p.1)
both_there {A} {B} (Some x) (Some y) p e =
    let is : (x, y) ≡ p = cc in subst (λ (r : A × B). (Some x ≡ Some r.0) × (Some y ≡ Some r.1)) is (refl, refl)
both_there None q p e = cc
both_there (Some x) None p e = cc

-- what stands under a test that was passed
pub under_test : {A : Type 0} (b : Bool) (o : Option A) (y : A) → (if b then o else None) ≡ Some y → (b ≡ true) × (o ≡ Some y)
under_test true o y e = (refl, e)
under_test false o y e = cc

-- the first of a list that was passed, and the rest
pub each_parts : {A B E : Type 0} (f : A → Result B E) (x : A) (xs : List A) (ys : List B) → each f (x ∷ xs) ≡ Ok ys → (z : B) × (zs : List B) × (f x ≡ Ok z) × (each f xs ≡ Ok zs) × (z ∷ zs ≡ ys)
each_parts f x xs ys e =
    let c = passed_on (f x) (λ y. each f xs >>= (λ zs. Ok (y ∷ zs))) ys e in
    let r = passed_on (each f xs) (λ zs. Ok (c.0 ∷ zs)) ys c.2 in
    let h : c.0 ∷ r.0 ≡ ys = let k = r.2 in cc in
    (c.0, r.0, c.1, r.1, h)

pub same_length : {A B E : Type 0} (f : A → Result B E) (xs : List A) (ys : List B) → each f xs ≡ Ok ys → length ys ≡ length xs
same_length f [] ys e = let h : [] ≡ ys = cc in ap length (sym h)
same_length f (x ∷ xs) ys e =
    let c = each_parts f x xs ys e in
    let s = same_length f xs c.1 c.3 in
    sym (ap length c.4) ∙ ap (λ n. n) (omega (arith, s))

pub all_of : {A B E : Type 0} (P : B → Type 0) (f : A → Result B E) → ((x : A) (y : B) → f x ≡ Ok y → P y) → (xs : List A) (ys : List B) → each f xs ≡ Ok ys → All P ys
all_of P f law [] ys e = let h : [] ≡ ys = cc in subst (λ l. All P l) h (All-nil P)
all_of P f law (x ∷ xs) ys e =
    let c = each_parts f x xs ys e in
    subst (λ l. All P l) c.4 (All-cons P c.0 c.1 (law x c.0 c.2) (all_of P f law xs c.1 c.3))
