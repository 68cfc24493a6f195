-- Names by their places, when one more is added.
use Rattle.std.proofs.Common.{◌≡◌, refl, ap, sym, ◌∙◌, ℕ, suc, List, [], ◌∷◌, ◌++◌, length, cond, Bool, true, false, Option, Some, None, option_map, Result, Ok, Err, IfOk, OnOk}
use Rattle.std.specs.declared.alloc.AllocError.{AllocError}
use Rattle.std.specs.Prelude.{if◌then◌else◌}
use Rattle.std.specs.BTreeMap.{BTreeMap, get_by_text}
use Rattle.std.specs.Borrow.{Bor}
use Rattle.std.specs.Str.{bytes_eq}
use Rattle.std.specs.declared.alloc.Global.{Global}
use Rattle.std.specs.declared.string.String.{String}
use Rattle.std.proofs.lemmas.List.{length-map, map-append}
use Rattle.mdb_datum.specs.Bytes.{Bytes}
use Rattle.mdb_schema.proofs.Membership.{bytes_eq-itself, same_key}
use Rattle.run_check.specs.inner.NamedView.{place_in}
use Rattle.run_check.specs.inner.PlacesOfNames.{ArePlaces, texts_of}
use Rattle.run_check.proofs.NumbersPlaced.{or_else}

-- a place, where a test passes
abbrev place_where : ℕ → Bool → Option ℕ
place_where at t = if t then Some at else None

one_further : (o : Option ℕ) (at : ℕ) (t : Bool) → option_map suc (or_else o (place_where at t)) ≡ or_else (option_map suc o) (place_where (suc at) t)
one_further None at true = refl
one_further None at false = refl
one_further (Some x) at t = refl

pub place_joined : (name : Bytes) (ns : List Bytes) (n : Bytes) → place_in name (ns ++ n ∷ []) ≡ or_else (place_in name ns) (place_where (length ns) (bytes_eq n name))
place_joined name [] n = refl
place_joined name (x ∷ ns) n = of (bytes_eq x name) (place_joined name ns n)
  where
    of : (t : Bool) → place_in name (ns ++ n ∷ []) ≡ or_else (place_in name ns) (place_where (length ns) (bytes_eq n name)) → (if t then Some 0 else option_map suc (place_in name (ns ++ n ∷ []))) ≡ or_else (if t then Some 0 else option_map suc (place_in name ns)) (place_where (suc (length ns)) (bytes_eq n name))
    of true rest = refl
    of false rest = ap (option_map suc) rest ∙ one_further (place_in name ns) (length ns) (bytes_eq n name)

nothing_more : (o : Option ℕ) → or_else o None ≡ o
nothing_more None = refl
nothing_more (Some x) = refl

-- a map with one more name has the places of the list with that name at its end
pub one_more_name : (old new : BTreeMap (String Global) ℕ) (names more : List (Bor Bytes)) (name : Bor Bytes) (key : Bytes) (place : ℕ) → key ≡ name.now → place ≡ length names → place_in name.now (texts_of names) ≡ None → more ≡ names ++ name ∷ [] → ((q : Bytes) → get_by_text new q ≡ cond (bytes_eq key q) (Some place) (get_by_text old q)) → ArePlaces old (texts_of names) → ArePlaces new (texts_of more)
one_more_name old new names more name key place is at free is_more updates so_far = λ q.
    let list : List Bytes = texts_of names in
    let all : texts_of more ≡ list ++ name.now ∷ [] =
    ap texts_of is_more ∙ map-append (λ (x : Bor Bytes). x.now) names (name ∷ []) in
    let count : place ≡ length list = at ∙ sym (length-map names (λ (x : Bor Bytes). x.now)) in
    updates q
    ∙ ap (λ (k : Bytes). cond (bytes_eq k q) (Some place) (get_by_text old q)) is
    ∙ ap (λ (o : Option ℕ). cond (bytes_eq name.now q) (Some place) o) (so_far q)
    ∙ ap (λ (k : ℕ). cond (bytes_eq name.now q) (Some k) (place_in q list)) count
    ∙ of q list (bytes_eq name.now q) refl free
    ∙ sym (ap (place_in q) all ∙ place_joined q list name.now)
  where
    of : (q : Bytes) (list : List Bytes) (t : Bool) → bytes_eq name.now q ≡ t → place_in name.now list ≡ None → cond t (Some (length list)) (place_in q list) ≡ or_else (place_in q list) (place_where (length list) t)
    of q list true same none =
        let here : place_in q list ≡ None = ap (λ (k : Bytes). place_in k list) (sym (same_key name.now q same)) ∙ none in
        sym (ap (λ (o : Option ℕ). or_else o (Some (length list))) here)
    of q list false other none = sym (nothing_more (place_in q list))

-- the place of a name that was added
pub place_of_new : (r : Result ℕ AllocError) (name : Bytes) (old new : List Bytes) (count : ℕ) → None ≡ place_in name old → length old ≡ count → IfOk r (λ place. place ≡ count) → OnOk r (new ≡ old ++ name ∷ []) → IfOk r (λ place. place_in name new ≡ Some place)
place_of_new (Err e) name old new count none same place more = tt
place_of_new (Ok at) name old new count none same place more =
    let some : ℕ → Option ℕ = λ n. Some n in
    ap (place_in name) more
    ∙ place_joined name old name
    ∙ ap (λ (o : Option ℕ). or_else o (place_where (length old) (bytes_eq name name))) (sym none)
    ∙ ap (place_where (length old)) (bytes_eq-itself name)
    ∙ ap some (same ∙ sym place)
