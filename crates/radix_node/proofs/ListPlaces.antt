-- Places in a list that keeps something of each edge: its plain node, or its node with the cells.
use Rattle.std.proofs.Common.{◌≡◌, ◌<◌, ◌≤◌, ◌+◌, ◌++◌, ◌∷◌, ◌∙◌, ℕ, suc, List, length, map, take, drop, get_or, slice_get, slice_set, option_map, vec_len, Option, Some, None, Result, Ok, Err, refl, sym, ap, arith}
use Rattle.std.proofs.lemmas.List.{map-set, map-append, take-map, drop-map}
use Rattle.std.proofs.lemmas.Option.{slice_get-map, slice_get_read, slice_get_past}
use Rattle.radix_node.specs.Edges.{further_by}
use Rattle.radix_node.specs.declared.edge.Edge.{Edge}
use Rattle.radix_node.specs.declared.edges.Edges.{Edges, out-Edges}

module _ (X : Type 0) where
  -- what is at a place that was found
  abbrev pub at_place : Result ℕ ℕ → List X → Option X
  at_place (Ok i) xs = slice_get xs i
  at_place (Err i) xs = None

  pub at_further : (r : Result ℕ ℕ) (x : X) (xs : List X) → at_place (further_by 1 r) (x ∷ xs) ≡ at_place r xs
  at_further (Ok i) x xs = ap (λ z. slice_get (x ∷ xs) z) (let e : 1 + i ≡ suc i = omega arith in e)
  at_further (Err i) x xs = refl

  -- a list with n at a place that was found, or else where it would go
  abbrev pub put_by : X → Result ℕ ℕ → List X → List X
  put_by n (Ok i) xs = slice_set xs i n
  put_by n (Err i) xs = take i xs ++ n ∷ drop i xs

  pub put_further : (n : X) (r : Result ℕ ℕ) (x : X) (xs : List X) → put_by n (further_by 1 r) (x ∷ xs) ≡ x ∷ put_by n r xs
  put_further n (Ok i) x xs = ap (λ z. slice_set (x ∷ xs) z n) (let e : 1 + i ≡ suc i = omega arith in e)
  put_further n (Err i) x xs = ap (λ z. take z (x ∷ xs) ++ n ∷ drop z (x ∷ xs)) (let e : 1 + i ≡ suc i = omega arith in e)

  -- ---- of edges in memory

  module _ (f : Edge → X) (e : Edges) (xs : List X) (kept : xs ≡ map f (out-Edges e).edges.items) where
    abbrev held : List Edge
    held = (out-Edges e).edges.items

    pub there : (at : ℕ) (r : Edge) → at < vec_len (out-Edges e).edges → r ≡ get_or held at r → Some (f r) ≡ slice_get xs at
    there at r lt read =
        let count = (out-Edges e).edges.ok.0 in
        let within : at < length held = omega arith in
        sym (ap (λ (ys : List X). slice_get ys at) kept ∙ slice_get-map f held at ∙ ap (option_map f) (slice_get_read held (length held) at r refl within read))

    pub past : (at : ℕ) → vec_len (out-Edges e).edges ≤ at → None ≡ slice_get xs at
    past at le =
        let count = (out-Edges e).edges.ok.0 in
        let beyond : length held ≤ at = omega arith in
        sym (ap (λ (ys : List X). slice_get ys at) kept ∙ slice_get-map f held at ∙ ap (option_map f) (slice_get_past held at beyond))

    pub replaced_at : (at : ℕ) (x edge : Edge) → x ≡ edge → map f (slice_set held at x) ≡ put_by (f edge) (Ok at) xs
    replaced_at at x edge is = map-set f held at x ∙ (λ i. slice_set (sym kept i) at (f (is i)))

    pub inserted_at : (at : ℕ) (items : List Edge) (edge : Edge) → items ≡ take at held ++ edge ∷ drop at held → map f items ≡ put_by (f edge) (Err at) xs
    inserted_at at items edge is =
        ap (map f) is
        ∙ map-append f (take at held) (edge ∷ drop at held)
        ∙ ap (λ (ys : List X). ys ++ f edge ∷ map f (drop at held)) (sym (take-map f at held))
        ∙ ap (λ (ys : List X). take at (map f held) ++ f edge ∷ ys) (sym (drop-map f at held))
        ∙ ap (λ (ys : List X). take at ys ++ f edge ∷ drop at ys) (sym kept)
