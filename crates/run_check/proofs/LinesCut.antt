-- The first line of a text, cut behind the bytes before the first line feed.
use Rattle.std.proofs.Common.{arith, ◌≡◌, refl, ap, subst, sym, ◌∙◌, ℕ, suc, ◌+◌, ◌<◌, ◌≤◌, List, [], ◌∷◌, ◌++◌, length, take, drop, one-add, add-one, Bool, true, false, cond, not, Ok, Err}
use Rattle.std.specs.Prelude.{◌==◌, if◌then◌else◌}
use Rattle.std.specs.List.{prefix_len}
use Rattle.std.proofs.lemmas.Bool.Decides.{nat_tests}
use Rattle.mdb_datum.specs.Bytes.{Bytes}
use Rattle.run_check.specs.Shape.{Taken, line_from}
use Rattle.run_check.specs.TextLines.{TextLine, begun_with, text_lines}
use Rattle.run_check.specs.Views.{is_text}

-- a line that a line feed ends
abbrev pub ended_line : Bytes → TextLine
ended_line text = record { text = text; ended = true }

pub line_cut : (bs : Bytes) → prefix_len is_text bs < length bs → text_lines bs ≡ ended_line (take (prefix_len is_text bs) bs) ∷ text_lines (drop (suc (prefix_len is_text bs)) bs)
line_cut [] lt = absurd (omega (arith, lt))
line_cut (b ∷ bs) lt = of (b == 10) (line_cut bs) lt
  where
    Line : Bool → Type 0
    Line t = (if t then ended_line [] ∷ text_lines bs else begun_with b (text_lines bs)) ≡ ended_line (take (cond (not t) (1 + prefix_len is_text bs) 0) (b ∷ bs)) ∷ text_lines (drop (suc (cond (not t) (1 + prefix_len is_text bs) 0)) (b ∷ bs))

    of : (t : Bool) → (prefix_len is_text bs < length bs → text_lines bs ≡ ended_line (take (prefix_len is_text bs) bs) ∷ text_lines (drop (suc (prefix_len is_text bs)) bs)) → cond (not t) (1 + prefix_len is_text bs) 0 < length (b ∷ bs) → Line t
    of true rest lt' = refl
    of false rest lt' = rw one-add (ap (begun_with b) (rest (omega (arith, lt'))))

-- a first line, where it is ended
abbrev first_or : ℕ → List TextLine → Bytes → Bool → Taken Bytes
first_or n ls text t = if t then Ok (text, record { next = n + 1; lines = ls }) else Err n

-- it is refused whatever it holds
first_refused : (n : ℕ) (ls : List TextLine) (text other : Bytes) (t : Bool) → first_or n ls text t ≡ Err n → first_or n ls other t ≡ Err n
first_refused n ls text other true e = cc
first_refused n ls text other false e = refl

-- where there is none, no line is ended
pub line_missing : (n : ℕ) (bs : Bytes) → length bs ≤ prefix_len is_text bs → line_from n (text_lines bs) ≡ Err n
line_missing n [] le = refl
line_missing n (b ∷ bs) le = of (b == 10) (line_missing n bs) le
  where
    begun : (ls : List TextLine) → line_from n ls ≡ Err n → line_from n (begun_with b ls) ≡ Err n
    begun [] e = refl
    begun (l ∷ ls) e = first_refused n ls l.text (b ∷ l.text) l.ended e

    of : (t : Bool) → (length bs ≤ prefix_len is_text bs → line_from n (text_lines bs) ≡ Err n) → length (b ∷ bs) ≤ cond (not t) (1 + prefix_len is_text bs) 0 → line_from n (if t then ended_line [] ∷ text_lines bs else begun_with b (text_lines bs)) ≡ Err n
    of true rest le' = absurd (omega (arith, le'))
    of false rest le' = begun (text_lines bs) (rest (omega (arith, le')))

-- and the text is that line, a line feed, and the rest
pub text_cut : (bs : Bytes) → prefix_len is_text bs < length bs → bs ≡ take (prefix_len is_text bs) bs ++ 10 ∷ drop (suc (prefix_len is_text bs)) bs
text_cut [] lt = absurd (omega (arith, lt))
text_cut (b ∷ bs) lt = of (b == 10) refl (text_cut bs) lt
  where
    of : (t : Bool) → (b == 10) ≡ t → (prefix_len is_text bs < length bs → bs ≡ take (prefix_len is_text bs) bs ++ 10 ∷ drop (suc (prefix_len is_text bs)) bs) → cond (not t) (1 + prefix_len is_text bs) 0 < length (b ∷ bs) → b ∷ bs ≡ take (cond (not t) (1 + prefix_len is_text bs) 0) (b ∷ bs) ++ 10 ∷ drop (suc (cond (not t) (1 + prefix_len is_text bs) 0)) (b ∷ bs)
    of true is rest lt' = let feed : b ≡ 10 = grind (arith, nat_tests, is) in ap (λ (x : ℕ). x ∷ bs) feed
    of false is rest lt' = rw one-add (ap (λ (l : Bytes). b ∷ l) (rest (omega (arith, lt'))))

-- a cut behind so many bytes takes the line
pub cut_taken : (bs line rest : Bytes) (n next k : ℕ) → k ≡ prefix_len is_text bs → k < length bs → line ≡ take k bs → next ≡ n + 1 → rest ≡ drop (k + 1) bs → Ok (line, record { next = next; lines = text_lines rest }) ≡ line_from n (text_lines bs)
cut_taken bs line rest n next k len lt is up left =
    let p : ℕ = prefix_len is_text bs in
    let there : p < length bs = subst (λ (m : ℕ). m < length bs) len lt in
    let by_line : Bytes → Taken Bytes = λ l. Ok (l, record { next = next; lines = text_lines rest }) in
    let by_next : ℕ → Taken Bytes = λ m. Ok (take p bs, record { next = m; lines = text_lines rest }) in
    let by_rest : Bytes → Taken Bytes = λ r. Ok (take p bs, record { next = n + 1; lines = text_lines r }) in
    ap by_line (is ∙ ap (λ (m : ℕ). take m bs) len)
    ∙ ap by_next up
    ∙ ap by_rest (left ∙ ap (λ (m : ℕ). drop m bs) (add-one k) ∙ ap (λ (m : ℕ). drop (suc m) bs) len)
    ∙ sym (ap (line_from n) (line_cut bs there))

pub cut_splits : (bs line rest : Bytes) (k : ℕ) → k ≡ prefix_len is_text bs → k < length bs → line ≡ take k bs → rest ≡ drop (k + 1) bs → bs ≡ line ++ 10 ∷ rest
cut_splits bs line rest k len lt is left =
    let p : ℕ = prefix_len is_text bs in
    let there : p < length bs = subst (λ (m : ℕ). m < length bs) len lt in
    text_cut bs there
    ∙ ap (λ (l : Bytes). l ++ 10 ∷ drop (suc p) bs) (sym (is ∙ ap (λ (m : ℕ). take m bs) len))
    ∙ ap (λ (r : Bytes). line ++ 10 ∷ r) (sym (left ∙ ap (λ (m : ℕ). drop m bs) (add-one k) ∙ ap (λ (m : ℕ). drop (suc m) bs) len))

pub none_taken : (bs : Bytes) (n bad k : ℕ) → k ≡ prefix_len is_text bs → length bs ≤ k → bad ≡ n → Err bad ≡ line_from n (text_lines bs)
none_taken bs n bad k len le is =
    let wrong : ℕ → Taken Bytes = λ m. Err m in
    ap wrong is ∙ sym (line_missing n bs (subst (λ (m : ℕ). length bs ≤ m) len le))
