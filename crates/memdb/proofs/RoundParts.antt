-- A round that is written in parts.
use Rattle.std.proofs.Common.{◌≡◌, ap, ◌∙◌, [], ◌∷◌, ◌++◌, append_assoc}
use Rattle.std.specs.Prelude.{if◌then◌else◌, codes, Result, OnOk, is_ok}
use Rattle.mdb_datum.specs.Bytes.{Bytes}
use Rattle.memdb.specs.Made.{Item}
use Rattle.memdb.specs.inner.MadeText.{lines_text, insert_text, first_text, round_text}
use Rattle.memdb.proofs.PlainTexts.{last_part, joined}

-- the parts are the text of six lines
six_lines : (out i f : Bytes)
    → ((((out ++ codes "write\n") ++ (i ++ 10 ∷ [])) ++ codes "commit\nread\n") ++ (f ++ 10 ∷ [])) ++ codes "end\n"
    ≡ out ++ lines_text (codes "write" ∷ i ∷ codes "commit" ∷ codes "read" ∷ f ∷ codes "end" ∷ [])
six_lines out i f =
    let last = append_assoc f (10 ∷ []) (codes "end\n") in
    let middle = append_assoc i (10 ∷ []) (codes "commit\nread\n" ++ (f ++ codes "\nend\n")) in
    append_assoc (((out ++ codes "write\n") ++ (i ++ 10 ∷ [])) ++ codes "commit\nread\n") (f ++ 10 ∷ []) (codes "end\n")
    ∙ ap (λ l. (((out ++ codes "write\n") ++ (i ++ 10 ∷ [])) ++ codes "commit\nread\n") ++ l) last
    ∙ joined out (codes "write\n") (i ++ 10 ∷ []) (codes "commit\nread\n") (f ++ codes "\nend\n")
    ∙ ap (λ l. out ++ (codes "write\n" ++ l)) middle

-- where the last part is written, the round is
pub round_written : {A E : Type 0} (r : Result A E) (x : Item) (out a b c d now : Bytes)
    → a ≡ out ++ codes "write\n" → b ≡ a ++ (insert_text x ++ 10 ∷ []) → c ≡ b ++ codes "commit\nread\n" → d ≡ c ++ (first_text x ++ 10 ∷ [])
    → now ≡ (if is_ok r then d ++ codes "end\n" else d) → OnOk r (now ≡ out ++ lines_text (round_text x))
round_written r x out a b c d now is_a is_b is_c is_d is =
    let i : Bytes = insert_text x in
    let f : Bytes = first_text x in
    let parts : d ++ codes "end\n" ≡ ((((out ++ codes "write\n") ++ (i ++ 10 ∷ [])) ++ codes "commit\nread\n") ++ (f ++ 10 ∷ [])) ++ codes "end\n" =
    ap (λ l. l ++ codes "end\n")
    (is_d ∙ ap (λ l. l ++ (f ++ 10 ∷ [])) (is_c ∙ ap (λ l. l ++ codes "commit\nread\n") (is_b ∙ ap (λ l. l ++ (i ++ 10 ∷ [])) is_a))) in
    last_part r now (d ++ codes "end\n") d _ is (parts ∙ six_lines out i f)
