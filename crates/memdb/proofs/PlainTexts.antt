-- The lines of a made row, as they stand byte by byte.
use Rattle.std.proofs.Common.{◌≡◌, ap, sym, ◌∙◌, [], ◌∷◌, ◌++◌, true, decimal, append_assoc}
use Rattle.std.specs.Prelude.{if◌then◌else◌, codes, Result, Ok, Err, OnOk, is_ok}
use Rattle.std.specs.List.{list_all}
use Rattle.json.specs.Print.{escape_byte, quoted}
use Rattle.mdb_datum.specs.Bytes.{Bytes}
use Rattle.mdb_schema.specs.Names.{is_name_byte}
use Rattle.memdb.specs.Made.{Item}
use Rattle.memdb.specs.inner.MadeText.{insert_text, first_text}
use Rattle.memdb.proofs.NameBytes.{escape-name}

-- a name in quotes, and what follows it
quoted_then : (s after : Bytes) → list_all is_name_byte s ≡ true → quoted s ++ after ≡ 34 ∷ (s ++ 34 ∷ after)
quoted_then s after h = ap (λ l. 34 ∷ ((l ++ 34 ∷ []) ++ after)) (escape-name s h) ∙ ap (λ l. 34 ∷ l) (append_assoc s (34 ∷ []) after)

-- the line that writes a row
pub insert_plain : (x : Item) → list_all is_name_byte x.name ≡ true → insert_text x ≡ codes "insert items {\"age\":" ++ (decimal x.age ++ (codes ",\"name\":\"" ++ (x.name ++ codes "\"}")))
unfolding escape_byte
insert_plain x h =
    ap (λ l. codes "insert items {\"age\":" ++ (decimal x.age ++ (codes ",\"name\":" ++ l))) (quoted_then x.name (codes "}") h)

-- the line that asks for it
pub first_plain : (x : Item) → list_all is_name_byte x.name ≡ true → first_text x ≡ codes "first items id [\"" ++ (x.name ++ codes "\"]")
first_plain x h = ap (λ l. codes "first items id [" ++ l) (quoted_then x.name (codes "]") h)

-- ---- a line that is written in parts

-- where the last part is written, the whole is
pub last_part : {A E : Type 0} (r : Result A E) (now done kept whole : Bytes) → now ≡ (if is_ok r then done else kept) → done ≡ whole → OnOk r (now ≡ whole)
last_part (Ok x) now done kept whole is all = is ∙ all
last_part (Err e) now done kept whole is all = tt

-- four parts behind what stands there
pub joined : (out a b c d : Bytes) → (((out ++ a) ++ b) ++ c) ++ d ≡ out ++ (a ++ (b ++ (c ++ d)))
joined out a b c d = append_assoc ((out ++ a) ++ b) c d ∙ append_assoc (out ++ a) b (c ++ d) ∙ append_assoc out a (b ++ (c ++ d))

-- the line that writes a row
pub insert_written : {A E : Type 0} (r : Result A E) (x : Item) (out a b c d now : Bytes) → list_all is_name_byte x.name ≡ true
    → a ≡ out ++ codes "insert items {\"age\":" → b ≡ a ++ decimal x.age → c ≡ b ++ codes ",\"name\":\"" → d ≡ c ++ x.name → now ≡ (if is_ok r then d ++ codes "\"}\n" else d)
    → OnOk r (now ≡ out ++ (insert_text x ++ 10 ∷ []))
insert_written r x out a b c d now named is_a is_b is_c is_d is =
    let begin = codes "insert items {\"age\":" in
    let middle = codes ",\"name\":\"" in
    let age = decimal x.age in
    let parts : d ++ codes "\"}\n" ≡ (((out ++ begin) ++ age) ++ middle) ++ (x.name ++ codes "\"}\n") =
    ap (λ l. l ++ codes "\"}\n") (is_d ∙ ap (λ l. l ++ x.name) (is_c ∙ ap (λ l. l ++ middle) (is_b ∙ ap (λ l. l ++ age) is_a)))
    ∙ append_assoc (((out ++ begin) ++ age) ++ middle) x.name (codes "\"}\n") in
    let ended : insert_text x ++ 10 ∷ [] ≡ begin ++ (age ++ (middle ++ (x.name ++ codes "\"}\n"))) =
    ap (λ l. l ++ 10 ∷ []) (insert_plain x named)
    ∙ append_assoc begin (age ++ (middle ++ (x.name ++ codes "\"}"))) (10 ∷ [])
    ∙ ap (λ l. begin ++ l) (append_assoc age (middle ++ (x.name ++ codes "\"}")) (10 ∷ []) ∙ ap (λ l. age ++ (middle ++ l)) (append_assoc x.name (codes "\"}") (10 ∷ []))) in
    last_part r now (d ++ codes "\"}\n") d _ is (parts ∙ joined out begin age middle (x.name ++ codes "\"}\n") ∙ ap (λ l. out ++ l) (sym ended))

-- the line that asks for it
pub first_written : {A E : Type 0} (r : Result A E) (x : Item) (out a b now : Bytes) → list_all is_name_byte x.name ≡ true
    → a ≡ out ++ codes "first items id [\"" → b ≡ a ++ x.name → now ≡ (if is_ok r then b ++ codes "\"]\n" else b)
    → OnOk r (now ≡ out ++ (first_text x ++ 10 ∷ []))
first_written r x out a b now named is_a is_b is =
    let begin = codes "first items id [\"" in
    let parts : b ++ codes "\"]\n" ≡ out ++ (begin ++ (x.name ++ codes "\"]\n")) =
    ap (λ l. l ++ codes "\"]\n") (is_b ∙ ap (λ l. l ++ x.name) is_a)
    ∙ append_assoc (out ++ begin) x.name (codes "\"]\n")
    ∙ append_assoc out begin (x.name ++ codes "\"]\n") in
    let ended : first_text x ++ 10 ∷ [] ≡ begin ++ (x.name ++ codes "\"]\n") =
    ap (λ l. l ++ 10 ∷ []) (first_plain x named)
    ∙ append_assoc begin (x.name ++ codes "\"]") (10 ∷ [])
    ∙ ap (λ l. begin ++ l) (append_assoc x.name (codes "\"]") (10 ∷ [])) in
    last_part r now (b ++ codes "\"]\n") b _ is (parts ∙ ap (λ l. out ++ l) (sym ended))
