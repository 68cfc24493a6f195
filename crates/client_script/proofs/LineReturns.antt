-- A line with a carriage return at its end, and one without.
use Rattle.std.proofs.Common.{arith, ◌≡◌, ◌≢◌, refl, ap, sym, ◌∙◌, ◌-◌, [], ◌∷◌, ◌++◌, length, take, drop, Bool, true, false, length-append}
use Rattle.std.specs.Prelude.{if◌then◌else◌, nat_eq, codes}
use Rattle.std.specs.List.{ends_with}
use Rattle.std.proofs.lemmas.List.{take-append-drop}
use Rattle.std.proofs.lemmas.Slice.Eq.{bytes_eq-Decides}
use Rattle.mdb_datum.specs.Bytes.{Bytes}
use Rattle.client_script.specs.Lines.{without_return}

one_less : (kept : Bytes) → length (kept ++ 13 ∷ []) - 1 ≡ length kept
one_less kept = omega (arith, length-append kept (13 ∷ []))

pub without_return-kept : (line : Bytes) → ((front : Bytes) → line ≢ front ++ 13 ∷ []) → without_return line ≡ line
without_return-kept line none = by_test (ends_with nat_eq line (codes "\r")) refl
  where
    by_test : (t : Bool) → ends_with nat_eq line (codes "\r") ≡ t → (if t then take (length line - 1) line else line) ≡ line
    by_test true e =
        let last : 13 ∷ [] ≡ drop (length line - 1) line = (bytes_eq-Decides (13 ∷ []) (drop (length line - 1) line)).0 e in
        absurd (none (take (length line - 1) line) (sym (take-append-drop (length line - 1) line) ∙ ap (λ l. take (length line - 1) line ++ l) (sym last)))
    by_test false e = refl
