-- The words of a command name few files.
use Rattle.std.proofs.Common.{arith, ◌≡◌, ◌∙◌, refl, ap, ℕ, ◌≤◌, Bool, true, false, List, [], ◌∷◌, length, Option, Some, None, IfSome}
use Rattle.std.specs.Prelude.{if◌then◌else◌, nat_lt, option_map}
use Rattle.std.proofs.lemmas.Bool.Decides.{nat_tests}
use Rattle.std.specs.List.{list_all}
use Rattle.mdb_datum.specs.Bytes.{Bytes}
use Rattle.run_io.specs.Named.{Named, files_behind, may_name_a_file}
use Rattle.run_io.specs.NamedOf.{named_of}
use Rattle.run_io.specs.declared.named.Named as code
use Rattle.session_loop.specs.Words.{files_named}

few_by : (most : ℕ) (schema : Bytes) (clients : List Bytes) (named : Named) (b : Bool) → nat_lt most (length clients) ≡ b → Some named ≡ (if b then None else Some (record { schema = schema; clients = clients })) → length named.clients ≤ most
few_by most schema clients named true is e = cc
few_by most schema clients named false is e =
    let few : length clients ≤ most = grind (arith, nat_tests, is) in
    let same : named ≡ record { schema = schema; clients = clients } = cc in
    let long : length named.clients ≡ length clients = ap (λ (n : Named). length n.clients) same in
    omega (arith, few, long)

few_behind : (most : ℕ) (words : List Bytes) (named : Named) → Some named ≡ files_behind most words → length named.clients ≤ most
few_behind most [] named e = cc
few_behind most (schema ∷ []) named e = cc
few_behind most (schema ∷ client ∷ more) named e = few_by most schema (client ∷ more) named (nat_lt most (length (client ∷ more))) refl e

few_named : (words : List Bytes) (named : Named) → Some named ≡ files_named words → length named.clients ≤ 63
few_named words named e = by_test (list_all may_name_a_file words) e
  where
    by_test : (b : Bool) → Some named ≡ (if b then files_behind 63 words else None) → length named.clients ≤ 63
    by_test true h = few_behind 63 words named h
    by_test false h = cc

-- so of what the code holds
pub few_clients : (words : List Bytes) (named : Option code.Named) → option_map named_of named ≡ files_named words → IfSome named (λ n. length n.clients ≤ 63)
few_clients words None e = tt
few_clients words (Some n) e = few_named words (named_of n) e

-- where they name none, it holds none
pub none_named : (words : List Bytes) (named : Option code.Named) → option_map named_of named ≡ files_named words → files_named words ≡ None → named ≡ None
none_named words None e f = refl
none_named words (Some n) e f = let h : Some (named_of n) ≡ None = e ∙ f in cc
