-- How the logic stores a question and a list of rows.
use Rattle.std.specs.Prelude.{◌≡◌, ℕ, zero, suc, List, refl}
use Rattle.std.specs.Coded.{Coded, code_by, coded×, coded_ℕ, coded_list}
use Rattle.mdb_datum.specs.Doc.{Doc}
use Rattle.mdb_datum.specs.Row.{Fields}
use Rattle.mdb_datum.specs.Codes.{doc_code, fields_code}
use Rattle.mdb_encode.specs.Bytes.{Bytes}
use Rattle.mdb_schema.specs.Query.{Query}
use Rattle.mdb_schema.specs.declared.ask.Ask.{Ask}
use Rattle.mdb_schema.specs.declared.ask.Ask.TheVariants.{First, Last, Get, GetReverse, Lower, ReverseLower, Longest}

abbrev pub ask_number : Ask → ℕ
ask_number First = 0
ask_number Last = 1
ask_number Get = 2
ask_number GetReverse = 3
ask_number Lower = 4
ask_number ReverseLower = 5
ask_number Longest = 6

abbrev pub ask_of : ℕ → Ask
ask_of zero = First
ask_of (suc zero) = Last
ask_of (suc (suc zero)) = Get
ask_of (suc (suc (suc zero))) = GetReverse
ask_of (suc (suc (suc (suc zero)))) = Lower
ask_of (suc (suc (suc (suc (suc zero))))) = ReverseLower
ask_of (suc (suc (suc (suc (suc (suc n)))))) = Longest

pub ask_back : (a : Ask) → ask_of (ask_number a) ≡ a
ask_back First = refl
ask_back Last = refl
ask_back Get = refl
ask_back GetReverse = refl
ask_back Lower = refl
ask_back ReverseLower = refl
ask_back Longest = refl

abbrev pub ask_code : Coded Ask
ask_code = code_by ℕ coded_ℕ ask_number ask_of ask_back

abbrev pub names_code : Coded (Bytes × Bytes)
names_code = coded× (coded_list coded_ℕ) (coded_list coded_ℕ)

abbrev pub query_code : Coded Query
query_code = code_by (Ask × ((Bytes × Bytes) × List Doc))
    (coded× ask_code (coded× names_code (coded_list doc_code)))
    (λ q. (q.ask, ((q.table, q.index), q.args)))
    (λ p. record { ask = p.0; table = p.1.0.0; index = p.1.0.1; args = p.1.1 }) (λ _. refl)

abbrev pub rows_code : Coded (List Fields)
rows_code = coded_list fields_code
