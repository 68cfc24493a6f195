-- Worked guards: the answers that a commit changes, and those that it leaves.
use Rattle.std.specs.Prelude.{◌≡◌, ◌≢◌, ℕ, List, [], ◌∷◌, codes, refl}
use Rattle.mdb_datum.specs.Doc.{text}
use Rattle.mdb_encode.specs.Bytes.{Bytes}
use Rattle.mdb_schema.specs.Answer.{Asked, ask}
use Rattle.mdb_schema.specs.History.{Commit, History, state_at}
use Rattle.mdb_schema.specs.Query.{Query}
use Rattle.mdb_schema.specs.Touched.{rows_written}
use Rattle.mdb_schema.specs.Write.{Write}
use Rattle.mdb_schema.specs.declared.answer.Answer.{Answer}
use Rattle.mdb_schema.specs.declared.ask.Ask.TheVariants.{First}
use Rattle.mdb_schema.specs.worked.Apart.{apart, asked_code}
use Rattle.mdb_schema.specs.worked.Sample.{only_name, put_user, query, remove_user, sample, user}

abbrev commit : List Write → Commit
commit writes = record { caller = 1; writes = writes }

-- commit 1 stores `foo` and `football`, commit 2 stores `fool`
abbrev three_words : History
three_words =
    commit (put_user (user (codes "foo") 1) ∷ put_user (user (codes "football") 2) ∷ [])
    ∷ commit (put_user (user (codes "fool") 3) ∷ []) ∷ []

-- the first user of a name
abbrev first_of : Bytes → Query
first_of name = query First (codes "users") (codes "id") (text name ∷ [])

abbrev told : Bytes → ℕ → Asked Answer
told name n = ask sample (state_at sample three_words n) (first_of name)

-- what `foo` is answered after commit 1, it is answered after commit 2
pub stored_is_guarded : told (codes "foo") 2 ≡ told (codes "foo") 1
stored_is_guarded = refl

-- what the missing key is answered after commit 1 isn't guarded, since commit 2 stores it
pub missing_is_not_guarded : told (codes "fool") 2 ≢ told (codes "fool") 1
missing_is_not_guarded = apart asked_code tt refl

-- commit 2 touches the full key of the row that it puts in, and no row was taken out
pub fool_is_touched : rows_written sample (state_at sample three_words 1) (put_user (user (codes "fool") 3) ∷ []) (codes "users") ≡ user (codes "fool") 3 ∷ []
fool_is_touched = refl

-- a put in the place of a row touches the full keys of both, and a removal those of the row that
-- was there
pub both_are_touched : rows_written sample (state_at sample three_words 2) (put_user (user (codes "foo") 4) ∷ remove_user (only_name (codes "foo")) ∷ []) (codes "users")
    ≡ user (codes "foo") 4 ∷ user (codes "foo") 1 ∷ user (codes "foo") 4 ∷ []
both_are_touched = refl

-- in another table nothing is touched
pub no_note_is_touched : rows_written sample (state_at sample three_words 1) (put_user (user (codes "fool") 3) ∷ []) (codes "notes") ≡ []
no_note_is_touched = refl
