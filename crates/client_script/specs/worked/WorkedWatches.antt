-- Worked checks of watches: which replies are allowed, and near ones that aren't. Two users are
-- stored by the first commit, and a third by the second, under a name that begins as theirs.
use Rattle.std.specs.Prelude.{◌≡◌, ◌≤◌, ℕ, zero, suc, refl, [], ◌∷◌, ◌++◌, codes}
use Rattle.std.proofs.Common.{arith, lit<, lit≤}
use Rattle.mdb_datum.specs.Bytes.{Bytes}
use Rattle.mdb_datum.specs.Doc.{text}
use Rattle.mdb_schema.proofs.Membership.{Contains-first}
use Rattle.mdb_schema.specs.Answer.{Lookup, ask}
use Rattle.mdb_schema.specs.Guarded.{IsGuarded, IsUnchanged}
use Rattle.mdb_schema.specs.History.{Commit, History, state_at}
use Rattle.mdb_schema.specs.Watchable.{IsTouched}
use Rattle.mdb_schema.specs.declared.ask.Ask.TheVariants.{First}
use Rattle.mdb_schema.specs.worked.Apart.{apart, asked_code}
use Rattle.mdb_schema.specs.worked.Sample.{id_of_text, put_user, query, sample, user, users_table}
use Rattle.client_script.specs.Client.{Watch}

abbrev stored : Commit
stored = record {
  caller = 1;
  writes = put_user (user (codes "foo") 1) ∷ put_user (user (codes "football") 2) ∷ [];
}

abbrev added : Commit
added = record { caller = 1; writes = put_user (user (codes "fool") 3) ∷ [] }

abbrev history : History
history = stored ∷ added ∷ []

-- the first user of a name, asked after the first commit
abbrev watch_of : Bytes → Watch
watch_of name = record {
  name = codes "w";
  query = query First (codes "users") (codes "id") (text name ∷ []);
  number = 1;
}

-- a name with its end byte
abbrev key_of : Bytes → Bytes
key_of name = name ++ 0 ∷ []

abbrev at_key : Bytes → Lookup
at_key name = record { place = 1; index = id_of_text (codes "name"); key = key_of name }

-- the user that wasn't there is told to have come
pub missing_fires : IsTouched sample history (watch_of (codes "fool")).query 1 2
missing_fires = record {
  place = 3;
  named = refl;
  table = users_table;
  there = refl;
  at = at_key (codes "fool");
  looked = refl;
  before = 1;
  since = lit≤ tt;
  reached = lit< tt;
  commit = added;
  made = refl;
  key = key_of (codes "fool");
  touched = (
    user (codes "fool") 3,
    Contains-first (user (codes "fool") 3) [],
    Contains-first (key_of (codes "fool")) [],
  );
  own = λ found. refl;
}

-- and isn't told to be missing still: the commit is the client's own
pub missing_is_not_quiet : IsUnchanged sample history 1 (watch_of (codes "fool")).query 1 2 → ⊥
missing_is_not_quiet quiet =
    apart asked_code tt refl (quiet.own (lit< tt, added, refl, refl) 2 (lit≤ tt) (lit≤ tt))

too_low : (j : ℕ) → 1 ≤ j → j ≤ 2 → (P : ℕ → Type 0) → P 1 → P 2 → P j
too_low zero low high P one two = absurd (none low)
  where
    none : 1 ≤ 0 → ⊥
    none le = omega arith
too_low (suc zero) low high P one two = one
too_low (suc (suc zero)) low high P one two = two
too_low (suc (suc (suc j))) low high P one two = absurd (none high)
  where
    none : suc (suc (suc j)) ≤ 2 → ⊥
    none le = omega arith

-- a neighbour is told to be quiet
abbrev SameAnswer : ℕ → Type 0
SameAnswer j =
    let q = (watch_of (codes "foo")).query in
    ask sample (state_at sample history j) q ≡ ask sample (state_at sample history 1) q

neighbour_guarded : (n : ℕ) → n ≤ 2 → IsGuarded sample history (watch_of (codes "foo")).query 1 n
neighbour_guarded n few j low high = too_low j low (within j n few high) SameAnswer refl refl
  where
    within : (j n : ℕ) → n ≤ 2 → j ≤ n → j ≤ 2
    within j n few le = omega (arith, few, le)

pub neighbour_is_quiet : IsUnchanged sample history 1 (watch_of (codes "foo")).query 1 2
neighbour_is_quiet = record {
  before_last = neighbour_guarded 1 (lit≤ tt);
  own = λ own. neighbour_guarded 2 (lit≤ tt);
}
