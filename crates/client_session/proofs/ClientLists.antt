-- Lists of sessions: their beginning, and their end.
use Rattle.std.proofs.Common.{arith, ap, refl, ◌∙◌, ◌≡◌, subst, sym, ℕ, ◌+◌, ◌≤◌, drop, length, List, [], ◌∷◌, ◌++◌, None, slice_get}
use Rattle.std.proofs.lemmas.List.{append-nil, append_assoc, length-append}
use Rattle.client_script.specs.declared.line.Line.{Line}
use Rattle.client_session.proofs.OpenTurns.{later_self}
use Rattle.client_session.specs.Clients.{AreLater, new_sessions, callers_back}
use Rattle.client_session.specs.Progress.{Progress}
use Rattle.mem_txn.specs.Database.{AreOf, Caller, Callers, Database, IsOf}

-- ---- sessions that are still new are as before

later_selves : (ss : List Progress) → AreLater ss ss
later_selves [] = tt
later_selves (s ∷ ss) = (later_self s.caller, later_selves ss)

pub later_same : (ss ts : List Progress) → ts ≡ ss → AreLater ss ts
later_same ss ts same = subst (AreLater ss) (sym same) (later_selves ss)

-- ---- the beginning: no script is left

no_more : {A : Type 0} (xs : List A) → None ≡ slice_get xs 0 → xs ≡ []
no_more [] e = refl
no_more (x ∷ xs) e = cc

no_sessions : (ps : List Caller) (ss : List (List Line)) → ss ≡ [] → new_sessions ps ss ≡ []
no_sessions [] ss none = refl
no_sessions (p ∷ ps) ss none = ap (new_sessions (p ∷ ps)) none

pub all_sessions : (items whole : List Progress) (ps : List Caller) (ss : List (List Line)) → None ≡ slice_get ss 0 → items ++ new_sessions ps ss ≡ whole → items ≡ whole
all_sessions items whole ps ss last so_far = sym (append-nil items) ∙ ap (λ (xs : List Progress). items ++ xs) (sym (no_sessions ps ss (no_more ss last))) ∙ so_far

-- the passes that are left then
pub rest_left : (rest : Callers) (ss : List (List Line)) (made : ℕ) (left : List Caller) → None ≡ slice_get ss 0 → drop (length ss) rest.passes ≡ left → rest.made ≡ made → rest ≡ record { passes = left; made = made }
rest_left rest ss made left last are is =
    let none : drop (length ss) rest.passes ≡ rest.passes = ap (λ (xs : List (List Line)). drop (length xs) rest.passes) (no_more ss last) in
    let same : rest.passes ≡ left = sym none ∙ are in
    λ i. let r : Callers = record { passes = same i; made = is i } in r

-- ---- the end: the last session gives its pass back

last_back : (ts : List Progress) (s : Progress) → callers_back (ts ++ s ∷ []) ≡ s.caller ∷ callers_back ts
last_back [] s = refl
last_back (t ∷ ts) s = ap (λ (ps : List Caller). ps ++ t.caller ∷ []) (last_back ts s)

module _ (items rest : List Progress) (s : Progress) (is : items ≡ rest ++ s ∷ []) where
  back_is : callers_back items ≡ s.caller ∷ callers_back rest
  back_is = ap callers_back is ∙ last_back rest s

  pub own_last : (db : Database) → AreOf db (callers_back items) → IsOf db s.caller × AreOf db (callers_back rest)
  own_last db own = subst (AreOf db) back_is own

  module _ (before given : Callers) (p : Caller) (same : p ≡ s.caller) (given_is : given ≡ record before { passes = before.passes ++ p ∷ [] }) where
    pub one_back : (all : List Caller) → before.passes ++ callers_back items ≡ all → given.passes ++ callers_back rest ≡ all
    one_back all so_far =
        ap (λ (c : Callers). c.passes ++ callers_back rest) given_is
        ∙ append_assoc before.passes (p ∷ []) (callers_back rest)
        ∙ ap (λ (q : Caller). before.passes ++ q ∷ callers_back rest) same
        ∙ sym (ap (λ (ps : List Caller). before.passes ++ ps) back_is)
        ∙ so_far

    pub made_same : given.made ≡ before.made
    made_same = ap (λ (c : Callers). c.made) given_is

    pub room_left : length before.passes + length items ≤ before.made → length given.passes + length rest ≤ given.made
    room_left room =
        let long : length given.passes ≡ length (before.passes ++ p ∷ []) = ap (λ (c : Callers). length c.passes) given_is in
        let one = length-append before.passes (p ∷ []) in
        let some : length items ≡ length (rest ++ s ∷ []) = ap length is in
        let more = length-append rest (s ∷ []) in
        omega (arith, long, one, some, more, room, made_same)
