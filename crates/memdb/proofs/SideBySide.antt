-- Lists of sessions that are carried out in two parts.
use Rattle.std.proofs.Common.{◌≡◌, subst, sym, List, [], ◌∷◌, ◌++◌, Result, Ok, Err, OnOk}
use Rattle.client_session.specs.Clients.{AreLater, AreReady}
use Rattle.client_session.specs.Progress.{Progress}
use Rattle.mem_txn.specs.Database.{Database}
use Rattle.memdb.specs.inner.Sessions.{HaveAnswered}

-- a list of sessions that is ready, in two parts
pub ready_parts : (db : Database) (ss ts : List Progress) → AreReady db (ss ++ ts) → AreReady db ss × AreReady db ts
ready_parts db [] ts ready = (tt, ready)
ready_parts db (s ∷ ss) ts ready = let rest = ready_parts db ss ts ready.1 in ((ready.0, rest.0), rest.1)

-- what each part has answered the whole has
pub answered_both : (ss ts us vs : List Progress) → HaveAnswered ss us → HaveAnswered ts vs → HaveAnswered (ss ++ ts) (us ++ vs)
answered_both [] ts [] vs a b = b
answered_both [] ts (u ∷ us) vs a b = absurd a
answered_both (s ∷ ss) ts [] vs a b = absurd a
answered_both (s ∷ ss) ts (u ∷ us) vs a b = (a.0, a.1, a.2, answered_both ss ts us vs a.3 b)

later_both : (ss ts us vs : List Progress) → AreLater ss us → AreLater ts vs → AreLater (ss ++ ts) (us ++ vs)
later_both [] ts [] vs a b = b
later_both [] ts (u ∷ us) vs a b = absurd a
later_both (s ∷ ss) ts [] vs a b = absurd a
later_both (s ∷ ss) ts (u ∷ us) vs a b = (a.0, later_both ss ts us vs a.1 b)

pub ready_in : (db : Database) (all ss ts : List Progress) → all ≡ ss ++ ts → AreReady db all → AreReady db ss × AreReady db ts
ready_in db all ss ts is ready = ready_parts db ss ts (subst (AreReady db) is ready)

pub later_in : (all ss ts us vs : List Progress) → all ≡ ss ++ ts → AreLater ss us → AreLater ts vs → AreLater all (us ++ vs)
later_in all ss ts us vs is a b = subst (λ (xs : List Progress). AreLater xs (us ++ vs)) (sym is) (later_both ss ts us vs a b)

pub answered_in : {E : Type 0} (r : Result (Unit {0}) E) (all ss ts us vs : List Progress) → all ≡ ss ++ ts → OnOk r (HaveAnswered ss us) → OnOk r (HaveAnswered ts vs) → OnOk r (HaveAnswered all (us ++ vs))
answered_in (Ok x) all ss ts us vs is a b = subst (λ (xs : List Progress). HaveAnswered xs (us ++ vs)) (sym is) (answered_both ss ts us vs a b)
answered_in (Err e) all ss ts us vs is a b = tt
