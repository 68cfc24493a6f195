-- What the sessions of all clients come to, when each line is answered.
use Rattle.std.proofs.Common.{arith, ◌≡◌, refl, ap, sym, ◌∙◌, subst, ℕ, ◌+◌, ◌≤◌, List, ◌∷◌, [], ◌++◌, length, Result, Ok, Err, IfOk, OnOk}
use Rattle.client_script.specs.Legal.{Legal}
use Rattle.client_script.specs.Reply.{Reply}
use Rattle.client_script.specs.Session.{Sessions}
use Rattle.client_script.specs.declared.line.Line.{Line}
use Rattle.client_session.proofs.ManyClients.{TellAllMade, Told, all_answered_lines, all_legal, answered_is_told, as_many_after, sessions_from, items_are, left_are, lines_are, named_all, replies_told, sessions_made, tell}
use Rattle.client_session.specs.Clients.{AreLater, AreOpened, ArePassesLater, CanClose, callers_back, headed}
use Rattle.client_session.specs.Progress.{Progress}
use Rattle.mdb_datum.specs.Bytes.{Bytes}
use Rattle.mem_txn.specs.CellHistory.{CellHistory, Forest}
use Rattle.mem_txn.specs.Database.{AreNamed, Caller, Callers, Database, IsWhole, View, view_after}
use Rattle.memdb.specs.inner.LastState.{IsLast}
use Rattle.memdb.specs.inner.Sessions.{HaveAnswered}

-- ---- what each tells

tell_all : (db : Database) (opening : Forest) (k : ℕ) (scripts : List (List Line)) (ts : List Progress) → HaveAnswered (sessions_from db opening k scripts) ts → TellAllMade db.schema k ts
tell_all db opening k [] [] h = tt
tell_all db opening k [] (t ∷ ts) h = absurd h
tell_all db opening k (s ∷ ss) [] h = absurd h
tell_all db opening k (s ∷ ss) (t ∷ ts) h = (answered_is_told db opening k s t h.1 h.2 h.0, tell_all db opening (k + 1) ss ts h.3)

all_lines : (db : Database) (opening : Forest) (k : ℕ) (scripts : List (List Line)) (ts : List Progress) → HaveAnswered (sessions_from db opening k scripts) ts → all_answered_lines ts ≡ scripts
all_lines db opening k [] [] h = refl
all_lines db opening k [] (t ∷ ts) h = absurd h
all_lines db opening k (s ∷ ss) [] h = absurd h
all_lines db opening k (s ∷ ss) (t ∷ ts) h =
    let one = lines_are db opening k s t h.1 h.2 in
    let rest = all_lines db opening (k + 1) ss ts h.3 in
    λ i. let all : List (List Line) = one i ∷ rest i in all

-- ---- sessions that have all passes

module _ (db : Database) (scripts : List (List Line)) (left : Callers) (items : List Progress) (opened : AreOpened db scripts 0 left items) where
  none_left : left.passes ≡ []
  none_left = left_are db scripts 0 left items opened

  as_many_callers : db.callers ≡ length scripts
  as_many_callers = opened.callers ∙ omega arith

  -- the database can be closed behind their run
  pub can_close : (new : Database) (passes : Callers) (ts : List Progress) → new ≡ db → passes ≡ left → AreLater items ts → 1 ≤ length scripts → CanClose new passes ts
  can_close new passes ts same are later some = record {
    scripts = scripts;
    some = some;
    further = 0;
    left = left;
    sessions = items;
    opened = subst (λ (d : Database). AreOpened d scripts 0 left items) (sym same) opened;
    later = later;
    passes_later =
        subst (λ (c : Callers). ArePassesLater left.passes c.passes) (sym are)
        (subst (λ (ps : List Caller). ArePassesLater ps ps) (sym none_left) tt);
    made = ap (λ (c : Callers). c.made) are;
  }

  -- its whole history is that of the sessions' passes
  pub whole_of : (new : Database) (passes : Callers) (ts : List Progress) (J : CellHistory) → new ≡ db → passes ≡ left → IsWhole new (passes.passes ++ callers_back ts) J → IsWhole db (callers_back ts) J
  whole_of new passes ts J same are whole =
      let none : passes.passes ≡ [] = ap (λ (c : Callers). c.passes) are ∙ none_left in
      subst (λ (d : Database). IsWhole d (callers_back ts) J) same
      (subst (λ (ps : List Caller). IsWhole new (ps ++ callers_back ts) J) none whole)

  module _ (ts : List Progress) (later : AreLater items ts) (J : CellHistory) (whole : IsWhole db (callers_back ts) J) where
    answered_from : HaveAnswered items ts → HaveAnswered (sessions_from db opened.opening 1 scripts) ts
    answered_from = subst (λ (ss : List Progress). HaveAnswered ss ts) (items_are db scripts 0 left items opened)

    abbrev replies_by : HaveAnswered items ts → List (List Reply)
    replies_by answered = replies_told db.schema 1 ts (tell_all db opened.opening 1 scripts ts (answered_from answered))

    told_by : (answered : HaveAnswered items ts) → Told db.schema J.commits 1 ts (replies_by answered)
    told_by answered = tell db.schema J.commits 1 ts (tell_all db opened.opening 1 scripts ts (answered_from answered)) (sessions_made db scripts 0 opened.callers [] ts J whole)

    lines_by : HaveAnswered items ts → all_answered_lines ts ≡ scripts
    lines_by answered = all_lines db opened.opening 1 scripts ts (answered_from answered)

    legal : (names : List Bytes) (out : Bytes) → length names ≡ length scripts → HaveAnswered items ts → out ≡ headed 1 names ts → Legal db.schema names scripts out
    legal names out named answered is = all_legal db scripts ts J as_many_callers whole (as_many_after db scripts 0 left items opened ts later) (lines_by answered) (replies_by answered) (told_by answered) names out named is

    last : (view : View) → HaveAnswered items ts → view ≡ view_after db.schema J.commits → IsLast db.schema scripts view
    last view answered is =
        let told = told_by answered in
        let all : length scripts + 0 ≡ length scripts = omega arith in
        record {
          history = J.commits;
          named = subst (λ (n : ℕ). AreNamed n J.commits) all (named_all db scripts 0 opened.callers [] ts J whole);
          replies = replies_by answered;
          sessions = subst (λ (ss : List (List Line)). Sessions db.schema J.commits 1 ss (replies_by answered)) (lines_by answered) told.sessions;
          own = told.own;
          view = is;
        }

    pub ok_last : {A E : Type 0} (r : Result A E) (view : View) → OnOk r (HaveAnswered items ts) → view ≡ view_after db.schema J.commits → OnOk r (IsLast db.schema scripts view)
    ok_last (Ok a) view answered is = last view answered is
    ok_last (Err e) view answered is = tt

    pub ok_legal : {A E : Type 0} (text_of : A → Bytes) (r : Result A E) (names : List Bytes) → length names ≡ length scripts → IfOk r (λ _. HaveAnswered items ts) → IfOk r (λ out. text_of out ≡ headed 1 names ts)
        → IfOk r (λ out. Legal db.schema names scripts (text_of out))
    ok_legal text_of (Ok out) names named answered is = legal names (text_of out) named answered is
    ok_legal text_of (Err e) names named answered is = tt
