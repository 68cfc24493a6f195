-- What the steps of the loop leave, and what its end says of the sessions and of their output.
use Rattle.std.proofs.Common.{arith, ◌≡◌, refl, ap, sym, ◌∙◌, subst, inl, inr, ℕ, suc, ◌+◌, ◌<◌, ◌≤◌, Bool, true, List, ◌∷◌, [], ◌++◌, length, replicate, Option, Some, None, Result, Ok, Err, IfOk, slice_get}
use Rattle.std.specs.Prelude.{◌&&◌, IsTrue, option_map}
use Rattle.std.specs.List.{list_all}
use Rattle.client_script.specs.Stuck.{Stop, stop_or}
use Rattle.client_script.specs.declared.line.Line.{Line}
use Rattle.client_session.proofs.ManyClients.{as_many_after, sessions_from, items_are, later_from, later_long, left_are}
use Rattle.client_session.proofs.OneMoreLine.{later_again}
use Rattle.client_session.proofs.OpenTurns.{later_self}
use Rattle.client_session.specs.Answered.{IsLater}
use Rattle.client_session.specs.Clients.{AreLater, AreOpened, ArePassesLater, CanClose, callers_back, headed}
use Rattle.client_session.specs.Progress.{Progress}
use Rattle.mdb_datum.specs.Bytes.{Bytes}
use Rattle.mem_txn.specs.CellHistory.{AreComplete, CellHistory, Forest, WatchesHold}
use Rattle.mem_txn.specs.Checked.{HeldLonger}
use Rattle.mem_txn.specs.Database.{Caller, Callers, Database, IsOf, IsWhole, cells_seen, new_pass}
use Rattle.session_loop.proofs.StuckOutput.{AreNumbered, legal, stuck}
use Rattle.session_loop.specs.declared.stop.Stop as code
use Rattle.session_loop.specs.declared.task.State.{State}
use Rattle.session_loop.specs.declared.task.State.TheVariants as state
use Rattle.session_loop.specs.declared.task.Task.{Task}
use Rattle.session_loop.specs.inner.Endings.{AreFoundAtRest, HasLoopPass, HaveStopped, IsDoneOrStuck, IsIdle, IsOutputOf, IsWritten, KeepsPass}
use Rattle.session_loop.specs.inner.Halted.{HasHalted, HaveHalted, first_parked, stop_of}
use Rattle.session_loop.specs.inner.Rest.{AreDone, AreRunning, FindsRest, first_left}
use Rattle.session_loop.specs.inner.Tasks.{AreInLoop, AreUnspent, StandsAt, has_ended, is_ended, new_task, scripts_of, states_of}

-- ---- passes and sessions that are later

pub all_later_twice : (ss ts us : List Progress) → AreLater ss ts → AreLater ts us → AreLater ss us
all_later_twice [] [] [] a b = tt
all_later_twice [] [] (u ∷ us) a b = absurd b
all_later_twice [] (t ∷ ts) us a b = absurd a
all_later_twice (s ∷ ss) [] us a b = absurd a
all_later_twice (s ∷ ss) (t ∷ ts) [] a b = absurd b
all_later_twice (s ∷ ss) (t ∷ ts) (u ∷ us) a b = (later_again s.caller t.caller u.caller a.0 b.0, all_later_twice ss ts us a.1 b.1)

-- ---- the loop's pass

same_pass : (ps : List Caller) (p q : Caller) → ps ≡ p ∷ [] → ps ≡ q ∷ [] → p ≡ q
same_pass ps p q a b = let h : p ∷ [] ≡ q ∷ [] = sym a ∙ b in cc

pub kept_self : (db : Database) (passes : Callers) → HasLoopPass db passes → KeepsPass passes passes
kept_self db passes h = record {
  before = h.pass;
  after = h.pass;
  was = h.alone;
  is = h.alone;
  idle = record { later = later_self h.pass; own = refl };
  made = refl;
}

pub kept_twice : (a b c : Callers) → KeepsPass a b → KeepsPass b c → KeepsPass a c
kept_twice a b c one two =
    let same : two.before ≡ one.after = same_pass b.passes two.before one.after two.was one.is in
    let idle : IsIdle one.after two.after = subst (λ (p : Caller). IsIdle p two.after) same two.idle in
    record {
      before = one.before;
      after = two.after;
      was = one.was;
      is = two.is;
      idle = record {
        later = later_again one.before one.after two.after one.idle.later idle.later;
        own = idle.own ∙ one.idle.own;
      };
      made = two.made ∙ one.made;
    }

pub kept_here : (db now : Database) (a b : Callers) → now ≡ db → HasLoopPass db a → KeepsPass a b → HasLoopPass now b
kept_here db now a b is h k =
    let same : k.before ≡ h.pass = same_pass a.passes k.before h.pass k.was h.alone in
    let later : IsLater h.pass k.after = subst (λ (p : Caller). IsLater p k.after) same k.idle.later in
    let own : IsOf db k.after = (later.database ∙ h.own.0, later.schema ∙ h.own.1, later.book ∙ h.own.2) in
    record {
      pass = k.after;
      alone = k.is;
      own = subst (λ (d : Database). IsOf d k.after) (sym is) own;
      room = subst (λ (n : ℕ). 0 < n) (sym k.made) h.room;
    }

-- it is still there in the same database
pub still_here : (db now : Database) (a b : Callers) → now ≡ db → b ≡ a → HasLoopPass db a → HasLoopPass now b
still_here db now a b is are h =
    subst (λ (d : Database). HasLoopPass d b) (sym is)
    (subst (λ (c : Callers). HasLoopPass db c) (sym are) h)

-- ---- the loop's pass is taken out, and given back

module _ (db : Database) (was left : Callers) (p : Caller) (is : was ≡ record left { passes = p ∷ left.passes }) (h : HasLoopPass db was) where
  both : h.pass ∷ [] ≡ p ∷ left.passes
  both = sym h.alone ∙ ap (λ (c : Callers). c.passes) is

  first : h.pass ≡ p
  first = let e = both in cc

  none_else : [] ≡ left.passes
  none_else = let e = both in cc

  same_made : was.made ≡ left.made
  same_made = ap (λ (c : Callers). c.made) is

  pub taken_own : IsOf db p
  taken_own = subst (IsOf db) first h.own

  pub taken_room : length left.passes < left.made
  taken_room =
      let long : 0 ≡ length left.passes = ap length none_else in
      let room = h.room in
      omega (arith, long, room, same_made)

  module _ (q : Caller) (idle : IsIdle p q) (new : Callers) (given : new ≡ record left { passes = left.passes ++ q ∷ [] }) where
    pub given_alone : new.passes ≡ q ∷ []
    given_alone = ap (λ (c : Callers). c.passes) given ∙ ap (λ (ps : List Caller). ps ++ q ∷ []) (sym none_else)

    pub given_kept : KeepsPass was new
    given_kept = record {
      before = p;
      after = q;
      was = ap (λ (c : Callers). c.passes) is ∙ ap (λ (ps : List Caller). p ∷ ps) (sym none_else);
      is = given_alone;
      idle = idle;
      made = ap (λ (c : Callers). c.made) given ∙ sym same_made;
    }

-- what it has found
pub found_here : {E : Type 0} (r : Result Bool E) (q : Caller) (ss now : List Progress) (passes : Callers) → now ≡ ss → passes.passes ≡ q ∷ [] → AreComplete (cells_seen q) → WatchesHold (cells_seen q) → HeldLonger q → IfOk r (λ b. IsTrue b → FindsRest q now) → IfOk r (λ b. IsTrue b → AreFoundAtRest ss passes)
found_here (Err e) q ss now passes same alone complete holds longer found = tt
found_here (Ok b) q ss now passes same alone complete holds longer found = λ stuck. record {
  pass = q;
  alone = alone;
  rest = subst (FindsRest q) same (found stuck);
  complete = complete;
  holds = holds;
  longer = longer;
}

-- ---- the loop's beginning

begin_each : (db : Database) (ss : List Progress) → AreUnspent db ss → AreInLoop db ss (replicate (length ss) new_task)
begin_each db [] u = tt
begin_each db (s ∷ ss) u = (record { unspent = u.0; stands = tt; noted = tt }, begin_each db ss u.1)

pub begin_loop : (db : Database) (ss : List Progress) (count : ℕ) (tasks : List Task) → AreUnspent db ss → count ≡ length ss → tasks ≡ replicate count new_task → AreInLoop db ss tasks
begin_loop db ss count tasks u long are =
    subst (AreInLoop db ss) (sym are)
    (subst (λ (n : ℕ). AreInLoop db ss (replicate n new_task)) (sym long) (begin_each db ss u))

pub running_in : (db : Database) (ss : List Progress) (ts : List Task) → AreInLoop db ss ts → AreRunning (scripts_of ss) ss
running_in db [] ts i = tt
running_in db (s ∷ ss) [] i = absurd i
running_in db (s ∷ ss) (t ∷ ts) i = (i.0.unspent.running, running_in db ss ts i.1)

pub as_many_tasks : (db : Database) (ss : List Progress) (ts : List Task) → AreInLoop db ss ts → length ts ≡ length ss
as_many_tasks db [] [] i = refl
as_many_tasks db [] (t ∷ ts) i = absurd i
as_many_tasks db (s ∷ ss) [] i = absurd i
as_many_tasks db (s ∷ ss) (t ∷ ts) i = ap suc (as_many_tasks db ss ts i.1)

-- few sessions stay few, and have few tasks
pub few_later : (ss ts : List Progress) → AreLater ss ts → length ss ≤ 64 → length ts ≤ 64
few_later ss ts later few = let long = later_long ss ts later in omega (arith, long, few)

pub few_tasks : (db : Database) (ss : List Progress) (ts : List Task) → AreInLoop db ss ts → length ss ≤ 64 → length ts ≤ 64
few_tasks db ss ts i few = let long = as_many_tasks db ss ts i in omega (arith, long, few)

-- ---- a look behind a round leaves the sessions as they were

pub later_then_same : (ss ts us vs : List Progress) → AreLater ss ts → AreLater ts us → vs ≡ us → AreLater ss vs
later_then_same ss ts us vs a b same = subst (AreLater ss) (sym same) (all_later_twice ss ts us a b)

pub still_inside : (db now : Database) (ss us : List Progress) (ts : List Task) → now ≡ db → us ≡ ss → AreInLoop db ss ts → AreInLoop now us ts
still_inside db now ss us ts is same i =
    subst (λ (d : Database). AreInLoop d us ts) (sym is)
    (subst (λ (xs : List Progress). AreInLoop db xs ts) (sym same) i)

pub still_running : (db : Database) (ss us : List Progress) (ts : List Task) → AreInLoop db ss ts → us ≡ ss → AreRunning (scripts_of us) us
still_running db ss us ts i same = running_in db us ts (subst (λ (xs : List Progress). AreInLoop db xs ts) (sym same) i)

-- ---- the loop's end

-- all sessions have ended
pub done_in : (db : Database) (ss : List Progress) (ts : List Task) → AreInLoop db ss ts → list_all has_ended ts ≡ true → AreDone ss
done_in db [] ts i all = tt
done_in db (s ∷ ss) [] i all = absurd i
done_in db (s ∷ ss) (t ∷ ts) i all = by_state t.state i.0.stands all (done_in db ss ts i.1)
  where
    by_state : (x : State) → StandsAt s x → (is_ended x && list_all has_ended ts) ≡ true → (list_all has_ended ts ≡ true → AreDone ss) → AreDone (s ∷ ss)
    by_state state.Ready stands e rest = cc
    by_state (state.Parked line) stands e rest = cc
    by_state state.Ended stands e rest = (stands.all, (stands.told.replies, stands.told.told), rest e)

-- none is left
past_end : {A : Type 0} (xs : List A) → slice_get xs (length xs) ≡ None
past_end [] = refl
past_end (x ∷ xs) = past_end xs

-- all have halted: the first that is parked is the first that has a line left
left_in : (db : Database) (k : ℕ) (ss : List Progress) (ts : List Task) → AreInLoop db ss ts → HaveHalted (states_of ts) → first_left k ss ≡ first_parked k (states_of ts)
left_in db k [] [] i h = refl
left_in db k [] (t ∷ ts) i h = absurd i
left_in db k (s ∷ ss) [] i h = absurd i
left_in db k (s ∷ ss) (t ∷ ts) i h = by_state t.state i.0.stands h.0 (left_in db (k + 1) ss ts i.1 h.1)
  where
    here : Option Line → Option Stop
    here line = stop_or (first_left (k + 1) ss) k line

    parked : ℕ → Option Stop
    parked line = Some (record { client = k; line = line })

    by_state : (x : State) → StandsAt s x → HasHalted x → first_left (k + 1) ss ≡ first_parked (k + 1) (states_of ts) → here (slice_get s.script s.answered) ≡ first_parked k (x ∷ states_of ts)
    by_state state.Ready stands halted rest = absurd halted
    by_state (state.Parked line) stands halted rest = ap here stands.1 ∙ ap parked (sym stands.2)
    by_state state.Ended stands halted rest =
        let none : slice_get s.script s.answered ≡ None = ap (slice_get s.script) stands.all ∙ past_end s.script in
        ap here none ∙ rest

-- where none is parked, all have ended
none_parked : (db : Database) (k : ℕ) (ss : List Progress) (ts : List Task) → AreInLoop db ss ts → HaveHalted (states_of ts) → first_parked k (states_of ts) ≡ None → AreDone ss
none_parked db k [] ts i h e = tt
none_parked db k (s ∷ ss) [] i h e = absurd i
none_parked db k (s ∷ ss) (t ∷ ts) i h e = by_state t.state i.0.stands h.0 e (none_parked db (k + 1) ss ts i.1 h.1)
  where
    by_state : (x : State) → StandsAt s x → HasHalted x → first_parked k (x ∷ states_of ts) ≡ None → (first_parked (k + 1) (states_of ts) ≡ None → AreDone ss) → AreDone (s ∷ ss)
    by_state state.Ready stands halted e rest = absurd halted
    by_state (state.Parked line) stands halted e rest = cc
    by_state state.Ended stands halted e rest = (stands.all, (stands.told.replies, stands.told.told), rest e)

stopped_at : (db : Database) (ss : List Progress) (ts : List Task) (passes : Callers) (r : Option code.Stop) → AreInLoop db ss ts → HaveHalted (states_of ts) → AreFoundAtRest ss passes → option_map stop_of r ≡ first_parked 1 (states_of ts) → HaveStopped ss passes r
stopped_at db ss ts passes None i h rest e = none_parked db 1 ss ts i h (sym e)
stopped_at db ss ts passes (Some stop) i h rest e = (rest, left_in db 1 ss ts i h ∙ sym e)

-- the same behind a look that has left the sessions as they were
pub stopped_after : (db : Database) (ss now : List Progress) (ts : List Task) (passes : Callers) (r : Option code.Stop) → now ≡ ss → AreInLoop db ss ts → HaveHalted (states_of ts) → AreFoundAtRest now passes → option_map stop_of r ≡ first_parked 1 (states_of ts) → HaveStopped now passes r
stopped_after db ss now ts passes r same i h rest e =
    stopped_at db now ts passes r (subst (λ (xs : List Progress). AreInLoop db xs ts) (sym same) i) h rest e

-- ---- sessions of a new database, with one pass more

unspent_from : (db : Database) (opening : Forest) (k : ℕ) (scripts : List (List Line)) → AreUnspent db (sessions_from db opening k scripts)
unspent_from db opening k [] = tt
unspent_from db opening k (s ∷ ss) = (record { own = (refl, refl, refl); running = record { same = refl; found = refl; counted = refl } }, unspent_from db opening (k + 1) ss)

scripts_from : (db : Database) (opening : Forest) (k : ℕ) (scripts : List (List Line)) → scripts_of (sessions_from db opening k scripts) ≡ scripts
scripts_from db opening k [] = refl
scripts_from db opening k (s ∷ ss) = ap (λ (ls : List (List Line)). s ∷ ls) (scripts_from db opening (k + 1) ss)

numbered_from : (db : Database) (opening : Forest) (k : ℕ) (scripts : List (List Line)) (ts : List Progress) → AreLater (sessions_from db opening k scripts) ts → AreNumbered db.schema k ts
numbered_from db opening k [] [] l = tt
numbered_from db opening k [] (t ∷ ts) l = absurd l
numbered_from db opening k (s ∷ ss) [] l = absurd l
numbered_from db opening k (s ∷ ss) (t ∷ ts) l = (l.0.schema, l.0.number, numbered_from db opening (k + 1) ss ts l.1)

module _ (db : Database) (scripts : List (List Line)) (left : Callers) (items : List Progress) (opened : AreOpened db scripts 1 left items) where
  left_alone : left.passes ≡ new_pass db opened.opening (1 + length scripts) ∷ []
  left_alone = left_are db scripts 1 left items opened

  pub loop_pass : HasLoopPass db left
  loop_pass =
      let made : left.made ≡ length scripts + 1 = ap (λ (c : Callers). c.made) opened.rest ∙ ap (λ (c : Callers). c.made) opened.are_all in
      record {
        pass = new_pass db opened.opening (1 + length scripts);
        alone = left_alone;
        own = (refl, refl, refl);
        room = omega (arith, made);
      }

  pub all_unspent : AreUnspent db items
  all_unspent = subst (AreUnspent db) (sym (items_are db scripts 1 left items opened)) (unspent_from db opened.opening 1 scripts)

  scripts_are : scripts_of items ≡ scripts
  scripts_are = ap scripts_of (items_are db scripts 1 left items opened) ∙ scripts_from db opened.opening 1 scripts

  -- behind the loop
  module _ (new : Database) (passes : Callers) (ts : List Progress) (same : new ≡ db) (kept : KeepsPass left passes) (later : AreLater items ts) where
    pub can_close : 1 ≤ length scripts → CanClose new passes ts
    can_close some = record {
      scripts = scripts;
      some = some;
      further = 1;
      left = left;
      sessions = items;
      opened = subst (λ (d : Database). AreOpened d scripts 1 left items) (sym same) opened;
      later = later;
      passes_later =
          subst (λ (ps : List Caller). ArePassesLater ps passes.passes) (sym kept.was)
          (subst (ArePassesLater (kept.before ∷ [])) (sym kept.is) (kept.idle.later, tt));
      made = kept.made;
    }

    whole_of : (J : CellHistory) → IsWhole new (passes.passes ++ callers_back ts) J → IsWhole db (kept.after ∷ callers_back ts) J
    whole_of J whole =
        subst (λ (d : Database). IsWhole d (kept.after ∷ callers_back ts) J) same
        (subst (λ (ps : List Caller). IsWhole new (ps ++ callers_back ts) J) kept.is whole)

    was_new : kept.before ≡ new_pass db opened.opening (1 + length scripts)
    was_new = same_pass left.passes kept.before (new_pass db opened.opening (1 + length scripts)) kept.was left_alone

    number : kept.after.number ≡ length scripts + 1
    number =
        let one : 1 + length scripts ≡ length scripts + 1 = omega arith in
        kept.idle.later.number ∙ ap (λ (p : Caller). p.number) was_new ∙ one

    none : kept.after.own ≡ []
    none = kept.idle.own ∙ ap (λ (p : Caller). p.own) was_new

    numbered : AreNumbered db.schema 1 ts
    numbered = numbered_from db opened.opening 1 scripts ts (later_from db scripts 1 left items opened ts later)

    many : length ts ≡ length scripts
    many = as_many_after db scripts 1 left items opened ts later

    module _ (J : CellHistory) (whole : IsWhole new (passes.passes ++ callers_back ts) J) (scripts_kept : scripts_of ts ≡ scripts_of items) (names : List Bytes) (named : length names ≡ length scripts) where
      running : AreRunning (scripts_of ts) ts → AreRunning scripts ts
      running r = subst (λ (ss : List (List Line)). AreRunning ss ts) (scripts_kept ∙ scripts_are) r

      by_stop : (status : ℕ) (text : Bytes) (stop : Option code.Stop) → AreRunning scripts ts → HaveStopped ts passes stop → IsWritten (headed 1 names ts) stop status text → IsDoneOrStuck db.schema names scripts status text
      by_stop status text None runs all is =
          inl (is.0, legal db scripts kept.after ts J opened.callers (whole_of J whole) number none runs numbered many names text named all is.1)
      by_stop status text (Some stop) runs at is =
          let found = at.0 in
          let its : found.pass ≡ kept.after = same_pass passes.passes found.pass kept.after found.alone kept.is in
          let rest : FindsRest kept.after ts = subst (λ (p : Caller). FindsRest p ts) its found.rest in
          let complete : AreComplete (cells_seen kept.after) = subst (λ (p : Caller). AreComplete (cells_seen p)) its found.complete in
          let holds : WatchesHold (cells_seen kept.after) = subst (λ (p : Caller). WatchesHold (cells_seen p)) its found.holds in
          let longer : HeldLonger kept.after = subst HeldLonger its found.longer in
          inr (is.0, stuck db scripts kept.after ts J opened.callers (whole_of J whole) number none runs numbered many names text named rest complete holds longer (stop_of stop) at.1 is.1)

      ends : (status : ℕ) (text : Bytes) → IsOutputOf names ts passes status text → IsDoneOrStuck db.schema names scripts status text
      ends status text out = by_stop status text out.stop (running out.running) out.stopped out.written

      pub ok_ends : {A E : Type 0} (status_of : A → ℕ) (text_of : A → Bytes) (r : Result A E) → IfOk r (λ out. IsOutputOf names ts passes (status_of out) (text_of out)) → IfOk r (λ out. IsDoneOrStuck db.schema names scripts (status_of out) (text_of out))
      ok_ends status_of text_of (Ok out) is = ends (status_of out) (text_of out) is
      ok_ends status_of text_of (Err e) is = tt

-- ---- the output of sessions that have stopped

pub ok_output : {A E : Type 0} (status_of : A → ℕ) (text_of : A → Bytes) (names : List Bytes) (ss : List Progress) (passes : Callers) (answers : Bytes) (stop : Option code.Stop) (r : Result A E) → AreRunning (scripts_of ss) ss → HaveStopped ss passes stop → answers ≡ headed 1 names ss
    → IfOk r (λ out. IsWritten answers stop (status_of out) (text_of out)) → IfOk r (λ out. IsOutputOf names ss passes (status_of out) (text_of out))
ok_output status_of text_of names ss passes answers stop (Err e) running stopped is written = tt
ok_output status_of text_of names ss passes answers stop (Ok out) running stopped is written = record {
  running = running;
  stop = stop;
  stopped = stopped;
  written = subst (λ (b : Bytes). IsWritten b stop (status_of out) (text_of out)) is written;
}
