-- The numbers that a seat carries, as the list grows and as numbers go to other seats.
use Rattle.std.proofs.Common.{◌≡◌, ◌≢◌, ℕ, zero, suc, ◌+◌, ◌-◌, ◌==◌, ◌<◌, ◌≤◌, List, [], ◌∷◌, ◌++◌, sym, refl, ap, ◌∙◌, arith, ne_eqb, eq-eqb, if◌then◌else◌}
use Rattle.db_front.specs.Commits.{commits_by}
use Rattle.db_front.specs.inner.FrontRule.{Hand, Carries, Hands, Lacks, Apart, Made, start, dealt}
use Rattle.db_front.proofs.CommitLists.{prefix_self, prefix_more, by_other}

-- the owners after the number c goes to the seat to, and after all of the seat one go to the seat
-- to
abbrev pub moves : (ℕ → ℕ) → ℕ → ℕ → ℕ → ℕ
moves owner c to k = if k == c then to else owner k

abbrev pub merges : (ℕ → ℕ) → ℕ → ℕ → ℕ → ℕ
merges owner one to k = if owner k == one then to else owner k

pub moves_here : (owner : ℕ → ℕ) (c to : ℕ) → moves owner c to c ≡ to
moves_here owner c to = ap (λ b. if b then to else owner c) (eq-eqb c c refl)

pub moves_else : (owner : ℕ → ℕ) (c to k : ℕ) → k ≢ c → moves owner c to k ≡ owner k
moves_else owner c to k ne = ap (λ b. if b then to else owner k) (ne_eqb k c ne)

pub merges_here : (owner : ℕ → ℕ) (one to k : ℕ) → owner k ≡ one → merges owner one to k ≡ to
merges_here owner one to k e = ap (λ b. if b then to else owner k) (eq-eqb (owner k) one e)

pub merges_else : (owner : ℕ → ℕ) (one to k : ℕ) → owner k ≢ one → merges owner one to k ≡ owner k
merges_else owner one to k ne = ap (λ b. if b then to else owner k) (ne_eqb (owner k) one ne)

module _ {V : Type 0} (callers : ℕ) (owner : ℕ → ℕ) (h : List (ℕ × V)) (id : ℕ) where
  abbrev C : Hand V → Type 0
  C = Carries callers owner h id

  abbrev H : List (Hand V) → Type 0
  H = Hands callers owner h id

  pub carries_grown : (p : Hand V) (c : ℕ) (x : V) → p.0 ≢ c → C p → Carries callers owner (h ++ (c, x) ∷ []) id p
  carries_grown p c x ne t = record {
    named = t.named;
    few = t.few;
    seat = t.seat;
    made = by_other p.0 c h x (λ q. ne (sym q)) ∙ t.made;
    seen = prefix_more p.2 h ((c, x) ∷ []) t.seen;
  }

  pub carries_moved : (p : Hand V) (c to : ℕ) → p.0 ≢ c → C p → Carries callers (moves owner c to) h id p
  carries_moved p c to ne t = record {
    named = t.named;
    few = t.few;
    seat = moves_else owner c to p.0 ne ∙ t.seat;
    made = t.made;
    seen = t.seen;
  }

  pub carries_merged : (p : Hand V) (one to : ℕ) → id ≢ one → C p → Carries callers (merges owner one to) h id p
  carries_merged p one to ne t = record {
    named = t.named;
    few = t.few;
    seat = merges_else owner one to p.0 (λ q. ne (sym t.seat ∙ q)) ∙ t.seat;
    made = t.made;
    seen = t.seen;
  }

  -- a number of another seat is none of these
  pub hands_lack : (ps : List (Hand V)) (c : ℕ) → owner c ≢ id → H ps → Lacks c ps
  hands_lack [] c ne t = tt
  hands_lack (p ∷ ps) c ne t = ((λ q. ne (ap owner (sym q) ∙ t.0.seat)), hands_lack ps c ne t.1)

  pub hands_grown : (ps : List (Hand V)) (c : ℕ) (x : V) → Lacks c ps → H ps → Hands callers owner (h ++ (c, x) ∷ []) id ps
  hands_grown [] c x l t = tt
  hands_grown (p ∷ ps) c x l t = (carries_grown p c x l.0 t.0, hands_grown ps c x l.1 t.1)

  pub hands_moved : (ps : List (Hand V)) (c to : ℕ) → Lacks c ps → H ps → Hands callers (moves owner c to) h id ps
  hands_moved [] c to l t = tt
  hands_moved (p ∷ ps) c to l t = (carries_moved p c to l.0 t.0, hands_moved ps c to l.1 t.1)

  pub hands_merged : (ps : List (Hand V)) (one to : ℕ) → id ≢ one → H ps → Hands callers (merges owner one to) h id ps
  hands_merged [] one to ne t = tt
  hands_merged (p ∷ ps) one to ne t = (carries_merged p one to ne t.0, hands_merged ps one to ne t.1)

  pub hands_more : (ps : List (Hand V)) (p : Hand V) → H ps → C p → H (ps ++ p ∷ [])
  hands_more [] p t a = (a, tt)
  hands_more (q ∷ ps) p t a = (t.0, hands_more ps p t.1 a)

  pub hands_made : (ps : List (Hand V)) → H ps → Made h ps
  hands_made [] t = tt
  hands_made (p ∷ ps) t = (t.0.made, t.0.seen, hands_made ps t.1)

module _ {V : Type 0} where
  pub lacks_more : (c : ℕ) (ps : List (Hand V)) (p : Hand V) → Lacks c ps → p.0 ≢ c → Lacks c (ps ++ p ∷ [])
  lacks_more c [] p l ne = (ne, tt)
  lacks_more c (q ∷ ps) p l ne = (l.0, lacks_more c ps p l.1 ne)

  pub apart_more : (ps : List (Hand V)) (p : Hand V) → Apart ps → Lacks p.0 ps → Apart (ps ++ p ∷ [])
  apart_more [] p a l = (tt, tt)
  apart_more (q ∷ ps) p a l = (lacks_more q.0 ps p a.0 (λ e. l.0 (sym e)), apart_more ps p a.1 l.1)

  -- The numbers that are dealt at the start
  pub dealt_lack_above : (s : List (ℕ × V)) (c k n : ℕ) → k + n ≤ c → Lacks c (dealt s k n)
  dealt_lack_above s c k zero h = tt
  dealt_lack_above s c k (suc n) h = ((λ q. omega (arith, q, h)), dealt_lack_above s c (suc k) n (omega (arith, h)))

  pub dealt_lack_below : (s : List (ℕ × V)) (c k n : ℕ) → c < k → Lacks c (dealt s k n)
  dealt_lack_below s c k zero h = tt
  dealt_lack_below s c k (suc n) h = ((λ q. omega (arith, q, h)), dealt_lack_below s c (suc k) n (omega (arith, h)))

  pub dealt_apart : (s : List (ℕ × V)) (k n : ℕ) → Apart (dealt s k n)
  dealt_apart s k zero = tt
  dealt_apart s k (suc n) = (dealt_lack_below s k (suc k) n (omega arith), dealt_apart s (suc k) n)

  pub none_made : (o : V) (c : ℕ) → 0 < c → commits_by c (start o) ≡ []
  none_made o c pos = ap (λ b. if b then start o else []) (ne_eqb 0 c (λ q. omega (arith, q, pos)))

  pub dealt_hands : (o : V) (callers k n : ℕ) → 0 < k → k + n ≤ suc callers → Hands callers (λ _. 0) (start o) 0 (dealt (start o) k n)
  dealt_hands o callers k zero pos h = tt
  dealt_hands o callers k (suc n) pos h = (
    record {
      named = pos;
      few = omega (arith, h);
      seat = refl;
      made = none_made o k pos;
      seen = prefix_self (start o);
    },
    dealt_hands o callers (suc k) n (omega arith) (omega (arith, h)),
  )

  pub dealt_next : (s : List (ℕ × V)) (c k : ℕ) → k < c → dealt s k (c - k) ≡ (k, [], s) ∷ dealt s (k + 1) (c - (k + 1))
  dealt_next s c k h =
      let a : c - k ≡ suc (c - (k + 1)) = omega (arith, h) in
      let b : suc k ≡ k + 1 = omega arith in
      ap (dealt s k) a ∙ ap (λ j. (k, [], s) ∷ dealt s j (c - (k + 1))) b

  pub dealt_end : (s : List (ℕ × V)) (c : ℕ) → dealt s c (c - c) ≡ []
  dealt_end s c = let a : c - c ≡ 0 = omega arith in ap (dealt s c) a
