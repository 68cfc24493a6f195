-- What is known of a result by two clauses, and of one that may hold nothing.
use Rattle.std.proofs.Common.{Option, Some, None, Result, Ok, Err, IfErr, IfOk, IfSome, IfNone, OnErr, OnOk, IsSome, IsNone, IsSomeAnd, ◌≡◌, subst, sym, true≢false}

pub if_both : {T E : Type 0} (r : Result T E) (P Q R : T → Type 0) → ((x : T) → P x → Q x → R x) → IfOk r P → IfOk r Q → IfOk r R
if_both (Ok x) P Q R f p q = f x p q
if_both (Err e) P Q R f p q = tt

pub if_some_weaker : {T E : Type 0} (r : Result (Option T) E) (P Q : T → Type 0) → ((x : T) → P x → Q x) → IfOk r (λ o. IfSome o P) → IfOk r (λ o. IfSome o Q)
if_some_weaker (Ok (Some x)) P Q f p = f x p
if_some_weaker (Ok None) P Q f p = tt
if_some_weaker (Err e) P Q f p = tt

pub if_none_weaker : {T E : Type 0} (r : Result (Option T) E) (P Q : Type 0) → (P → Q) → IfOk r (λ o. IfNone o P) → IfOk r (λ o. IfNone o Q)
if_none_weaker (Ok (Some x)) P Q f p = tt
if_none_weaker (Ok None) P Q f p = f p
if_none_weaker (Err e) P Q f p = tt

-- it is made of what another holds
pub if_some_of : {S T E : Type 0} (r : Result (Option T) E) (o : Option S) (R : S → Type 0) (P : T → S → Type 0) (Q : T → Type 0) → ((x : T) (y : S) → R y → P x y → Q x) → IfSome o R → IfOk r (λ a. IfSome a (λ x. IsSomeAnd o (P x))) → IfOk r (λ a. IfSome a Q)
if_some_of (Ok (Some x)) (Some y) R P Q f held p = f x y held p
if_some_of (Ok (Some x)) None R P Q f held p = absurd p
if_some_of (Ok None) o R P Q f held p = tt
if_some_of (Err e) o R P Q f held p = tt

pub some_gives : {T : Type 0} (o : Option T) (R : T → Type 0) (Q : Type 0) → ((x : T) → R x → Q) → IsSome o → IfSome o R → Q
some_gives (Some x) R Q f some held = f x held
some_gives None R Q f some held = absurd (true≢false (sym some))

pub none_gives : {T : Type 0} (o : Option T) (P : Type 0) → IsNone o → IfNone o P → P
none_gives (Some x) P none held = absurd (true≢false none)
none_gives None P none held = held

pub some_of : {T : Type 0} (o : Option T) (x : T) (P : T → Type 0) → o ≡ Some x → IfSome o P → P x
some_of {T} o x P is held = subst (λ (z : Option T). IfSome z P) is held

pub on_err_weaker : {T E : Type 0} (r : Result T E) (P Q : Type 0) → (P → Q) → OnErr r P → OnErr r Q
on_err_weaker (Ok x) P Q f p = tt
on_err_weaker (Err e) P Q f p = f p

pub on_ok_of : {T E : Type 0} (r : Result T E) (x : T) (P : Type 0) → r ≡ Ok x → OnOk r P → P
on_ok_of {T} {E} r x P is held = subst (λ (z : Result T E). OnOk z P) is held

-- what holds whatever the error is
pub on_err_of : {T E : Type 0} (r : Result T E) (P : Type 0) → P → IfErr r (λ (e : E). P)
on_err_of (Ok x) P p = tt
on_err_of (Err e) P p = p
