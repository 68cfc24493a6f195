-- What is seen of an open transaction and of a snapshot, and lines that look there.
use Rattle.std.proofs.Common.{◌≡◌, List, Ok, Err, Result, refl, sym, ap, subst}
use Rattle.std.specs.Result.{IsErrAnd}
use Rattle.mdb_datum.specs.Bytes.{Bytes}
use Rattle.mdb_schema.specs.History.{History}
use Rattle.mdb_schema.specs.LawfulSchema.{IsLawfulSchema}
use Rattle.mdb_schema.specs.Query.{Query}
use Rattle.mdb_schema.specs.Schema.{DbSchema}
use Rattle.mdb_schema.specs.Tests.{◌>>=◌}
use Rattle.client_script.specs.Client as plain
use Rattle.client_script.specs.Client.{Judged}
use Rattle.client_script.specs.Turn.{Turn, question_turn}
use Rattle.client_script.specs.declared.rule.Rule.{Rule}
use Rattle.client_script.specs.RuleName.{rule_name}
use Rattle.run_check.specs.declared.client.Client.{Client}
use Rattle.run_check.specs.declared.client.Open.{Open}
use Rattle.run_check.specs.declared.client.Open.TheVariants as opens
use Rattle.run_check.specs.declared.session.Refused.{Refused}
use Rattle.run_check.specs.declared.session.Refused.TheVariants as refusals
use Rattle.run_check.specs.declared.session.Sessions.{Sessions}
use Rattle.run_check.specs.declared.sight.Sight.{Sight}
use Rattle.run_check.specs.declared.store.Store.{Store}
use Rattle.run_check.specs.inner.ClientView.{IsOpenSight, sight_known}
use Rattle.run_check.specs.inner.SessionView.{AreKnown, IsSound, TellsTurn}
use Rattle.run_check.specs.inner.StoreView.{Begun, IsSightOf, StandsFor}

-- ---- sights that are sound

pub open_sight : (schema : DbSchema) (H : History) (txns : List Begun) (v : Client) (s : Sight) → IsSound schema H txns v → IsOpenSight v.«open» s → IsSightOf H txns s
open_sight schema H txns v s sound seen = of v.«open» refl seen
  where
    of : (o : Open) → v.«open» ≡ o → IsOpenSight o s → IsSightOf H txns s
    of opens.Nothing is h = absurd h
    of (opens.Reading n) is h = subst (IsSightOf H txns) (sym h) (record { there = sound.reading n is; own = λ o e. cc })
    of (opens.Writing w) is h = subst (IsSightOf H txns) (sym h) (sound.writing w is)

-- ---- a rule that a first step breaks

pub refused_first : {A : Type 0} (schema : DbSchema) (v : plain.Client) (j : Judged A) (f : A → Turn) (rule : Rule) (r : Result (Unit {0}) Refused) (old : Bytes) → IsErrAnd r (λ e. e ≡ refusals.By rule) → Err (rule_name schema rule) ≡ j
    → TellsTurn schema (j >>= f) v v old old r
refused_first schema v j f rule (Ok u) old is told = absurd is
refused_first schema v j f rule (Err e) old is told =
    subst (λ (x : Refused). TellsTurn schema (j >>= f) v v old old (Err x)) (sym is) (ap (λ x. x >>= f) (sym told), refl)

-- ---- a question of a sight

pub stands_here : (s : Sessions) (v : Client) → AreKnown s v → (H : History) × (txns : List Begun) × StandsFor s.schema.now H txns s.store
stands_here s v k = (k.1, k.2, subst (λ (x : DbSchema). StandsFor x k.1 k.2 s.store) (sym k.3.schema_is) k.3.stands)

pub question_seen : (here schema : DbSchema) → here ≡ schema → (st : Store) (s : Sight) (q : Query) (old new : Bytes) (r : Result (Unit {0}) Refused)
    → ((H : History) (txns : List Begun) (v : plain.Client) → IsLawfulSchema here → StandsFor here H txns st → IsSightOf H txns s → TellsTurn here (question_turn here H v (Ok (sight_known txns s)) q) v v old new r)
    → (H : History) (txns : List Begun) (v : plain.Client) (j : Judged plain.Sight) → IsLawfulSchema schema → StandsFor schema H txns st → IsSightOf H txns s → Ok (sight_known txns s) ≡ j
    → TellsTurn schema (question_turn schema H v j q) v v old new r
question_seen here schema same st s q old new r told H txns v j laws stands sight is =
    subst (λ (x : Judged plain.Sight). TellsTurn schema (question_turn schema H v x q) v v old new r) is
    (subst (λ (x : DbSchema). (H : History) (txns : List Begun) (v : plain.Client) → IsLawfulSchema x → StandsFor x H txns st → IsSightOf H txns s → TellsTurn x (question_turn x H v (Ok (sight_known txns s)) q) v v old new r) same told H txns v laws stands sight)
