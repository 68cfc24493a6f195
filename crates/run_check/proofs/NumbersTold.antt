-- What the check knows of a client that was told a number of commits, or wasn't.
use Rattle.std.proofs.Common.{◌≡◌, refl, subst, sym, ◌∙◌, ap, ℕ, ◌≤◌, ◌++◌, List, length, None, Option, Some, decimal, unwrap_or}
use Rattle.mdb_datum.specs.Bytes.{Bytes}
use Rattle.mdb_schema.specs.History.{History}
use Rattle.mdb_schema.specs.Schema.{DbSchema}
use Rattle.run_check.specs.TextLines.{number_behind}
use Rattle.run_check.specs.declared.client.Client.{Client}
use Rattle.run_check.specs.declared.session.Sessions.{Sessions}
use Rattle.run_check.specs.inner.SessionView.{IsKnown, IsSound, SaysNumber}
use Rattle.run_check.specs.inner.StoreView.{Begun}

-- what the code says behind a word, and what it then has
pub record IsSaid (word text : Bytes) (s : Sessions) (v : Client) (x : Sessions) (k : Client) (told : Option ℕ) : Type 0 where
  pub said : SaysNumber word text v.last (length s.order.now) s.text.items x.text.items told
  pub knows : k ≡ record v { last = unwrap_or told v.last }
  pub kept : x ≡ record s { text = x.text }

-- a number was said
pub record IsNumberSaid (H : History) (word text : Bytes) (s : Sessions) (v : Client) (x : Sessions) (k : Client) (n : ℕ) : Type 0 where
  pub found : number_behind word text ≡ Some n
  pub not_older : v.last ≤ n
  pub there : n ≤ length H
  pub text_is : x.text.items ≡ s.text.items ++ (word ++ decimal n)
  pub after : k ≡ record v { last = n }

-- none was
pub record IsNoneSaid (H : History) (word text : Bytes) (s : Sessions) (v : Client) (x : Sessions) (k : Client) : Type 0 where
  pub none : (n : ℕ) → number_behind word text ≡ Some n → v.last ≤ n → n ≤ length H → ⊥
  pub text_is : x.text.items ≡ s.text.items
  pub same : k ≡ v

module _ (schema : DbSchema) (H : History) (txns : List Begun) (s : Sessions) (v : Client) (knows : IsKnown schema H txns s v) where
  pub with_number : (n : ℕ) → n ≤ length H → (x : Sessions) (k : Client) → x ≡ record s { text = x.text } → k ≡ record v { last = n } → IsKnown schema H txns x k
  with_number n there x k same after =
      let sound : IsSound schema H txns (record v { last = n }) = record {
        last = there;
        reading = knows.sound.reading;
        writing = knows.sound.writing;
        carried = knows.sound.carried;
        snapshots = knows.sound.snapshots;
        watches = knows.sound.watches;
        sets = knows.sound.sets;
      } in
      let here : IsKnown schema H txns (record s { text = x.text }) (record v { last = n }) = record {
        schema_is = knows.schema_is;
        lawful = knows.lawful;
        stands = knows.stands;
        begun = knows.begun;
        counted = knows.counted;
        placed = knows.placed;
        made = knows.made;
        sound = sound;
      } in
      subst (λ (y : Sessions). IsKnown schema H txns y k) (sym same)
      (subst (λ (u : Client). IsKnown schema H txns (record s { text = x.text }) u) (sym after) here)

  -- the text alone has changed
  pub with_text : (x : Sessions) → x ≡ record s { text = x.text } → IsKnown schema H txns x v
  with_text x same = with_number v.last knows.sound.last x v same refl

  module _ (word text : Bytes) (x : Sessions) (k : Client) (told : Option ℕ) (is : IsSaid word text s v x k told) where
    pub said_known : IsKnown schema H txns x k
    said_known = with_number (unwrap_or told v.last) (within told is.said) x k is.kept is.knows
      where
        within : (o : Option ℕ) → SaysNumber word text v.last (length s.order.now) s.text.items x.text.items o → unwrap_or o v.last ≤ length H
        within None says = knows.sound.last
        within (Some n) says = subst (λ (m : ℕ). n ≤ m) knows.counted says.2

    pub number_said : (n : ℕ) → told ≡ Some n → IsNumberSaid H word text s v x k n
    number_said n some =
        let says = subst (SaysNumber word text v.last (length s.order.now) s.text.items x.text.items) some is.said in
        record {
          found = says.0;
          not_older = says.1;
          there = subst (λ (m : ℕ). n ≤ m) knows.counted says.2;
          text_is = says.3;
          after = is.knows ∙ ap (λ (o : Option ℕ). record v { last = unwrap_or o v.last }) some;
        }

    pub none_said : told ≡ None → IsNoneSaid H word text s v x k
    none_said none =
        let says = subst (SaysNumber word text v.last (length s.order.now) s.text.items x.text.items) none is.said in
        record {
          none = λ n found not_older there. says.0 n found not_older (subst (λ (m : ℕ). n ≤ m) (sym knows.counted) there);
          text_is = says.1;
          same = is.knows ∙ ap (λ (o : Option ℕ). record v { last = unwrap_or o v.last }) none;
        }
