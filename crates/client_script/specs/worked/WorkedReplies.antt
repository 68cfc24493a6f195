-- Worked answers: the text of each reply.
use Rattle.std.specs.Prelude.{◌≡◌, ◌∷◌, [], Some, None, codes, refl}
use Rattle.std.proofs.Common.{lit<}
use Rattle.std.proofs.lemmas.Fmt.{decimal_digit}
use Rattle.mdb_datum.proofs.OnLiterals.{reading_on_literals}
use Rattle.mdb_schema.specs.declared.answer.Answer.TheVariants.{One, Many}
use Rattle.mdb_schema.specs.worked.Sample.{user}
use Rattle.client_script.specs.Reply.{Changed, line_text, heading, reply_text, read_at, write_at, committed, wiped, answered, snapshot_at, snapshot_within, refused}

abbrev came : Changed
came = record { table = codes "t"; before = None; after = Some (user (codes "ann") 3) }

abbrev went : Changed
went = record { table = codes "t"; before = Some (user (codes "bob") 2); after = None }

abbrev became : Changed
became = record {
  table = codes "u";
  before = Some (user (codes "cy") 2);
  after = Some (user (codes "cy") 3);
}

pub read_text : line_text 7 (read_at 3) ≡ codes "7: read @3\n"
read_text = rw (decimal_digit 7 (lit< tt), decimal_digit 3 (lit< tt)) refl

pub write_text : line_text 7 (write_at 3) ≡ codes "7: write @3\n"
write_text = rw (decimal_digit 7 (lit< tt), decimal_digit 3 (lit< tt)) refl

-- a line of its own for each deferred text
pub commit_text : line_text 7 (committed 3 [] (codes "b" ∷ codes "a" ∷ []))
    ≡ codes "7: commit @3\n  did b\n  did a\n"
commit_text = rw (decimal_digit 7 (lit< tt), decimal_digit 3 (lit< tt)) refl

-- and for each change, before them
pub changes_text : line_text 7 (committed 3 (came ∷ went ∷ became ∷ []) (codes "x" ∷ []))
    ≡ codes "7: commit @3\n  changed t none {\"age\":3,\"name\":\"ann\"}\n  changed t {\"age\":2,\"name\":\"bob\"} none\n  changed u {\"age\":2,\"name\":\"cy\"} {\"age\":3,\"name\":\"cy\"}\n  did x\n"
unfolding reading_on_literals
changes_text = rw (decimal_digit 7 (lit< tt), decimal_digit 2 (lit< tt), decimal_digit 3 (lit< tt)) refl

pub wipe_text : reply_text (wiped 2) ≡ codes "deleted 2"
wipe_text = rw (decimal_digit 2 (lit< tt)) refl

pub row_text : reply_text (answered (One (Some (user (codes "ann") 3))))
    ≡ codes "row {\"age\":3,\"name\":\"ann\"}"
unfolding reading_on_literals
row_text = rw (decimal_digit 3 (lit< tt)) refl

pub no_row_text : reply_text (answered (One None)) ≡ codes "none"
no_row_text = refl

-- and for each row
pub rows_text : line_text 7 (answered (Many (user (codes "ann") 3 ∷ user (codes "bob") 2 ∷ [])))
    ≡ codes "7: rows 2\n  {\"age\":3,\"name\":\"ann\"}\n  {\"age\":2,\"name\":\"bob\"}\n"
unfolding reading_on_literals
rows_text = rw (decimal_digit 7 (lit< tt), decimal_digit 2 (lit< tt), decimal_digit 3 (lit< tt)) refl

pub no_rows_text : reply_text (answered (Many [])) ≡ codes "rows 0"
no_rows_text = rw (decimal_digit 0 (lit< tt)) refl

pub snapshot_text : reply_text (snapshot_at 3) ≡ codes "snapshot @3"
snapshot_text = rw (decimal_digit 3 (lit< tt)) refl

pub uncommitted_text : reply_text (snapshot_within 3) ≡ codes "snapshot @3+"
uncommitted_text = rw (decimal_digit 3 (lit< tt)) refl

pub refused_text : reply_text (refused (codes "key-taken mail")) ≡ codes "refused key-taken mail"
refused_text = refl

pub client_line : heading 1 (codes "c1") ≡ codes "client 1 c1\n"
client_line = rw (decimal_digit 1 (lit< tt)) refl
