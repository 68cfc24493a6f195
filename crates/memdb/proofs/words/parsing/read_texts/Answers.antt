use Rattle.std.proofs.Common.{sym, subst, map}
use Rattle.memdb.specs.inner.CommandLine.{HasClients}
use Rattle.memdb.proofs.AskedWords.{has_clients}
use Rattle.memdb.proofs.words.parsing.read_texts.Goals as goal

pub read_matches-requires : goal.read_matches-requires
read_matches-requires c = record { clients = subst HasClients (sym c.in_ok-matches.ensures) (has_clients (map (λ w. w.now) c.args.words.now) c.requires.plain) }
