use Rattle.memdb.proofs.made.inputs.made_inputs.Goals as goal

pub made_scripts-requires : goal.made_scripts-requires
made_scripts-requires c = record {
  number = c.number.ensures.small;
  some_clients = c.clients.ensures.some;
  few_clients = c.clients.ensures.few;
  some_rounds = c.count.ensures.some;
  few_rounds = c.count.ensures.few;
}
