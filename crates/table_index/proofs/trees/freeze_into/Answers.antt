use Rattle.table_index.proofs.trees.freeze_into.Goals as goal

pub returns-clause-notice : goal.returns-clause-notice
returns-clause-notice c = (
  c.in_ok-tree.notice,
  record {
    notice = c.in_ok-tree.ensures.notice;
    held = c.in_ok-tree.ensures.held;
    first = c.in_ok-tree.ensures.opened.0;
    below = c.in_ok-tree.ensures.opened.1;
    opened = c.in_ok-tree.ensures.opened.2;
  },
  c.in_ok-push-2.ensures.items,
)
