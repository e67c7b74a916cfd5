use Rattle.vernacular_tree.proofs.Trees.{preorder_once}
use Rattle.vernacular_tree.proofs.law.preorder_is_faithful.Goals as goal

pub returns : goal.returns
returns c a b same = preorder_once a b same
