use Rattle.std.proofs.Common.{[], sym, subst, arith}
use Rattle.model_text.specs.Structures.{AreNew}
use Rattle.model_search.proofs.ReadOff.{new_all}
use Rattle.model_search.proofs.read_off.read_off.Goals as goal

pub new-requires : goal.new-requires
new-requires c = record {
  some = c.requires.some;
  few = omega (arith, c.requires.few);
  placed = c.in_ok-places.ensures.below;
  once = subst (AreNew []) (sym c.in_ok-places.ensures.constants) (new_all c.args.tables.now.constants c.constants-count.ensures.distinct);
  arguments = c.in_ok-facts.ensures;
}
