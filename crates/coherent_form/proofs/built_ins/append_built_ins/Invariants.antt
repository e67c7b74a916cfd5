use Rattle.std.proofs.Common.{◌≡◌, ◌++◌, map, take}
use Rattle.coherent_form.specs.BuiltIns.{built_in_form}
use Rattle.coherent_form.specs.declared.source.Source.TheVariants as source
use Rattle.coherent_form.proofs.built_ins.append_built_ins.Given as goal

-- the forms of the first axioms are appended, and where they come from
abbrev pub invariant-loop-built : goal.invariant-loop-built
invariant-loop-built l = record {
  forms : l.forms ≡ l.fn.forms ++ map (built_in_form l.tables) (take l.built-index l.built-items);
  sources : l.sources.keys ≡ l.fn.sources.keys ++ map source.BuiltIn (take l.built-index l.built-items);
}
