-- What is told of the forms that a formula is read as.
use Rattle.std.proofs.Common.{ℕ, ◌+◌, List, [], length, sym, subst, arith}
use Rattle.std.specs.List.{AllByRecursion}
use Rattle.text_core.specs.Numbered.{Tables}
use Rattle.text_core.proofs.Laws.{each_map}
use Rattle.logic_core.specs.Allowed.{IsBoundIn}
use Rattle.logic_core.specs.Truth.{Structure, IsTrueIn}
use Rattle.logic_core.specs.Forms.{AtomIsBelow, IsWellFormed, FormTrue, interpretation}
use Rattle.logic_core.specs.declared.formula.Formula.{Formula}
use Rattle.logic_core.specs.declared.form.Form.{Form}
use Rattle.coherent_form.specs.Reading.{Extends, forms_of}
use Rattle.coherent_form.specs.Wide.{Reads}
use Rattle.coherent_form.proofs.Below.{Below, below_grows, below_moves, below_base, FormHas, forms_have}
use Rattle.coherent_form.proofs.Meanings.{Same}
use Rattle.coherent_form.proofs.Names.{HasNames, has_with_names, with_names_extends}
use Rattle.coherent_form.proofs.Truth.{formula_same}

module _ (tables after : Tables) (f : Formula) (forms : List Form) (reads : Reads tables f forms after) where
  -- the tables after the reading have the names of the formula
  pub names_there : HasNames after f
  names_there = subst (λ t. HasNames t f) (sym reads.after_is) (has_with_names f tables)

  -- they are longer than those before it
  pub tables_extend : Extends tables after
  tables_extend = subst (Extends tables) (sym reads.after_is) (with_names_extends f tables)

  -- a form has its variables and constants below their counts
  form_formed : (form : Form) → FormHas (Below after) (below_grows after) (below_moves after) 0 form → IsWellFormed (length after.constants) form
  form_formed form h = record {
    premises = each_map {Q = AtomIsBelow form.universals (length after.constants)} (λ a b. below_grows after (0 + form.universals) form.universals a (omega arith) b) form.premises h.premises;
    disjuncts = each_map {Q = AllByRecursion (AtomIsBelow (form.universals + form.existentials) (length after.constants))}
        (λ atoms all. each_map {Q = AtomIsBelow (form.universals + form.existentials) (length after.constants)}
        (λ a b. below_grows after (0 + (form.universals + form.existentials)) (form.universals + form.existentials) a (omega arith) b) atoms all) form.disjuncts h.disjuncts;
  }

  -- the forms are well-formed
  pub forms_formed : IsBoundIn [] f → AllByRecursion (IsWellFormed (length after.constants)) forms
  forms_formed closed =
      let all = forms_have (Below after) (below_grows after) (below_moves after) after (below_base after) f [] [] reads.coherent (λ x among. among) closed names_there in
      subst (AllByRecursion (IsWellFormed (length after.constants))) (sym reads.forms_are) (each_map form_formed (forms_of after [] f) all)

  -- the formula is true where they are, in a structure with an element
  pub forms_same : IsBoundIn [] f → (s : Structure) (longer : Tables) → Extends after longer → (some : ℕ) → s.element some
      → Same (IsTrueIn s f []) (AllByRecursion (FormTrue (interpretation s longer)) forms)
  forms_same closed s longer extends some inhabited =
      subst (λ fs. Same (IsTrueIn s f []) (AllByRecursion (FormTrue (interpretation s longer)) fs)) (sym reads.forms_are)
      (formula_same s after longer extends some inhabited f reads.coherent closed names_there)
