-- What stands in a context that is kept, and which instances and barren steps there are.
use Rattle.std.proofs.Common.{◌≡◌, ℕ, ◌<◌, Bool, true, false, List, [], ◌∷◌, length, sym, ◌∙◌, subst}
use Rattle.std.specs.Bool.{Decides}
use Rattle.std.specs.List.{AllByRecursion}
use Rattle.text_core.proofs.Laws.{each_map}
use Rattle.logic_core.specs.declared.form.Atom.{Atom}
use Rattle.logic_core.specs.declared.form.Form.{Form}
use Rattle.vernacular_tree.specs.Barren.{Barren}
use Rattle.vernacular_tree.specs.Contexts.{Stands, atom_at}
use Rattle.vernacular_tree.specs.Rules.{IsInstance}
use Rattle.vernacular_tree.specs.declared.context.Context.{Context}
use Rattle.coherent_form.specs.Tasks.{CitedTask}
use Rattle.instance_cursor.specs.Facts.{elements_at, stands_at}
use Rattle.instance_cursor.specs.Instances.{IsInstanceOver}
use Rattle.kept_context.specs.Kept.{Kept, Represents}
use Rattle.kept_context.proofs.Added.{atom_seen}

module _ (task : CitedTask) (lent : Context) (kept : Kept) (context : Context) (is : Represents task lent kept context) where
  -- an atom at elements stands in the context where it is one of the facts that are kept
  pub stands_seen : (elements : List ℕ) (atom : Atom) → Decides (stands_at kept.store.facts elements atom) (Stands context (atom_at elements atom))
  stands_seen elements atom =
      subst (λ fact. Decides (stands_at kept.store.facts elements atom) (Stands context fact)) (sym (atom_seen elements atom))
      (is.facts atom.positive atom.symbol (elements_at elements atom))

  -- an instance in the context is one over the facts that are kept
  pub instance_over : (form : Form) (args : List ℕ) → IsInstance context form args → IsInstanceOver form kept.store.facts kept.elements args
  instance_over form args instance = record {
    length_is = instance.args_known.length_is;
    known = subst (λ n. AllByRecursion (λ e. e < n) args) (sym is.elements_are) instance.args_known.known;
    premises = each_map (λ atom stands. (stands_seen args atom).1 stands) form.premises instance.premises;
  }

  -- an instance over the facts that are kept is one in the context
  pub instance_of : (form : Form) (args : List ℕ) → IsInstanceOver form kept.store.facts kept.elements args → IsInstance context form args
  instance_of form args instance = record {
    args_known = record {
      length_is = instance.length_is;
      known = subst (λ n. AllByRecursion (λ e. e < n) args) is.elements_are instance.known;
    };
    premises = each_map (λ atom told. (stands_seen args atom).0 told) form.premises instance.premises;
  }

  -- where there is an element for each universal variable, the premises tell an instance
  pub instance_told : (form : Form) (args : List ℕ) (told : Bool) → length args ≡ form.universals → AllByRecursion (λ (e : ℕ). e < kept.elements) args
      → Decides told (AllByRecursion (λ (atom : Atom). stands_at kept.store.facts args atom ≡ true) form.premises) → Decides told (IsInstance context form args)
  instance_told form args told long known all = (
    (λ passes. instance_of form args (record { length_is = long; known = known; premises = all.0 passes })),
    (λ instance. all.1 (instance_over form args instance).premises),
  )

  -- elements that are none of the context are no instance
  pub not_instance : (form : Form) (args : List ℕ) → (AllByRecursion (λ (e : ℕ). e < kept.elements) args → ⊥) → Decides false (IsInstance context form args)
  not_instance form args unknown = (
    (λ e. absurd (let passes : false ≡ true = e in cc)),
    (λ instance. absurd (unknown (instance_over form args instance).known)),
  )

  -- a form with one disjunct and no new element is barren where the atoms of the disjunct stand
  pub barren_told : (form : Form) (args : List ℕ) (atoms : List Atom) (told : Bool) → form.existentials ≡ 0 → form.disjuncts ≡ atoms ∷ []
      → Decides told (AllByRecursion (λ (atom : Atom). stands_at kept.store.facts args atom ≡ true) atoms) → Decides told (Barren context form args)
  barren_told form args atoms told none one all = (
    (λ passes. record {
      atoms = atoms;
      one = one;
      none_new = none;
      stand = each_map (λ atom stands. (stands_seen args atom).0 stands) atoms (all.0 passes);
    }),
    (λ barren.
        let same : barren.atoms ≡ atoms = let both : barren.atoms ∷ [] ≡ atoms ∷ [] = sym barren.one ∙ one in cc in
        all.1 (each_map (λ atom stands. (stands_seen args atom).1 stands) atoms
        (subst (AllByRecursion (λ (atom : Atom). Stands context (atom_at args atom))) same barren.stand))),
  )

-- no other form is barren
pub not_barren : (context : Context) (form : Form) (args : List ℕ) → (Barren context form args → ⊥) → Decides false (Barren context form args)
not_barren context form args none = ((λ e. absurd (let passes : false ≡ true = e in cc)), (λ barren. absurd (none barren)))
