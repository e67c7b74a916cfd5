-- What is noted of the atoms of forms tells which built-in axioms they have.
use Rattle.std.proofs.Common.{◌≡◌, ℕ, ◌+◌, ◌==◌, true, false, if◌then◌else◌, List, [], ◌∷◌, ◌++◌, length}
use Rattle.std.specs.List.{flat_map}
use Rattle.text_core.specs.Numbered.{Tables}
use Rattle.logic_core.specs.declared.form.Form.{Form}
use Rattle.vernacular_tree.specs.Contexts.{counted}
use Rattle.coherent_form.specs.BuiltIns.{occurs, is_equation, is_complement, built_ins}
use Rattle.coherent_form.specs.Noted.{is_noted, places_kept, axioms_noted}
use Rattle.coherent_form.specs.declared.occurrences.Occurrences.{Occurrences}
use Rattle.coherent_form.specs.declared.source.BuiltIn.TheVariants.{Refl, Sym, Trans, No, Or}

-- the axioms that are told by what was noted are the built-in axioms
pub axioms_noted_are : (tables : Tables) (seen : Occurrences) (forms : List Form) → seen.equality ≡ occurs is_equation forms
    → ((symbol : ℕ) → is_noted seen symbol ≡ occurs (is_complement symbol) forms) → axioms_noted tables seen ≡ built_ins tables forms
axioms_noted_are tables seen forms equality negated = λ i.
    (if equality i then Refl ∷ Sym ∷ Trans ∷ flat_map (λ symbol. (if symbol == 0 then [] else places_kept tables true symbol)
    ++ (if negated symbol i then places_kept tables false symbol else [])) (counted 0 (length tables.symbols + 1)) else [])
    ++ flat_map (λ symbol. if negated symbol i then No symbol ∷ Or symbol ∷ [] else []) (counted 0 (length tables.symbols + 1))
