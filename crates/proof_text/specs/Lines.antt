-- How names, atoms and lines are written: with signs, as in a proof text, or in English.
use Rattle.std.specs.Prelude.{Bool, true, false, List, [], ◌∷◌, ◌++◌, map, Option, Some, None, codes}
use Rattle.text_core.specs.Names.{Text}
use Rattle.tptp_lexer.specs.Written.{word_text, joined_texts}
use Rattle.proof_text.specs.declared.body.NamedAtom.{NamedAtom}
use Rattle.proof_text.specs.declared.body.Shown as Shown
use Rattle.proof_text.specs.declared.body.Shown.TheVariants.{Falsum, Facts, Cases}
use Rattle.proof_text.specs.declared.wording.Wording as Wording
use Rattle.proof_text.specs.declared.wording.Wording.TheVariants.{Signs, English}

-- what stands before the predicate of a complement
abbrev pub negation : Wording.Wording → Text
negation Signs = codes "~"
negation English = codes "not "

-- between facts
abbrev pub conjunction : Wording.Wording → Text
conjunction Signs = codes " & "
conjunction English = codes " and "

-- between cases
abbrev pub disjunction : Wording.Wording → Text
disjunction Signs = codes " | "
disjunction English = codes " or "

-- for no facts
abbrev pub truth : Wording.Wording → Text
truth Signs = codes "$true"
truth English = codes "true"

-- for falsehood
abbrev pub falsehood : Wording.Wording → Text
falsehood Signs = codes "$false"
falsehood English = codes "a contradiction"

-- texts with commas between them
abbrev pub listed_text : List Text → Text
listed_text texts = joined_texts (codes ",") texts

-- names in brackets
abbrev pub names_text : List Text → Text
names_text names = codes "[" ++ listed_text (map word_text names) ++ codes "]"

-- the arguments of an atom; nothing where there are none
abbrev pub arguments_text : List Text → Text
arguments_text [] = []
arguments_text (x ∷ xs) = codes "(" ++ listed_text (map word_text (x ∷ xs)) ++ codes ")"

-- a predicate with its arguments, or an equation
abbrev pub predicate_text : Wording.Wording → Bool → Option Text → List Text → Text
predicate_text w true (Some p) args = word_text p ++ arguments_text args
predicate_text w false (Some p) args = negation w ++ word_text p ++ arguments_text args
predicate_text w true None args = joined_texts (codes " = ") (map word_text args)
predicate_text w false None args = joined_texts (codes " != ") (map word_text args)

abbrev pub atom_text : Wording.Wording → NamedAtom → Text
atom_text w atom = predicate_text w atom.positive atom.predicate atom.args

-- atoms, one or more
abbrev pub atoms_text : Wording.Wording → List NamedAtom → Text
atoms_text w atoms = joined_texts (conjunction w) (map (atom_text w) atoms)

-- facts
abbrev pub facts_text : Wording.Wording → List NamedAtom → Text
facts_text w [] = truth w
facts_text w (a ∷ atoms) = atoms_text w (a ∷ atoms)

-- a part of a line of cases: in brackets where it has two atoms or more
abbrev pub part_text : Wording.Wording → List NamedAtom → Text
part_text w [] = truth w
part_text w (a ∷ []) = atom_text w a
part_text w (a ∷ b ∷ atoms) = codes "(" ++ atoms_text w (a ∷ b ∷ atoms) ++ codes ")"

-- a line
abbrev pub line_text : Wording.Wording → Shown.Shown → Text
line_text w Falsum = falsehood w
line_text w (Facts atoms) = facts_text w atoms
line_text w (Cases parts) = joined_texts (disjunction w) (map (part_text w) parts)
