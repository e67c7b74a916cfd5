-- The sentences of an English text.
use Rattle.std.specs.Prelude.{ℕ, List, [], ◌∷◌, ◌++◌, map, codes}
use Rattle.text_core.specs.Names.{Text}
use Rattle.coherent_form.specs.declared.citation.Citation.{Citation}
use Rattle.tptp_lexer.specs.Written.{word_text, joined_texts}
use Rattle.proof_text.specs.declared.body.NamedAtom.{NamedAtom}
use Rattle.proof_text.specs.declared.body.Shown.{Shown}
use Rattle.proof_text.specs.declared.wording.Wording.TheVariants.{English}
use Rattle.proof_text.specs.Canonical.{cite_text, indent, line_end}
use Rattle.proof_text.specs.Lines.{facts_text, line_text}

-- a sentence, so many cases deep
abbrev pub sentence : ℕ → Text → Text
sentence level words = indent level ++ words ++ line_end

-- names behind some words; nothing where there are none
abbrev pub names_behind : Text → List Text → Text
names_behind words [] = []
names_behind words (name ∷ names) =
    words ++ joined_texts (codes ", ") (map word_text (name ∷ names))

-- the parameters, where there are some
abbrev pub given_text : List Text → Text
given_text [] = []
given_text (name ∷ names) =
    sentence 0 (names_behind (codes "Let ") (name ∷ names) ++ codes " be given")

-- the premises of the goal, where there are some
abbrev pub supposed_text : List NamedAtom → Text
supposed_text [] = []
supposed_text (fact ∷ facts) = sentence 0 (codes "Suppose " ++ facts_text English (fact ∷ facts))

-- a step: what is cited, the elements at which it is applied, the line and the new elements
abbrev pub step_text : ℕ → Citation → List Text → Shown → List Text → Text
step_text level cite args line fresh = sentence level (
    codes "By " ++ cite_text cite ++ names_behind (codes " for ") args ++ codes ", " ++
    line_text English line ++ names_behind (codes " for some ") fresh)

-- a split of a line
abbrev pub split_text : ℕ → Shown → Text
split_text level line = sentence level (codes "Split on " ++ line_text English line)

-- a case, before its body
abbrev pub case_text : ℕ → List NamedAtom → Text
case_text level facts = sentence level (codes "Case " ++ facts_text English facts)

-- the end by a disjunct of the goal
abbrev pub answer_text : ℕ → List NamedAtom → Text
answer_text level facts =
    sentence level (codes "So " ++ facts_text English facts ++ codes ", which was to be shown")

-- the end by falsehood
abbrev pub contradiction_text : ℕ → Text
contradiction_text level = sentence level (codes "This is a contradiction")
