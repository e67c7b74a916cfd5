-- The canonical text of a script: each step, each end, and each word `case` and `end` on a line of
-- its own, behind two blanks for each case around it.
use Rattle.std.specs.Prelude.{ℕ, zero, suc, ◌==◌, Bool, true, false, List, [], ◌∷◌, ◌++◌, map, Option, Some, None, codes, if◌then◌else◌}
use Rattle.std.specs.Fmt.{decimal}
use Rattle.text_core.specs.Names.{Text}
use Rattle.tptp_lexer.specs.Written.{word_text, name_text}
use Rattle.coherent_form.specs.declared.citation.Citation as Citation
use Rattle.coherent_form.specs.declared.citation.Citation.TheVariants.{Axiom, Refl, Sym, Trans, Sub, No, Or}
use Rattle.coherent_form.specs.declared.citation.Symbol as Symbol
use Rattle.coherent_form.specs.declared.citation.Symbol.TheVariants.{Equality, Named as NamedSymbol}
use Rattle.proof_text.specs.declared.body.NamedAtom.{NamedAtom}
use Rattle.proof_text.specs.declared.body.Shown as Shown
use Rattle.proof_text.specs.declared.body.Binding.{Binding}
use Rattle.proof_text.specs.declared.body.ArgsText as ArgsText
use Rattle.proof_text.specs.declared.body.ArgsText.TheVariants.{Listed, Named}
use Rattle.proof_text.specs.declared.body.MpText.{MpText}
use Rattle.proof_text.specs.declared.body.CaseText.{CaseText}
use Rattle.proof_text.specs.declared.body.BodyText.{BodyText}
use Rattle.proof_text.specs.declared.body.EndText.{EndText, As, Efq, Gap, Cs', Row_of-CaseText, end_of-CaseText, more_of-CaseText}
use Rattle.proof_text.specs.declared.wording.Wording.TheVariants.{Signs}
use Rattle.proof_text.specs.Lines.{listed_text, names_text, facts_text, line_text}
use Rattle.proof_text.specs.Values.{Written}

-- a rank behind a name; nothing where it is 1
abbrev pub rank_text : ℕ → Text
rank_text rank = if rank == 1 then [] else codes ":" ++ decimal rank

-- a symbol with its arity
abbrev pub symbol_text : Symbol.Symbol → Text
symbol_text Equality = codes "=,2"
symbol_text (NamedSymbol name arity) = word_text name ++ codes "," ++ decimal arity

abbrev pub sign_text : Bool → Text
sign_text true = []
sign_text false = codes "~"

-- a citation
abbrev pub cite_text : Citation.Citation → Text
cite_text (Axiom name rank) = name_text name ++ rank_text rank
cite_text Refl = codes "$refl"
cite_text Sym = codes "$sym"
cite_text Trans = codes "$trans"
cite_text (Sub positive symbol place) =
    codes "$sub(" ++ sign_text positive ++ symbol_text symbol ++ codes "," ++ decimal place ++
    codes ")"
cite_text (No symbol) = codes "$no(" ++ symbol_text symbol ++ codes ")"
cite_text (Or symbol) = codes "$or(" ++ symbol_text symbol ++ codes ")"

-- a value of a variable
abbrev pub bind_text : Binding → Text
bind_text bind =
    bind.label.name ++ rank_text bind.label.rank ++ codes " = " ++ word_text bind.value

-- an instance
abbrev pub args_text : ArgsText.ArgsText → Text
args_text (Listed names) = names_text names
args_text (Named binds) = codes "with [" ++ listed_text (map bind_text binds) ++ codes "]"

-- the line of a step, where it is shown
abbrev pub given_text : Option Shown.Shown → Text
given_text None = []
given_text (Some line) = codes " gives " ++ line_text Signs line

-- the facts of a case, where they are shown
abbrev pub shown_text : Option (List NamedAtom) → Text
shown_text None = []
shown_text (Some facts) = codes " " ++ facts_text Signs facts

-- two blanks (32) for each case around
abbrev pub indent : ℕ → Text
indent zero = []
indent (suc level) = 32 ∷ 32 ∷ indent level

-- the dot (46) and the line feed (10) at the end of a line
abbrev pub line_end : Text
line_end = 46 ∷ 10 ∷ []

-- a step, so many cases deep
abbrev pub step_text : ℕ → MpText → Text
step_text level step =
    indent level ++ codes "mp " ++ cite_text step.cite ++ codes " " ++ args_text step.args ++
    codes " new " ++ names_text step.fresh ++ given_text step.shown ++ line_end

abbrev pub steps_text : ℕ → List MpText → Text
steps_text level [] = []
steps_text level (step ∷ steps) = step_text level step ++ steps_text level steps

abbrev mutual
  -- an end, so many cases deep
  pub end_text : ℕ → EndText → Text
  end_text level (As disjunct args) =
      indent level ++ codes "as " ++ decimal disjunct ++ codes " " ++ names_text args ++ line_end
  end_text level Efq = indent level ++ codes "efq" ++ line_end
  end_text level (Gap within) = indent level ++ codes "gap " ++ decimal within ++ line_end
  end_text level (Cs' line _ cases) =
      indent level ++ codes "cs " ++ decimal line ++ line_end ++ cases_text level cases ++
      indent level ++ codes "end" ++ line_end

  -- cases, with their bodies one level deeper
  pub cases_text : {n : _} → ℕ → Row_of-CaseText n → Text
  cases_text level end_of-CaseText = []
  cases_text level (more_of-CaseText facts steps end rest) =
      indent level ++ codes "case" ++ shown_text facts ++ line_end ++
      steps_text (suc level) steps ++ end_text (suc level) end ++ cases_text level rest

-- a body, so many cases deep
abbrev pub body_text : ℕ → BodyText → Text
body_text level body = steps_text level body.steps ++ end_text level body.end

-- a case, so many cases deep
abbrev pub case_text : ℕ → CaseText → Text
case_text level case =
    indent level ++ codes "case" ++ shown_text case.shown ++ line_end ++
    body_text (suc level) case.body

-- a script
abbrev pub script_text : Written → Text
script_text script =
    codes "vernacular " ++ decimal script.version ++ line_end ++
    codes "take " ++ names_text script.take ++ line_end ++ body_text 0 script.body
