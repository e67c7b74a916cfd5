-- A split's cases as a list: how a value that code builds opens to the rows that the definitions go over.
use Rattle.std.proofs.Common.{◌≡◌, ℕ, ◌+◌, List, [], ◌∷◌, refl, ap, sym, ◌∙◌}
use mathlib.Core.Former.{arity, list, this}
use denote.Hole.Carrier.{hidden}
use Rattle.proof_text.specs.Sizes.{size, case_sizes, end_size}
use Rattle.proof_text.specs.declared.body.CaseText.{CaseText}
use Rattle.proof_text.specs.declared.body.BodyText.{BodyText}
use Rattle.proof_text.specs.declared.body.EndText.{EndText, As, Efq, Gap, Cs', Cs, Row_of-CaseText, end_of-CaseText, more_of-CaseText}
use Rattle.proof_text.specs.declared.body.EndText.TheBlock.{shape-the_row-CaseText-0, hidden-the_row-CaseText-0}
use Rattle.proof_text.specs.declared.body.EndText.TheViews as views
use Rattle.proof_text.specs.declared.body.EndText.TheOpen as layers

-- the row of a list of cases
unfoldable pub row_of : (cs : List CaseText) → Row_of-CaseText (arity (list this) (shape-the_row-CaseText-0 cs))
unfolding shape-the_row-CaseText-0
row_of [] = end_of-CaseText
row_of (c ∷ cs) = more_of-CaseText c.shown c.body.steps c.body.end (row_of cs)

-- the row inside a split that code builds is the row of its list of cases
hidden_is : (cs : List CaseText) → hidden-the_row-CaseText-0 cs ≡ row_of cs
unfolding row_of hidden-the_row-CaseText-0 hidden shape-the_row-CaseText-0
hidden_is [] = refl
hidden_is (c ∷ cs) = ap (more_of-CaseText c.shown c.body.steps c.body.end) (hidden_is cs)

-- a split that code builds opens to the row of its list of cases
pub Cs_opens : (line : ℕ) (cs : List CaseText) → Cs line cs ≡ Cs' line (shape-the_row-CaseText-0 cs) (row_of cs)
unfolding hidden-the_row-CaseText-0
Cs_opens line cs = ap (Cs' line (shape-the_row-CaseText-0 cs)) (hidden_is cs)

-- the rule applications of cases, added up
abbrev pub sizes_in : List CaseText → ℕ
sizes_in [] = 0
sizes_in (c ∷ cs) = size c.body + sizes_in cs

-- the rule applications of the row of a list of cases
pub row_sizes : (cs : List CaseText) → case_sizes (row_of cs) ≡ sizes_in cs
unfolding row_of shape-the_row-CaseText-0
row_sizes [] = refl
row_sizes (c ∷ cs) = ap (λ (k : ℕ). size c.body + k) (row_sizes cs)

-- a split counts 1, and each application of its cases
pub Cs_size : (line : ℕ) (cs : List CaseText) → end_size (Cs line cs) ≡ 1 + sizes_in cs
Cs_size line cs = ap end_size (Cs_opens line cs) ∙ ap (λ (k : ℕ). 1 + k) (row_sizes cs)

-- the cases of a row
abbrev pub cases_of_row : {n : _} → Row_of-CaseText n → List CaseText
cases_of_row end_of-CaseText = []
cases_of_row (more_of-CaseText facts steps end rest) =
    record { shown = facts; body = record { steps = steps; end = end } } ∷ cases_of_row rest

-- the cases of the row of a list are that list
pub cases_row : (cs : List CaseText) → cases_of_row (row_of cs) ≡ cs
unfolding row_of shape-the_row-CaseText-0
cases_row [] = refl
cases_row (c ∷ cs) = ap (λ (rest : List CaseText). c ∷ rest) (cases_row cs)

-- the line of a split, and 0 of any other end
abbrev line_part : EndText → ℕ
line_part (As disjunct args) = 0
line_part Efq = 0
line_part (Gap within) = 0
line_part (Cs' line _ row) = line

-- the cases of a split, and none of any other end
abbrev row_part : EndText → List CaseText
row_part (As disjunct args) = []
row_part Efq = []
row_part (Gap within) = []
row_part (Cs' line _ row) = cases_of_row row

-- every split is that of its line and the list of its cases
pub Cs_shut : (line : ℕ) (s : (list {0} this).Shape) (row : Row_of-CaseText (arity (list {0} this) s)) → Cs' line s row ≡ Cs line (cases_of_row row)
Cs_shut line s row = go (views.out-EndText (Cs' line s row)) refl
  where
    split : (line2 : ℕ) (cs : List CaseText) → Cs' line s row ≡ Cs' line2 (shape-the_row-CaseText-0 cs) (row_of cs) → Cs' line s row ≡ Cs line2 cs →
        Cs' line s row ≡ Cs line (cases_of_row row)
    split line2 cs opened shut =
        let same_line : line ≡ line2 = ap line_part opened in
        let same_row : cases_of_row row ≡ cs = ap row_part opened ∙ cases_row cs in
        shut ∙ ap (λ (l : ℕ). Cs l cs) (sym same_line) ∙ ap (Cs line) (sym same_row)

    rolled : (layer : layers.EndText-F EndText BodyText CaseText) → views.out-EndText (Cs' line s row) ≡ layer → Cs' line s row ≡ views.roll-EndText layer
    rolled layer is = sym (views.roll-out-EndText (Cs' line s row)) ∙ ap views.roll-EndText is

    go : (layer : layers.EndText-F EndText BodyText CaseText) → views.out-EndText (Cs' line s row) ≡ layer → Cs' line s row ≡ Cs line (cases_of_row row)
    go (layers.As disjunct args) is =
        let e : Cs' line s row ≡ As disjunct args = rolled (layers.As disjunct args) is ∙ views.rolls-As disjunct args in absurd (cc)
    go layers.Efq is = let e : Cs' line s row ≡ Efq = rolled layers.Efq is ∙ views.rolls-Efq in absurd (cc)
    go (layers.Gap within) is = let e : Cs' line s row ≡ Gap within = rolled (layers.Gap within) is ∙ views.rolls-Gap within in absurd (cc)
    go (layers.Cs line2 cs) is =
        let shut : Cs' line s row ≡ Cs line2 cs = rolled (layers.Cs line2 cs) is ∙ views.rolls-Cs line2 cs in
        split line2 cs (shut ∙ Cs_opens line2 cs) shut
