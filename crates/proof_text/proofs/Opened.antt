-- The text of a split, by the list of its cases.
use Rattle.std.proofs.Common.{◌≡◌, ◌≤◌, ℕ, suc, List, [], ◌∷◌, ◌++◌, codes, refl, ap, sym, ◌∙◌, append_assoc, flat_map, subst}
use Rattle.std.specs.Fmt.{decimal}
use Rattle.text_core.specs.Names.{Text}
use Rattle.proof_text.specs.declared.body.CaseText.{CaseText}
use Rattle.proof_text.specs.declared.body.EndText.{EndText, Cs}
use Rattle.proof_text.specs.declared.body.EndText.TheBlock.{shape-the_row-CaseText-0}
use Rattle.std.specs.List.{AllByRecursion}
use Rattle.proof_text.specs.Marks.{most_number}
use Rattle.proof_text.specs.Named.{CaseIsNamed, CasesAreNamed, EndIsNamed}
use Rattle.proof_text.specs.Canonical.{indent, shown_text, line_end, steps_text, end_text, cases_text, case_text}
use Rattle.proof_text.proofs.Rows.{row_of, Cs_opens}

-- the text of the row of a list of cases
row_text : (level : ℕ) (cs : List CaseText) → cases_text level (row_of cs) ≡ flat_map (case_text level) cs
unfolding row_of shape-the_row-CaseText-0
row_text level [] = refl
row_text level (c ∷ cs) =
    let head : Text = indent level ++ codes "case" ++ shown_text c.shown ++ line_end in
    ap (λ (t : Text). head ++ steps_text (suc level) c.body.steps ++ end_text (suc level) c.body.end ++ t) (row_text level cs) ∙
    ap (λ (t : Text). t ++ flat_map (case_text level) cs)
    (append_assoc head (steps_text (suc level) c.body.steps) (end_text (suc level) c.body.end))

-- the text of a split that code builds
pub Cs_text : (level line : ℕ) (cs : List CaseText) → end_text level (Cs line cs) ≡
    indent level ++ codes "cs " ++ decimal line ++ line_end ++ flat_map (case_text level) cs ++
    indent level ++ codes "end" ++ line_end
Cs_text level line cs =
    ap (end_text level) (Cs_opens line cs) ∙
    ap (λ (t : Text). indent level ++ codes "cs " ++ decimal line ++ line_end ++ t ++ indent level ++ codes "end" ++ line_end) (row_text level cs)

-- the row of named cases is named
row_named : (cs : List CaseText) → AllByRecursion CaseIsNamed cs → CasesAreNamed (row_of cs)
unfolding row_of shape-the_row-CaseText-0
row_named [] h = tt
row_named (c ∷ cs) h = (h.0.0, h.0.1.0, h.0.1.1, row_named cs h.1)

-- a split with named cases is named, where its line and its cases are
pub named_Cs : (end : EndText) (line : ℕ) (cs ds : List CaseText) → end ≡ Cs line cs → ds ≡ cs → line ≤ most_number →
    AllByRecursion CaseIsNamed ds → EndIsNamed end
named_Cs end line cs ds is same fits h =
    subst EndIsNamed (sym (is ∙ ap (Cs line) (sym same) ∙ Cs_opens line ds)) (fits, row_named ds h)

-- what six pushes append
six_order : (o a v d t n b : Text) → (((((o ++ a) ++ v) ++ (d ++ t)) ++ n) ++ d) ++ b ≡ o ++ (a ++ v ++ d ++ t ++ n ++ d ++ b)
six_order o a v d t n b = simp append_assoc

-- the pushes of a script make its text
pub script_order : (o version names body : Text) →
    (((((o ++ codes "vernacular ") ++ version) ++ codes ".\ntake ") ++ names) ++ codes ".\n") ++ body ≡
    o ++ (codes "vernacular " ++ version ++ line_end ++ codes "take " ++ names ++ line_end ++ body)
script_order o version names body = six_order o (codes "vernacular ") version line_end (codes "take ") names body
