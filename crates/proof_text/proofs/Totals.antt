-- What the watcher counts is told by the values: rule words, and the level of the deepest split.
use Rattle.std.specs.Prelude.{◌≡◌, ℕ, ◌+◌, ◌-◌, max, List, [], ◌∷◌, IsTrue}
use Rattle.std.proofs.Common.{refl, ◌∙◌, ap, arith}
use Rattle.std.proofs.lemmas.Bool.{false≢true}
use Rattle.token_grammar.specs.Building.{IsBuilding, RowLaws}
use Rattle.token_grammar.proofs.Laws.{building_by}
use Rattle.tptp_lexer.specs.Tokens.{Token as LexToken}
use Rattle.proof_text.specs.declared.body.CaseText.{CaseText}
use Rattle.proof_text.specs.declared.body.MpText.{MpText}
use Rattle.proof_text.specs.declared.body.BodyText.{BodyText}
use Rattle.proof_text.specs.declared.body.EndText.{EndText, As, Efq, Gap, Cs', Cs, Row_of-CaseText, end_of-CaseText, more_of-CaseText}
use Rattle.proof_text.specs.declared.body.EndText.TheBlock.{shape-the_row-CaseText-0}
use Rattle.proof_text.specs.declared.fixed.Fixed.TheVariants as fixed
use Rattle.proof_text.specs.declared.mark.Token.{Token}
use Rattle.proof_text.specs.declared.part.Edition.TheVariants.{First, Second}
use Rattle.proof_text.specs.declared.part.TextPart as TextPart
use Rattle.proof_text.specs.declared.part.TextPart.TheVariants.{Taken, Row}
use Rattle.proof_text.specs.declared.part.Taker.TheVariants as taker
use Rattle.proof_text.specs.declared.part.Rule as Rule
use Rattle.proof_text.specs.declared.part.Rule.TheVariants as rule
use Rattle.proof_text.specs.Grammar.{proof_texts, takes, alternatives}
use Rattle.proof_text.specs.Sizes.{size, end_size, end_nesting, greatest_nesting}
use Rattle.proof_text.specs.Values.{RuleValue, Value, of_token, makers, with_step, number_in, proof_text_making}
use Rattle.proof_text.proofs.Rows.{row_of, Cs_opens, Cs_size, sizes_in}

-- what is counted without a limit: rule words, open splits, the level of the deepest split so far, and wrong versions
pub record Total : Type 0 where
  pub applications : ℕ
  pub splits : ℕ
  pub deepest : ℕ
  pub wrong : ℕ

-- so many applications, splits, the deepest level, and what is wrong
abbrev pub total_of : ℕ → ℕ → ℕ → ℕ → Total
total_of applications splits deepest wrong =
    record { applications = applications; splits = splits; deepest = deepest; wrong = wrong }

-- so many rule words more, and a split at this level
abbrev pub with_more : ℕ → ℕ → Total → Total
with_more n level s = record s { applications = s.applications + n; deepest = max s.deepest level }

-- what a token adds
abbrev pub looks : TextPart.TextPart → Token → Total → Total
looks (Taken (taker.Fixed fixed.Mp does)) t s = with_more 1 0 s
looks (Taken (taker.Fixed fixed.As does)) t s = with_more 1 0 s
looks (Taken (taker.Fixed fixed.Efq does)) t s = with_more 1 0 s
looks (Taken (taker.Fixed fixed.Gap does)) t s = with_more 1 0 s
looks (Taken (taker.Fixed fixed.Cs does)) t s = record (with_more 1 (s.splits + 1) s) { splits = s.splits + 1 }
looks (Taken (taker.Fixed fixed.End does)) t s = record s { splits = s.splits - 1 }
looks (Taken taker.WrongVersion) t s = record s { wrong = s.wrong + 1 }
looks _ t s = s

abbrev mutual
  -- the level of the deepest split of an end, where so many are open around it; 0 where there is none
  pub end_deepest : ℕ → EndText → ℕ
  end_deepest level (As disjunct args) = 0
  end_deepest level Efq = 0
  end_deepest level (Gap within) = 0
  end_deepest level (Cs' line _ cases) = max (level + 1) (row_deepest (level + 1) cases)

  -- the deepest level of the cases of a split
  pub row_deepest : {n : _} → ℕ → Row_of-CaseText n → ℕ
  row_deepest level end_of-CaseText = 0
  row_deepest level (more_of-CaseText facts steps end rest) = max (end_deepest level end) (row_deepest level rest)

-- the same of a list of cases
abbrev pub deepest_in : ℕ → List CaseText → ℕ
deepest_in level [] = 0
deepest_in level (c ∷ cs) = max (end_deepest level c.body.end) (deepest_in level cs)

-- the deepest split of the row of a list
row_deepest_of : (level : ℕ) (cs : List CaseText) → row_deepest level (row_of cs) ≡ deepest_in level cs
unfolding row_of shape-the_row-CaseText-0
row_deepest_of level [] = refl
row_deepest_of level (c ∷ cs) = ap (λ (k : ℕ). max (end_deepest level c.body.end) k) (row_deepest_of level cs)

-- the deepest split of a split that code builds
pub Cs_deepest : (level line : ℕ) (cs : List CaseText) →
    end_deepest level (Cs line cs) ≡ max (level + 1) (deepest_in (level + 1) cs)
Cs_deepest level line cs =
    ap (end_deepest level) (Cs_opens line cs) ∙ ap (λ (k : ℕ). max (level + 1) k) (row_deepest_of (level + 1) cs)

mutual
  -- the deepest split is as deep as the nesting, behind the splits around
  pub end_deepest_is : (level : ℕ) (end : EndText) → max level (end_deepest level end) ≡ level + end_nesting end
  end_deepest_is level (As disjunct args) = omega arith
  end_deepest_is level Efq = omega arith
  end_deepest_is level (Gap within) = omega arith
  end_deepest_is level (Cs' line _ cases) = let deeper = row_deepest_is (level + 1) cases in omega (arith, deeper)

  -- the deepest level of cases is as much deeper as they are nested
  row_deepest_is : {n : _} (level : ℕ) (row : Row_of-CaseText n) → max level (row_deepest level row) ≡ level + greatest_nesting row
  row_deepest_is level end_of-CaseText = omega arith
  row_deepest_is level (more_of-CaseText facts steps end rest) =
      let first = end_deepest_is level end in
      let others = row_deepest_is level rest in
      omega (arith, first, others)

-- what a body adds
abbrev pub with_body : BodyText → Total → Total
with_body body s = with_more (size body) (end_deepest s.splits body.end) s

-- what a rule's value adds
abbrev pub rule_total : (r : Rule.Rule) → RuleValue r → Total → Total
rule_total rule.Text script s = with_body script.body s
rule_total rule.Version script s = with_body script.body s
rule_total (rule.Body e) body s = with_body body s
rule_total (rule.Step e) step s = with_more 1 0 s
rule_total (rule.Finish e) end s = with_more (end_size end) (end_deepest s.splits end) s
rule_total rule.SplitEnd done s = record s { splits = s.splits - 1 }
rule_total (rule.Case e) case s = with_body case.body s
rule_total (rule.MoreCases e) cases s = with_more (sizes_in cases) (deepest_in s.splits cases) s
rule_total _ value s = s

-- what a part's value adds
abbrev pub total_effect : (p : TextPart.TextPart) → Value p → Total → Total
total_effect (Taken by) t s = looks (Taken by) t s
total_effect (Row r) value s = rule_total r value s

-- totals of the same counts
same_total : (m n d e splits others wrong : ℕ) → m ≡ n → d ≡ e → splits ≡ others →
    total_of m splits d wrong ≡ total_of n others e wrong
same_total m n d e splits others wrong same deep levels =
    ap (λ (k : ℕ). total_of k splits d wrong) same ∙
    (ap (λ (k : ℕ). total_of n splits k wrong) deep ∙ ap (λ (k : ℕ). total_of n k e wrong) levels)

-- nothing is added
nothing_more : (s : Total) → s ≡ with_more 0 0 s
nothing_more s = same_total s.applications (s.applications + 0) s.deepest (max s.deepest 0) s.splits s.splits s.wrong
    (omega arith) (omega arith) refl

-- a step in front of a body
step_total : (step : MpText) (body : BodyText) (s : Total) →
    with_body body (with_more 1 0 s) ≡ with_body (with_step step body) s
step_total step body s = same_total ((s.applications + 1) + size body) (s.applications + size (with_step step body))
    (max (max s.deepest 0) (end_deepest s.splits body.end)) (max s.deepest (end_deepest s.splits body.end)) s.splits s.splits s.wrong
    (omega arith) (omega arith) refl

-- an end alone
end_total : (end : EndText) (s : Total) →
    with_more (end_size end) (end_deepest s.splits end) s ≡ with_body (record { steps = []; end = end }) s
end_total end s = same_total (s.applications + end_size end) (s.applications + (0 + end_size end))
    (max s.deepest (end_deepest s.splits end)) (max s.deepest (end_deepest s.splits end)) s.splits s.splits s.wrong
    (omega arith) refl refl

-- a case in front of further ones
cases_total : (c : CaseText) (cs : List CaseText) (s : Total) →
    with_more (sizes_in cs) (deepest_in s.splits cs) (with_body c.body s) ≡
    with_more (sizes_in (c ∷ cs)) (deepest_in s.splits (c ∷ cs)) s
cases_total c cs s = same_total ((s.applications + size c.body) + sizes_in cs) (s.applications + (size c.body + sizes_in cs))
    (max (max s.deepest (end_deepest s.splits c.body.end)) (deepest_in s.splits cs))
    (max s.deepest (max (end_deepest s.splits c.body.end) (deepest_in s.splits cs))) s.splits s.splits s.wrong
    (omega arith) (omega arith) refl

-- a split that opens and closes adds what it holds
split_total : (line : ℕ) (c : CaseText) (cs : List CaseText) (s : Total) →
    total_of (((s.applications + 1) + size c.body) + sizes_in cs) ((s.splits + 1) - 1)
    (max (max (max s.deepest (s.splits + 1)) (end_deepest (s.splits + 1) c.body.end)) (deepest_in (s.splits + 1) cs)) s.wrong ≡
    with_more (end_size (Cs line (c ∷ cs))) (end_deepest s.splits (Cs line (c ∷ cs))) s
split_total line c cs s =
    let sizes = Cs_size line (c ∷ cs) in
    let depth = Cs_deepest s.splits line (c ∷ cs) in
    same_total (((s.applications + 1) + size c.body) + sizes_in cs) (s.applications + end_size (Cs line (c ∷ cs)))
    (max (max (max s.deepest (s.splits + 1)) (end_deepest (s.splits + 1) c.body.end)) (deepest_in (s.splits + 1) cs))
    (max s.deepest (end_deepest s.splits (Cs line (c ∷ cs)))) ((s.splits + 1) - 1) s.splits s.wrong
    (omega (arith, sizes)) (omega (arith, depth)) (omega arith)

-- each row of parts adds what the value that is made of it adds
total_rows : (ts : List LexToken) (p : TextPart.TextPart) →
    RowLaws Value total_effect (λ p seen. seen) p (alternatives p) (makers ts p)
total_rows ts (Taken by) = tt
total_rows ts (Row rule.Text) = ((λ values s. refl), tt)
total_rows ts (Row rule.Version) = ((λ values s. refl), ((λ values s. refl), ((λ values s. absurd values.1.0), tt)))
total_rows ts (Row rule.Never) = tt
total_rows ts (Row rule.Head) = ((λ values s. refl), tt)
total_rows ts (Row rule.Names) = ((λ values s. refl), tt)
total_rows ts (Row rule.ListedNames) = ((λ values s. refl), ((λ values s. refl), tt))
total_rows ts (Row rule.MoreNames) = ((λ values s. refl), ((λ values s. refl), tt))
total_rows ts (Row (rule.Body e)) = ((λ values s. step_total values.0 values.1.0 s), ((λ values s. end_total values.0 s), tt))
total_rows ts (Row (rule.Step First)) = ((λ values s. refl), tt)
total_rows ts (Row (rule.Step Second)) = ((λ values s. refl), tt)
total_rows ts (Row (rule.Given First)) = ((λ values s. refl), tt)
total_rows ts (Row (rule.Given Second)) = ((λ values s. refl), ((λ values s. refl), tt))
total_rows ts (Row (rule.Finish First)) = ((λ values s. refl), ((λ values s. refl), ((λ values s. split_total (number_in values.1.0) values.1.1.1.0 values.1.1.1.1.0 s), tt)))
total_rows ts (Row (rule.Finish Second)) = ((λ values s. refl), ((λ values s. refl), ((λ values s. split_total (number_in values.1.0) values.1.1.1.0 values.1.1.1.1.0 s), ((λ values s. refl), tt))))
total_rows ts (Row rule.SplitEnd) = ((λ values s. refl), tt)
total_rows ts (Row (rule.Case e)) = ((λ values s. refl), tt)
total_rows ts (Row (rule.MoreCases e)) = ((λ values s. nothing_more s), ((λ values s. cases_total values.0 values.1.0 s), tt))
total_rows ts (Row (rule.CaseHead First)) = ((λ values s. refl), tt)
total_rows ts (Row (rule.CaseHead Second)) = ((λ values s. refl), ((λ values s. refl), tt))
total_rows ts (Row rule.Cite) = ((λ values s. refl), ((λ values s. refl), ((λ values s. refl), ((λ values s. refl), ((λ values s. refl), ((λ values s. refl), ((λ values s. refl), tt)))))))
total_rows ts (Row rule.Rank) = ((λ values s. refl), ((λ values s. refl), tt))
total_rows ts (Row rule.SignedSymbol) = ((λ values s. refl), ((λ values s. refl), tt))
total_rows ts (Row rule.Symbol) = ((λ values s. refl), ((λ values s. refl), tt))
total_rows ts (Row rule.Binds) = ((λ values s. refl), tt)
total_rows ts (Row rule.ListedBinds) = ((λ values s. refl), ((λ values s. refl), tt))
total_rows ts (Row rule.MoreBinds) = ((λ values s. refl), ((λ values s. refl), tt))
total_rows ts (Row rule.Bind) = ((λ values s. refl), tt)
total_rows ts (Row rule.Line) = ((λ values s. refl), ((λ values s. refl), ((λ values s. refl), ((λ values s. refl), tt))))
total_rows ts (Row rule.AfterTrue) = ((λ values s. refl), ((λ values s. refl), tt))
total_rows ts (Row rule.AfterAtom) = ((λ values s. refl), ((λ values s. refl), ((λ values s. refl), tt)))
total_rows ts (Row rule.AfterGroup) = ((λ values s. refl), tt)
total_rows ts (Row rule.Bars) = ((λ values s. refl), ((λ values s. refl), tt))
total_rows ts (Row rule.LinePart) = ((λ values s. refl), ((λ values s. refl), ((λ values s. refl), tt)))
total_rows ts (Row rule.Group) = ((λ values s. refl), tt)
total_rows ts (Row rule.MoreAtoms) = ((λ values s. refl), ((λ values s. refl), tt))
total_rows ts (Row rule.Facts) = ((λ values s. refl), ((λ values s. refl), tt))
total_rows ts (Row rule.Atom) = ((λ values s. refl), ((λ values s. refl), tt))
total_rows ts (Row rule.AfterWord) = ((λ values s. refl), ((λ values s. refl), ((λ values s. refl), ((λ values s. refl), tt))))
total_rows ts (Row rule.AfterNegated) = ((λ values s. refl), ((λ values s. refl), tt))
total_rows ts (Row (rule.Does does)) = ((λ values s. refl), tt)

-- at a token what is added is what the token's value adds
total_tokens : (p : TextPart.TextPart) (t : Token) (taken : IsTrue (takes p t)) (s : Total) →
    looks p t s ≡ total_effect p (of_token p t taken) s
total_tokens (Taken by) t taken s = refl
total_tokens (Row r) t taken s = absurd (false≢true taken)

-- what is counted over the tokens of a value is told by the value
pub total_building : (ts : List LexToken) →
    IsBuilding proof_texts Value (proof_text_making ts) looks (λ p seen. seen) total_effect
total_building ts = building_by proof_texts Value of_token (makers ts) looks (λ p seen. seen) total_effect total_tokens (total_rows ts)
