-- What the watcher counts is told by the values: rule words, and the level of the deepest split.
use Rattle.std.specs.Prelude.{◌≡◌, ℕ, ◌+◌, ◌-◌, max, List, [], ◌∷◌, IsTrue}
use Rattle.std.proofs.Common.{refl, ◌∙◌, ap, arith}
use Rattle.std.proofs.lemmas.Bool.{false≢true}
use Rattle.token_grammar.specs.Building.{IsBuilding, RowLaws}
use Rattle.token_grammar.proofs.Laws.{building_by}
use Rattle.proof_text.specs.declared.body.CaseText.{CaseText}
use Rattle.proof_text.specs.declared.body.MpText.{MpText}
use Rattle.proof_text.specs.declared.body.BodyText.{BodyText}
use Rattle.proof_text.specs.declared.body.EndText as EndText
use Rattle.proof_text.specs.declared.body.EndText.{As, Efq, Gap, Cs', Cs}
use Rattle.proof_text.specs.declared.part.Act.TheVariants.{EndAs, EndEfq, EndSplit}
use Rattle.proof_text.specs.Sizes.{size, end_size, case_sizes}
use Rattle.proof_text.specs.Values.{with_step}
use Rattle.proof_text.proofs.Laws.{Cs_size, sizes_in, end_deepest, deepest_in, Cs_deepest}
use Rattle.isar_text.specs.declared.fixed.Fixed.TheVariants as fixed
use Rattle.isar_text.specs.declared.mark.Token.{Token}
use Rattle.isar_text.specs.declared.part.IsarPart as IsarPart
use Rattle.isar_text.specs.declared.part.IsarPart.TheVariants.{Taken, Row}
use Rattle.isar_text.specs.declared.part.Taker.TheVariants as taker
use Rattle.isar_text.specs.declared.part.Rule as Rule
use Rattle.isar_text.specs.declared.part.Rule.TheVariants as rule
use Rattle.isar_text.specs.Grammar.{isar_rests, takes, alternatives}
use Rattle.isar_text.specs.Values.{Lexed, RuleValue, Value, of_token, makers, number_in, isar_making}

-- what is counted without a limit: rule words, open splits, the level of the deepest split so far; and the label that an
-- end uses first, 0 where none is open
pub record Total : Type 0 where
  pub applications : ℕ
  pub splits : ℕ
  pub deepest : ℕ
  pub label : ℕ

-- so many applications, splits, the deepest level, and the label
abbrev pub total_of : ℕ → ℕ → ℕ → ℕ → Total
total_of applications splits deepest label =
    record { applications = applications; splits = splits; deepest = deepest; label = label }

-- so many rule words more, and a split at this level
abbrev pub with_more : ℕ → ℕ → Total → Total
with_more n level s = record s { applications = s.applications + n; deepest = max s.deepest level }

-- the same behind an end
abbrev pub ended_with : ℕ → ℕ → Total → Total
ended_with n level s = record (with_more n level s) { label = 0 }

-- what a token adds
abbrev pub looks : IsarPart.IsarPart → Token → Total → Total
looks (Taken (taker.Fixed fixed.Have does)) t s = with_more 1 0 s
looks (Taken (taker.Fixed fixed.Obtain does)) t s = with_more 1 0 s
looks (Taken (taker.Fixed fixed.Show does)) t s = with_more 1 0 s
looks (Taken (taker.Fixed fixed.Proof does)) t s =
    record (with_more 0 (s.splits + 1) s) { splits = s.splits + 1 }
looks (Taken (taker.Fixed fixed.Qed EndSplit)) t s = record s { splits = s.splits - 1; label = 0 }
looks (Taken (taker.Fixed fixed.CloseComment EndAs)) t s = record s { label = 0 }
looks (Taken (taker.Fixed fixed.CloseComment EndEfq)) t s = record s { label = 0 }
looks (Taken (taker.SplitLine n)) t s = record s { label = number_in t }
looks _ t s = s

-- the rule applications of an end but for its own one
abbrev pub inner_size : EndText.EndText → ℕ
inner_size (As disjunct args) = 0
inner_size Efq = 0
inner_size (Gap within) = 0
inner_size (Cs' line _ cases) = case_sizes cases

-- with its own one they are its size
size_inner : (end : EndText.EndText) → end_size end ≡ 1 + inner_size end
size_inner (As disjunct args) = refl
size_inner Efq = refl
size_inner (Gap within) = refl
size_inner (Cs' line _ cases) = refl

-- those of a split that code builds are those of its cases
Cs_inner : (line : ℕ) (cs : List CaseText) → inner_size (Cs line cs) ≡ sizes_in cs
Cs_inner line cs =
    let inner = size_inner (Cs line cs) in
    let sizes = Cs_size line cs in
    omega (arith, inner, sizes)

-- what a body adds, and what an end adds behind its first word
abbrev pub with_body : BodyText → Total → Total
with_body body s = ended_with (size body) (end_deepest s.splits body.end) s

abbrev pub with_end : EndText.EndText → Total → Total
with_end end s = ended_with (inner_size end) (end_deepest s.splits end) s

-- the label behind cases
abbrev label_behind : List CaseText → ℕ → ℕ
label_behind [] label = label
label_behind (c ∷ cs) label = 0

abbrev pub with_cases : List CaseText → Total → Total
with_cases cases s =
    record (with_more (sizes_in cases) (deepest_in s.splits cases) s) {
      label =
          label_behind cases s.label;
    }

-- what a rule's value adds
abbrev pub rule_total : (r : Rule.Rule) → RuleValue r → Total → Total
rule_total rule.Rest body s = with_body body s
rule_total (rule.Body n) body s = with_body body s
rule_total (rule.Step n) step s = with_more 1 0 s
rule_total (rule.Finish n) end s = ended_with (end_size end) (end_deepest s.splits end) s
rule_total (rule.AfterThesis n) end s = with_end end s
rule_total (rule.AfterLine n) end s = with_end (end s.label) s
rule_total rule.Reason end s = with_end end s
rule_total rule.Inside end s = with_end end s
rule_total (rule.Case n) case s = with_body case.body s
rule_total (rule.MoreCases n) cases s = with_cases cases s
rule_total _ value s = s

-- what a part's value adds
abbrev pub total_effect : (p : IsarPart.IsarPart) → Value p → Total → Total
total_effect (Taken by) t s = looks (Taken by) t s
total_effect (Row r) value s = rule_total r value s

-- totals of the same counts
same_total : (m n d e splits others label : ℕ) → m ≡ n → d ≡ e → splits ≡ others →
    total_of m splits d label ≡ total_of n others e label
same_total m n d e splits others label same deep levels =
    ap (λ (k : ℕ). total_of k splits d label) same ∙
    (ap (λ (k : ℕ). total_of n splits k label) deep ∙ ap (λ (k : ℕ). total_of n k e label) levels)

-- nothing is added
nothing_more : (s : Total) → s ≡ with_more 0 0 s
nothing_more s = same_total s.applications (s.applications + 0) s.deepest (max s.deepest 0) s.splits s.splits s.label
    (omega arith) (omega arith) refl

-- a step in front of a body
step_total : (step : MpText) (body : BodyText) (s : Total) →
    with_body body (with_more 1 0 s) ≡ with_body (with_step step body) s
step_total step body s = same_total ((s.applications + 1) + size body) (s.applications + size (with_step step body))
    (max (max s.deepest 0) (end_deepest s.splits body.end)) (max s.deepest (end_deepest s.splits body.end)) s.splits s.splits 0
    (omega arith) (omega arith) refl

-- an end alone
end_total : (end : EndText.EndText) (s : Total) →
    ended_with (end_size end) (end_deepest s.splits end) s ≡ with_body (record { steps = []; end = end }) s
end_total end s = same_total (s.applications + end_size end) (s.applications + (0 + end_size end))
    (max s.deepest (end_deepest s.splits end)) (max s.deepest (end_deepest s.splits end)) s.splits s.splits 0
    (omega arith) refl refl

-- an end behind its first word
thesis_total : (end : EndText.EndText) (s : Total) →
    with_end end (with_more 1 0 s) ≡ ended_with (end_size end) (end_deepest s.splits end) s
thesis_total end s =
    let inner = size_inner end in
    same_total ((s.applications + 1) + inner_size end) (s.applications + end_size end)
    (max (max s.deepest 0) (end_deepest s.splits end)) (max s.deepest (end_deepest s.splits end)) s.splits s.splits 0
    (omega (arith, inner)) (omega arith) refl

-- an end that adds nothing
bare_total : (s : Total) → record s { label = 0 } ≡ ended_with 0 0 s
bare_total s = same_total s.applications (s.applications + 0) s.deepest (max s.deepest 0) s.splits s.splits 0
    (omega arith) (omega arith) refl

-- no label is open behind cases where none is before them
none_behind : (cs : List CaseText) → label_behind cs 0 ≡ 0
none_behind [] = refl
none_behind (c ∷ cs) = refl

-- a case in front of further ones
cases_total : (c : CaseText) (cs : List CaseText) (s : Total) → with_cases cs (with_body c.body s) ≡ with_cases (c ∷ cs) s
cases_total c cs s =
    ap (λ (label : ℕ). record (with_cases cs (with_body c.body s)) { label = label }) (none_behind cs) ∙
    same_total ((s.applications + size c.body) + sizes_in cs) (s.applications + (size c.body + sizes_in cs))
    (max (max s.deepest (end_deepest s.splits c.body.end)) (deepest_in s.splits cs))
    (max s.deepest (max (end_deepest s.splits c.body.end) (deepest_in s.splits cs))) s.splits s.splits 0
    (omega arith) (omega arith) refl

-- a split that opens and closes adds what it holds
split_total : (line : ℕ) (c : CaseText) (cs : List CaseText) (s : Total) →
    total_of (((s.applications + 0) + size c.body) + sizes_in cs) ((s.splits + 1) - 1)
    (max (max (max s.deepest (s.splits + 1)) (end_deepest (s.splits + 1) c.body.end)) (deepest_in (s.splits + 1) cs)) 0 ≡
    with_end (Cs line (c ∷ cs)) s
split_total line c cs s =
    let sizes = Cs_inner line (c ∷ cs) in
    let depth = Cs_deepest s.splits line (c ∷ cs) in
    same_total (((s.applications + 0) + size c.body) + sizes_in cs) (s.applications + inner_size (Cs line (c ∷ cs)))
    (max (max (max s.deepest (s.splits + 1)) (end_deepest (s.splits + 1) c.body.end)) (deepest_in (s.splits + 1) cs))
    (max s.deepest (end_deepest s.splits (Cs line (c ∷ cs)))) ((s.splits + 1) - 1) s.splits 0
    (omega (arith, sizes)) (omega (arith, depth)) (omega arith)

-- each row of parts adds what the value that is made of it adds
total_rows : (lexed : Lexed) (p : IsarPart.IsarPart) →
    RowLaws Value total_effect (λ p seen. seen) p (alternatives p) (makers lexed p)
total_rows lexed (Taken by) = tt
total_rows lexed (Row rule.Rest) = ((λ values s. refl), tt)
total_rows lexed (Row (rule.Body n)) = ((λ values s. step_total values.0 values.1.0 s), ((λ values s. end_total values.0 s), tt))
total_rows lexed (Row (rule.Step n)) = ((λ values s. refl), ((λ values s. refl), tt))
total_rows lexed (Row (rule.Given n)) = ((λ values s. refl), tt)
total_rows lexed (Row rule.QuotedLine) = ((λ values s. refl), tt)
total_rows lexed (Row (rule.Using n)) = ((λ values s. refl), tt)
total_rows lexed (Row (rule.MoreLines n)) = ((λ values s. refl), ((λ values s. refl), tt))
total_rows lexed (Row rule.Instance) = ((λ values s. refl), tt)
total_rows lexed (Row rule.StepEnd) = ((λ values s. refl), tt)
total_rows lexed (Row (rule.Finish n)) = ((λ values s. thesis_total values.1.1.0 s), tt)
total_rows lexed (Row (rule.AfterThesis n)) = ((λ values s. refl), ((λ values s. refl), tt))
total_rows lexed (Row (rule.AfterLine n)) = ((λ values s. split_total s.label values.1.1.0 values.1.1.1.0 s), ((λ values s. refl), tt))
total_rows lexed (Row rule.ByCases) = ((λ values s. refl), tt)
total_rows lexed (Row rule.Reason) = ((λ values s. refl), tt)
total_rows lexed (Row rule.Inside) = ((λ values s. bare_total s), ((λ values s. bare_total s), tt))
total_rows lexed (Row rule.ByBlast) = ((λ values s. refl), tt)
total_rows lexed (Row (rule.Case n)) = ((λ values s. refl), tt)
total_rows lexed (Row (rule.CaseHead n)) = ((λ values s. refl), tt)
total_rows lexed (Row rule.QuotedFacts) = ((λ values s. refl), tt)
total_rows lexed (Row (rule.MoreCases n)) = ((λ values s. nothing_more s), ((λ values s. cases_total values.1.0 values.1.1.0 s), tt))
total_rows lexed (Row rule.Names) = ((λ values s. refl), tt)
total_rows lexed (Row rule.ListedNames) = ((λ values s. refl), ((λ values s. refl), tt))
total_rows lexed (Row rule.MoreNames) = ((λ values s. refl), ((λ values s. refl), tt))
total_rows lexed (Row rule.MoreWords) = ((λ values s. refl), ((λ values s. refl), tt))
total_rows lexed (Row rule.Line) = ((λ values s. refl), ((λ values s. refl), ((λ values s. refl), ((λ values s. refl), tt))))
total_rows lexed (Row rule.AfterTrue) = ((λ values s. refl), ((λ values s. refl), tt))
total_rows lexed (Row rule.AfterAtom) = ((λ values s. refl), ((λ values s. refl), ((λ values s. refl), tt)))
total_rows lexed (Row rule.AfterGroup) = ((λ values s. refl), tt)
total_rows lexed (Row rule.Bars) = ((λ values s. refl), ((λ values s. refl), tt))
total_rows lexed (Row rule.LinePart) = ((λ values s. refl), ((λ values s. refl), ((λ values s. refl), tt)))
total_rows lexed (Row rule.Group) = ((λ values s. refl), tt)
total_rows lexed (Row rule.MoreAtoms) = ((λ values s. refl), ((λ values s. refl), tt))
total_rows lexed (Row rule.Facts) = ((λ values s. refl), ((λ values s. refl), tt))
total_rows lexed (Row rule.Atom) = ((λ values s. refl), ((λ values s. refl), tt))
total_rows lexed (Row rule.AfterName) = ((λ values s. refl), ((λ values s. refl), ((λ values s. refl), ((λ values s. refl), tt))))
total_rows lexed (Row rule.AfterNegated) = ((λ values s. refl), ((λ values s. refl), tt))
total_rows lexed (Row (rule.Acts does)) = ((λ values s. refl), tt)
total_rows lexed (Row (rule.Does does)) = ((λ values s. refl), tt)

-- at a token what is added is what the token's value adds
total_tokens : (p : IsarPart.IsarPart) (t : Token) (taken : IsTrue (takes p t)) (s : Total) →
    looks p t s ≡ total_effect p (of_token p t taken) s
total_tokens (Taken by) t taken s = refl
total_tokens (Row r) t taken s = absurd (false≢true taken)

-- what is counted over the tokens of a value is told by the value
pub total_building : (lexed : Lexed) →
    IsBuilding isar_rests Value (isar_making lexed) looks (λ p seen. seen) total_effect
total_building lexed =
    building_by isar_rests Value of_token (makers lexed) looks (λ p seen. seen) total_effect total_tokens (total_rows lexed)
