-- What tokens spell is a proper script but for its bounds: a line for each row.
use Rattle.std.specs.Prelude.{◌≡◌, ℕ, suc, ◌≤◌, nat_le, ◌==◌, ◌&&◌, Bool, true, false, List, [], ◌∷◌, Option, Some, None, slice_get, option_map, IsTrue, if◌then◌else◌}
use Rattle.std.specs.List.{AllByRecursion}
use Rattle.std.proofs.Common.{refl, sym, ◌∙◌, ap, subst, arith}
use Rattle.std.proofs.lemmas.Bool.{false≢true}
use Rattle.std.proofs.lemmas.Option.{slice_get-map}
use Rattle.text_core.specs.Names.{Text}
use Rattle.text_core.specs.NameTexts.{is_upper_word}
use Rattle.text_core.specs.Numbered.{text_or_empty}
use Rattle.text_core.proofs.Laws.{each_append, each_get}
use Rattle.token_grammar.specs.SpelledAs.{SpelledAs}
use Rattle.tptp_lexer.specs.declared.kind.Kind.{Kind}
use Rattle.tptp_lexer.specs.declared.kind.Kind.TheVariants as kind
use Rattle.tptp_lexer.specs.Kinds.{kind_of}
use Rattle.tptp_lexer.specs.Tokens.{Token as LexToken, AreTokens, name_of, named}
use Rattle.proof_text.specs.declared.limits.TheConstants.{MOST_WITHIN}
use Rattle.proof_text.specs.declared.body.NamedAtom.{NamedAtom}
use Rattle.proof_text.specs.declared.body.CaseText.{CaseText}
use Rattle.proof_text.specs.declared.body.EndText.{Cs}
use Rattle.proof_text.specs.declared.body.EndText.TheBlock.{shape-the_row-CaseText-0}
use Rattle.proof_text.specs.declared.fixed.Fixed as Fixed
use Rattle.proof_text.specs.declared.mark.Integer as Integer
use Rattle.proof_text.specs.declared.mark.Integer.TheVariants as integer
use Rattle.proof_text.specs.declared.mark.Mark as Mark
use Rattle.proof_text.specs.declared.mark.Mark.TheVariants as mark
use Rattle.proof_text.specs.declared.mark.Token.{Token}
use Rattle.proof_text.specs.declared.part.Edition as Edition
use Rattle.proof_text.specs.declared.part.Edition.TheVariants.{First, Second}
use Rattle.proof_text.specs.declared.part.TextPart as TextPart
use Rattle.proof_text.specs.declared.part.TextPart.TheVariants.{Taken, Row}
use Rattle.proof_text.specs.declared.part.Taker.TheVariants as taker
use Rattle.proof_text.specs.declared.part.Naming.TheVariants as naming
use Rattle.proof_text.specs.declared.part.Counting.TheVariants as counting
use Rattle.proof_text.specs.declared.part.Rule as Rule
use Rattle.proof_text.specs.declared.part.Rule.TheVariants as rule
use Rattle.proof_text.specs.Fixed.{keyword_of, dollar_of}
use Rattle.proof_text.specs.Marks.{mark_of, marked, fixed_or, integer_mark, number_mark, number_in as number_read, fitting_mark, is_signed}
use Rattle.proof_text.specs.Grammar.{proof_texts, takes, alternatives, names, is_few}
use Rattle.proof_text.specs.Values.{RuleValue, Value, Written, of_token, makers, name_in, number_in, marked_number, proof_text_making}
use Rattle.proof_text.specs.Proper.{AtomIsProper, AtomsAreProper, LineIsProper, IsShownIn, BindIsProper, StepIsProper, EndIsProper, HasCase, CasesAreProper, BodyIsProper, version_number}
use Rattle.proof_text.proofs.OfKinds.{kinds_proper, upper_is_word}
use Rattle.proof_text.proofs.Marked.{got_marked, seen_as}
use Rattle.proof_text.proofs.Rows.{row_of, Cs_opens}
use Rattle.proof_text.proofs.Valued.{RowsHold, value_holds}

-- a case is proper where its facts and its body are
abbrev pub CaseIsProper : Edition.Edition → CaseText → Type 0
CaseIsProper e case = IsShownIn e AtomsAreProper case.shown × BodyIsProper e case.body

-- the row of proper cases is proper
cases_proper : (e : Edition.Edition) (cs : List CaseText) → AllByRecursion (CaseIsProper e) cs → CasesAreProper e (row_of cs)
unfolding row_of shape-the_row-CaseText-0
cases_proper e [] h = tt
cases_proper e (c ∷ cs) h = (h.0.0, h.0.1.0, h.0.1.1, cases_proper e cs h.1)

-- the row of a case and further ones has a case
has_case : (c : CaseText) (cs : List CaseText) → HasCase (row_of (c ∷ cs))
unfolding row_of shape-the_row-CaseText-0
has_case c cs = tt

-- a split of proper cases is proper
pub Cs_proper : (e : Edition.Edition) (line : ℕ) (c : CaseText) (cs : List CaseText) → AllByRecursion (CaseIsProper e) (c ∷ cs) →
    EndIsProper e (Cs line (c ∷ cs))
Cs_proper e line c cs h =
    subst (EndIsProper e) (sym (Cs_opens line (c ∷ cs))) (has_case c cs, cases_proper e (c ∷ cs) h)

-- a number that a gap may have is within its bounds
abbrev IntegerIsProper : Integer.Integer → Type 0
IntegerIsProper (integer.Few n) = (1 ≤ n) × (n ≤ MOST_WITHIN)
IntegerIsProper _ = Unit {0}

-- the integer of a mark, if it is one, is proper
abbrev MarkIsProper : Mark.Mark → Type 0
MarkIsProper (mark.Integer i) = IntegerIsProper i
MarkIsProper _ = Unit {0}

-- the mark of a number is proper
number_proper : (n : ℕ) → IntegerIsProper (number_mark n)
number_proper n = by_one (n == 1) (n == 2) (nat_le 1 n) (nat_le n MOST_WITHIN) refl refl
  where
    by_one : (one two least most : Bool) → nat_le 1 n ≡ least → nat_le n MOST_WITHIN ≡ most →
        IntegerIsProper (if one then integer.One else (if two then integer.Two else (if least && most then integer.Few n else integer.Number n)))
    by_one true two least most e f = tt
    by_one false true least most e f = tt
    by_one false false true true e f = (grind (arith, e), grind (arith, f))
    by_one false false true false e f = tt
    by_one false false false most e f = tt

-- the mark of an integer is proper
integer_proper : (text : Text) → IntegerIsProper (integer_mark text)
integer_proper text = by_sign (is_signed text) (number_read text)
  where
    by_sign : (signed : Bool) (found : Option ℕ) → IntegerIsProper (if signed then integer.NoNumber else fitting_mark found)
    by_sign true found = tt
    by_sign false None = tt
    by_sign false (Some n) = number_proper n

-- a mark by its text is proper
fixed_proper : (other : Mark.Mark) (found : Option Fixed.Fixed) → MarkIsProper other → MarkIsProper (fixed_or other found)
fixed_proper m None h = h
fixed_proper m (Some f) h = tt

-- each mark is proper
mark_proper : (k : Kind) (text : Text) → MarkIsProper (mark_of k text)
mark_proper kind.Lower text = fixed_proper mark.Word (keyword_of text) tt
mark_proper kind.Dollar text = fixed_proper mark.Other (dollar_of text) tt
mark_proper kind.Integer text = integer_proper text
mark_proper _ text = tt

-- an upper word's mark is its own
upper_marked : (k : Kind) (text : Text) → mark_of k text ≡ mark.Upper → k ≡ kind.Upper
upper_marked kind.Upper text e = refl
upper_marked kind.Lower text e = absurd (by_word (keyword_of text) e)
  where
    by_word : (found : Option Fixed.Fixed) → fixed_or mark.Word found ≡ mark.Upper → ⊥
    by_word None e = cc
    by_word (Some f) e = cc
upper_marked kind.Dollar text e = absurd (by_word (dollar_of text) e)
  where
    by_word : (found : Option Fixed.Fixed) → fixed_or mark.Other found ≡ mark.Upper → ⊥
    by_word None e = cc
    by_word (Some f) e = cc
upper_marked _ text e = absurd (cc)

module _ (ts : List LexToken) where
  -- what holds of each token
  record TokenIsProper (t : Token) : Type 0 where
    label : t.mark ≡ mark.Upper → is_upper_word (name_in ts t) ≡ true
    number : MarkIsProper t.mark

  -- what holds of the value of each rule
  abbrev RuleHolds : (r : Rule.Rule) → RuleValue r → Type 0
  RuleHolds rule.Text script = (e : Edition.Edition) × (script.version ≡ version_number e) × BodyIsProper e script.body
  RuleHolds rule.Version script = (e : Edition.Edition) × (script.version ≡ version_number e) × BodyIsProper e script.body
  RuleHolds (rule.Body e) body = BodyIsProper e body
  RuleHolds (rule.Step e) step = StepIsProper e step
  RuleHolds (rule.Given e) given = IsShownIn e LineIsProper given
  RuleHolds (rule.Finish e) end = EndIsProper e end
  RuleHolds (rule.Case e) case = CaseIsProper e case
  RuleHolds (rule.MoreCases e) cases = AllByRecursion (CaseIsProper e) cases
  RuleHolds (rule.CaseHead e) facts = IsShownIn e AtomsAreProper facts
  RuleHolds rule.Binds binds = AllByRecursion BindIsProper binds
  RuleHolds rule.ListedBinds binds = AllByRecursion BindIsProper binds
  RuleHolds rule.MoreBinds binds = AllByRecursion BindIsProper binds
  RuleHolds rule.Bind bind = BindIsProper bind
  RuleHolds rule.Line line = LineIsProper line
  RuleHolds rule.AfterTrue line = (first : List NamedAtom) → AtomsAreProper first → LineIsProper (line first)
  RuleHolds rule.AfterAtom line = (first : List NamedAtom) → AtomsAreProper first → LineIsProper (line first)
  RuleHolds rule.AfterGroup line = (first : List NamedAtom) → AtomsAreProper first → LineIsProper (line first)
  RuleHolds rule.Bars parts = AllByRecursion AtomsAreProper parts
  RuleHolds rule.LinePart atoms = AtomsAreProper atoms
  RuleHolds rule.Group atoms = AtomsAreProper atoms
  RuleHolds rule.MoreAtoms atoms = AtomsAreProper atoms
  RuleHolds rule.Facts atoms = AtomsAreProper atoms
  RuleHolds rule.Atom atom = AtomIsProper atom
  RuleHolds rule.AfterWord atom = (word : Text) → AtomIsProper (atom word)
  RuleHolds _ value = Unit {0}

  -- what holds of the value of each part
  abbrev Holds : (p : TextPart.TextPart) → Value p → Type 0
  Holds (Taken (taker.Name naming.Label)) t = is_upper_word (name_in ts t) ≡ true
  Holds (Taken (taker.Number counting.Within)) t = (1 ≤ number_in t) × (number_in t ≤ MOST_WITHIN)
  Holds (Taken _) t = Unit {0}
  Holds (Row r) value = RuleHolds r value

  -- it holds of what each row makes
  proper_rows : (p : TextPart.TextPart) → RowsHold Value Holds p (alternatives p) (makers ts p)
  proper_rows (Taken by) = tt
  proper_rows (Row rule.Text) = ((λ values each. each.1.0), tt)
  proper_rows (Row rule.Version) = ((λ values each. (First, refl, each.1.1.0)), ((λ values each. (Second, refl, each.1.1.0)), ((λ values each. absurd values.1.0), tt)))
  proper_rows (Row rule.Never) = tt
  proper_rows (Row rule.Head) = ((λ values each. tt), tt)
  proper_rows (Row rule.Names) = ((λ values each. tt), tt)
  proper_rows (Row rule.ListedNames) = ((λ values each. tt), ((λ values each. tt), tt))
  proper_rows (Row rule.MoreNames) = ((λ values each. tt), ((λ values each. tt), tt))
  proper_rows (Row (rule.Body ed)) = ((λ values each. ((each.0, each.1.0.0), each.1.0.1)), ((λ values each. (tt, each.0)), tt))
  proper_rows (Row (rule.Step First)) = ((λ values each. (tt, each.1.1.1.1.1.0)), tt)
  proper_rows (Row (rule.Step Second)) = ((λ values each. (each.1.1.0, each.1.1.1.1.1.0)), tt)
  proper_rows (Row (rule.Given First)) = ((λ values each. each.1.0), tt)
  proper_rows (Row (rule.Given Second)) = ((λ values each. each.1.0), ((λ values each. tt), tt))
  proper_rows (Row (rule.Finish First)) = ((λ values each. tt), ((λ values each. tt), ((λ values each. Cs_proper First (number_in values.1.0) values.1.1.1.0 values.1.1.1.1.0 (each.1.1.1.0, each.1.1.1.1.0)), tt)))
  proper_rows (Row (rule.Finish Second)) = ((λ values each. tt), ((λ values each. tt), ((λ values each. Cs_proper Second (number_in values.1.0) values.1.1.1.0 values.1.1.1.1.0 (each.1.1.1.0, each.1.1.1.1.0)), ((λ values each. each.1.0), tt))))
  proper_rows (Row rule.SplitEnd) = ((λ values each. tt), tt)
  proper_rows (Row (rule.Case ed)) = ((λ values each. (each.1.0, each.1.1.0)), tt)
  proper_rows (Row (rule.MoreCases ed)) = ((λ values each. tt), ((λ values each. (each.0, each.1.0)), tt))
  proper_rows (Row (rule.CaseHead First)) = ((λ values each. each.0), tt)
  proper_rows (Row (rule.CaseHead Second)) = ((λ values each. each.0), ((λ values each. tt), tt))
  proper_rows (Row rule.Cite) = ((λ values each. tt), ((λ values each. tt), ((λ values each. tt), ((λ values each. tt), ((λ values each. tt), ((λ values each. tt), ((λ values each. tt), tt)))))))
  proper_rows (Row rule.Rank) = ((λ values each. tt), ((λ values each. tt), tt))
  proper_rows (Row rule.SignedSymbol) = ((λ values each. tt), ((λ values each. tt), tt))
  proper_rows (Row rule.Symbol) = ((λ values each. tt), ((λ values each. tt), tt))
  proper_rows (Row rule.Binds) = ((λ values each. each.1.1.0), tt)
  proper_rows (Row rule.ListedBinds) = ((λ values each. tt), ((λ values each. (each.0, each.1.0)), tt))
  proper_rows (Row rule.MoreBinds) = ((λ values each. tt), ((λ values each. (each.1.0, each.1.1.0)), tt))
  proper_rows (Row rule.Bind) = ((λ values each. each.0), tt)
  proper_rows (Row rule.Line) = ((λ values each. tt), ((λ values each. each.1.0 [] tt), ((λ values each. each.1.1.0 (values.1.0 ∷ []) (each.1.0, tt)), ((λ values each. each.1.0 values.0 each.0), tt))))
  proper_rows (Row rule.AfterTrue) = ((λ values each. λ first proper. proper), ((λ values each. λ first proper. (tt, (proper, (each.1.0, each.1.1.0)))), tt))
  proper_rows (Row rule.AfterAtom) = ((λ values each. λ first proper. proper), ((λ values each. λ first proper. each_append AtomIsProper first (values.1.0 ∷ values.1.1.0) proper (each.1.0, each.1.1.0)), ((λ values each. λ first proper. (tt, (proper, (each.1.0, each.1.1.0)))), tt)))
  proper_rows (Row rule.AfterGroup) = ((λ values each. λ first proper. (tt, (proper, (each.1.0, each.1.1.0)))), tt)
  proper_rows (Row rule.Bars) = ((λ values each. tt), ((λ values each. (each.1.0, each.1.1.0)), tt))
  proper_rows (Row rule.LinePart) = ((λ values each. tt), ((λ values each. (each.1.0, tt)), ((λ values each. each.0), tt)))
  proper_rows (Row rule.Group) = ((λ values each. (each.1.0, (each.1.1.1.0, each.1.1.1.1.0))), tt)
  proper_rows (Row rule.MoreAtoms) = ((λ values each. tt), ((λ values each. (each.1.0, each.1.1.0)), tt))
  proper_rows (Row rule.Facts) = ((λ values each. tt), ((λ values each. (each.1.0, each.1.1.0)), tt))
  proper_rows (Row rule.Atom) = ((λ values each. each.1.0 (name_in ts values.0)), ((λ values each. tt), tt))
  proper_rows (Row rule.AfterWord) = ((λ values each. λ word. tt), ((λ values each. λ word. tt), ((λ values each. λ word. refl), ((λ values each. λ word. refl), tt))))
  proper_rows (Row rule.AfterNegated) = ((λ values each. tt), ((λ values each. tt), tt))
  proper_rows (Row (rule.Does does)) = ((λ values each. tt), tt)

  -- a token that labels a variable is an upper word
  label_mark : (m : Mark.Mark) → IsTrue (names naming.Label m) → m ≡ mark.Upper
  label_mark mark.Upper e = refl
  label_mark (mark.Fixed f) e = absurd (false≢true e)
  label_mark mark.Word e = absurd (false≢true e)
  label_mark (mark.Integer i) e = absurd (false≢true e)
  label_mark mark.Other e = absurd (false≢true e)

  -- the number of a gap is within its bounds
  few_mark : (m : Mark.Mark) → IsTrue (is_few m) → MarkIsProper m → (1 ≤ marked_number m) × (marked_number m ≤ MOST_WITHIN)
  few_mark (mark.Integer integer.One) e h = (omega arith, omega arith)
  few_mark (mark.Integer integer.Two) e h = (omega arith, omega arith)
  few_mark (mark.Integer (integer.Few n)) e h = h
  few_mark (mark.Integer (integer.Number n)) e h = absurd (false≢true e)
  few_mark (mark.Integer integer.NoNumber) e h = absurd (false≢true e)
  few_mark (mark.Fixed f) e h = absurd (false≢true e)
  few_mark mark.Word e h = absurd (false≢true e)
  few_mark mark.Upper e h = absurd (false≢true e)
  few_mark mark.Other e h = absurd (false≢true e)

  -- it holds of the value of each proper token
  proper_tokens : (p : TextPart.TextPart) (t : Token) (taken : IsTrue (takes p t)) → TokenIsProper t → Holds p (of_token p t taken)
  proper_tokens (Taken (taker.Name naming.Label)) t taken h = h.label (label_mark t.mark taken)
  proper_tokens (Taken (taker.Number counting.Within)) t taken h = few_mark t.mark taken h.number
  proper_tokens (Row r) t taken h = absurd (false≢true taken)
  proper_tokens (Taken _) t taken h = tt

-- what holds of the item of each number holds of each item
each_from_get : {X : Type 0} (P : X → Type 0) (xs : List X) → ((i : ℕ) (x : X) → slice_get xs i ≡ Some x → P x) → AllByRecursion P xs
each_from_get P [] h = tt
each_from_get P (x ∷ xs) h = (h 0 x refl, each_from_get P xs (λ i y e. h (suc i) y e))

-- the tokens of a source are proper
tokens_proper : (bytes : Text) (ts : List LexToken) → AreTokens bytes ts → AllByRecursion (TokenIsProper ts) (marked ts)
tokens_proper bytes ts are = each_from_get (TokenIsProper ts) (marked ts) at
  where
    at : (i : ℕ) (token : Token) → slice_get (marked ts) i ≡ Some token → TokenIsProper ts token
    at i token e =
        let (t, got, same) = got_marked ts i token e in
        let of_kind = each_get (λ (t : LexToken). kind_of t.text ≡ Some t.kind) ts i t (kinds_proper bytes ts are) got in
        let name : name_in ts (seen_as i t) ≡ name_of t =
        ap text_or_empty (slice_get-map name_of ts i ∙ ap (option_map name_of) got) in
        subst (TokenIsProper ts) (sym same) (record {
          label = λ upper.
              let is : t.kind ≡ kind.Upper = upper_marked t.kind t.text upper in
              let text : name_of t ≡ t.text = ap (λ k. named k t.text) is in
              subst (λ word. is_upper_word word ≡ true) (sym (name ∙ text))
              (upper_is_word t.text (of_kind ∙ ap Some is));
          number = mark_proper t.kind t.text;
        })

-- what tokens spell is proper, but for its bounds
pub spelled_proper : (bytes : Text) (ts : List LexToken) (script : Written) → AreTokens bytes ts →
    SpelledAs proof_texts Value (proof_text_making ts) (Row rule.Text) script (marked ts) →
    (e : Edition.Edition) × (script.version ≡ version_number e) × BodyIsProper e script.body
spelled_proper bytes ts script are spelled =
    value_holds proof_texts Value of_token (makers ts) (Holds ts) (TokenIsProper ts) (proper_tokens ts) (proper_rows ts) spelled
    (tokens_proper bytes ts are)
