-- The printed grammar of items and the factored one spell and begin the same tokens: each part of
-- one stands for rows of the other.
use Rattle.std.specs.Prelude.{◌≡◌, ◌+◌, false, List, [], ◌∷◌, IsTrue}
use Rattle.std.proofs.Common.{refl, inl, inr}
use Rattle.std.proofs.lemmas.Bool.{false≢true}
use Rattle.text_core.specs.Lists.{IsAmong}
use Rattle.token_grammar.specs.Grammar.{Spelled}
use Rattle.token_grammar.specs.Plan.{is_empty}
use Rattle.token_grammar.specs.Factored.{Translates, AlternativesAreMade}
use Rattle.token_grammar.specs.Factored.Becomes.{done, keep}
use Rattle.token_grammar.proofs.Laws.{to, kept}
use Rattle.tptp_lexer.specs.declared.kind.Kind.TheVariants as kind
use Rattle.tptp_grammar.specs.declared.mark.Mark.{Mark}
use Rattle.tptp_grammar.specs.declared.item_part.ItemPart.{ItemPart}
use Rattle.tptp_grammar.specs.declared.item_part.ItemPart.TheVariants.{Token, FofWord, IncludeWord, Name, RoleWord, Word, TruthWord, Connective, Variable, Binds, Opens, ClosesArguments, Plain, Items, Item, FofHead, FofTail, FofEnd, IncludeHead, IncludeTail, NamesRest, Formula, FormulaRest, AndRest, OrRest, Unitary, Quantified, BindsRest, AfterWord, Equation, Term, TermsRest, General, GeneralRest, GeneralsRest, Data, DataArguments, List as BracketList, ListBody}
use Rattle.tptp_grammar.specs.Parts.{fof_items, alternatives}
use Rattle.tptp_grammar.specs.Printed.{Printed, mark, item_end, quantified, printed_items, printed_alternatives}
use Rattle.tptp_grammar.specs.Printed.Printed.{one, items, item, names, formula, ands, ors, unit, variables, terms, left, term, general, generals, list, datum}

-- a formula's item behind `fof`
abbrev behind_fof : List Printed → List Printed
behind_fof rest =
    mark kind.OpenParenthesis ∷ one Name ∷ mark kind.Comma ∷ one RoleWord ∷ mark kind.Comma ∷
    formula 0 ∷ rest

-- an inclusion behind its file's name, with a selection
abbrev selection : List Printed
selection = mark kind.Comma ∷ mark kind.OpenBracket ∷ names ∷ mark kind.CloseBracket ∷ item_end

-- the printed rows that a part of the factored grammar stands for; one that takes a token stands
-- for itself
abbrev pub printed_rows : ItemPart → List (List Printed)
printed_rows Items = (items ∷ []) ∷ []
printed_rows Item = (item ∷ []) ∷ []
printed_rows FofHead =
    behind_fof item_end ∷ behind_fof (mark kind.Comma ∷ general 0 ∷ item_end) ∷
    behind_fof (mark kind.Comma ∷ general 0 ∷ mark kind.Comma ∷ list 0 ∷ item_end) ∷ []
printed_rows FofTail =
    item_end ∷ (mark kind.Comma ∷ general 0 ∷ item_end) ∷
    (mark kind.Comma ∷ general 0 ∷ mark kind.Comma ∷ list 0 ∷ item_end) ∷ []
printed_rows FofEnd = item_end ∷ (mark kind.Comma ∷ list 0 ∷ item_end) ∷ []
printed_rows IncludeHead =
    (mark kind.OpenParenthesis ∷ mark kind.Quoted ∷ item_end) ∷
    (mark kind.OpenParenthesis ∷ mark kind.Quoted ∷ selection) ∷ []
printed_rows IncludeTail = item_end ∷ selection ∷ []
printed_rows NamesRest = [] ∷ (mark kind.Comma ∷ names ∷ []) ∷ []
printed_rows (Formula level) = (formula level ∷ []) ∷ []
printed_rows (FormulaRest level) =
    [] ∷ (mark kind.Ampersand ∷ ands level ∷ []) ∷ (mark kind.Bar ∷ ors level ∷ []) ∷
    (one Connective ∷ unit level ∷ []) ∷ []
printed_rows (AndRest level) = [] ∷ (mark kind.Ampersand ∷ ands level ∷ []) ∷ []
printed_rows (OrRest level) = [] ∷ (mark kind.Bar ∷ ors level ∷ []) ∷ []
printed_rows (Unitary level) = (unit level ∷ []) ∷ []
printed_rows (Quantified level) = quantified level ∷ []
printed_rows (BindsRest level) = [] ∷ (mark kind.Comma ∷ variables level ∷ []) ∷ []
printed_rows (AfterWord level) =
    [] ∷ (mark kind.OpenParenthesis ∷ terms level ∷ one ClosesArguments ∷ []) ∷
    (mark kind.Equal ∷ term level ∷ []) ∷
    (mark kind.NotEqual ∷ term level ∷ []) ∷ []
printed_rows (Equation level) =
    (mark kind.Equal ∷ term level ∷ []) ∷
    (mark kind.NotEqual ∷ term level ∷ []) ∷ []
printed_rows (Term level) = (term level ∷ []) ∷ []
printed_rows (TermsRest level) = [] ∷ (mark kind.Comma ∷ terms level ∷ []) ∷ []
printed_rows (General level) = (general level ∷ []) ∷ []
printed_rows (GeneralRest level) = [] ∷ (mark kind.Colon ∷ general level ∷ []) ∷ []
printed_rows (GeneralsRest level) = [] ∷ (mark kind.Comma ∷ generals level ∷ []) ∷ []
printed_rows (Data level) = (datum level ∷ []) ∷ []
printed_rows (DataArguments level) =
    [] ∷
    (one (Opens (level + 1) kind.OpenParenthesis) ∷ generals (level + 1) ∷
    mark kind.CloseParenthesis ∷ []) ∷ []
printed_rows (BracketList level) = (list level ∷ []) ∷ []
printed_rows (ListBody level) =
    (mark kind.CloseBracket ∷ []) ∷
    (generals level ∷ mark kind.CloseBracket ∷ []) ∷ []
printed_rows p = (one p ∷ []) ∷ []

-- the rows of the factored grammar that a printed part stands for
abbrev pub made : Printed → List (List ItemPart)
made (one p) = (p ∷ []) ∷ []
made items = (Items ∷ []) ∷ []
made item = (Item ∷ []) ∷ []
made names = (Name ∷ NamesRest ∷ []) ∷ []
made (formula level) = (Formula level ∷ []) ∷ []
made (ands level) = (Unitary level ∷ AndRest level ∷ []) ∷ []
made (ors level) = (Unitary level ∷ OrRest level ∷ []) ∷ []
made (unit level) = (Unitary level ∷ []) ∷ []
made (variables level) = (Binds level ∷ BindsRest level ∷ []) ∷ []
made (terms level) = (Term level ∷ TermsRest level ∷ []) ∷ []
made (left level) = (Variable level ∷ []) ∷ (Word ∷ []) ∷ []
made (term level) = (Term level ∷ []) ∷ []
made (general level) = (General level ∷ []) ∷ []
made (list level) = (BracketList level ∷ []) ∷ []
made (generals level) = (General level ∷ GeneralsRest level ∷ []) ∷ []
made (datum level) = (Data level ∷ []) ∷ []

-- both
infixr 5 ◌&◌
abbrev ◌&◌ : {A B : Type 0} → A → B → A × B
a & b = (a, b)

-- in brackets what each row is made of that an alternative stands for
rows_made : (p : ItemPart) →
    AlternativesAreMade printed_items printed_rows (printed_rows p) (alternatives p)
rows_made Items = (inl (to 0 done) & tt) & (inl (to 1 kept) & tt) & tt
rows_made Item = (inl (to 0 kept) & inl (to 1 kept) & inl (to 2 kept) & tt) &
    (inl (to 3 kept) & inl (to 4 kept) & tt) & tt
rows_made FofHead = (inl kept & inr (inl kept) & inr (inr (inl kept)) & tt) & tt
rows_made FofTail = (inl kept & tt) & (inr (inl kept) & inr (inr (inl kept)) & tt) & tt
rows_made FofEnd = (inl kept & tt) & (inr (inl kept) & tt) & tt
rows_made IncludeHead = (inl kept & inr (inl kept) & tt) & tt
rows_made IncludeTail = (inl kept & tt) & (inr (inl (keep (keep (to 0 kept)))) &
    inr (inl (keep (keep (to 1 kept)))) & tt) & tt
rows_made NamesRest = (inl done & tt) & (inr (inl (keep (to 0 kept))) &
    inr (inl (keep (to 1 kept))) & tt) & tt
rows_made (Formula level) = (inl (to 0 kept) & inl (to 1 kept) & inl (to 2 kept) & inl (to 3 kept) &
    tt) & tt
rows_made (FormulaRest level) =
    (inl done & tt) &
    (inr (inl (keep (to 0 kept))) & inr (inl (keep (to 1 kept))) & tt) &
    (inr (inr (inl (keep (to 0 kept)))) & inr (inr (inl (keep (to 1 kept)))) & tt) &
    (inr (inr (inr (inl kept))) & tt) &
    tt
rows_made (AndRest level) = (inl done & tt) & (inr (inl (keep (to 0 kept))) &
    inr (inl (keep (to 1 kept))) & tt) & tt
rows_made (OrRest level) = (inl done & tt) & (inr (inl (keep (to 0 kept))) &
    inr (inl (keep (to 1 kept))) & tt) & tt
rows_made (Unitary level) =
    (inl (to 0 kept) & tt) &
    (inl (to 1 kept) & tt) &
    (inl (to 2 kept) & tt) &
    (inl (to 3 kept) & tt) &
    (inl (to 4 kept) & tt) &
    (inl (to 5 kept) & inl (to 6 kept) & inl (to 7 (to 1 kept)) & inl (to 8 (to 1 kept)) & tt) &
    (inl (to 7 (to 0 kept)) & inl (to 8 (to 0 kept)) & tt) &
    tt
rows_made (Quantified level) = (inl (keep (to 0 kept)) & inl (keep (to 1 kept)) & tt) & tt
rows_made (BindsRest level) = (inl done & tt) & (inr (inl (keep (to 0 kept))) &
    inr (inl (keep (to 1 kept))) & tt) & tt
rows_made (AfterWord level) =
    (inl done & tt) &
    (inr (inl (keep (to 0 kept))) & inr (inl (keep (to 1 kept))) & tt) &
    (inr (inr (inl kept)) & tt) &
    (inr (inr (inr (inl kept))) & tt) &
    tt
rows_made (Equation level) = (inl kept & tt) & (inr (inl kept) & tt) & tt
rows_made (Term level) = (inl (to 0 kept) & tt) & (inl (to 1 kept) & tt) & tt
rows_made (TermsRest level) = (inl done & tt) & (inr (inl (keep (to 0 kept))) &
    inr (inl (keep (to 1 kept))) & tt) & tt
rows_made (General level) = (inl (to 0 kept) & inl (to 1 kept) & tt) & (inl (to 2 kept) & tt) & tt
rows_made (GeneralRest level) = (inl done & tt) & (inr (inl kept) & tt) & tt
rows_made (GeneralsRest level) = (inl done & tt) & (inr (inl (keep (to 0 kept))) &
    inr (inl (keep (to 1 kept))) & tt) & tt
rows_made (Data level) = (inl (to 0 kept) & tt) & (inl (to 1 kept) & inl (to 2 kept) & tt) & tt
rows_made (DataArguments level) = (inl done & tt) & (inr (inl (keep (to 0 kept))) &
    inr (inl (keep (to 1 kept))) & tt) & tt
rows_made (BracketList level) = (inl (to 0 kept) & inl (to 1 kept) & tt) & tt
rows_made (ListBody level) = (inl kept & tt) & (inr (inl (to 0 kept)) & inr (inl (to 1 kept)) &
    tt) & tt
rows_made _ = tt

-- what the rows are made of that the members of a printed alternative stand for
made_for : (p : Printed) → AlternativesAreMade fof_items made (made p) (printed_alternatives p)
made_for (one p) = tt
made_for items = (inl (to 0 done) & tt) & (inl (to 1 kept) & tt) & tt
made_for item =
    (inl (to 0 (keep (to 0 (keep (keep (keep (keep (keep (keep (to 0 kept)))))))))) & tt) &
    (inl (to 0 (keep (to 0 (keep (keep (keep (keep (keep (keep (to 1 (keep (keep
    (to 0 kept))))))))))))) & tt) &
    (inl (to 0 (keep (to 0 (keep (keep (keep (keep (keep (keep (to 1 (keep (keep
    (to 1 kept))))))))))))) & tt) &
    (inl (to 1 (keep (to 0 (keep (keep (to 0 kept)))))) & tt) &
    (inl (to 1 (keep (to 0 (keep (keep (to 1 kept)))))) & tt) &
    tt
made_for names = (inl (keep (to 0 done)) & tt) & (inl (keep (to 1 kept)) & tt) & tt
made_for (formula level) =
    (inl (to 0 (keep (to 0 done))) & tt) &
    (inl (to 0 (keep (to 1 kept))) & tt) &
    (inl (to 0 (keep (to 2 kept))) & tt) &
    (inl (to 0 (keep (to 3 kept))) & tt) &
    tt
made_for (ands level) = (inl (keep (to 0 done)) & tt) & (inl (keep (to 1 kept)) & tt) & tt
made_for (ors level) = (inl (keep (to 0 done)) & tt) & (inl (keep (to 1 kept)) & tt) & tt
made_for (unit level) =
    (inl (to 0 kept) & tt) &
    (inl (to 1 kept) & tt) &
    (inl (to 2 (keep (to 0 kept))) & tt) &
    (inl (to 3 (keep (to 0 kept))) & tt) &
    (inl (to 4 kept) & tt) &
    (inl (to 5 (keep (to 0 done))) & tt) &
    (inl (to 5 (keep (to 1 kept))) & tt) &
    (inl (to 6 (keep (to 0 kept))) & inl (to 5 (keep (to 2 kept))) & tt) &
    (inl (to 6 (keep (to 1 kept))) & inl (to 5 (keep (to 3 kept))) & tt) &
    tt
made_for (variables level) = (inl (keep (to 0 done)) & tt) & (inl (keep (to 1 kept)) & tt) & tt
made_for (terms level) = (inl (keep (to 0 done)) & tt) & (inl (keep (to 1 kept)) & tt) & tt
made_for (left level) = (inl kept & tt) & (inr (inl kept) & tt) & tt
made_for (term level) = (inl (to 0 kept) & tt) & (inl (to 1 kept) & tt) & tt
made_for (general level) =
    (inl (to 0 (keep (to 0 done))) & tt) &
    (inl (to 0 (keep (to 1 kept))) & tt) &
    (inl (to 1 kept) & tt) &
    tt
made_for (list level) = (inl (to 0 (keep (to 0 kept))) & tt) &
    (inl (to 0 (keep (to 1 kept))) & tt) & tt
made_for (generals level) = (inl (keep (to 0 done)) & tt) & (inl (keep (to 1 kept)) & tt) & tt
made_for (datum level) = (inl (to 0 kept) & tt) & (inl (to 1 (keep (to 0 done))) & tt) &
    (inl (to 1 (keep (to 1 kept))) & tt) & tt

-- a token is spelled by a row that its part stands for
token_row : (p : ItemPart) (t : Mark) → IsTrue (fof_items.takes p t) →
    (row : List Printed) × IsAmong row (printed_rows p) × Spelled printed_items row (t ∷ [])
token_row (Token k) t taken = (one (Token k) ∷ [], inl refl, Spelled.token taken Spelled.none)
token_row FofWord t taken = (one FofWord ∷ [], inl refl, Spelled.token taken Spelled.none)
token_row IncludeWord t taken = (one IncludeWord ∷ [], inl refl, Spelled.token taken Spelled.none)
token_row Name t taken = (one Name ∷ [], inl refl, Spelled.token taken Spelled.none)
token_row RoleWord t taken = (one RoleWord ∷ [], inl refl, Spelled.token taken Spelled.none)
token_row Word t taken = (one Word ∷ [], inl refl, Spelled.token taken Spelled.none)
token_row TruthWord t taken = (one TruthWord ∷ [], inl refl, Spelled.token taken Spelled.none)
token_row Connective t taken = (one Connective ∷ [], inl refl, Spelled.token taken Spelled.none)
token_row (Variable level) t taken =
    (one (Variable level) ∷ [], inl refl, Spelled.token taken Spelled.none)
token_row (Binds level) t taken =
    (one (Binds level) ∷ [], inl refl, Spelled.token taken Spelled.none)
token_row (Opens level k) t taken =
    (one (Opens level k) ∷ [], inl refl, Spelled.token taken Spelled.none)
token_row ClosesArguments t taken =
    (one ClosesArguments ∷ [], inl refl, Spelled.token taken Spelled.none)
token_row Plain t taken = (one Plain ∷ [], inl refl, Spelled.token taken Spelled.none)
token_row _ t taken = absurd (false≢true taken)

-- a token of the printed grammar is spelled by a row of the factored one
token_made : (p : Printed) (t : Mark) → IsTrue (printed_items.takes p t) →
    (row : List ItemPart) × IsAmong row (made p) × Spelled fof_items row (t ∷ [])
token_made (one p) t taken = (p ∷ [], inl refl, Spelled.token taken Spelled.none)
token_made _ t taken = absurd (false≢true taken)

-- each part stands for some row
some_rows : (p : ItemPart) → is_empty (printed_rows p) ≡ false
some_rows (Token k) = refl
some_rows _ = refl

-- each printed part stands for some row
some_made : (p : Printed) → is_empty (made p) ≡ false
some_made (one p) = refl
some_made _ = refl

-- the factored grammar becomes the printed one
pub printed_law : Translates fof_items printed_items printed_rows
printed_law = record { some = some_rows; takes = token_row; alternatives = rows_made }

-- the printed grammar becomes the factored one
pub factored_law : Translates printed_items fof_items made
factored_law = record { some = some_made; takes = token_made; alternatives = made_for }
