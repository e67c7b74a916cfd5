-- One token is enough to read items: a line for each part, since every case computes.
use Rattle.std.specs.Prelude.{IsTrue}
use Rattle.std.proofs.Common.{refl}
use Rattle.token_grammar.specs.Plan.{IsPredictive, part_test, token_test}
use Rattle.tptp_lexer.specs.declared.kind.Kind.TheVariants as kind
use Rattle.tptp_grammar.specs.declared.mark.Mark.{Mark}
use Rattle.tptp_grammar.specs.declared.mark.Mark.TheVariants.{Other}
use Rattle.tptp_grammar.specs.declared.item_part.ItemPart.{ItemPart}
use Rattle.tptp_grammar.specs.declared.item_part.ItemPart.TheVariants.{Token, FofWord, IncludeWord, Name, RoleWord, Word, TruthWord, Connective, Variable, Binds, Opens, ClosesArguments, Plain, Items, Item, FofHead, FofTail, FofEnd, IncludeHead, IncludeTail, NamesRest, Formula, FormulaRest, AndRest, OrRest, Unitary, Quantified, BindsRest, AfterWord, Equation, Term, TermsRest, General, GeneralRest, GeneralsRest, Data, DataArguments, List as BracketList, ListBody}
use Rattle.tptp_grammar.specs.Parts.{fof_items}
use Rattle.tptp_grammar.specs.Plan.{items_plan}

-- each part passes the test by itself
part_law : (p : ItemPart) → IsTrue (part_test fof_items items_plan p)
part_law (Token k) = refl
part_law _ = refl

-- each part passes the test at each token
token_law : (p : ItemPart) (t : Mark) → IsTrue (token_test fof_items items_plan p t)
token_law (Token k) t = refl
token_law FofWord t = refl
token_law IncludeWord t = refl
token_law Name t = refl
token_law RoleWord t = refl
token_law Word t = refl
token_law TruthWord t = refl
token_law Connective t = refl
token_law (Variable level) t = refl
token_law (Binds level) t = refl
token_law (Opens level k) t = refl
token_law ClosesArguments t = refl
token_law Plain t = refl
token_law Items (Other kind.Lower) = refl
token_law Item (Other kind.Lower) = refl
token_law FofHead (Other kind.Lower) = refl
token_law FofTail (Other kind.Lower) = refl
token_law FofEnd (Other kind.Lower) = refl
token_law IncludeHead (Other kind.Lower) = refl
token_law IncludeTail (Other kind.Lower) = refl
token_law NamesRest (Other kind.Lower) = refl
token_law (Formula level) (Other kind.Lower) = refl
token_law (FormulaRest level) (Other kind.Lower) = refl
token_law (AndRest level) (Other kind.Lower) = refl
token_law (OrRest level) (Other kind.Lower) = refl
token_law (Unitary level) (Other kind.Lower) = refl
token_law (Quantified level) (Other kind.Lower) = refl
token_law (BindsRest level) (Other kind.Lower) = refl
token_law (AfterWord level) (Other kind.Lower) = refl
token_law (Equation level) (Other kind.Lower) = refl
token_law (Term level) (Other kind.Lower) = refl
token_law (TermsRest level) (Other kind.Lower) = refl
token_law (General level) (Other kind.Lower) = refl
token_law (GeneralRest level) (Other kind.Lower) = refl
token_law (GeneralsRest level) (Other kind.Lower) = refl
token_law (Data level) (Other kind.Lower) = refl
token_law (DataArguments level) (Other kind.Lower) = refl
token_law (BracketList level) (Other kind.Lower) = refl
token_law (ListBody level) (Other kind.Lower) = refl
token_law _ _ = refl

-- one token is enough to read items
pub items_law : IsPredictive fof_items items_plan
items_law = record { at_part = part_law; at_token = token_law }
