-- What the builder of scripts does at a token and where nothing stands, and what each value leaves
-- in its registers.
use Rattle.std.specs.Prelude.{ℕ, true, false, List, [], ◌∷◌, ◌++◌, Option, Some, None}
use Rattle.text_core.specs.Names.{Text}
use Rattle.token_grammar.specs.Stacks.{top_or, below}
use Rattle.tptp_lexer.specs.Tokens.{Token as LexToken}
use Rattle.coherent_form.specs.declared.citation.Citation as Citation
use Rattle.coherent_form.specs.declared.citation.Citation.TheVariants as citation
use Rattle.coherent_form.specs.declared.citation.Symbol.TheVariants as symbol
use Rattle.proof_text.specs.declared.body.NamedAtom.{NamedAtom}
use Rattle.proof_text.specs.declared.body.Shown as Shown
use Rattle.proof_text.specs.declared.body.Shown.TheVariants as shown
use Rattle.proof_text.specs.declared.body.Binding.{Binding}
use Rattle.proof_text.specs.declared.body.ArgsText.TheVariants as args
use Rattle.proof_text.specs.declared.body.CaseText.{CaseText}
use Rattle.proof_text.specs.declared.body.EndText as EndText
use Rattle.proof_text.specs.declared.body.EndText.TheVariants as finish
use Rattle.proof_text.specs.declared.body.BodyText.{BodyText}
use Rattle.proof_text.specs.declared.builder.Frame.{Frame}
use Rattle.proof_text.specs.declared.builder.ScriptBuilder.{ScriptBuilder}
use Rattle.proof_text.specs.declared.mark.Token.{Token}
use Rattle.proof_text.specs.declared.part.TextPart as TextPart
use Rattle.proof_text.specs.declared.part.TextPart.TheVariants.{Taken, Row}
use Rattle.proof_text.specs.declared.part.Taker as Taker
use Rattle.proof_text.specs.declared.part.Taker.TheVariants as taker
use Rattle.proof_text.specs.declared.part.Naming as Naming
use Rattle.proof_text.specs.declared.part.Naming.TheVariants as naming
use Rattle.proof_text.specs.declared.part.Counting as Counting
use Rattle.proof_text.specs.declared.part.Counting.TheVariants as counting
use Rattle.proof_text.specs.declared.part.Rule as Rule
use Rattle.proof_text.specs.declared.part.Rule.TheVariants as rule
use Rattle.proof_text.specs.declared.part.Act as Act
use Rattle.proof_text.specs.declared.part.Act.TheVariants as act
use Rattle.proof_text.specs.declared.part.Pass as Pass
use Rattle.proof_text.specs.declared.part.Pass.TheVariants as pass
use Rattle.proof_text.specs.Values.{Written, RuleValue, Value, number_in, name_in, atom_of, equation}

-- the registers of a step and of a line are empty
abbrev pub cleared : ScriptBuilder → ScriptBuilder
cleared b =
    record b {
      word = None;
      number = 0;
      positive = true;
      symbol = symbol.Equality;
      cite = citation.Refl;
      names = [];
      binds = [];
      instance = args.Listed [];
      fresh = [];
      atoms = [];
      parts = [];
      line = None;
    }

-- the script that is built
abbrev pub script_in : ScriptBuilder → Written
script_in b = record { version = b.version; take = b.take; body = b.body }

-- a body with no steps, which stands where there is none
abbrev pub no_body : BodyText
no_body = record { steps = []; end = finish.Efq }

-- what stands where no split is open
abbrev pub no_frame : Frame
no_frame = record { steps = []; split = 0; cases = []; facts = None }

-- the facts are these, and no word or names are left
abbrev pub with_atoms : List NamedAtom → ScriptBuilder → ScriptBuilder
with_atoms atoms b = record b { word = None; names = []; atoms = atoms }

-- the facts, and the atom of the word behind them
abbrev pub atoms_with : (Text → NamedAtom) → Option Text → List NamedAtom → List NamedAtom
atoms_with atom None atoms = atoms
atoms_with atom (Some word) atoms = atoms ++ (atom word ∷ [])

-- an atom of the word is added
abbrev pub atom_added : (Text → NamedAtom) → ScriptBuilder → ScriptBuilder
atom_added atom b = with_atoms (atoms_with atom b.word b.atoms) b

-- the line is read
abbrev pub line_read : Shown.Shown → ScriptBuilder → ScriptBuilder
line_read line b = record b { word = None; names = []; atoms = []; parts = []; line = Some line }

-- the citation is read
abbrev pub cited : Citation.Citation → ScriptBuilder → ScriptBuilder
cited cite b =
    record b {
      word = None;
      number = 0;
      positive = true;
      symbol = symbol.Equality;
      cite = cite;
    }

-- a formula is cited by the word and this rank
abbrev pub named_citation : Option Text → ℕ → Citation.Citation
named_citation None rank = citation.Refl
named_citation (Some word) rank = citation.Axiom word rank

-- the values of variables, and that of the word
abbrev pub binds_with : Option Text → ℕ → Text → List Binding → List Binding
binds_with None rank value binds = binds
binds_with (Some word) rank value binds =
    binds ++ (record { label = record { name = word; rank = rank }; value = value } ∷ [])

-- the symbol of the word
abbrev pub symbol_read : Option Text → ℕ → ScriptBuilder → ScriptBuilder
symbol_read None arity b = record b { word = None; symbol = symbol.Equality }
symbol_read (Some word) arity b = record b { word = None; symbol = symbol.Named word arity }

-- a step is added, with this line
abbrev pub step_added : List Text → Option Shown.Shown → ScriptBuilder → ScriptBuilder
step_added fresh given b =
    record (cleared b) {
      steps =
          b.steps ++ (record {
            cite =
                b.cite;
            args = b.instance;
            fresh = fresh;
            shown = given;
          } ∷ []);
    }

-- the body ends
abbrev pub body_ended : EndText.EndText → ScriptBuilder → ScriptBuilder
body_ended finish b =
    record (cleared b) { steps = []; body = record { steps = b.steps; end = finish } }

-- a split begins; what is open around it is kept
abbrev pub split_begun : ScriptBuilder → ScriptBuilder
split_begun b =
    record (cleared b) {
      steps =
          [];
      split = b.number;
      cases = [];
      facts = None;
      outer =
          record {
            steps =
                b.steps;
            split = b.split;
            cases = b.cases;
            facts = b.facts;
          } ∷ b.outer;
    }

-- what was open around a split is open again
abbrev pub put_back : Frame → ScriptBuilder → ScriptBuilder
put_back frame b =
    record b {
      steps =
          frame.steps;
      split = frame.split;
      cases = frame.cases;
      facts = frame.facts;
      outer = below b.outer;
    }

abbrev pub split_ended : ScriptBuilder → ScriptBuilder
split_ended b =
    body_ended (finish.Cs b.split b.cases) (put_back (top_or no_frame b.outer) b)

-- the cases are these, and nothing of a case is open
abbrev pub with_cases : List CaseText → ScriptBuilder → ScriptBuilder
with_cases cases b =
    record (cleared b) { steps = []; body = no_body; cases = cases; facts = None }

-- the facts of a case are read
abbrev pub facts_read : Option (List NamedAtom) → ScriptBuilder → ScriptBuilder
facts_read facts b = record (cleared b) { facts = facts }

-- what an act does
abbrev pub acted : Act.Act → ScriptBuilder → ScriptBuilder
acted act.Nothing b = b
acted act.BeginFirst b = record b { version = 1; steps = [] }
acted act.BeginSecond b = record b { version = 2; steps = [] }
acted act.TakeNames b = record b { take = b.names; names = [] }
acted act.BeginNames b = record b { names = [] }
acted act.KeepArgs b = record b { names = []; instance = args.Listed b.names }
acted act.BeginBinds b = record b { binds = [] }
acted act.KeepBinds b =
    record b { word = None; number = 0; binds = []; instance = args.Named b.binds }
acted act.KeepFresh b = record b { names = []; fresh = b.names }
acted act.EndStep b = step_added b.fresh b.line b
acted act.EndBareStep b = step_added b.names None b
acted act.CiteRefl b = cited citation.Refl b
acted act.CiteSym b = cited citation.Sym b
acted act.CiteTrans b = cited citation.Trans b
acted act.CiteNo b = cited (citation.No b.symbol) b
acted act.CiteOr b = cited (citation.Or b.symbol) b
acted act.SetNegative b = record b { positive = false }
acted act.SetEquality b = record b { word = None; symbol = symbol.Equality }
acted act.ShowFalsum b = line_read shown.Falsum b
acted act.BeginAtoms b = with_atoms [] b
acted act.BeginParts b = record (with_atoms [] b) { parts = b.atoms ∷ [] }
acted act.AddPart b = record (with_atoms [] b) { parts = b.parts ++ (b.atoms ∷ []) }
acted act.AddAtom b = atom_added (atom_of true b.names) b
acted act.AddNegated b = atom_added (atom_of false b.names) b
acted act.EndAs b = body_ended (finish.As b.number b.names) b
acted act.EndEfq b = body_ended finish.Efq b
acted act.EndGap b = body_ended (finish.Gap b.number) b
acted act.BeginSplit b = split_begun b
acted act.EndSplit b = split_ended b
acted act.BeginCase b = record b { steps = [] }
acted act.ShowCase b = facts_read (Some b.atoms) b
acted act.BareCase b = facts_read None b

-- what is done where nothing stands
abbrev pub passed : Pass.Pass → ScriptBuilder → ScriptBuilder
passed pass.Nothing b = b
passed pass.BeginAtoms b = with_atoms [] b
passed pass.CiteName b = cited (named_citation b.word b.number) b
passed pass.SetPositive b = record b { positive = true }
passed pass.ShowFacts b = line_read (shown.Facts b.atoms) b
passed pass.AddCase b = with_cases (b.cases ++ (record { shown = b.facts; body = b.body } ∷ [])) b
passed pass.SetRank b = record b { number = 1 }
passed pass.ShowCases b = line_read (shown.Cases (b.parts ++ (b.atoms ∷ []))) b
passed pass.KeepAtoms b = with_atoms b.atoms b
passed pass.AddPlain b = atom_added (atom_of true []) b
passed pass.AddPlainNegated b = atom_added (atom_of false []) b
passed pass.KeepBound b = record b { word = None; number = 0 }
passed pass.KeepCases b = with_cases b.cases b

-- what a name does
abbrev pub named : Naming.Naming → Text → ScriptBuilder → ScriptBuilder
named naming.Listed name b = record b { names = b.names ++ (name ∷ []) }
named naming.Cited name b = record b { word = Some name }
named naming.Symbol name b = record b { word = Some name }
named naming.Label name b = record b { word = Some name }
named naming.Bound name b =
    record b { word = None; number = 0; binds = binds_with b.word b.number name b.binds }
named naming.Predicate name b = record b { word = Some name; names = [] }
named naming.Equal name b = atom_added (equation true name) b
named naming.Unequal name b = atom_added (equation false name) b

-- what a number does
abbrev pub numbered : Counting.Counting → ℕ → ScriptBuilder → ScriptBuilder
numbered counting.Arity n b = symbol_read b.word n b
numbered counting.Place n b = cited (citation.Sub b.positive b.symbol n) b
numbered _ n b = record b { number = n }

-- what is done at a token
abbrev pub token_taken : List LexToken → Taker.Taker → Token → ScriptBuilder → ScriptBuilder
token_taken ts (taker.Fixed fixed does) t b = acted does b
token_taken ts (taker.One does) t b = acted does b
token_taken ts (taker.Two does) t b = acted does b
token_taken ts (taker.Name naming) t b = named naming (name_in ts t) b
token_taken ts (taker.Number counting) t b = numbered counting (number_in t) b
token_taken ts taker.WrongVersion t b = b

abbrev pub acts : List LexToken → TextPart.TextPart → Token → ScriptBuilder → ScriptBuilder
acts ts (Taken t) token b = token_taken ts t token b
acts ts (Row r) token b = b

-- what is done where a rule stands for its empty row
abbrev pub passing : Rule.Rule → Pass.Pass
passing rule.Rank = pass.SetRank
passing rule.ListedBinds = pass.KeepBound
passing rule.MoreBinds = pass.KeepBound
passing rule.AfterTrue = pass.ShowFacts
passing rule.AfterAtom = pass.ShowFacts
passing rule.Bars = pass.ShowCases
passing rule.MoreAtoms = pass.KeepAtoms
passing rule.AfterWord = pass.AddPlain
passing rule.AfterNegated = pass.AddPlainNegated
passing (rule.MoreCases e) = pass.KeepCases
passing (rule.Does does) = does
passing _ = pass.Nothing

abbrev pub passes : TextPart.TextPart → ScriptBuilder → ScriptBuilder
passes (Row r) b = passed (passing r) b
passes (Taken t) b = b

-- what a rule's value leaves
abbrev pub rule_effect : (r : Rule.Rule) → RuleValue r → ScriptBuilder → ScriptBuilder
rule_effect rule.Text script b =
    record (cleared b) {
      version =
          script.version;
      take = script.take;
      steps = [];
      body = script.body;
    }
rule_effect rule.Version script b =
    record (cleared b) {
      version =
          script.version;
      take = script.take;
      steps = [];
      body = script.body;
    }
rule_effect rule.Never never b = absurd never
rule_effect rule.Head names b = record b { take = names; names = [] }
rule_effect rule.Names names b = record b { names = names }
rule_effect rule.ListedNames names b = record b { names = b.names ++ names }
rule_effect rule.MoreNames names b = record b { names = b.names ++ names }
rule_effect (rule.Body e) body b =
    record (cleared b) {
      steps =
          [];
      body = record { steps = b.steps ++ body.steps; end = body.end };
    }
rule_effect (rule.Step e) step b = record (cleared b) { steps = b.steps ++ (step ∷ []) }
rule_effect (rule.Given e) given b = step_added b.names given b
rule_effect (rule.Finish e) finish b = body_ended finish b
rule_effect rule.SplitEnd done b = split_ended b
rule_effect (rule.Case e) case b = with_cases (b.cases ++ (case ∷ [])) b
rule_effect (rule.MoreCases e) cases b = with_cases (b.cases ++ cases) b
rule_effect (rule.CaseHead e) facts b = facts_read facts b
rule_effect rule.Cite cite b = cited cite b
rule_effect rule.Rank rank b = record b { number = rank }
rule_effect rule.SignedSymbol signed b =
    record b { word = None; positive = signed.0; symbol = signed.1 }
rule_effect rule.Symbol symbol b = record b { word = None; symbol = symbol }
rule_effect rule.Binds binds b =
    record b { word = None; number = 0; binds = []; instance = args.Named binds }
rule_effect rule.ListedBinds binds b =
    record b { word = None; number = 0; binds = b.binds ++ binds }
rule_effect rule.MoreBinds binds b =
    record b { word = None; number = 0; binds = b.binds ++ binds }
rule_effect rule.Bind bind b =
    record b { word = None; number = 0; binds = b.binds ++ (bind ∷ []) }
rule_effect rule.Line line b = line_read line b
rule_effect rule.AfterTrue line b = line_read (line b.atoms) b
rule_effect rule.AfterAtom line b = line_read (line b.atoms) b
rule_effect rule.AfterGroup line b = line_read (line b.atoms) b
rule_effect rule.Bars parts b = line_read (shown.Cases (b.parts ++ (b.atoms ∷ parts))) b
rule_effect rule.LinePart atoms b = with_atoms atoms b
rule_effect rule.Group atoms b = with_atoms atoms b
rule_effect rule.MoreAtoms atoms b = with_atoms (b.atoms ++ atoms) b
rule_effect rule.Facts atoms b = with_atoms atoms b
rule_effect rule.Atom atom b = with_atoms (b.atoms ++ (atom ∷ [])) b
rule_effect rule.AfterWord atom b = atom_added atom b
rule_effect rule.AfterNegated names b = atom_added (atom_of false names) b
rule_effect (rule.Does does) done b = passed does b

-- what a part's value leaves
abbrev pub effect : List LexToken → (p : TextPart.TextPart) → Value p → ScriptBuilder →
    ScriptBuilder
effect ts (Taken t) token b = token_taken ts t token b
effect ts (Row r) value b = rule_effect r value b
