-- What the program prints.
use Rattle.std.specs.Prelude.{ℕ, [], ◌∷◌, ◌++◌, codes}
use Rattle.std.specs.Fmt.{decimal}
use Rattle.text_core.specs.Names.{Text}
use Rattle.tptp_lexer.specs.declared.refusal.LexRefusal.{LexRefusal}
use Rattle.tptp_lexer.specs.declared.refusal.LexRefusal.TheVariants as lexical
use Rattle.tptp_grammar.specs.declared.refusal.SyntaxRefusal.{SyntaxRefusal}
use Rattle.tptp_grammar.specs.declared.refusal.SyntaxRefusal.TheVariants as syntax
use Rattle.include_flat.specs.declared.refusal.FlatWhy.{FlatWhy}
use Rattle.include_flat.specs.declared.refusal.FlatWhy.TheVariants as flat
use Rattle.coherent_form.specs.declared.task_refusal.TaskWhy.{TaskWhy}
use Rattle.coherent_form.specs.declared.task_refusal.TaskWhy.TheVariants as task
use Rattle.coherent_form.specs.declared.task_refusal.TaskRefusal.{TaskRefusal}
use Rattle.proof_text.specs.declared.refusal.ScriptRefusal.{ScriptRefusal}
use Rattle.proof_text.specs.declared.refusal.ScriptRefusal.TheVariants as script
use Rattle.isar_text.specs.declared.refusal.IsarRefusal.{IsarRefusal}
use Rattle.isar_text.specs.declared.refusal.IsarRefusal.TheVariants as isar
use Rattle.model_text.specs.declared.refusal.ModelRefusal.{ModelRefusal}
use Rattle.model_text.specs.declared.refusal.ModelRefusal.TheVariants as model
use Rattle.finite_model.specs.declared.refusal.ConfirmRefusal.{ConfirmRefusal}
use Rattle.finite_model.specs.declared.refusal.ConfirmRefusal.TheVariants as confirm
use Rattle.proof_checker.specs.declared.refusal.Rule.{Rule}
use Rattle.proof_checker.specs.declared.refusal.Rule.TheVariants as rule
use Rattle.proof_checker.specs.declared.refusal.Why.{Why}
use Rattle.proof_checker.specs.declared.refusal.Why.TheVariants as why
use Rattle.proof_checker.specs.declared.refusal.StepRefusal.{StepRefusal}
use Rattle.larus_cli.specs.declared.report.ProofWhy.{ProofWhy}
use Rattle.larus_cli.specs.declared.report.ProofWhy.TheVariants as second

-- a line feed (10) behind a text
abbrev pub ended : Text → Text
ended text = text ++ 10 ∷ []

-- the offset of a byte, and the number and the name of its refusal
abbrev pub at_offset : ℕ → Text → Text
at_offset offset text = codes ":" ++ decimal offset ++ ended text

-- what is behind a file's name where its bytes have no tokens; nothing is told of want of memory
abbrev pub lexical_text : LexRefusal → Text
lexical_text (lexical.BadByte offset) = at_offset offset (codes ": 1 BadByte")
lexical_text (lexical.OpenQuote offset) = at_offset offset (codes ": 2 OpenQuote")
lexical_text (lexical.OpenComment offset) = at_offset offset (codes ": 3 OpenComment")
lexical_text (lexical.EmptyQuote offset) = at_offset offset (codes ": 4 EmptyQuote")
lexical_text lexical.Memory = []

-- what is behind a file's name where its tokens are no text of items
abbrev pub syntax_text : SyntaxRefusal → Text
syntax_text (syntax.Unexpected offset) = at_offset offset (codes ": 5 Unexpected")
syntax_text (syntax.FunctionTerm offset) = at_offset offset (codes ": 6 FunctionTerm")
syntax_text (syntax.EndOfText offset) = at_offset offset (codes ": 7 EndOfText")
syntax_text (syntax.TooDeep offset) = at_offset offset (codes ": 8 TooDeep")
syntax_text (syntax.Role offset) = at_offset offset (codes ": 9 Role")
syntax_text (syntax.FreeVariable offset) = at_offset offset (codes ": 10 FreeVariable")
syntax_text syntax.Memory = []

-- what is behind a file's name where it was not fetched, or has too many bytes
abbrev pub fault_text : Text
fault_text = ended (codes ": 11 FileFault")

abbrev pub too_long_text : Text
too_long_text = ended (codes ": 12 FileTooLong")

-- what is behind the name of a problem's file
abbrev pub flat_text : FlatWhy → Text
flat_text (flat.Lex refusal) = lexical_text refusal
flat_text (flat.Syntax refusal) = syntax_text refusal
flat_text flat.FileFault = fault_text
flat_text flat.FileTooLong = too_long_text
flat_text flat.AllTooLong = ended (codes ": 13 AllTooLong")
flat_text flat.IncludeDepth = ended (codes ": 14 IncludeDepth")
flat_text flat.TooManyFormulas = ended (codes ": 15 TooManyFormulas")
flat_text flat.Memory = []

-- what is behind the number of a formula that is refused; nothing is told of want of memory
abbrev pub task_text : TaskWhy → Text
task_text (task.NotCoherent node) = codes ": 16 NotCoherent " ++ ended (decimal node)
task_text task.TooWide = ended (codes ": 17 TooWide")
task_text task.TooManyConjectures = ended (codes ": 18 TooManyConjectures")
task_text task.TooManyForms = ended (codes ": 46 TooManyForms")
task_text task.ManyGoals = ended (codes ": 47 ManyGoals")
task_text task.Memory = []

-- the number of a formula that is refused, and why
abbrev pub formula_text : TaskRefusal → Text
formula_text refusal = codes "formula " ++ decimal refusal.formula ++ task_text refusal.why

-- what is behind the name of a proof's file whose bytes spell no script; nothing is told of want of
-- memory
abbrev pub script_text : ScriptRefusal → Text
script_text (script.Lex refusal) = lexical_text refusal
script_text (script.ProofSyntax offset) = at_offset offset (codes ": 20 ProofSyntax")
script_text (script.ProofVersion offset) = at_offset offset (codes ": 21 ProofVersion")
script_text (script.ProofTooLarge offset) = at_offset offset (codes ": 22 ProofTooLarge")
script_text (script.CasesTooDeep offset) = at_offset offset (codes ": 23 CasesTooDeep")
script_text script.Memory = []

-- what is behind the name of a file whose bytes are no Isar text of the task; nothing is told of
-- want of memory
abbrev pub isar_text : IsarRefusal → Text
isar_text (isar.Head offset) = at_offset offset (codes ": 43 IsarHead")
isar_text (isar.Syntax offset) = at_offset offset (codes ": 42 IsarSyntax")
isar_text (isar.TooLarge offset) = at_offset offset (codes ": 22 ProofTooLarge")
isar_text (isar.TooDeep offset) = at_offset offset (codes ": 23 CasesTooDeep")
isar_text isar.Memory = []

-- what is behind the name of a second file that is refused
abbrev pub proof_text : ProofWhy → Text
proof_text second.FileTooLong = too_long_text
proof_text (second.Script refusal) = script_text refusal
proof_text (second.Isar refusal) = isar_text refusal

-- what is behind the name of a file whose bytes spell no structure; nothing is told of want of
-- memory
abbrev pub model_text : ModelRefusal → Text
model_text (model.Lex refusal) = lexical_text refusal
model_text (model.ModelSyntax offset) = at_offset offset (codes ": 51 ModelSyntax")
model_text (model.ModelRange offset) = at_offset offset (codes ": 52 ModelRange")
model_text (model.ModelTwice offset) = at_offset offset (codes ": 53 ModelTwice")
model_text model.Memory = []

-- the word of a rule
abbrev pub rule_text : Rule → Text
rule_text rule.Take = codes "take"
rule_text rule.Mp = codes "mp"
rule_text rule.Cs = codes "cs"
rule_text rule.As = codes "as"
rule_text rule.Efq = codes "efq"
rule_text rule.Gap = codes "gap"

-- the number and the name of a check that fails, and for some which premise, case, atom or binding
-- it is
abbrev pub why_text : Why → Text
why_text why.ParameterCount = codes "24 ParameterCount"
why_text why.NameTaken = codes "25 NameTaken"
why_text why.UnknownAxiom = codes "26 UnknownAxiom"
why_text why.InstanceCount = codes "27 InstanceCount"
why_text why.InstanceUnknown = codes "28 InstanceUnknown"
why_text (why.PremiseMissing n) = codes "29 PremiseMissing " ++ decimal n
why_text why.WitnessCount = codes "30 WitnessCount"
why_text why.WitnessTaken = codes "31 WitnessTaken"
why_text why.ShownDiffers = codes "32 ShownDiffers"
why_text why.NoSuchLine = codes "33 NoSuchLine"
why_text why.NotCases = codes "34 NotCases"
why_text why.BranchCount = codes "35 BranchCount"
why_text (why.CaseDiffers n) = codes "36 CaseDiffers " ++ decimal n
why_text why.NoSuchDisjunct = codes "37 NoSuchDisjunct"
why_text why.AnswerCount = codes "38 AnswerCount"
why_text why.AnswerUnknown = codes "39 AnswerUnknown"
why_text (why.AtomMissing n) = codes "40 AtomMissing " ++ decimal n
why_text why.NoFalsum = codes "41 NoFalsum"
why_text (why.VariableUnknown n) = codes "48 VariableUnknown " ++ decimal n
why_text (why.VariableTwice n) = codes "49 VariableTwice " ++ decimal n
why_text why.GapOpen = codes "50 GapOpen"

abbrev pub accepted_text : ℕ → Text
accepted_text size = codes "accepted " ++ ended (decimal size)

abbrev pub none_text : ℕ → Text
none_text most = codes "none up to " ++ ended (decimal most)

-- the number of implications, the lengths of the made problem and the made proof, and the size
abbrev pub demo_text : ℕ → ℕ → ℕ → ℕ → Text
demo_text k problem proof size = codes "demo " ++ decimal k ++ codes ": problem " ++
    decimal problem ++ codes " bytes, proof " ++ decimal proof ++ codes " bytes, accepted " ++
    ended (decimal size)

-- the number of a step that is refused, its rule, and why
abbrev pub step_text : StepRefusal → Text
step_text refusal = codes "refused " ++ decimal refusal.step ++ codes " " ++
    rule_text refusal.rule ++ codes " " ++ ended (why_text refusal.why)

abbrev pub countermodel_text : ℕ → Text
countermodel_text size = codes "countermodel " ++ ended (decimal size)

-- why a structure is no countermodel; nothing is told of want of memory
abbrev pub confirm_text : ConfirmRefusal → Text
confirm_text (confirm.ModelPlace number) =
    codes "refused model 54 ModelPlace " ++ ended (decimal number)
confirm_text (confirm.ModelFails number) =
    codes "refused model 55 ModelFails " ++ ended (decimal number)
confirm_text confirm.Memory = []

abbrev pub usage_text : Text
usage_text = ended (codes "44 Usage") ++ ended (codes "check PROBLEM PROOF") ++
    ended (codes "prove PROBLEM MOST") ++
    ended (codes "export isar PROBLEM PROOF") ++ ended (codes "export english PROBLEM PROOF") ++
    ended (codes "convert problem PROBLEM") ++ ended (codes "convert vernacular PROBLEM PROOF") ++
    ended (codes "convert isar PROBLEM ISARTEXT") ++ ended (codes "demo K") ++
    ended (codes "convert version2 PROBLEM PROOF") ++ ended (codes "refute PROBLEM SIZE") ++
    ended (codes "confirm PROBLEM MODEL")
