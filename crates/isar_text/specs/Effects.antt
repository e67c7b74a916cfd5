-- What the builder of scripts does at a token and where nothing stands, and what each value leaves
-- in its registers.
use Rattle.std.specs.Prelude.{false, List, [], ◌∷◌, ◌++◌, Some}
use Rattle.text_core.specs.Names.{Text}
use Rattle.proof_text.specs.declared.body.Shown.TheVariants as shown
use Rattle.proof_text.specs.declared.body.ArgsText.TheVariants as args
use Rattle.proof_text.specs.declared.body.MpText.{MpText}
use Rattle.proof_text.specs.declared.body.BodyText.{BodyText}
use Rattle.proof_text.specs.declared.builder.ScriptBuilder.{ScriptBuilder}
use Rattle.proof_text.specs.declared.part.Counting.TheVariants as counting
use Rattle.proof_text.specs.declared.part.Pass.TheVariants as pass
use Rattle.proof_text.specs.Effects.{cleared, with_atoms, atom_added, line_read, cited, step_added, body_ended, with_cases, facts_read, acted, passed, named, numbered}
use Rattle.proof_text.specs.Values.{atom_of, listed_step}
use Rattle.isar_text.specs.declared.mark.Token.{Token as Seen}
use Rattle.isar_text.specs.declared.part.IsarPart as IsarPart
use Rattle.isar_text.specs.declared.part.IsarPart.TheVariants.{Taken, Row}
use Rattle.isar_text.specs.declared.part.Taker as Taker
use Rattle.isar_text.specs.declared.part.Taker.TheVariants as taker
use Rattle.isar_text.specs.declared.part.Rule as Rule
use Rattle.isar_text.specs.declared.part.Rule.TheVariants as rule
use Rattle.isar_text.specs.Values.{Lexed, RuleValue, Value, number_in, name_in, cite_in}

-- what is done at a token
abbrev pub token_taken : Lexed → Taker.Taker → Seen → ScriptBuilder → ScriptBuilder
token_taken lexed (taker.Fixed fixed does) t b = acted does b
token_taken lexed (taker.Name naming) t b = named naming (name_in lexed.tokens t) b
token_taken lexed taker.Form t b = cited (cite_in lexed.task t) b
token_taken lexed (taker.NextLine n) t b = b
token_taken lexed (taker.OldLine n) t b = b
token_taken lexed (taker.SplitLine n) t b = numbered counting.Line (number_in t) b
token_taken lexed taker.Disjunct t b = numbered counting.Disjunct (number_in t) b

abbrev pub acts : Lexed → IsarPart.IsarPart → Seen → ScriptBuilder → ScriptBuilder
acts lexed (Taken t) token b = token_taken lexed t token b
acts lexed (Row r) token b = b

-- what is done where a rule stands for its empty row
abbrev pub rule_passed : Rule.Rule → ScriptBuilder → ScriptBuilder
rule_passed rule.AfterTrue b = passed pass.ShowFacts b
rule_passed rule.AfterAtom b = passed pass.ShowFacts b
rule_passed rule.Bars b = passed pass.ShowCases b
rule_passed rule.MoreAtoms b = passed pass.KeepAtoms b
rule_passed rule.AfterName b = passed pass.AddPlain b
rule_passed rule.AfterNegated b = passed pass.AddPlainNegated b
rule_passed (rule.MoreCases n) b = passed pass.KeepCases b
rule_passed (rule.Acts does) b = acted does b
rule_passed (rule.Does does) b = passed does b
rule_passed _ b = b

abbrev pub passes : IsarPart.IsarPart → ScriptBuilder → ScriptBuilder
passes (Row r) b = rule_passed r b
passes (Taken t) b = b

-- a step, or a body, is read behind the steps so far
abbrev pub with_steps : List MpText → ScriptBuilder → ScriptBuilder
with_steps steps b = record (cleared b) { steps = b.steps ++ steps }

abbrev pub body_read : BodyText → ScriptBuilder → ScriptBuilder
body_read body b =
    record (cleared b) {
      steps =
          [];
      body = record { steps = b.steps ++ body.steps; end = body.end };
    }

-- names are read behind those so far
abbrev pub with_names : List Text → ScriptBuilder → ScriptBuilder
with_names names b = record b { names = b.names ++ names }

-- what a rule's value leaves
abbrev pub rule_effect : (r : Rule.Rule) → RuleValue r → ScriptBuilder → ScriptBuilder
rule_effect rule.Rest body b = record (cleared b) { version = 1; steps = []; body = body }
rule_effect (rule.Body n) body b = body_read body b
rule_effect (rule.Step n) step b = with_steps (step ∷ []) b
rule_effect (rule.Given n) step b = with_steps (step b.names ∷ []) b
rule_effect rule.QuotedLine line b = line_read line b
rule_effect (rule.Using n) using b =
    with_steps (listed_step using.0 using.1 b.fresh b.line ∷ []) b
rule_effect (rule.MoreLines n) done b = b
rule_effect rule.Instance names b = record b { names = []; instance = args.Listed names }
rule_effect rule.StepEnd done b = step_added b.fresh b.line b
rule_effect (rule.Finish n) end b = body_ended end b
rule_effect (rule.AfterThesis n) end b = body_ended end b
rule_effect (rule.AfterLine n) end b = body_ended (end b.number) b
rule_effect rule.ByCases done b = b
rule_effect rule.Reason end b = body_ended end b
rule_effect rule.Inside end b = body_ended end b
rule_effect rule.ByBlast done b = b
rule_effect (rule.Case n) case b = with_cases (b.cases ++ (case ∷ [])) b
rule_effect (rule.CaseHead n) facts b = facts_read (Some facts) b
rule_effect rule.QuotedFacts facts b = facts_read (Some facts) b
rule_effect (rule.MoreCases n) cases b = with_cases (b.cases ++ cases) b
rule_effect rule.Names names b = record b { names = names }
rule_effect rule.ListedNames names b = with_names names b
rule_effect rule.MoreNames names b = with_names names b
rule_effect rule.MoreWords names b = with_names names b
rule_effect rule.Line line b = line_read line b
rule_effect rule.AfterTrue line b = line_read (line b.atoms) b
rule_effect rule.AfterAtom line b = line_read (line b.atoms) b
rule_effect rule.AfterGroup line b = line_read (line b.atoms) b
rule_effect rule.Bars parts b = line_read (shown.Cases (b.parts ++ (b.atoms ∷ parts))) b
rule_effect rule.LinePart atoms b = with_atoms atoms b
rule_effect rule.Group atoms b = with_atoms atoms b
rule_effect rule.MoreAtoms atoms b = with_atoms (b.atoms ++ atoms) b
rule_effect rule.Facts atoms b = with_atoms atoms b
rule_effect rule.Atom atom b = with_atoms (b.atoms ++ (atom ∷ [])) b
rule_effect rule.AfterName atom b = atom_added atom b
rule_effect rule.AfterNegated names b = atom_added (atom_of false names) b
rule_effect (rule.Acts does) done b = acted does b
rule_effect (rule.Does does) done b = passed does b

-- what a part's value leaves
abbrev pub effect : Lexed → (p : IsarPart.IsarPart) → Value p → ScriptBuilder → ScriptBuilder
effect lexed (Taken t) token b = token_taken lexed t token b
effect lexed (Row r) value b = rule_effect r value b
