use Rattle.std.proofs.Common.{List, ◌++◌, codes, sym, ◌∙◌, ap, flat_map}
use Rattle.std.proofs.lemmas.Result.{on_ok_weaker}
use Rattle.std.specs.Fmt.{decimal}
use Rattle.text_core.specs.Names.{Text}
use Rattle.proof_text.specs.declared.body.CaseText.{CaseText}
use Rattle.proof_text.specs.Canonical.{indent, line_end, case_text, end_text}
use Rattle.proof_text.proofs.Opened.{Cs_text, named_Cs}
use Rattle.proof_text.proofs.writer.+body.Goals as goal

pub put_end-returns-in-Cs-clause-text : goal.put_end-returns-in-Cs-clause-text
put_end-returns-in-Cs-clause-text t c =
    let level = c.args.level in
    let same = ap (end_text level) c.in-Cs.is ∙ Cs_text level c.in-Cs.line c.in-Cs.cases in
    on_ok_weaker c.put_split.result (λ e.
    e ∙ ap (λ (cs : List CaseText). c.args.out.now ++ (indent level ++ codes "cs " ++ decimal c.in-Cs.line ++ line_end ++
    flat_map (case_text level) cs ++ indent level ++ codes "end" ++ line_end)) c.as_slice.ensures ∙
    ap (λ (text : Text). c.args.out.now ++ text) (sym same)) c.put_split.ensures.text

pub put_end-returns-in-Cs-clause-named : goal.put_end-returns-in-Cs-clause-named
put_end-returns-in-Cs-clause-named t c =
    on_ok_weaker c.put_split.result (λ named.
    named_Cs c.args.end.now c.in-Cs.line c.in-Cs.cases c.as_slice.result.now c.in-Cs.is c.as_slice.ensures named.0 named.1)
    c.put_split.ensures.named
