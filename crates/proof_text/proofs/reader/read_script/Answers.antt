use Rattle.std.proofs.Common.{sym, subst, length, Err}
use Rattle.text_core.specs.Exact.{Exact}
use Rattle.proof_text.specs.declared.refusal.ScriptRefusal.TheVariants.{Memory}
use Rattle.proof_text.specs.Scripts.{AreScriptOf, TokensFault, IsScriptOf, ProofFault}
use Rattle.proof_text.proofs.Read.{exact_bytes, exact_lexical}
use Rattle.proof_text.proofs.reader.read_script.Goals as goal

pub returns-in-Ok : goal.returns-in-Ok
returns-in-Ok c =
    exact_bytes c.args.bytes.now c.in-Ok.tokens.tokens c.in-Ok.ensures.tokens c.read_tokens.result
    (subst (λ bytes. Exact (AreScriptOf c.in-Ok.tokens.tokens) (TokensFault c.in-Ok.tokens.tokens (length bytes)) Memory c.read_tokens.result)
    c.in-Ok.ensures.source c.read_tokens.ensures)

pub returns-in-Err : goal.returns-in-Err
returns-in-Err c =
    subst (λ why. Exact (IsScriptOf c.args.bytes.now) (ProofFault c.args.bytes.now) Memory (Err why)) (sym c.lexical.ensures)
    (exact_lexical c.args.bytes.now c.in-Err.refusal c.in-Err.ensures.refused)
