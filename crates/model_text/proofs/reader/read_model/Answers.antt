use Rattle.std.proofs.Common.{sym, subst, length, Err}
use Rattle.text_core.specs.Exact.{Exact}
use Rattle.model_text.specs.declared.refusal.ModelRefusal.TheVariants.{Memory}
use Rattle.model_text.specs.Texts.{AreModelOf, TokensFault, IsModelOf, ModelFault}
use Rattle.model_text.proofs.Read.{exact_bytes, exact_lexical}
use Rattle.model_text.proofs.reader.read_model.Goals as goal

pub returns-in-Ok : goal.returns-in-Ok
returns-in-Ok c =
    exact_bytes c.args.bytes.now c.in-Ok.tokens.tokens c.in-Ok.ensures.tokens c.read_tokens.result
    (subst (λ bytes. Exact (AreModelOf c.in-Ok.tokens.tokens) (TokensFault c.in-Ok.tokens.tokens (length bytes)) Memory c.read_tokens.result)
    c.in-Ok.ensures.source c.read_tokens.ensures)

pub returns-in-Err : goal.returns-in-Err
returns-in-Err c =
    subst (λ why. Exact (IsModelOf c.args.bytes.now) (ModelFault c.args.bytes.now) Memory (Err why)) (sym c.lexical.ensures)
    (exact_lexical c.args.bytes.now c.in-Err.refusal c.in-Err.ensures.refused)
