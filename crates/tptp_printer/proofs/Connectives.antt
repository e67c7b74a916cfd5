-- Connectives as pieces.
use Rattle.std.proofs.Common.{codes, refl}
use Rattle.logic_core.specs.declared.formula.Op.{Op}
use Rattle.logic_core.specs.declared.formula.Op.TheVariants as op
use Rattle.tptp_lexer.specs.declared.kind.Kind.TheVariants as kind
use Rattle.tptp_lexer.specs.Kinds.{kind_of}
use Rattle.tptp_lexer.proofs.Laws.{BlankNext, Gives, IsOne, led_sign}
use Rattle.tptp_grammar.specs.Spells.{op_kind}
use Rattle.tptp_printer.specs.Canonical.{op_text}

-- a connective in front of a blank
pub connective : (o : Op) → Gives BlankNext (op_text o) (IsOne (op_kind o))
unfolding kind_of
connective op.Implies = led_sign kind.Implies (codes "=>") refl (λ cs. refl)
connective op.Implied = led_sign kind.Implied (codes "<=") refl (λ cs. refl)
connective op.Iff = led_sign kind.Iff (codes "<=>") refl (λ cs. refl)
connective op.Xor = led_sign kind.Xor (codes "<~>") refl (λ cs. refl)
connective op.Nor = led_sign kind.Nor (codes "~|") refl (λ cs. refl)
connective op.Nand = led_sign kind.Nand (codes "~&") refl (λ cs. refl)
