-- What the grammar looks at in each token of a text.
use Rattle.std.specs.Prelude.{true, false, List, map, Option, Some, None, codes, if◌then◌else◌}
use Rattle.std.specs.Str.{bytes_eq}
use Rattle.text_core.specs.Names.{Text}
use Rattle.logic_core.specs.declared.formula.Op.TheVariants as op
use Rattle.logic_core.specs.declared.problem.Role.{Role}
use Rattle.tptp_lexer.specs.declared.kind.Kind.{Kind}
use Rattle.tptp_lexer.specs.declared.kind.Kind.TheVariants as kind
use Rattle.tptp_lexer.specs.Numbering.{number_of}
use Rattle.tptp_lexer.specs.Tokens.{Token}
use Rattle.tptp_grammar.specs.RoleWords.{role_of}
use Rattle.tptp_grammar.specs.declared.mark.Mark.{Mark}
use Rattle.tptp_grammar.specs.declared.mark.Mark.TheVariants.{Fof, Include, Role as RoleMark, Truth, Upper, Connective, Other}

-- a lower word that is neither `fof` nor `include`
abbrev pub role_mark : Option Role → Mark
role_mark (Some role) = RoleMark role
role_mark None = Other kind.Lower

abbrev pub lower_mark : Text → Mark
lower_mark text =
    if bytes_eq text (codes "fof") then Fof else
    (if bytes_eq text (codes "include") then Include else role_mark (role_of text))

abbrev pub dollar_mark : Text → Mark
dollar_mark text =
    if bytes_eq text (codes "$true") then Truth true else
    (if bytes_eq text (codes "$false") then Truth false else Other kind.Dollar)

-- the mark of a token of this kind and with this text, among the tokens of a text
abbrev pub marked : List Token → Kind → Text → Mark
marked ts kind.Lower text = lower_mark text
marked ts kind.Dollar text = dollar_mark text
marked ts kind.Upper text = Upper (number_of ts text)
marked ts kind.Implies text = Connective op.Implies
marked ts kind.Implied text = Connective op.Implied
marked ts kind.Iff text = Connective op.Iff
marked ts kind.Xor text = Connective op.Xor
marked ts kind.Nor text = Connective op.Nor
marked ts kind.Nand text = Connective op.Nand
marked ts k text = Other k

abbrev pub mark_in : List Token → Token → Mark
mark_in ts t = marked ts t.kind t.text

-- the marks of all tokens of a text
abbrev pub marks_of : List Token → List Mark
marks_of ts = map (mark_in ts) ts
