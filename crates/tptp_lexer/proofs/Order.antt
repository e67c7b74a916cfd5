-- Tokens are in order, each a part of its source.
use Rattle.std.proofs.Common.{◌≡◌, ℕ, ◌+◌, ◌-◌, ◌≤◌, List, [], ◌∷◌, ◌++◌, length, take, drop, refl, ap, sym, ◌∙◌, arith}
use Rattle.std.proofs.lemmas.List.{take_at, drop_at, drop-drop}
use Rattle.text_core.specs.Names.{Text}
use Rattle.tptp_lexer.specs.Tokens.{Token, Reads, stop, blank, comment, token, IsEnd, AreTokens}
use Rattle.tptp_lexer.specs.Order.{AreInOrder}

-- what is left behind a front
behind : (source : Text) (at : ℕ) (bytes text rest : Text) → bytes ≡ drop at source → bytes ≡ text ++ rest → rest ≡ drop (at + length text) source
behind source at bytes text rest b s = sym (drop_at text rest (length text) refl) ∙ ap (drop (length text)) (sym s ∙ b) ∙ drop-drop (length text) at source

-- what is read from an offset on is in order
in_order : (left : ℕ → Text → Type 0) (source : Text) (at : ℕ) (bytes : Text) (ts : List Token) (from : ℕ) → Reads left at bytes ts → bytes ≡ drop at source → from ≤ at → AreInOrder from source ts
in_order left source at bytes _ from (stop h) b l = tt
in_order left source at _ ts from (blank {b = c} {rest = rest} h r) b l = in_order left source (at + 1) rest ts from r (behind source at (c ∷ rest) (c ∷ []) rest b refl) (omega arith)
in_order left source at bytes ts from (comment text rest s c r) b l = in_order left source (at + length text) rest ts from r (behind source at bytes text rest b s) (omega arith)
in_order left source at bytes _ from (token {ts = ts} kind text rest s k r) b l =
    (l, sym (take_at text rest (at + length text - at) (omega arith)) ∙ ap (take (at + length text - at)) (sym s ∙ b), in_order left source (at + length text) rest ts (at + length text) r (behind source at bytes text rest b s) (omega arith))

-- the tokens of a text are in order
pub tokens_in_order : (bytes : Text) (ts : List Token) → AreTokens bytes ts → AreInOrder 0 bytes ts
tokens_in_order bytes ts r = in_order IsEnd bytes 0 bytes ts 0 r refl (omega arith)
