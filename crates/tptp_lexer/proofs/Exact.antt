-- The tokens and the first refused offset exclude each other, and there is one of each at most.
use Rattle.std.proofs.Common.{◌≡◌, ◌⊎◌, inl, inr, List, length, refl, arith, Some, None, Err}
use Rattle.text_core.specs.Names.{Text}
use Rattle.text_core.specs.Exact.{Exact}
use Rattle.text_core.proofs.Laws.{exact_refusal}
use Rattle.tptp_lexer.specs.declared.refusal.LexRefusal.{LexRefusal}
use Rattle.tptp_lexer.specs.declared.refusal.LexRefusal.TheVariants as refusal
use Rattle.tptp_lexer.specs.Tokens.{Token, AreTokens}
use Rattle.tptp_lexer.specs.Refused.{LexFault, IsExplained}
use Rattle.tptp_lexer.proofs.Readings.{one_reading}
use Rattle.tptp_lexer.proofs.Steps.{Reading, some_reading}

-- one list of tokens
pub one_list : (bytes : Text) (ts us : List Token) → AreTokens bytes ts → AreTokens bytes us → ts ≡ us
one_list bytes ts us r s = (one_reading None None 0 bytes ts us r s).1

-- one first refusal
pub one_fault : (bytes : Text) (a b : LexRefusal) → LexFault bytes a → LexFault bytes b → a ≡ b
one_fault bytes a b r s = let i = (one_reading (Some a) (Some b) 0 bytes r.0 s.0 r.1 s.1).0 in cc

-- never both
pub never_both : (bytes : Text) (ts : List Token) (a : LexRefusal) → AreTokens bytes ts → LexFault bytes a → ⊥
never_both bytes ts a r s = let i = (one_reading None (Some a) 0 bytes ts s.0 r s.1).0 in absurd (cc)

-- one of the two
pub some_answer : (bytes : Text) → ((ts : List Token) × AreTokens bytes ts) ⊎ ((a : LexRefusal) × LexFault bytes a)
some_answer bytes = go (some_reading (length bytes) 0 bytes (omega arith))
  where
    go : Reading 0 bytes → ((ts : List Token) × AreTokens bytes ts) ⊎ ((a : LexRefusal) × LexFault bytes a)
    go (None, ts, r) = inl (ts, r)
    go (Some a, ts, r) = inr (a, (ts, r))

-- a refusal that is explained is want of memory, or the first refusal
explained : (bytes : Text) (a : LexRefusal) → IsExplained a bytes → (a ≡ refusal.Memory) ⊎ LexFault bytes a
explained bytes refusal.Memory h = inl refl
explained bytes (refusal.BadByte n) h = inr h
explained bytes (refusal.OpenQuote n) h = inr h
explained bytes (refusal.OpenComment n) h = inr h
explained bytes (refusal.EmptyQuote n) h = inr h

-- such a refusal is the exact answer
pub refused_exactly : (bytes : Text) (a : LexRefusal) → IsExplained a bytes → Exact (AreTokens bytes) (LexFault bytes) refusal.Memory (Err a)
refused_exactly bytes a h = exact_refusal (AreTokens bytes) (LexFault bytes) refusal.Memory (one_list bytes) (one_fault bytes) (never_both bytes) a (explained bytes a h)
