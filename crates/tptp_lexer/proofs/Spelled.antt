-- The tokens of spans, one at a time.
use Rattle.std.proofs.Common.{◌≡◌, ℕ, zero, suc, ◌+◌, ◌-◌, ◌<◌, List, [], ◌∷◌, map, length, drop, get_or, slice_get, refl, ap, sym, ◌∙◌, subst, arith, Option, Some, length-take, length-drop}
use Rattle.std.proofs.lemmas.List.{length-map, map-id, drop_more}
use Rattle.std.proofs.lemmas.Option.{slice_get_within, get_or_from_slice_get}
use Rattle.std.specs.Prelude.{All, Result, Ok, Err, IfOk}
use Rattle.text_core.specs.Names.{Text}
use Rattle.tptp_lexer.specs.declared.kind.Kind.{Kind}
use Rattle.tptp_lexer.specs.declared.token_list.Span.{Span}
use Rattle.tptp_lexer.specs.Kinds.{kind_of}
use Rattle.tptp_lexer.specs.Spans.{token_of, IsWithin}
use Rattle.tptp_lexer.specs.First.{first_of}
use Rattle.tptp_lexer.specs.Tokens.{Token, Reads, AreTokens, IsEnd, stop, blank, comment, token, named}
use Rattle.tptp_lexer.specs.Columns.{Lexed, ends_of, end_of, kinds_of, texts_of, names_of}

-- what the span with a number gives
picked : {X : Type 0} (f : Token → X) (source : Text) (spans : List Span) (at : ℕ) (d : Span) → at < length spans → slice_get (map f (map (token_of source) spans)) at ≡ Some (f (token_of source (get_or spans at d)))
picked f source [] at d h = absurd (omega arith)
picked f source (s ∷ ss) zero d h = refl
picked f source (s ∷ ss) (suc at) d h = picked f source ss at d (omega arith)

-- what a span gives, of the value that the spans are seen as
pub seen_at : {X : Type 0} (f : Token → X) (source : Text) (spans items : List Span) (v : Lexed) (at : ℕ) (d : Span) → record { source = source; tokens = map (token_of source) spans } ≡ v → items ≡ spans → at < length v.tokens → slice_get (map f v.tokens) at ≡ Some (f (token_of source (get_or items at d)))
seen_at f source spans items v at d e i h =
    let tokens : map (token_of source) spans ≡ v.tokens = ap (λ (w : Lexed). w.tokens) e in
    let low : at < length spans = (let l = ap length tokens in let m = length-map spans (token_of source) in omega arith) in
    ap (λ (ts : List Token). slice_get (map f ts) at) (sym tokens) ∙ picked f source spans at d low ∙ ap (λ (ss : List Span). Some (f (token_of source (get_or ss at d)))) (sym i)

-- where a span ends, its token does
pub end_is : (source : Text) (span : Span) → IsWithin source span → end_of (token_of source span) ≡ span.end
end_is source span w = let low = w.0 in let high = w.1 in let t = length-take (span.end - span.start) (drop span.start source) in let d = length-drop span.start source in omega arith

-- a text is a token of its kind
pub kind_at : (left : ℕ → Text → Type 0) (from : ℕ) (bytes : Text) (ts : List Token) (at : ℕ) (text : Text) → Reads left from bytes ts → slice_get (texts_of ts) at ≡ Some text → slice_get (kinds_of ts) at ≡ kind_of text
kind_at left from bytes _ at text (stop h) e = absurd (cc)
kind_at left from _ ts at text (blank {rest = rest} h r) e = kind_at left (from + 1) rest ts at text r e
kind_at left from bytes ts at text (comment t rest s c r) e = kind_at left (from + length t) rest ts at text r e
kind_at left from bytes _ zero text (token kind t rest s l r) e = let same : t ≡ text = cc in sym l.token ∙ ap kind_of same
kind_at left from bytes _ (suc at) text (token {ts = ts} kind t rest s l r) e = kind_at left (from + length t) rest ts at text r e

-- the same, of the value that the spans are seen as
pub kind_seen : (source : Text) (spans : List Span) (v : Lexed) (at : ℕ) (text : Text) → record { source = source; tokens = map (token_of source) spans } ≡ v → AreTokens source (map (token_of source) spans) → slice_get (texts_of v.tokens) at ≡ Some text → slice_get (kinds_of v.tokens) at ≡ kind_of text
kind_seen source spans v at text e r h = kind_at IsEnd 0 source v.tokens at text (subst (AreTokens source) (ap (λ (w : Lexed). w.tokens) e) r) h

-- where the token with a number ends
pub end_seen : (source : Text) (spans items : List Span) (v : Lexed) (at : ℕ) (d : Span) → record { source = source; tokens = map (token_of source) spans } ≡ v → items ≡ spans → at < length v.tokens → All (IsWithin source) spans → slice_get (ends_of v.tokens) at ≡ Some (get_or items at d).end
end_seen source spans items v at d e i h w =
    seen_at end_of source spans items v at d e i h ∙ ap Some (end_is source (get_or items at d) (subst (All (IsWithin source)) (sym i) w at d (let l = ap length (ap (λ (w : Lexed). w.tokens) e) in let m = length-map spans (token_of source) in let n = ap length i in omega arith)))

-- the token with a number
pub token_seen : (source : Text) (spans items : List Span) (v : Lexed) (at : ℕ) (d : Span) → record { source = source; tokens = map (token_of source) spans } ≡ v → items ≡ spans → at < length v.tokens → slice_get v.tokens at ≡ Some (token_of source (get_or items at d))
token_seen source spans items v at d e i h = sym (ap (λ (ts : List Token). slice_get ts at) (map-id v.tokens)) ∙ seen_at (λ (t : Token). t) source spans items v at d e i h

-- its text is a token of its kind
pub token_kind : (source : Text) (spans items : List Span) (v : Lexed) (at : ℕ) (d : Span) → record { source = source; tokens = map (token_of source) spans } ≡ v → AreTokens source (map (token_of source) spans) → items ≡ spans → at < length v.tokens → kind_of (token_of source (get_or items at d)).text ≡ Some (get_or items at d).kind
token_kind source spans items v at d e r i h =
    let text = seen_at (λ (t : Token). t.text) source spans items v at d e i h in
    sym (kind_seen source spans v at (token_of source (get_or items at d)).text e r text) ∙ seen_at (λ (t : Token). t.kind) source spans items v at d e i h

-- the tokens from a number on are the one with this number, and those behind it
pub first_seen : (ts : List Token) (at : ℕ) (t : Token) → slice_get ts at ≡ Some t → Some (t, drop (at + 1) ts) ≡ first_of (drop at ts)
first_seen ts at t h = ap (λ (x : Token). Some (x, drop (at + 1) ts)) (sym (get_or_from_slice_get ts at t t h)) ∙ sym (ap first_of (drop_more ts at t (slice_get_within ts at t h)))

-- what a token names, by its kind and its text
pub name_at : (ts : List Token) (at : ℕ) (kind : Kind) (text : Text) → slice_get (kinds_of ts) at ≡ Some kind → slice_get (texts_of ts) at ≡ Some text → slice_get (names_of ts) at ≡ Some (named kind text)
name_at [] at kind text k t = absurd (cc)
name_at (u ∷ us) zero kind text k t = let a : u.kind ≡ kind = cc in let b : u.text ≡ text = cc in ap Some (ap (λ x. named x u.text) a ∙ ap (named kind) b)
name_at (u ∷ us) (suc at) kind text k t = name_at us at kind text k t

-- an answer that is this one, told in other words
pub told_so : {E : Type 0} (r : Result Text E) (x : Text) (o : Option Text) → o ≡ Some x → IfOk r (λ (n : Text). n ≡ x) → IfOk r (λ (n : Text). o ≡ Some n)
told_so (Ok n) x o e h = e ∙ ap Some (sym h)
told_so (Err e) x o p h = tt
