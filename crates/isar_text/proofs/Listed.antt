-- The tokens of spans, one at a time.
use Rattle.std.proofs.Common.{◌≡◌, ℕ, zero, suc, ◌<◌, List, [], ◌∷◌, map, length, get_or, slice_get, refl, ap, sym, ◌∙◌, arith, Some}
use Rattle.std.proofs.lemmas.List.{length-map}
use Rattle.text_core.specs.Names.{Text}
use Rattle.coherent_form.specs.Tasks.{CitedTask}
use Rattle.isar_text.specs.declared.token_list.Span.{Span}
use Rattle.isar_text.specs.Spans.{token_of}
use Rattle.isar_text.specs.Tokens.{Token}
use Rattle.isar_text.specs.Values.{Lexed}

-- what the span with a number gives
picked : {X : Type 0} (f : Token → X) (source : Text) (spans : List Span) (at : ℕ) (d : Span) → at < length spans → slice_get (map f (map (token_of source) spans)) at ≡ Some (f (token_of source (get_or spans at d)))
picked f source [] at d h = absurd (omega arith)
picked f source (s ∷ ss) zero d h = refl
picked f source (s ∷ ss) (suc at) d h = picked f source ss at d (omega arith)

-- as many tokens are seen as there are spans
pub spans_seen : (task : CitedTask) (source : Text) (spans : List Span) (v : Lexed) → record { task = task; tokens = map (token_of source) spans } ≡ v → length v.tokens ≡ length spans
spans_seen task source spans v e = sym (ap (λ (w : Lexed). length w.tokens) e) ∙ length-map spans (token_of source)

-- what a span gives, of the value that the spans are seen as
pub seen_at : {X : Type 0} (f : Token → X) (task : CitedTask) (source : Text) (spans items : List Span) (v : Lexed) (at : ℕ) (d : Span) → record { task = task; tokens = map (token_of source) spans } ≡ v → items ≡ spans → at < length v.tokens → slice_get (map f v.tokens) at ≡ Some (f (token_of source (get_or items at d)))
seen_at f task source spans items v at d e i h =
    let tokens : map (token_of source) spans ≡ v.tokens = ap (λ (w : Lexed). w.tokens) e in
    let many = spans_seen task source spans v e in
    ap (λ (ts : List Token). slice_get (map f ts) at) (sym tokens) ∙ picked f source spans at d (omega arith) ∙ ap (λ (ss : List Span). Some (f (token_of source (get_or ss at d)))) (sym i)
