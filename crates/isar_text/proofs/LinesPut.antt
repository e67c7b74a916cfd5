-- What pushes one behind the other append.
use Rattle.std.proofs.Common.{◌≡◌, ◌++◌, ap, ◌∙◌, append_assoc}
use Rattle.text_core.specs.Names.{Text}

as_order : (out a b c d e f g h : Text) → ((((((out ++ a) ++ b) ++ c) ++ d) ++ e) ++ f) ++ (g ++ h) ≡ out ++ (((((((a ++ b) ++ c) ++ d) ++ e) ++ f) ++ g) ++ h)
as_order out a b c d e f g h = simp append_assoc

back_order : (out a b c d e f g : Text) → (((((out ++ a) ++ b) ++ c) ++ d) ++ e) ++ (f ++ g) ≡ out ++ ((((((a ++ b) ++ c) ++ d) ++ e) ++ f) ++ g)
back_order out a b c d e f g = simp append_assoc

-- the pushes of the end by a disjunct
pub as_put : (out a b c d e f g h o1 o2 o3 o4 o5 o6 all : Text) → o1 ≡ out ++ a → o2 ≡ o1 ++ b → o3 ≡ o2 ++ c → o4 ≡ o3 ++ d → o5 ≡ o4 ++ e → o6 ≡ o5 ++ f
    → all ≡ o6 ++ (g ++ h) → all ≡ out ++ (((((((a ++ b) ++ c) ++ d) ++ e) ++ f) ++ g) ++ h)
as_put out a b c d e f g h o1 o2 o3 o4 o5 o6 all e1 e2 e3 e4 e5 e6 e7 =
    e7 ∙ ap (λ (t : Text). t ++ (g ++ h)) (e6 ∙ ap (λ (t : Text). t ++ f) (e5 ∙ ap (λ (t : Text). t ++ e) (e4 ∙ ap (λ (t : Text). t ++ d)
    (e3 ∙ ap (λ (t : Text). t ++ c) (e2 ∙ ap (λ (t : Text). t ++ b) e1)))))
    ∙ as_order out a b c d e f g h

-- the pushes of the back of a step
pub back_put : (out a b c d e f g o1 o2 o3 o4 o5 all : Text) → o1 ≡ out ++ a → o2 ≡ o1 ++ b → o3 ≡ o2 ++ c → o4 ≡ o3 ++ d → o5 ≡ o4 ++ e
    → all ≡ o5 ++ (f ++ g) → all ≡ out ++ ((((((a ++ b) ++ c) ++ d) ++ e) ++ f) ++ g)
back_put out a b c d e f g o1 o2 o3 o4 o5 all e1 e2 e3 e4 e5 e6 =
    e6 ∙ ap (λ (t : Text). t ++ (f ++ g)) (e5 ∙ ap (λ (t : Text). t ++ e) (e4 ∙ ap (λ (t : Text). t ++ d) (e3 ∙ ap (λ (t : Text). t ++ c)
    (e2 ∙ ap (λ (t : Text). t ++ b) e1))))
    ∙ back_order out a b c d e f g
