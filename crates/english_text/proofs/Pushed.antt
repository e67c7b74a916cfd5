-- What pushes one behind the other append.
use Rattle.std.proofs.Common.{◌≡◌, ◌++◌, ◌∙◌, append_assoc}
use Rattle.text_core.specs.Names.{Text}

-- two pushes
pub two_pushed : (out one all a b : Text) → one ≡ out ++ a → all ≡ one ++ b → all ≡ out ++ (a ++ b)
two_pushed out one all a b one_is all_is = all_is ∙ (λ i. one_is i ++ b) ∙ append_assoc out a b

-- five texts, in two orders
five_order : (out a b c d e : Text) → ((((out ++ a) ++ b) ++ c) ++ d) ++ e ≡ out ++ (a ++ (b ++ c ++ d) ++ e)
five_order out a b c d e = simp append_assoc

-- five pushes, of which the middle three make the words of a sentence
pub five_pushed : (out one two three four all a b c d e : Text) → one ≡ out ++ a → two ≡ one ++ b → three ≡ two ++ c → four ≡ three ++ d
    → all ≡ four ++ e → all ≡ out ++ (a ++ (b ++ c ++ d) ++ e)
five_pushed out one two three four all a b c d e one_is two_is three_is four_is all_is =
    all_is ∙ (λ i. four_is i ++ e) ∙ (λ i. (three_is i ++ d) ++ e) ∙ (λ i. ((two_is i ++ c) ++ d) ++ e) ∙ (λ i. (((one_is i ++ b) ++ c) ++ d) ++ e)
    ∙ five_order out a b c d e

-- eight texts, in two orders
eight_order : (out a b c d e f g h : Text) → (((((((out ++ a) ++ b) ++ c) ++ d) ++ e) ++ f) ++ g) ++ h ≡ out ++ (a ++ (b ++ c ++ d ++ e ++ f ++ g) ++ h)
eight_order out a b c d e f g h = simp append_assoc

-- eight pushes, of which the middle six make the words of a sentence
pub eight_pushed : (out one two three four five six seven all a b c d e f g h : Text) → one ≡ out ++ a → two ≡ one ++ b → three ≡ two ++ c
    → four ≡ three ++ d → five ≡ four ++ e → six ≡ five ++ f → seven ≡ six ++ g → all ≡ seven ++ h
    → all ≡ out ++ (a ++ (b ++ c ++ d ++ e ++ f ++ g) ++ h)
eight_pushed out one two three four five six seven all a b c d e f g h one_is two_is three_is four_is five_is six_is seven_is all_is =
    all_is ∙ (λ i. seven_is i ++ h) ∙ (λ i. (six_is i ++ g) ++ h) ∙ (λ i. ((five_is i ++ f) ++ g) ++ h) ∙ (λ i. (((four_is i ++ e) ++ f) ++ g) ++ h)
    ∙ (λ i. ((((three_is i ++ d) ++ e) ++ f) ++ g) ++ h) ∙ (λ i. (((((two_is i ++ c) ++ d) ++ e) ++ f) ++ g) ++ h)
    ∙ (λ i. ((((((one_is i ++ b) ++ c) ++ d) ++ e) ++ f) ++ g) ++ h) ∙ eight_order out a b c d e f g h
