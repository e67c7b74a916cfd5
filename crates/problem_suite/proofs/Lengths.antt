-- Made texts are no longer than a file may be: each line has at most 52 bytes.
use Rattle.std.proofs.Common.{◌≡◌, ℕ, zero, suc, ◌+◌, ◌-◌, ◌*◌, ◌^◌, ◌<◌, ◌≤◌, List, [], ◌∷◌, ◌++◌, length, codes, ap, arith, length-append}
use Rattle.std.specs.Fmt.{decimal}
use Rattle.std.specs.List.{flat_map, range_with_len}
use Rattle.std.proofs.lemmas.Fmt.{length-decimal-le}
use Rattle.text_core.specs.Names.{Text}
use Rattle.problem_suite.specs.MadeTexts.{numbered, line, implication_text, application_text, made_problem_text, made_proof_text}

-- texts one behind the other
three_short : (a b c : Text) (k l m : ℕ) → length a ≤ k → length b ≤ l → length c ≤ m → length (a ++ b ++ c) ≤ k + l + m
three_short a b c k l m p q r = let outer = length-append (a ++ b) c in let inner = length-append a b in omega arith

four_short : (a b c d : Text) (k l m n : ℕ) → length a ≤ k → length b ≤ l → length c ≤ m → length d ≤ n
    → length (a ++ b ++ c ++ d) ≤ k + l + m + n
four_short a b c d k l m n p q r s =
    let outer = length-append (a ++ b ++ c) d in let inner = three_short a b c k l m p q r in omega arith

-- a number behind a text has at most five digits
numbered_short : (text : Text) (n : ℕ) → n ≤ 50000 → length (numbered text n) ≤ length text + 5
numbered_short text n h =
    let digits : length (decimal n) ≤ 5 = length-decimal-le 5 n (omega arith) (omega arith) (omega arith) in
    let both = length-append text (decimal n) in omega arith

implication_short : (i : ℕ) → i ≤ 50000 → length (implication_text i) ≤ 52
implication_short i h =
    four_short (numbered (codes "fof(a") i) (numbered (codes ",axiom,! [X] : (p") (i - 1)) (numbered (codes "(X) => p") i) (line (codes "(X))).")) 10 22 13 7
    (numbered_short (codes "fof(a") i h) (numbered_short (codes ",axiom,! [X] : (p") (i - 1) (omega arith)) (numbered_short (codes "(X) => p") i h) (omega arith)

application_short : (i : ℕ) → i ≤ 50000 → length (application_text i) ≤ 52
application_short i h =
    let exact : length (application_text i) ≤ 38 =
    three_short (numbered (codes "mp a") i) (numbered (codes " [c] new [] gives p") i) (line (codes "(c).")) 9 24 5
    (numbered_short (codes "mp a") i h) (numbered_short (codes " [c] new [] gives p") i h) (omega arith)
    in omega arith

-- texts of numbers in a row
flat_short : (f : ℕ → Text) → ((i : ℕ) → i ≤ 50000 → length (f i) ≤ 52) → (n first : ℕ) → first + n ≤ 50001
    → length (flat_map f (range_with_len first n)) ≤ n * 52
flat_short f each zero first h = omega arith
flat_short f each (suc n) first h =
    let here : length (f first) ≤ 52 = each first (omega arith) in
    let rest : length (flat_map f (range_with_len (first + 1) n)) ≤ n * 52 = flat_short f each n (first + 1) (omega arith) in
    let both = length-append (f first) (flat_map f (range_with_len (first + 1) n)) in omega arith

pub problem_fits : (k : ℕ) (text : Text) → k ≤ 50000 → text ≡ made_problem_text k → length text ≤ 4194304
problem_fits k text h e =
    let implications : length (flat_map implication_text (range_with_len 1 k)) ≤ k * 52 = flat_short implication_text implication_short k 1 (omega arith) in
    let all = four_short (line (codes "fof(a0,axiom,p0(c)).")) (flat_map implication_text (range_with_len 1 k)) (numbered (codes "fof(g,conjecture,p") k) (line (codes "(c)).")) 21 (k * 52) 23 6
    (omega arith) implications (numbered_short (codes "fof(g,conjecture,p") k h) (omega arith) in
    let same = ap length e in omega arith

pub proof_fits : (k : ℕ) (text : Text) → k ≤ 50000 → text ≡ made_proof_text k → length text ≤ 4194304
proof_fits k text h e =
    let applications : length (flat_map application_text (range_with_len 1 k)) ≤ k * 52 = flat_short application_text application_short k 1 (omega arith) in
    let all = three_short (line (codes "vernacular 1.") ++ line (codes "take [].") ++ line (codes "mp a0 [] new [] gives p0(c).")) (flat_map application_text (range_with_len 1 k)) (line (codes "as 1 [].")) 52 (k * 52) 9
    (omega arith) applications (omega arith) in
    let same = ap length e in omega arith
