-- The texts of a problem and of its proof that are made in any length: a fact of the first
-- predicate, implications that lead from each predicate to the next, and a fact of the last one as
-- the conjecture. Predicates p0, p1, .. and axioms a0, a1, .. have their numbers in decimal.
use Rattle.std.specs.Prelude.{ℕ, ◌-◌, [], ◌∷◌, ◌++◌, codes}
use Rattle.std.specs.Fmt.{decimal}
use Rattle.std.specs.List.{flat_map, range_with_len}
use Rattle.text_core.specs.Names.{Text}

-- a number behind a text
abbrev pub numbered : Text → ℕ → Text
numbered text n = text ++ decimal n

-- a line feed (10) behind a text
abbrev pub line : Text → Text
line text = text ++ 10 ∷ []

-- the implication with a number: from the predicate before it to the one with that number
abbrev pub implication_text : ℕ → Text
implication_text i =
    numbered (codes "fof(a") i ++ numbered (codes ",axiom,! [X] : (p") (i - 1) ++
    numbered (codes "(X) => p") i ++ line (codes "(X))).")

-- the problem with so many implications
abbrev pub made_problem_text : ℕ → Text
made_problem_text k =
    line (codes "fof(a0,axiom,p0(c)).") ++ flat_map implication_text (range_with_len 1 k) ++
    numbered (codes "fof(g,conjecture,p") k ++ line (codes "(c)).")

-- the step that applies the axiom with a number
abbrev pub application_text : ℕ → Text
application_text i =
    numbered (codes "mp a") i ++ numbered (codes " [c] new [] gives p") i ++ line (codes "(c).")

-- the proof of that problem, which applies each axiom once, in order
abbrev pub made_proof_text : ℕ → Text
made_proof_text k =
    line (codes "vernacular 1.") ++ line (codes "take [].") ++
    line (codes "mp a0 [] new [] gives p0(c).") ++
    flat_map application_text (range_with_len 1 k) ++ line (codes "as 1 [].")
