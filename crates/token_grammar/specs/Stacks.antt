-- A stack, told as a list from its top.
use Rattle.std.specs.Prelude.{List, [], ◌∷◌}

-- the item on top, or the other one where there is none
abbrev pub top_or : {A : Type 0} → A → List A → A
top_or other [] = other
top_or other (a ∷ rest) = a

-- what is left without the item on top
abbrev pub below : {A : Type 0} → List A → List A
below [] = []
below (a ∷ rest) = rest
