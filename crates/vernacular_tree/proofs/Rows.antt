-- A split's branches as a list: how a value that code builds opens to the rows that the definitions go over.
use Rattle.std.proofs.Common.{◌≡◌, ℕ, ◌+◌, ◌≤◌, List, [], ◌∷◌, ◌++◌, map, length, refl, ap, sym, ◌∙◌, flat_map, sum_by, arith}
use Rattle.std.proofs.lemmas.List.Sums.{sum_by-cons}
use mathlib.Core.Former.{arity, list, this}
use denote.Hole.Carrier.{hidden}
use Rattle.vernacular_tree.specs.Preorders.{mp_node, branch_count, end_nodes, branch_nodes, preorder}
use Rattle.vernacular_tree.specs.Readings.{AreShallow}
use Rattle.vernacular_tree.specs.Sizes.{size, sizes, end_size, end_nesting, greatest_nesting}
use Rattle.vernacular_tree.specs.declared.tree.Body.{Body}
use Rattle.vernacular_tree.specs.declared.tree.End.{End, As, Efq, Cs', Cs, Row_of-Body, end_of-Body, more_of-Body}
use Rattle.vernacular_tree.specs.declared.tree.End.TheBlock.{shape-the_row-Body-0, hidden-the_row-Body-0}
use Rattle.vernacular_tree.specs.declared.tree.End.TheViews as views
use Rattle.vernacular_tree.specs.declared.tree.End.TheOpen as layers
use Rattle.vernacular_tree.specs.declared.tree.Node.{Node}
use Rattle.vernacular_tree.specs.declared.tree.Node.TheVariants as node

-- the row of a list of branches
unfoldable pub row_of : (bs : List Body) → Row_of-Body (arity (list this) (shape-the_row-Body-0 bs))
unfolding shape-the_row-Body-0
row_of [] = end_of-Body
row_of (b ∷ bs) = more_of-Body b.steps b.end (row_of bs)

-- the row inside a split that code builds is the row of its list of branches
hidden_is : (bs : List Body) → hidden-the_row-Body-0 bs ≡ row_of bs
unfolding row_of hidden-the_row-Body-0 hidden shape-the_row-Body-0
hidden_is [] = refl
hidden_is (b ∷ bs) = ap (more_of-Body b.steps b.end) (hidden_is bs)

-- a split that code builds opens to the row of its list of branches
pub Cs_opens : (line : ℕ) (bs : List Body) → Cs line bs ≡ Cs' line (shape-the_row-Body-0 bs) (row_of bs)
unfolding hidden-the_row-Body-0
Cs_opens line bs = ap (Cs' line (shape-the_row-Body-0 bs)) (hidden_is bs)

-- the branches of a row
abbrev pub bodies_of : {n : _} → Row_of-Body n → List Body
bodies_of end_of-Body = []
bodies_of (more_of-Body steps end rest) = record { steps = steps; end = end } ∷ bodies_of rest

-- the branches of the row of a list are that list
pub bodies_row : (bs : List Body) → bodies_of (row_of bs) ≡ bs
unfolding row_of shape-the_row-Body-0
bodies_row [] = refl
bodies_row (b ∷ bs) = ap (λ (rest : List Body). b ∷ rest) (bodies_row bs)

-- the line of a split, and 0 of any other end
abbrev line_part : End → ℕ
line_part (As disjunct args) = 0
line_part Efq = 0
line_part (Cs' line _ row) = line

-- the branches of a split, and none of any other end
abbrev row_part : End → List Body
row_part (As disjunct args) = []
row_part Efq = []
row_part (Cs' line _ row) = bodies_of row

-- every split is that of its line and the list of its branches
pub Cs_shut : (line : ℕ) (s : (list {0} this).Shape) (row : Row_of-Body (arity (list {0} this) s)) → Cs' line s row ≡ Cs line (bodies_of row)
Cs_shut line s row = go (views.out-End (Cs' line s row)) refl
  where
    split : (line2 : ℕ) (bs : List Body) → Cs' line s row ≡ Cs' line2 (shape-the_row-Body-0 bs) (row_of bs) → Cs' line s row ≡ Cs line2 bs → Cs' line s row ≡ Cs line (bodies_of row)
    split line2 bs opened shut =
        let same_line : line ≡ line2 = ap line_part opened in
        let same_row : bodies_of row ≡ bs = ap row_part opened ∙ bodies_row bs in
        shut ∙ ap (λ (l : ℕ). Cs l bs) (sym same_line) ∙ ap (Cs line) (sym same_row)

    rolled : (layer : layers.End-F End Body) → views.out-End (Cs' line s row) ≡ layer → Cs' line s row ≡ views.roll-End layer
    rolled layer is = sym (views.roll-out-End (Cs' line s row)) ∙ ap views.roll-End is

    go : (layer : layers.End-F End Body) → views.out-End (Cs' line s row) ≡ layer → Cs' line s row ≡ Cs line (bodies_of row)
    go (layers.As disjunct args) is = let e : Cs' line s row ≡ As disjunct args = rolled (layers.As disjunct args) is ∙ views.rolls-As disjunct args in absurd (cc)
    go layers.Efq is = let e : Cs' line s row ≡ Efq = rolled layers.Efq is ∙ views.rolls-Efq in absurd (cc)
    go (layers.Cs line2 bs) is =
        let shut : Cs' line s row ≡ Cs line2 bs = rolled (layers.Cs line2 bs) is ∙ views.rolls-Cs line2 bs in
        split line2 bs (shut ∙ Cs_opens line2 bs) shut

-- each measure of a row, by the list of its branches
pub row_count : {n : _} (row : Row_of-Body n) → branch_count row ≡ length (bodies_of row)
row_count end_of-Body = refl
row_count (more_of-Body steps end rest) = let e : branch_count rest ≡ length (bodies_of rest) = row_count rest in omega arith

-- the size of a row is the sum of the sizes of its branches
pub row_sizes : {n : _} (row : Row_of-Body n) → sizes row ≡ sum_by size (bodies_of row)
row_sizes end_of-Body = refl
row_sizes (more_of-Body steps end rest) =
    ap (λ (k : ℕ). length steps + end_size end + k) (row_sizes rest)
    ∙ sym (sum_by-cons size (record { steps = steps; end = end }) (bodies_of rest))

-- the nodes of a row are the preorders of its branches, one behind the other
pub row_nodes : {n : _} (row : Row_of-Body n) → branch_nodes row ≡ flat_map preorder (bodies_of row)
row_nodes end_of-Body = refl
row_nodes (more_of-Body steps end rest) = ap (λ (ns : List Node). (map mp_node steps ++ end_nodes end) ++ ns) (row_nodes rest)

-- where a row nests no deeper than a bound, neither does any of its branches
pub row_shallow : {n : _} (row : Row_of-Body n) (most : ℕ) → greatest_nesting row ≤ most → AreShallow most (bodies_of row)
row_shallow end_of-Body most h = tt
row_shallow (more_of-Body steps end rest) most h = (omega arith, row_shallow rest most (omega arith))

-- where no branch of a row nests deeper than a bound, neither does the row
pub shallow_row : {n : _} (row : Row_of-Body n) (most : ℕ) → AreShallow most (bodies_of row) → greatest_nesting row ≤ most
shallow_row end_of-Body most h = omega arith
shallow_row (more_of-Body steps end rest) most h =
    let first : end_nesting end ≤ most = h.0 in
    let others = shallow_row rest most h.1 in omega arith

-- the same at a split that code builds
pub Cs_size : (line : ℕ) (bs : List Body) → end_size (Cs line bs) ≡ 1 + sum_by size bs
Cs_size line bs = ap end_size (Cs_opens line bs) ∙ ap (λ (k : ℕ). 1 + k) (row_sizes (row_of bs) ∙ ap (sum_by size) (bodies_row bs))

-- the nodes of a split are its own node and the preorders of its branches
pub Cs_nodes : (line : ℕ) (bs : List Body) → end_nodes (Cs line bs) ≡ node.Cs line (length bs) ∷ flat_map preorder bs
Cs_nodes line bs =
    let count : branch_count (row_of bs) ≡ length bs = row_count (row_of bs) ∙ ap length (bodies_row bs) in
    let nodes : branch_nodes (row_of bs) ≡ flat_map preorder bs = row_nodes (row_of bs) ∙ ap (flat_map preorder) (bodies_row bs) in
    ap end_nodes (Cs_opens line bs) ∙ ap (λ (k : ℕ). node.Cs line k ∷ branch_nodes (row_of bs)) count ∙ ap (λ (ns : List Node). node.Cs line (length bs) ∷ ns) nodes

-- a split nests at most one level deeper than its branches
pub Cs_shallow : (line : ℕ) (bs : List Body) (most : ℕ) → AreShallow most bs → end_nesting (Cs line bs) ≤ most + 1
Cs_shallow line bs most h =
    let e : end_nesting (Cs line bs) ≡ 1 + greatest_nesting (row_of bs) = ap end_nesting (Cs_opens line bs) in
    let g = shallow_row (row_of bs) most (rw bodies_row h) in omega arith

-- each end has an application
pub end_counts : (e : End) → 1 ≤ end_size e
end_counts (As disjunct args) = omega arith
end_counts Efq = omega arith
end_counts (Cs' line _ row) = omega arith

-- each branch has an application
pub branches_count : (bs : List Body) → length bs ≤ sum_by size bs
branches_count [] = omega arith
branches_count (b ∷ bs) =
    let rest : length bs ≤ sum_by size bs = branches_count bs in
    let first : 1 ≤ end_size b.end = end_counts b.end in
    let sum : sum_by size (b ∷ bs) ≡ size b + sum_by size bs = sum_by-cons size b bs in omega arith
