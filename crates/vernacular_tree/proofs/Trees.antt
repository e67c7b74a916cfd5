-- A body is at the front of a list of nodes in at most one way.
use Rattle.std.proofs.Common.{le_trans, ◌-◌, ◌≡◌, ℕ, ◌+◌, ◌<◌, ◌≤◌, List, [], ◌∷◌, ◌++◌, map, length, refl, ap, sym, ◌∙◌, subst, flat_map, arith, length-append, append-nil}
use Rattle.std.proofs.lemmas.List.{append_assoc, length-map}
use Rattle.text_core.specs.declared.limits.TheConstants.{MOST_APPLICATIONS}
use Rattle.vernacular_tree.specs.Preorders.{mp_node, branch_count, end_nodes, branch_nodes, preorder, IsTree}
use Rattle.vernacular_tree.specs.Readings.{StopsSteps, AreShallow}
use Rattle.vernacular_tree.specs.Sizes.{size, sizes, end_size, nesting, end_nesting}
use Rattle.vernacular_tree.specs.declared.tree.Mp.{Mp as MpValue}
use Rattle.vernacular_tree.specs.declared.tree.Body.{Body}
use Rattle.vernacular_tree.specs.declared.tree.End.{End, As, Efq, Cs', Cs, Row_of-Body, end_of-Body, more_of-Body}
use Rattle.vernacular_tree.specs.declared.tree.Node.{Node}
use Rattle.vernacular_tree.specs.declared.tree.Node.TheVariants as node
use Rattle.vernacular_tree.proofs.Rows.{bodies_of, Cs_shut, Cs_nodes, Cs_shallow, row_count, row_nodes, row_shallow}

-- a proof has as many nodes as applications
mutual
  -- an end has as many nodes as applications
  end_length : (e : End) → length (end_nodes e) ≡ end_size e
  end_length (As disjunct args) = refl
  end_length Efq = refl
  end_length (Cs' line _ row) = let rest : length (branch_nodes row) ≡ sizes row = row_length row in omega arith

  -- branches have as many nodes as applications
  row_length : {n : _} (row : Row_of-Body n) → length (branch_nodes row) ≡ sizes row
  row_length end_of-Body = refl
  row_length (more_of-Body steps end rest) =
      let nodes : List Node = map mp_node steps in
      let first : length (end_nodes end) ≡ end_size end = end_length end in
      let others : length (branch_nodes rest) ≡ sizes rest = row_length rest in
      let one : length ((nodes ++ end_nodes end) ++ branch_nodes rest) ≡ length (nodes ++ end_nodes end) + length (branch_nodes rest)
      = length-append (nodes ++ end_nodes end) (branch_nodes rest) in
      let two : length (nodes ++ end_nodes end) ≡ length nodes + length (end_nodes end) = length-append nodes (end_nodes end) in
      let three : length nodes ≡ length steps = length-map steps mp_node in
      omega arith

-- a body has as many nodes as applications
pub preorder_length : (body : Body) → length (preorder body) ≡ size body
preorder_length body =
    let first : length (end_nodes body.end) ≡ end_size body.end = end_length body.end in
    let two : length (preorder body) ≡ length (map mp_node body.steps) + length (end_nodes body.end) = length-append (map mp_node body.steps) (end_nodes body.end) in
    let three : length (map mp_node body.steps) ≡ length body.steps = length-map body.steps mp_node in
    omega arith

-- the form of an application of modus ponens, and 0 of any other node
abbrev form_part : Node → ℕ
form_part (node.Mp form args) = form
form_part _ = 0

-- the arguments of an application of modus ponens, and none of any other node
abbrev args_part : Node → List ℕ
args_part (node.Mp form args) = args
args_part _ = []

-- two applications of modus ponens with the same node are the same
mp_same : (x y : MpValue) → mp_node x ≡ mp_node y → x ≡ y
mp_same x y e = λ i. record { form = ap form_part e i; args = ap args_part e i }

-- nodes are steps, with no further step behind them, in at most one way
pub steps_front : (xs ys : List MpValue) (m n : List Node) → StopsSteps m → StopsSteps n → map mp_node xs ++ m ≡ map mp_node ys ++ n → (xs ≡ ys) × (m ≡ n)
steps_front [] [] m n a b e = (refl, e)
steps_front [] (y ∷ ys) m n a b e = absurd (subst StopsSteps e a)
steps_front (x ∷ xs) [] m n a b e = absurd (subst StopsSteps (sym e) b)
steps_front (x ∷ xs) (y ∷ ys) m n a b e =
    let head : mp_node x ≡ mp_node y = cc in
    let tail : map mp_node xs ++ m ≡ map mp_node ys ++ n = cc in
    let rest = steps_front xs ys m n a b tail in
    let first : x ≡ y = mp_same x y head in
    let others : xs ≡ ys = rest.0 in
    (cc, rest.1)

-- the nodes of an end do not begin with an application of modus ponens
pub end_stops : (e : End) (rest : List Node) → StopsSteps (end_nodes e ++ rest)
end_stops (As disjunct args) rest = tt
end_stops Efq rest = tt
end_stops (Cs' line _ row) rest = tt

mutual
  -- an end is at the front of nodes in at most one way
  end_front : (e1 e2 : End) (r1 r2 : List Node) → end_nodes e1 ++ r1 ≡ end_nodes e2 ++ r2 → (e1 ≡ e2) × (r1 ≡ r2)
  end_front (As d args) (As d2 args2) r1 r2 e = (cc, cc)
  end_front (As d args) Efq r1 r2 e = absurd (cc)
  end_front (As d args) (Cs' line s row) r1 r2 e = absurd (cc)
  end_front Efq (As d2 args2) r1 r2 e = absurd (cc)
  end_front Efq Efq r1 r2 e = (cc, cc)
  end_front Efq (Cs' line s row) r1 r2 e = absurd (cc)
  end_front (Cs' line s row) (As d2 args2) r1 r2 e = absurd (cc)
  end_front (Cs' line s row) Efq r1 r2 e = absurd (cc)
  end_front (Cs' line s row) (Cs' line2 s2 row2) r1 r2 e =
      let lines : line ≡ line2 = cc in
      let counts : branch_count row ≡ branch_count row2 = cc in
      let nodes : branch_nodes row ++ r1 ≡ branch_nodes row2 ++ r2 = cc in
      let same = row_front row (bodies_of row2) r1 r2 (counts ∙ row_count row2) (nodes ∙ ap (λ (ns : List Node). ns ++ r2) (row_nodes row2)) in
      (Cs_shut line s row ∙ ap (λ (l : ℕ). Cs l (bodies_of row)) lines ∙ ap (Cs line2) same.0 ∙ sym (Cs_shut line2 s2 row2), same.1)

  -- so many branches are at the front of nodes in at most one way
  row_front : {n : _} (row : Row_of-Body n) (bs : List Body) (r1 r2 : List Node) → branch_count row ≡ length bs
      → branch_nodes row ++ r1 ≡ flat_map preorder bs ++ r2 → (bodies_of row ≡ bs) × (r1 ≡ r2)
  row_front end_of-Body [] r1 r2 count e = (refl, e)
  row_front end_of-Body (b ∷ bs) r1 r2 count e = absurd (omega arith)
  row_front (more_of-Body steps end rest) [] r1 r2 count e = absurd (omega arith)
  row_front (more_of-Body steps end rest) (b ∷ bs) r1 r2 count e =
      let left : ((map mp_node steps ++ end_nodes end) ++ branch_nodes rest) ++ r1 ≡ map mp_node steps ++ (end_nodes end ++ (branch_nodes rest ++ r1))
      = simp append_assoc in
      let right : ((map mp_node b.steps ++ end_nodes b.end) ++ flat_map preorder bs) ++ r2 ≡ map mp_node b.steps ++ (end_nodes b.end ++ (flat_map preorder bs ++ r2))
      = simp append_assoc in
      let first = steps_front steps b.steps _ _ (end_stops end (branch_nodes rest ++ r1)) (end_stops b.end (flat_map preorder bs ++ r2)) (sym left ∙ e ∙ right) in
      let second = end_front end b.end _ _ first.1 in
      let third = row_front rest bs r1 r2 (omega arith) second.1 in
      ((λ i. record { steps = first.0 i; end = second.0 i } ∷ third.0 i), third.1)

-- a body is at the front of nodes in at most one way
pub body_front : (b1 b2 : Body) (r1 r2 : List Node) → preorder b1 ++ r1 ≡ preorder b2 ++ r2 → (b1 ≡ b2) × (r1 ≡ r2)
body_front b1 b2 r1 r2 e =
    let left = append_assoc (map mp_node b1.steps) (end_nodes b1.end) r1 in
    let right = append_assoc (map mp_node b2.steps) (end_nodes b2.end) r2 in
    let first = steps_front b1.steps b2.steps (end_nodes b1.end ++ r1) (end_nodes b2.end ++ r2) (end_stops b1.end r1) (end_stops b2.end r2) (sym left ∙ e ∙ right) in
    let second = end_front b1.end b2.end r1 r2 first.1 in
    ((λ i. record { steps = first.0 i; end = second.0 i }), second.1)

-- none body, end or row of bodies is at the front of the nodes
abbrev pub NoBody : ℕ → List Node → Type 0
NoBody levels nodes = (body : Body) (rest : List Node) → nodes ≡ preorder body ++ rest → nesting body ≤ levels → ⊥

-- no end that nests no deeper than so many levels is at the front of the nodes
abbrev pub NoEnd : ℕ → List Node → Type 0
NoEnd levels nodes = (end : End) (rest : List Node) → nodes ≡ end_nodes end ++ rest → end_nesting end ≤ levels → ⊥

-- no row of so many bodies that nest no deeper than so many levels is at the front of the nodes
abbrev pub NoBranches : ℕ → ℕ → List Node → Type 0
NoBranches count levels nodes = (bodies : List Body) (rest : List Node) → nodes ≡ flat_map preorder bodies ++ rest → length bodies ≡ count → AreShallow levels bodies → ⊥

-- no body is at the front of the nodes where no end is behind their first steps
pub body_refused : (levels : ℕ) (nodes rest : List Node) (steps : List MpValue) → nodes ≡ map mp_node steps ++ rest → StopsSteps rest
    → NoEnd levels rest → NoBody levels nodes
body_refused levels nodes rest steps front stops none body rest2 e shallow =
    let right = append_assoc (map mp_node body.steps) (end_nodes body.end) rest2 in
    let first = steps_front steps body.steps rest (end_nodes body.end ++ rest2) stops (end_stops body.end rest2) (sym front ∙ e ∙ right) in
    none body.end rest2 first.1 shallow

-- no end is at the front where a split comes first and no branches of it are behind
pub split_refused : (levels line count : ℕ) (nodes rest : List Node) → nodes ≡ node.Cs line count ∷ rest → NoBranches count levels rest → NoEnd (levels + 1) nodes
split_refused levels line count nodes rest front none (As disjunct args) rest2 e shallow = absurd (cc)
split_refused levels line count nodes rest front none Efq rest2 e shallow = absurd (cc)
split_refused levels line count nodes rest front none (Cs' line2 s row) rest2 e shallow =
    let counts : branch_count row ≡ count = cc in
    let others : rest ≡ branch_nodes row ++ rest2 = cc in
    none (bodies_of row) rest2 (others ∙ ap (λ (ns : List Node). ns ++ rest2) (row_nodes row)) (sym (row_count row) ∙ counts) (row_shallow row levels (omega arith))

-- a split's node with its branches behind it is a split at the front of the nodes
pub split_read : (levels line count : ℕ) (nodes front rest : List Node) (bodies : List Body) → nodes ≡ node.Cs line count ∷ front
    → front ≡ flat_map preorder bodies ++ rest → length bodies ≡ count → AreShallow (levels - 1) bodies → 0 < levels
    → (nodes ≡ end_nodes (Cs line bodies) ++ rest) × (end_nesting (Cs line bodies) ≤ levels)
split_read levels line count nodes front rest bodies is more many shallow some =
    let deep : end_nesting (Cs line bodies) ≤ levels - 1 + 1 = Cs_shallow line bodies (levels - 1) shallow in
    let shut : end_nodes (Cs line bodies) ++ rest ≡ node.Cs line (length bodies) ∷ (flat_map preorder bodies ++ rest)
    = ap (λ (ns : List Node). ns ++ rest) (Cs_nodes line bodies) in (
      is ∙ ap (λ (k : ℕ). node.Cs line k ∷ front) (sym many) ∙ ap (λ (ns : List Node). node.Cs line (length bodies) ∷ ns) more ∙ sym shut,
      le_trans deep (omega arith),
    )

-- no end without a split is at the front where a split comes first
pub deep_refused : (line count : ℕ) (nodes rest : List Node) → nodes ≡ node.Cs line count ∷ rest → NoEnd 0 nodes
deep_refused line count nodes rest front (As disjunct args) rest2 e shallow = absurd (cc)
deep_refused line count nodes rest front Efq rest2 e shallow = absurd (cc)
deep_refused line count nodes rest front (Cs' line2 s row) rest2 e shallow = omega arith

-- no end is at the front of no nodes
pub empty_refused : (levels : ℕ) (nodes : List Node) → length nodes < 1 → NoEnd levels nodes
empty_refused levels nodes none (As disjunct args) rest2 e shallow = let same = ap length e in omega arith
empty_refused levels nodes none Efq rest2 e shallow = let same = ap length e in omega arith
empty_refused levels nodes none (Cs' line2 s row) rest2 e shallow = let same = ap length e in omega arith

-- no end is at the front where an application of modus ponens comes first
pub step_refused : (levels form : ℕ) (args : List ℕ) (nodes rest : List Node) → nodes ≡ node.Mp form args ∷ rest → NoEnd levels nodes
step_refused levels form args nodes rest front (As disjunct args2) rest2 e shallow = absurd (cc)
step_refused levels form args nodes rest front Efq rest2 e shallow = absurd (cc)
step_refused levels form args nodes rest front (Cs' line2 s row) rest2 e shallow = absurd (cc)

-- no row is at the front where fewer bodies are, and no further body is behind them
pub branches_refused : (levels count : ℕ) (nodes rest : List Node) (read : List Body) → nodes ≡ flat_map preorder read ++ rest → length read < count
    → NoBody levels rest → NoBranches count levels nodes
branches_refused levels count nodes rest [] front few none [] rest2 e many shallow = omega arith
branches_refused levels count nodes rest [] front few none (b ∷ bs) rest2 e many shallow =
    none b (flat_map preorder bs ++ rest2) (sym front ∙ e ∙ append_assoc (preorder b) (flat_map preorder bs) rest2) shallow.0
branches_refused levels count nodes rest (r ∷ read) front few none [] rest2 e many shallow = omega arith
branches_refused levels count nodes rest (r ∷ read) front few none (b ∷ bs) rest2 e many shallow =
    let left = append_assoc (preorder r) (flat_map preorder read) rest in
    let right = append_assoc (preorder b) (flat_map preorder bs) rest2 in
    let same = body_front r b (flat_map preorder read ++ rest) (flat_map preorder bs ++ rest2) (sym left ∙ sym front ∙ e ∙ right) in
    branches_refused levels (length bs) (flat_map preorder read ++ rest) rest read refl (omega arith) none bs rest2 same.1 refl shallow.1

-- the whole list
pub long_refused : (nodes : List Node) → MOST_APPLICATIONS < length nodes → IsTree nodes → ⊥
long_refused nodes long tree =
    let count : length (preorder tree.tree) ≡ size tree.tree = preorder_length tree.tree in
    let same : length (preorder tree.tree) ≡ length nodes = ap length tree.preorder_is in
    let few : size tree.tree ≤ MOST_APPLICATIONS = tree.bounded.small in
    omega arith

-- nodes with something left behind a body are no tree
pub rest_refused : (nodes rest : List Node) (body : Body) → nodes ≡ preorder body ++ rest → 0 < length rest → IsTree nodes → ⊥
rest_refused nodes rest body front more tree =
    let same = body_front tree.tree body [] rest (append-nil (preorder tree.tree) ∙ tree.preorder_is ∙ front) in
    let none : [] ≡ rest = same.1 in
    let count : 0 ≡ length rest = ap length none in
    omega arith

-- nodes with nothing left behind a body are as many as its applications
pub whole_is : (nodes rest : List Node) (body : Body) → nodes ≡ preorder body ++ rest → length rest ≡ 0 → length nodes ≡ size body
whole_is nodes rest body front none =
    let count : length (preorder body) ≡ size body = preorder_length body in
    let parts : length (preorder body ++ rest) ≡ length (preorder body) + length rest = length-append (preorder body) rest in
    let same : length nodes ≡ length (preorder body ++ rest) = ap length front in
    omega arith

-- two bodies with the same preorder are the same
pub preorder_once : (a b : Body) → preorder a ≡ preorder b → a ≡ b
preorder_once a b e = (body_front a b [] [] (ap (λ (ns : List Node). ns ++ []) e)).0
