-- What is noted of a proof is the reverse of its preorder.
use Rattle.std.proofs.Common.{◌≡◌, ℕ, zero, suc, ◌+◌, ◌-◌, ◌<◌, ◌≤◌, List, [], ◌∷◌, ◌++◌, map, take, length, slice_get, Some, reverse, flat_map, refl, sym, ap, ◌∙◌, subst, arith, append_assoc, append-nil, length-append}
use Rattle.std.specs.List.{sum_by}
use Rattle.std.proofs.lemmas.Grind.{flat_map-append}
use Rattle.std.proofs.lemmas.List.Concat.{length-flat_map}
use Rattle.std.proofs.lemmas.List.Sums.{sum_by-cons}
use Rattle.std.proofs.lemmas.List.{reverse-append, length-reverse}
use Rattle.std.proofs.Math.Seq.{take-append_seam}
use Rattle.text_core.specs.Lists.{SomeOf}
use Rattle.logic_core.specs.declared.form.Atom.{Atom}
use Rattle.logic_core.specs.declared.form.Form.{Form}
use Rattle.vernacular_tree.specs.Contexts.{Task, after_mp, with_facts}
use Rattle.vernacular_tree.specs.Preorders.{preorder, end_nodes}
use Rattle.vernacular_tree.specs.Rules.{IsInstance, IsAnswer}
use Rattle.vernacular_tree.specs.Sizes.{size, end_size}
use Rattle.vernacular_tree.specs.declared.context.Context.{Context}
use Rattle.vernacular_tree.specs.declared.context.Line.TheVariants.{Cases, Falsum}
use Rattle.vernacular_tree.specs.declared.tree.Body.{Body}
use Rattle.vernacular_tree.specs.declared.tree.End.{As, Efq, Cs}
use Rattle.vernacular_tree.specs.declared.tree.Node.{Node}
use Rattle.vernacular_tree.specs.declared.tree.Node.TheVariants as node
use Rattle.vernacular_tree.proofs.Rows.{Cs_size, Cs_nodes}
use Rattle.vernacular_tree.proofs.Trees.{preorder_length}
use Rattle.trail_search.specs.Branches.{AreProofs, AreNoted}
use Rattle.trail_search.specs.Recorded.{Recorded}
use Rattle.trail_search.specs.Searches.{IsNoted, CanNote}
use Rattle.trail_search.proofs.Branching.{split_is_closed, proofs_next, proofs_count, sizes_next}

-- the node in front of a list stands behind its reverse
reverse_first : (x : Node) (xs : List Node) → reverse (x ∷ xs) ≡ reverse xs ++ x ∷ []
reverse_first x xs = reverse-append (x ∷ []) xs

-- a node that is noted behind the reverse of nodes
noted_first : (before mid after nodes : List Node) (x : Node) → mid ≡ before ++ reverse nodes → after ≡ mid ++ x ∷ [] → after ≡ before ++ reverse (x ∷ nodes)
noted_first before mid after nodes x first next =
    next ∙ ap (λ (ns : List Node). ns ++ x ∷ []) first ∙ append_assoc before (reverse nodes) (x ∷ [])
    ∙ ap (λ (ns : List Node). before ++ ns) (sym (reverse_first x nodes))

-- an end by falsehood
pub noted_falsum : (task : Task) (context : Context) (before after : Recorded) → SomeOf (λ line. line ≡ Falsum) context.lines
    → after.nodes ≡ before.nodes ++ node.Efq ∷ [] → after.room ≡ before.room → IsNoted task context 1 before after
noted_falsum task context before after there nodes room = record {
  body = record { steps = []; end = Efq };
  proves = there;
  small = omega arith;
  nodes_are = nodes;
  room_is = room;
}

-- an end by a disjunct of the goal
pub noted_answer : (task : Task) (context : Context) (disjunct : ℕ) (args : List ℕ) (before after : Recorded) → IsAnswer task context disjunct args
    → after.nodes ≡ before.nodes ++ node.As disjunct args ∷ [] → after.room ≡ before.room → IsNoted task context 1 before after
noted_answer task context disjunct args before after answer nodes room = record {
  body = record { steps = []; end = As disjunct args };
  proves = answer;
  small = omega arith;
  nodes_are = nodes;
  room_is = room;
}

-- a step behind what is noted of the rest
pub noted_step : (task : Task) (context : Context) (number : ℕ) (form : Form) (args : List ℕ) (left : ℕ) (before mid after : Recorded)
    → slice_get task.forms number ≡ Some form → IsInstance context form args → IsNoted task (after_mp context form args) left before mid
    → after.nodes ≡ mid.nodes ++ node.Mp number args ∷ [] → after.room ≡ mid.room → IsNoted task context (left + 1) before after
noted_step task context number form args left before mid after is instance rest nodes room = record {
  body = record { steps = record { form = number; args = args } ∷ rest.body.steps; end = rest.body.end };
  proves = (form, is, instance, rest.proves);
  small = let small : length rest.body.steps + end_size rest.body.end ≤ left = rest.small in omega arith;
  nodes_are = noted_first before.nodes mid.nodes after.nodes (preorder rest.body) (node.Mp number args) rest.nodes_are nodes;
  room_is = room ∙ rest.room_is;
}

-- a split behind what is noted of its branches
pub noted_split : (task : Task) (context : Context) (line : ℕ) (lists : List (List Atom)) (left : ℕ) (before mid after : Recorded)
    → slice_get context.lines line ≡ Some (Cases lists) → AreNoted task context lists left before mid
    → after.nodes ≡ mid.nodes ++ node.Cs line (length lists) ∷ [] → after.room ≡ mid.room → IsNoted task context (left + 1) before after
noted_split task context line lists left before mid after is cases nodes room =
    let count : length cases.bodies ≡ length lists = proofs_count task context lists cases.bodies cases.prove in
    let all : end_nodes (Cs line cases.bodies) ≡ node.Cs line (length lists) ∷ flat_map preorder cases.bodies
    = Cs_nodes line cases.bodies ∙ ap (λ (n : ℕ). node.Cs line n ∷ flat_map preorder cases.bodies) count in
    let size_is = Cs_size line cases.bodies in record {
      body = record { steps = []; end = Cs line cases.bodies };
      proves = split_is_closed task context line lists cases.bodies is cases.prove;
      small = let small : sum_by size cases.bodies ≤ left = cases.small in omega arith;
      nodes_are = noted_first before.nodes mid.nodes after.nodes (flat_map preorder cases.bodies) (node.Cs line (length lists)) cases.nodes_are nodes
          ∙ ap (λ (ns : List Node). before.nodes ++ reverse ns) (sym all);
      room_is = room ∙ cases.room_is;
    }

-- no cases
pub noted_none : (task : Task) (context : Context) (left : ℕ) (before : Recorded) → AreNoted task context [] left before before
noted_none task context left before = record {
  bodies = [];
  prove = tt;
  small = omega arith;
  nodes_are = sym (append-nil before.nodes);
  room_is = refl;
}

-- the nodes of bodies and of one more
nodes_next : (bodies : List Body) (body : Body) → reverse (flat_map preorder (bodies ++ body ∷ [])) ≡ reverse (preorder body) ++ reverse (flat_map preorder bodies)
nodes_next bodies body =
    ap reverse (flat_map-append preorder bodies (body ∷ []) ∙ ap (λ (ns : List Node). flat_map preorder bodies ++ ns) (append-nil (preorder body)))
    ∙ reverse-append (flat_map preorder bodies) (preorder body)

-- the last case, and then the others
pub noted_next : (task : Task) (context : Context) (lists : List (List Atom)) (facts : List Atom) (n left : ℕ) (before mid after : Recorded) → n ≤ left
    → IsNoted task (with_facts context facts) n before mid → AreNoted task context lists (left - n) mid after → AreNoted task context (lists ++ facts ∷ []) left before after
noted_next task context lists facts n left before mid after le last others =
    let sum = sizes_next others.bodies last.body in record {
      bodies = others.bodies ++ last.body ∷ [];
      prove = proofs_next task context lists facts others.bodies last.body others.prove last.proves;
      small = let a : size last.body ≤ n = last.small in let b : sum_by size others.bodies ≤ left - n = others.small in omega arith;
      nodes_are = others.nodes_are ∙ ap (λ (ns : List Node). ns ++ reverse (flat_map preorder others.bodies)) last.nodes_are
          ∙ append_assoc before.nodes (reverse (preorder last.body)) (reverse (flat_map preorder others.bodies))
          ∙ ap (λ (ns : List Node). before.nodes ++ ns) (sym (nodes_next others.bodies last.body));
      room_is = others.room_is ∙ last.room_is;
    }

-- going back over what was noted
pub noted_back : (before mid after : Recorded) (nodes : List Node) → mid.nodes ≡ before.nodes ++ nodes → mid.room ≡ before.room
    → after.nodes ≡ take (length before.nodes) mid.nodes → after.room ≡ mid.room → after ≡ before
noted_back before mid after nodes longer room taken kept =
    let nodes_same : after.nodes ≡ before.nodes = taken ∙ ap (take (length before.nodes)) longer ∙ take-append_seam before.nodes nodes in
    let room_same : after.room ≡ before.room = kept ∙ room in
    λ i. record { nodes = nodes_same i; room = room_same i }

-- a proof that was noted is one for a greater bound
pub noted_more : (task : Task) (context : Context) (less more : ℕ) (before after : Recorded) → less ≤ more → IsNoted task context less before after → IsNoted task context more before after
noted_more task context less more before after le noted = let small = noted.small in record {
  body = noted.body;
  proves = noted.proves;
  small = omega arith;
  nodes_are = noted.nodes_are;
  room_is = noted.room_is;
}

-- what was noted has grown by at most so many nodes
pub noted_length : (task : Task) (context : Context) (most : ℕ) (before after : Recorded) → IsNoted task context most before after
    → (length before.nodes ≤ length after.nodes) × (length after.nodes ≤ length before.nodes + most)
noted_length task context most before after noted =
    let sum : length after.nodes ≡ length before.nodes + size noted.body
    = ap length noted.nodes_are ∙ length-append before.nodes (reverse (preorder noted.body))
    ∙ ap (λ (n : ℕ). length before.nodes + n) (length-reverse (preorder noted.body) ∙ preorder_length noted.body) in
    let small = noted.small in (omega arith, omega arith)

-- room for what is left
pub note_left : (task : Task) (context : Context) (n most left : ℕ) (before after : Recorded) → n + left ≤ most → IsNoted task context n before after → CanNote most before → CanNote left after
note_left task context n most left before after le noted can =
    let long = noted_length task context n before after noted in
    let longest = long.1 in
    let room = noted.room_is in
    let enough : length before.nodes + most ≤ before.room = can in omega arith

-- going back behind a proof that was noted
pub noted_undone : (task : Task) (context : Context) (most point : ℕ) (before mid now after : Recorded) → IsNoted task context most before mid → now ≡ mid
    → point ≡ length before.nodes → after.nodes ≡ take point now.nodes → after.room ≡ now.room → after ≡ before
noted_undone task context most point before mid now after noted same is taken kept =
    noted_back before mid after (reverse (preorder noted.body)) noted.nodes_are noted.room_is
    (taken ∙ ap (λ (n : ℕ). take n now.nodes) is ∙ ap (λ (r : Recorded). take (length before.nodes) r.nodes) same) (kept ∙ ap (λ (r : Recorded). r.room) same)

-- a proof was noted behind the point
pub noted_behind : (task : Task) (context : Context) (most point : ℕ) (before mid now : Recorded) → IsNoted task context most before mid → now ≡ mid
    → point ≡ length before.nodes → point ≤ length now.nodes
noted_behind task context most point before mid now noted same is =
    let long = noted_length task context most before mid noted in
    let least = long.0 in
    let all = ap (λ (r : Recorded). length r.nodes) same in omega arith

-- room for one node behind proofs of cases
pub split_fits : (task : Task) (context : Context) (lists : List (List Atom)) (budget : ℕ) (before after : Recorded) → 0 < budget
    → AreNoted task context lists (budget - 1) before after → CanNote budget before → length after.nodes < after.room
split_fits task context lists budget before after some noted can =
    let sum : length after.nodes ≡ length before.nodes + sum_by size noted.bodies
    = ap length noted.nodes_are ∙ length-append before.nodes (reverse (flat_map preorder noted.bodies))
    ∙ ap (λ (n : ℕ). length before.nodes + n) (length-reverse (flat_map preorder noted.bodies) ∙ length-flat_map preorder noted.bodies ∙ sizes_same noted.bodies) in
    let small = noted.small in
    let room = noted.room_is in
    let enough : length before.nodes + budget ≤ before.room = can in omega arith
  where
    sizes_same : (bodies : List Body) → sum_by (λ (body : Body). length (preorder body)) bodies ≡ sum_by size bodies
    sizes_same [] = refl
    sizes_same (body ∷ bodies) =
        sum_by-cons (λ (b : Body). length (preorder b)) body bodies
        ∙ (let first = preorder_length body in let rest = sizes_same bodies in let e : length (preorder body) + sum_by (λ (b : Body). length (preorder b)) bodies ≡ size body + sum_by size bodies = omega arith in e)
        ∙ sym (sum_by-cons size body bodies)

-- room for one node behind a proof
pub step_fits : (task : Task) (context : Context) (left : ℕ) (before after : Recorded) → IsNoted task context left before after → CanNote (left + 1) before → length after.nodes < after.room
step_fits task context left before after noted can =
    let long = noted_length task context left before after noted in
    let most = long.1 in
    let room = noted.room_is in
    let enough : length before.nodes + (left + 1) ≤ before.room = can in omega arith
