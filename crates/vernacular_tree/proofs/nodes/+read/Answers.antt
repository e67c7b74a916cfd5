use Rattle.std.proofs.Common.{rules, ◌≡◌, ◌-◌, ◌∷◌, arith, Err, ap, ◌∙◌}
use Rattle.vernacular_tree.specs.declared.tree.Node.{Node}
use Rattle.vernacular_tree.specs.declared.tree.Node.TheVariants as node
use Rattle.vernacular_tree.specs.declared.nodes.TreeRefusal.TheVariants.{NotATree}
use Rattle.vernacular_tree.proofs.Trees.{body_refused, split_refused, split_read, deep_refused, empty_refused, step_refused, branches_refused}
use Rattle.vernacular_tree.proofs.nodes.+read.Goals as goal

pub read_body-returns-in_err-end-clause-refused : goal.read_body-returns-in_err-end-clause-refused
read_body-returns-in_err-end-clause-refused t c err =
    let same : c.in_err-end.field-0.0 ≡ NotATree = search rules in
    body_refused c.args.levels c.args.nodes.now c.in_ok-steps.rest.now c.in_ok-steps.steps (c.in_ok-steps.ensures).0 (c.in_ok-steps.ensures).1
    ((c.in_err-end.ensures).refused (ap Err same))

pub read_branches-returns-in_err-branch-clause-refused : goal.read_branches-returns-in_err-branch-clause-refused
read_branches-returns-in_err-branch-clause-refused t c err =
    let same : c.in_err-branch.field-0.0 ≡ NotATree = search rules in
    branches_refused c.args.levels c.args.count c.args.nodes.now c.loop.rest.now c.loop.branches c.loop.invariant.front (omega arith)
    ((c.in_err-branch.ensures).refused (ap Err same))

pub read_end-returns-in_default-clause-refused : goal.read_end-returns-in_default-clause-refused
read_end-returns-in_default-clause-refused t c err = empty_refused c.args.levels c.args.nodes.now (let none = c.in_default.ensures.cases in omega arith)

pub read_end-returns-then-levels-eq0-clause-refused : goal.read_end-returns-then-levels-eq0-clause-refused
read_end-returns-then-levels-eq0-clause-refused t c err end rest is shallow =
    let front : c.args.nodes.now ≡ node.Cs c.in-Cs.line c.in-Cs.branches ∷ c.in-Some.rest.now = c.in-Some.ensures.cases.0 ∙ ap (λ (n : Node). n ∷ c.in-Some.rest.now) c.in-Cs.is in
    deep_refused c.in-Cs.line c.in-Cs.branches c.args.nodes.now c.in-Some.rest.now front end rest is (omega arith)

pub read_end-returns-in_err-branches-in-Cs-clause-refused : goal.read_end-returns-in_err-branches-in-Cs-clause-refused
read_end-returns-in_err-branches-in-Cs-clause-refused t c err end rest is shallow =
    let same : c.in_err-branches-in-Cs.field-0.0 ≡ NotATree = search rules in
    let front : c.args.nodes.now ≡ node.Cs c.in-Cs.line c.in-Cs.branches ∷ c.in-Some.rest.now = c.in-Some.ensures.cases.0 ∙ ap (λ (n : Node). n ∷ c.in-Some.rest.now) c.in-Cs.is in
    split_refused (c.args.levels - 1) c.in-Cs.line c.in-Cs.branches c.args.nodes.now c.in-Some.rest.now front
    ((c.in_err-branches-in-Cs.ensures).refused (ap Err same)) end rest is (omega arith)

pub read_end-returns-in_ok-branches-in-Cs-clause-ok : goal.read_end-returns-in_ok-branches-in-Cs-clause-ok
read_end-returns-in_ok-branches-in-Cs-clause-ok t c =
    let front : c.args.nodes.now ≡ node.Cs c.in-Cs.line c.in-Cs.branches ∷ c.in-Some.rest.now = c.in-Some.ensures.cases.0 ∙ ap (λ (n : Node). n ∷ c.in-Some.rest.now) c.in-Cs.is in
    let ok = (c.in_ok-branches-in-Cs.ensures).ok in
    split_read c.args.levels c.in-Cs.line c.in-Cs.branches c.args.nodes.now c.in-Some.rest.now c.in_ok-branches-in-Cs.rest.now
    c.in_ok-branches-in-Cs.branches front ok.0 ok.1 ok.2 (omega arith)

pub read_end-returns-in-Mp-clause-refused : goal.read_end-returns-in-Mp-clause-refused
read_end-returns-in-Mp-clause-refused t c err =
    step_refused c.args.levels c.in-Mp.form c.in-Mp.args c.args.nodes.now c.in-Some.rest.now
    (c.in-Some.ensures.cases.0 ∙ ap (λ (n : Node). n ∷ c.in-Some.rest.now) c.in-Mp.is)
